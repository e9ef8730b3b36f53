-- An array as a column in one chunk.
use Rattle.std.specs.Prelude.{◌≡◌, [], ◌∷◌, List, false, map}
use Rattle.std.proofs.Common.{ap, ◌∙◌, subst, sym}
use Rattle.std.specs.List.{AllByRecursion}
use Rattle.fl_types.specs.declared.dtype.DType.TheVariants.{Primitive}
use Rattle.fl_column.specs.Columns.{Column}
use Rattle.fl_file.specs.Statistics.{statistics_of_column}
use Rattle.fl_array.specs.Trees.{column}
use Rattle.flcol_file.specs.Chunked.{AreFactsOf, ChunkFacts}
use Rattle.flcol_file.specs.declared.one_chunk.OneChunk.{OneChunk}

-- what is known of it without the array; no read is one of a file
abbrev pub facts_of_chunk : OneChunk → ChunkFacts
facts_of_chunk s = record { ptype = s.ptype; nullability = s.nullability; statistics = s.statistics ∷ []; places = []; can_fail = false }

-- the one column is the array's, and it has the type and the statistics that are known
pub record HoldsArray (s : OneChunk) (columns : List Column) : Type 0 where
  pub one : columns ≡ column s.array ∷ []
  pub typed : (column s.array).dtype ≡ Primitive s.ptype s.nullability
  pub statistics : s.statistics ≡ statistics_of_column (column s.array)

each_typed : (s : OneChunk) (columns : List Column) → columns ≡ column s.array ∷ [] → (column s.array).dtype ≡ Primitive s.ptype s.nullability → AllByRecursion (λ c. c.dtype ≡ Primitive s.ptype s.nullability) columns
each_typed s columns one typed = subst (AllByRecursion (λ c. c.dtype ≡ Primitive s.ptype s.nullability)) (sym one) (typed, tt)

-- what is known is so of the column
pub one_fact : (s : OneChunk) (columns : List Column) → HoldsArray s columns → AreFactsOf (facts_of_chunk s) columns
one_fact s columns h = record {
  statistics = ap (λ x. x ∷ []) h.statistics ∙ ap (λ cs. map statistics_of_column cs) (sym h.one);
  typed = each_typed s columns h.one h.typed;
}
