-- What a reader knows of the chunks before one is read is so of the columns that they hold.
use Rattle.std.proofs.Common.{◌≡◌, ℕ, List, [], ◌∷◌, map, refl, ap, ◌∙◌, Bool, Option}
use Rattle.std.specs.List.{AllByRecursion}
use Rattle.fl_types.specs.declared.dtype.DType.TheVariants.{Primitive}
use Rattle.fl_column.specs.Columns.{Column}
use Rattle.fl_file.specs.Foot.{FootParts}
use Rattle.fl_file.specs.FileReading.{foot_of_reader}
use Rattle.fl_file.specs.Statistics.{statistics_of_column}
use Rattle.fl_file.specs.declared.foot.ChunkEntry.{ChunkEntry}
use Rattle.fl_file.specs.declared.reader.Reader.{Reader}
use Rattle.fl_file.specs.declared.statistics.ChunkStatistics.{ChunkStatistics}
use Rattle.flcol_file.specs.Chunked.{AreFactsOf}
use Rattle.flcol_file.specs.Files.{HoldEach, HoldsColumns, facts_of_reader}

known : (bytes : List ℕ) (foot : FootParts) (es : List ChunkEntry) (columns : List Column) → HoldEach bytes foot es columns → map (λ e. e.statistics) es ≡ map statistics_of_column columns
known bytes foot [] [] h = refl
known bytes foot [] (c ∷ columns) h = absurd h
known bytes foot (e ∷ es) [] h = absurd h
known bytes foot (e ∷ es) (c ∷ columns) h = ap (λ s. s ∷ map (λ x. x.statistics) es) h.0.statistics ∙ ap (λ rest. statistics_of_column c ∷ rest) (known bytes foot es columns h.1)

typed : (bytes : List ℕ) (foot : FootParts) (es : List ChunkEntry) (columns : List Column) → HoldEach bytes foot es columns → AllByRecursion (λ c. c.dtype ≡ Primitive foot.ptype foot.nullability) columns
typed bytes foot [] [] h = tt
typed bytes foot [] (c ∷ columns) h = absurd h
typed bytes foot (e ∷ es) [] h = absurd h
typed bytes foot (e ∷ es) (c ∷ columns) h = (h.0.typed, typed bytes foot es columns h.1)

-- each chunk's statistics and type are its column's
pub facts_hold : {R : Type 0} (contents : R → Option (List ℕ)) (can_fail : R → Bool) (r : Reader R) (columns : List Column) → HoldsColumns contents r columns → AreFactsOf (facts_of_reader can_fail r) columns
facts_hold contents can_fail r columns (bytes, reads, each) = record {
  statistics = known bytes (foot_of_reader r) (foot_of_reader r).chunks columns each;
  typed = typed bytes (foot_of_reader r) (foot_of_reader r).chunks columns each;
}
