-- A column in chunks as a whole, and what is known of it before a chunk is read.
use Rattle.std.specs.Prelude.{◌≡◌, ◌≤◌, ℕ, ℤ, Bool, List, [], ◌∷◌, Option, Some, None, Result, Ok, Err, FitsSigned, filter_map, flat_map, map, slice_index_or}
use Rattle.std.specs.Int.{int_max, int_min, w128}
use Rattle.std.specs.List.{AllByRecursion}
use Rattle.std.specs.Prelude.{take}
use Rattle.fl_types.specs.declared.dtype.DType.TheVariants.{Primitive}
use Rattle.fl_types.specs.declared.error.FastLanesError.{FastLanesError}
use Rattle.fl_types.specs.declared.error.FastLanesError.TheVariants.{LengthOverflow}
use Rattle.fl_types.specs.declared.dtype.Nullability.{Nullability}
use Rattle.fl_types.specs.declared.dtype.PType.{PType}
use Rattle.fl_column.specs.Columns.{Column}
use Rattle.fl_file.specs.Ends.{LogGrowsBy, LogGrowsByFront, Place}
use Rattle.fl_file.specs.Statistics.{statistics_of_column, total}
use Rattle.fl_file.specs.declared.statistics.ChunkStatistics.{ChunkStatistics}
use Rattle.fl_file.specs.declared.statistics.Extremes.{Extremes}

-- ---- the whole
-- the items of all chunks, one chunk after another
abbrev pub items_in : List Column → List (Option ℤ)
items_in columns = flat_map (λ c. c.items) columns

-- those of them that are not null
abbrev pub valid_in : List Column → List ℤ
valid_in columns = filter_map (λ item. item) (items_in columns)

-- the least and the greatest of two lists that have these
abbrev pub extremes_of_both : Option Extremes → Option Extremes → Option Extremes
extremes_of_both None e = e
extremes_of_both (Some d) None = Some d
extremes_of_both (Some d) (Some e) = Some (record { least = int_min d.least e.least; greatest = int_max d.greatest e.greatest })

-- the sum of the valid items of the first k chunks fits 128 bits
abbrev pub SumFits : List Column → ℕ → Type 0
SumFits columns k = FitsSigned w128 (total (valid_in (take k columns)))

-- the sum of the valid items, where that of each first chunks fits 128 bits; else a refusal
abbrev pub IsSumOf : List Column → Result ℤ FastLanesError → Type 0
IsSumOf columns (Ok sum) = (sum ≡ total (valid_in columns)) × ((k : ℕ) → SumFits columns k)
IsSumOf columns (Err e) = (e ≡ LengthOverflow) × ((k : ℕ) × (SumFits columns k → ⊥))

-- ---- before a chunk is read
-- what is known then: the type, the statistics and the place of each chunk, and whether a read may fail
pub record ChunkFacts : Type 0 where
  pub ptype : PType
  pub nullability : Nullability
  pub statistics : List ChunkStatistics
  pub places : List Place
  pub can_fail : Bool

-- the chunks are of these columns, each of the type and with its statistics
pub record AreFactsOf (facts : ChunkFacts) (columns : List Column) : Type 0 where
  pub statistics : facts.statistics ≡ map statistics_of_column columns
  pub typed : AllByRecursion (λ c. c.dtype ≡ Primitive facts.ptype facts.nullability) columns

-- ---- reads
-- where these chunks lie
abbrev pub places_of : ChunkFacts → List ℕ → List Place
places_of facts ks = map (λ k. slice_index_or facts.places k (0, 0)) ks

-- a call has read these chunks, in this order; where it was refused some first ones
abbrev pub HasRead : {X E : Type 0} → Result X E → ChunkFacts → Option (List Place) → Option (List Place) → List ℕ → Type 0
HasRead (Ok x) facts old new ks = LogGrowsBy old new (places_of facts ks)
HasRead (Err e) facts old new ks = LogGrowsByFront old new (places_of facts ks)
