-- What the statistics of a chunk say of its column.
use Rattle.std.specs.Prelude.{◌≡◌, ◌≤ℤ◌, ◌+ℤ◌, ℕ, ℤ, pos, List, [], ◌∷◌, Option, Some, None, All, Contains, count_by, filter_map, fold, is_none, length}
use Rattle.std.specs.Int.{int_max, int_min}
use Rattle.fl_column.specs.Columns.{Column}
use Rattle.fl_column.specs.Queries.{are_sorted}
use Rattle.fl_file.specs.declared.statistics.ChunkStatistics.{ChunkStatistics}
use Rattle.fl_file.specs.declared.statistics.Extremes.{Extremes}

-- the items that are not null, in order
abbrev pub valid_items : Column → List ℤ
valid_items c = filter_map (λ item. item) c.items

-- how many items are null
abbrev pub null_count_of : Column → ℕ
null_count_of c = count_by is_none c.items

-- the sum of integers
abbrev pub total : List ℤ → ℤ
total [] = pos 0
total (z ∷ zs) = z +ℤ total zs

-- the least and the greatest of integers, if there are any
abbrev pub extremes_among : List ℤ → Option Extremes
extremes_among [] = None
extremes_among (z ∷ zs) = Some (record { least = fold int_min z zs; greatest = fold int_max z zs })

-- the least and the greatest with a further integer
abbrev pub extremes_with : Option Extremes → ℤ → Option Extremes
extremes_with None z = Some (record { least = z; greatest = z })
extremes_with (Some e) z = Some (record { least = int_min e.least z; greatest = int_max e.greatest z })

-- what a file says of the items of a column
abbrev pub statistics_of_column : Column → ChunkStatistics
statistics_of_column c = record { len = length c.items; null_count = null_count_of c; extremes = extremes_among (valid_items c); is_sorted = are_sorted c.items; sum = total (valid_items c) }

-- ---- what each statistic means
-- one of these integers, and none of them is below it
pub record IsLeastOf (least : ℤ) (zs : List ℤ) : Type 0 where
  pub one_of : Contains zs least
  pub bound : All (λ z. least ≤ℤ z) zs

-- one of these integers, and none of them is above it
pub record IsGreatestOf (greatest : ℤ) (zs : List ℤ) : Type 0 where
  pub one_of : Contains zs greatest
  pub bound : All (λ z. z ≤ℤ greatest) zs

-- the least and the greatest of these integers, or that there are none
abbrev pub AreExtremesOf : Option Extremes → List ℤ → Type 0
AreExtremesOf None zs = zs ≡ []
AreExtremesOf (Some e) zs = IsLeastOf e.least zs × IsGreatestOf e.greatest zs

-- each statistic is that of the column
pub record AreStatisticsOf (s : ChunkStatistics) (c : Column) : Type 0 where
  pub len : s.len ≡ length c.items
  pub null_count : s.null_count ≡ null_count_of c
  pub extremes : AreExtremesOf s.extremes (valid_items c)
  pub sorted : s.is_sorted ≡ are_sorted c.items
  pub sum : s.sum ≡ total (valid_items c)
