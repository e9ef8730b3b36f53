-- What is known of a test of a chunk's items.
use Rattle.std.specs.Prelude.{◌≡◌, ◌≤ℤ◌, ◌&&◌, not, if◌then◌else◌, ℤ, Bool, true, false, List, [], ◌∷◌, All, Option, Some, None, int_le, ⊤}
use Rattle.fl_column.specs.Columns.{Column}
use Rattle.fl_column.specs.Queries.{holds, is_between}
use Rattle.fl_file.specs.declared.foot.ChunkEntry.{ChunkEntry}
use Rattle.fl_file.specs.declared.pruning.Pruning.{Pruning}
use Rattle.fl_file.specs.declared.pruning.Pruning.TheVariants as prunings
use Rattle.fl_file.specs.declared.pruning.PassingRange.{PassingRange}
use Rattle.fl_file.specs.declared.pruning.Test.{Test}
use Rattle.fl_file.specs.declared.pruning.Test.TheVariants.{Compare, Between}
use Rattle.fl_file.specs.declared.statistics.ChunkStatistics.{ChunkStatistics}
use Rattle.fl_file.specs.declared.statistics.Extremes.{Extremes}
use Rattle.fl_file.specs.Statistics.{AreStatisticsOf, valid_items}

-- the item passes the test
abbrev pub passes : Test → ℤ → Bool
passes (Compare operator constant) z = holds operator constant z
passes (Between lower upper options) z = is_between options lower upper z

-- the integer is not below the first one, if there is one; where there is none, no integer is
abbrev pub is_from : Option ℤ → ℤ → Bool
is_from None z = false
is_from (Some first) z = int_le first z

-- the integer is not above the last one, if there is one; where there is none, each is
abbrev pub is_up_to : Option ℤ → ℤ → Bool
is_up_to None z = false
is_up_to (Some last) z = int_le z last

-- the integer is in the range, or outside of it where that is inverted
abbrev pub is_in_range : PassingRange → ℤ → Bool
is_in_range range z = if range.is_inverted then not (int_le range.first z && int_le z range.last) else (int_le range.first z && int_le z range.last)

-- each of these integers fails, or each passes, or nothing is said
abbrev pub SaysOf : Pruning → (ℤ → Bool) → List ℤ → Type 0
SaysOf prunings.Skip test zs = All (λ z. test z ≡ false) zs
SaysOf prunings.All test zs = All (λ z. test z ≡ true) zs
SaysOf prunings.Some test zs = ⊤

-- an integer from least to greatest, of which the test answers this
pub record IsAnswered (test : ℤ → Bool) (answer : Bool) (least greatest : ℤ) : Type 0 where
  pub integer : ℤ
  pub from_least : least ≤ℤ integer
  pub to_greatest : integer ≤ℤ greatest
  pub answered : test integer ≡ answer

-- the test answers this of each integer from least to greatest
abbrev pub EachAnswers : (ℤ → Bool) → Bool → ℤ → ℤ → Type 0
EachAnswers test answer least greatest = (z : ℤ) → least ≤ℤ z → z ≤ℤ greatest → test z ≡ answer

-- each integer from least to greatest fails, or each passes, or one passes and one fails
abbrev pub IsExact : Pruning → (ℤ → Bool) → ℤ → ℤ → Type 0
IsExact prunings.Skip test least greatest = EachAnswers test false least greatest
IsExact prunings.All test least greatest = EachAnswers test true least greatest
IsExact prunings.Some test least greatest = IsAnswered test true least greatest × IsAnswered test false least greatest

-- ---- plans
-- the statistics of a chunk say this of the test, and no less
pub record IsPruningOf (test : Test) (s : ChunkStatistics) (p : Pruning) : Type 0 where
  pub sound : (c : Column) → AreStatisticsOf s c → SaysOf p (passes test) (valid_items c)
  pub no_item : s.extremes ≡ None → p ≡ prunings.Skip
  pub exact : (e : Extremes) → s.extremes ≡ Some e → e.least ≤ℤ e.greatest → IsExact p (passes test) e.least e.greatest

-- for each of these chunks, what its statistics say of the test
abbrev pub IsPlanOf : Test → List ChunkEntry → List Pruning → Type 0
IsPlanOf test [] [] = ⊤
IsPlanOf test [] (p ∷ ps) = ⊥
IsPlanOf test (e ∷ es) [] = ⊥
IsPlanOf test (e ∷ es) (p ∷ ps) = IsPruningOf test e.statistics p × IsPlanOf test es ps
