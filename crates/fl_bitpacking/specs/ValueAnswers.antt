-- How values answer a test, by their places.
use Rattle.std.specs.Prelude.{◌≡◌, ◌%◌, ◌<◌, ℕ, ℤ, pos, Bool, List, not, None, length, slice_index_or, unsigned_abs}
use Rattle.fastlanes.specs.Compared.{has_bit}
use Rattle.fl_bitpacking.specs.declared.compute.compare.values.ValueAnswers.{ValueAnswers}
use Rattle.fl_bitpacking.specs.declared.compute.compare.values.ValueAnswers.TheVariants.{Same, Places, Mixed}
use Rattle.fl_bitpacking.specs.declared.compute.range_test.RangeTest.{RangeTest}
use Rattle.fl_bitpacking.specs.RangeTests.{passes}

-- a value of the test's range stands before one out of it, and that before another one of the range
pub record AreApart (t : RangeTest) (values : List ℤ) : Type 0 where
  pub first : ℕ
  pub between : ℕ
  pub last : ℕ
  pub order : (first < between) × (between < last)
  pub within : last < length values
  pub first_inside : passes t (slice_index_or values first (pos 0)) ≡ not t.negated
  pub between_outside : passes t (slice_index_or values between (pos 0)) ≡ t.negated
  pub last_inside : passes t (slice_index_or values last (pos 0)) ≡ not t.negated

-- each value has this one answer; or that of its place, by a test without a reference; or those in the range are not neighbours
abbrev pub AreValueAnswers : RangeTest → List ℤ → ValueAnswers → Type 0
AreValueAnswers t values (Same passing) = (k : ℕ) → k < length values → passes t (slice_index_or values k (pos 0)) ≡ passing
AreValueAnswers t values (Places places) = (places.reference ≡ None) × ((k : ℕ) → k < length values → passes t (slice_index_or values k (pos 0)) ≡ passes places (pos k))
AreValueAnswers t values Mixed = AreApart t values

-- the answer that an index names among 1024, modulo as many
unfoldable pub named_answer : List ℕ → ℤ → Bool
named_answer answers index = has_bit answers (unsigned_abs index % 1024)
