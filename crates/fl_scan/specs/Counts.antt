-- How many marked items pass a test.
use Rattle.std.specs.Prelude.{◌≡◌, ◌&&◌, ◌+◌, ◌≤◌, ℕ, ℤ, Bool, List, pos, length, slice_index_or}
use Rattle.fastlanes.specs.Compared.{has_bit}
use Rattle.fl_types.specs.declared.dtype.PType.{PType}
use Rattle.fl_types.specs.declared.validity.Validity.{Validity}
use Rattle.fl_types.specs.declared.validity.Validity.TheVariants.{Array}
use Rattle.fl_types.specs.Bits.{tabulate, true_count}
use Rattle.fl_types.specs.Validities.{is_valid_at}
use Rattle.fl_bitpacking.specs.RangeTests.{IsTestOf, passes}
use Rattle.fl_bitpacking.specs.declared.compute.range_test.RangeTest.{RangeTest}

-- how many numbers below n have a property
abbrev pub count_below : (ℕ → Bool) → ℕ → ℕ
count_below has n = true_count (tabulate has n)

-- both hold of a number
unfoldable pub both : (ℕ → Bool) → (ℕ → Bool) → ℕ → Bool
both f g i = f i && g i

-- the item i behind a position is marked
unfoldable pub marked_from : Validity → ℕ → ℕ → Bool
marked_from marks start i = is_valid_at marks (start + i)

-- the answer i behind a position is true
unfoldable pub answered_from : List ℕ → ℕ → ℕ → Bool
answered_from answers at i = has_bit answers (at + i)

-- integer i of a list passes a test
unfoldable pub passed_in : (ℤ → Bool) → List ℤ → ℕ → Bool
passed_in test zs i = test (slice_index_or zs i (pos 0))

-- the validity says of the first n items whether they are null
abbrev pub Reaches : Validity → ℕ → Type 0
Reaches (Array bits) n = n ≤ length bits
Reaches other n = Unit {0}

-- the range is the test of a type's integers
pub record IsRange (ptype : PType) (passing : ℤ → Bool) (range : RangeTest) : Type 0 where
  pub typed : IsTestOf ptype range
  pub same : (z : ℤ) → passes range z ≡ passing z
