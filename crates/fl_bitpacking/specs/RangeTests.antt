-- Tests of a range of integers, on integers and on the patterns of packed items.
use Rattle.std.specs.Prelude.{◌≡◌, ◌+◌, ◌-◌, ◌%◌, ◌^◌, ◌<◌, ◌&&◌, ◌+ℤ◌, ℕ, ℤ, Bool, true, not, nat_le, int_le, IfSome, Option, Some, None, if◌then◌else◌}
use Rattle.fl_types.specs.declared.dtype.PType.{PType}
use Rattle.fl_types.specs.declared.scalar.PValue.{PValue}
use Rattle.fl_types.specs.Integers.{bits_of_type, read_as, wrap}
use Rattle.fl_types.specs.Values.{integer_of, ptype_of_value}
use Rattle.fl_bitpacking.specs.declared.compute.range_test.RangeTest.{RangeTest}
use Rattle.fl_bitpacking.specs.declared.compute.range_test.PatternTest.{PatternTest}

-- z is at or above the bound, if there is one
abbrev pub is_from : Option ℤ → ℤ → Bool
is_from None z = true
is_from (Some lower) z = int_le lower z

-- z is at or below the bound, if there is one
abbrev pub is_up_to : Option ℤ → ℤ → Bool
is_up_to None z = true
is_up_to (Some upper) z = int_le z upper

-- the answer of a test that is negated or not
abbrev pub answer_of : Bool → Bool → Bool
answer_of negated inside = if negated then not inside else inside

-- what a test looks at: an integer or, where there is a reference, their sum modulo 2 to the reference's bits
abbrev pub sum_with : Option PValue → ℤ → ℤ
sum_with None z = z
sum_with (Some reference) z = wrap (ptype_of_value reference) (z +ℤ integer_of reference)

-- what the test looks at lies between the bounds or, where the test is negated, it does not
unfoldable pub passes : RangeTest → ℤ → Bool
passes t z = answer_of t.negated (is_from t.lower (sum_with t.reference z) && is_up_to t.upper (sum_with t.reference z))

-- the reference, where there is one, is an integer of the type
abbrev pub IsTestOf : PType → RangeTest → Type 0
IsTestOf ptype t = IfSome t.reference (λ reference. ptype_of_value reference ≡ ptype)

-- a pattern of T bits less `low`, modulo 2 ^ T, is at most `span`
unfoldable pub in_range : ℕ → ℕ → ℕ → ℕ → Bool
in_range T low span p = nat_le ((p + (2 ^ T - low)) % 2 ^ T) span

-- the same test of the patterns of a type's integers
pub record TestsPatterns (ptype : PType) (t : RangeTest) (patterns : PatternTest) : Type 0 where
  pub greatest : patterns.greatest + 1 ≡ 2 ^ bits_of_type ptype
  pub low : patterns.low < 2 ^ bits_of_type ptype
  pub span : patterns.span < 2 ^ bits_of_type ptype
  pub same : (p : ℕ) → p < 2 ^ bits_of_type ptype → answer_of patterns.negated (in_range (bits_of_type ptype) patterns.low patterns.span p) ≡ passes t (read_as ptype p)

-- a test of the patterns of a type's integers from `lower` to `upper`, or of all its others
pub record TestsRange (ptype : PType) (lower upper : ℤ) (negated : Bool) (patterns : PatternTest) : Type 0 where
  pub greatest : patterns.greatest + 1 ≡ 2 ^ bits_of_type ptype
  pub low : patterns.low < 2 ^ bits_of_type ptype
  pub span : patterns.span < 2 ^ bits_of_type ptype
  pub same : (p : ℕ) → p < 2 ^ bits_of_type ptype → answer_of patterns.negated (in_range (bits_of_type ptype) patterns.low patterns.span p) ≡ answer_of negated (int_le lower (read_as ptype p) && int_le (read_as ptype p) upper)
