-- Tests of the integers from a least to a greatest one.
use Rattle.std.proofs.Common.{◌≡◌, ℤ, pos, negsuc, ◌-◌, ◌^◌, ◌≤◌, ◌&&◌, Bool, true, false, int_le, int_lt, not, refl, ap, sym, ◌∙◌, inl, inr, arith, ◌≤ℤ◌, ◌<ℤ◌}
use Rattle.std.specs.Prelude.{if◌then◌else◌, FitsSigned, Option, Some, ◌⊎◌}
use Rattle.std.specs.Int.{int_max, int_min, w128}
use Rattle.std.specs.Ordering.{int_eq}
use Rattle.std.proofs.lemmas.Bool.{cases_Bool, le-leb}
use Rattle.std.proofs.lemmas.Bool.Decides.{Decides-int_eq}
use Rattle.std.proofs.lemmas.Int.{ints, clamps, by_lt_z}
use Rattle.fl_types.specs.declared.query.BetweenOptions.{BetweenOptions}
use Rattle.fl_types.specs.declared.query.CompareOperator.TheVariants.{Eq, NotEq, Gt, Gte, Lt}
use Rattle.fl_types.specs.declared.query.StrictComparison.TheVariants.{Strict}
use Rattle.fl_column.specs.Queries.{holds, is_before}
use Rattle.fl_file.specs.declared.pruning.Pruning.{Pruning}
use Rattle.fl_file.specs.declared.pruning.Pruning.TheVariants as prunings
use Rattle.fl_file.specs.declared.pruning.Test.TheVariants.{Between}
use Rattle.fl_file.specs.declared.pruning.PassingRange.{PassingRange}
use Rattle.fl_file.specs.Pruning.{IsExact, EachAnswers, IsAnswered, is_from, is_in_range, is_up_to}

-- two tests that agree from least to greatest are decided alike
pub exact_alike : (p : Pruning) (f g : ℤ → Bool) (least greatest : ℤ) → ((z : ℤ) → least ≤ℤ z → z ≤ℤ greatest → g z ≡ f z) → IsExact p f least greatest → IsExact p g least greatest
exact_alike prunings.Skip f g least greatest same h = λ z a b. same z a b ∙ h z a b
exact_alike prunings.All f g least greatest same h = λ z a b. same z a b ∙ h z a b
exact_alike prunings.Some f g least greatest same h = (
  record { integer = h.0.integer; from_least = h.0.from_least; to_greatest = h.0.to_greatest; answered = same h.0.integer h.0.from_least h.0.to_greatest ∙ h.0.answered },
  record { integer = h.1.integer; from_least = h.1.from_least; to_greatest = h.1.to_greatest; answered = same h.1.integer h.1.from_least h.1.to_greatest ∙ h.1.answered },
)

-- ---- integers from a first to a last one
pub none_within : (first last least greatest low high : ℤ) → low ≡ int_max first least → high ≡ int_min last greatest → high <ℤ low → EachAnswers (λ z. int_le first z && int_le z last) false least greatest
none_within first last least greatest low high lows highs apart = λ z from to. by_lt_z z first
    (λ below. grind (arith, ints))
    (λ above. by_lt_z last z (λ beyond. grind (arith, ints)) (λ within. absurd (omega (arith, ints, clamps))))

within : (first last z : ℤ) → first ≤ℤ z → z ≤ℤ last → (int_le first z && int_le z last) ≡ true
within first last z a b = grind (arith, ints)

below : (first last z : ℤ) → z <ℤ first → (int_le first z && int_le z last) ≡ false
below first last z h = grind (arith, ints)

beyond : (first last z : ℤ) → last <ℤ z → (int_le first z && int_le z last) ≡ false
beyond first last z h = grind (arith, ints)

one_without : (first last least greatest : ℤ) → least ≤ℤ greatest → (least <ℤ first) ⊎ (last <ℤ greatest) → IsAnswered (λ z. int_le first z && int_le z last) false least greatest
one_without first last least greatest order h = elim h [
  | inl w ↦ record { integer = least; from_least = omega (arith, ints); to_greatest = order; answered = below first last least w }
  | inr w ↦ record { integer = greatest; from_least = order; to_greatest = omega (arith, ints); answered = beyond first last greatest w }
]

pub some_within : (first last least greatest low high : ℤ) → low ≡ int_max first least → high ≡ int_min last greatest → low ≤ℤ high → (least <ℤ first) ⊎ (last <ℤ greatest) → least ≤ℤ greatest
    → IsAnswered (λ z. int_le first z && int_le z last) true least greatest × IsAnswered (λ z. int_le first z && int_le z last) false least greatest
some_within first last least greatest low high lows highs some out order = (
  record {
    integer = low;
    from_least = omega (arith, ints, clamps);
    to_greatest = omega (arith, ints, clamps);
    answered = within first last low (omega (arith, ints, clamps)) (omega (arith, ints, clamps));
  },
  one_without first last least greatest order out,
)

-- ---- integers of 128 bits
fits_between : (a z b : ℤ) → FitsSigned w128 a → FitsSigned w128 b → a ≤ℤ z → z ≤ℤ b → FitsSigned w128 z
fits_between a (pos n) (pos m) f g h k = let e : n ≤ m = omega (arith, ints) in record { sfits = omega (arith, g.sfits, e) }
fits_between a (pos n) (negsuc m) f g h k = absurd (omega (arith, ints))
fits_between (negsuc m) (negsuc n) b f g h k = let e : n ≤ m = omega (arith, ints) in record { sfits = omega (arith, f.sfits, e) }
fits_between (pos m) (negsuc n) b f g h k = absurd (omega (arith, ints))

-- ---- a range that is exact from least to greatest
pub exact_of_test : (p : Pruning) (f g : ℤ → Bool) (least greatest : ℤ) → FitsSigned w128 least → FitsSigned w128 greatest → ((z : ℤ) → FitsSigned w128 z → g z ≡ f z) → IsExact p f least greatest → IsExact p g least greatest
exact_of_test p f g least greatest low high same h = exact_alike p f g least greatest (λ z a b. same z (fits_between least z greatest low high a b)) h

-- what is exact of the integers outside of an inverted range
pub exact_inverted : (p : Pruning) (r : PassingRange) (least greatest : ℤ) → r.is_inverted ≡ true → IsExact p (λ z. not (int_le r.first z && int_le z r.last)) least greatest → IsExact p (is_in_range r) least greatest
exact_inverted p r least greatest h e =
    exact_alike p (λ z. not (int_le r.first z && int_le z r.last)) (is_in_range r) least greatest
    (λ z a b. ap (λ inverted. if inverted then not (int_le r.first z && int_le z r.last) else (int_le r.first z && int_le z r.last)) h) e
