-- Sums of lists one after another.
use Rattle.std.proofs.Common.{◌≡◌, ℤ, pos, List, [], ◌∷◌, ◌++◌, ap, ◌∙◌, arith}
use Rattle.std.specs.Prelude.{◌+ℤ◌}
use Rattle.std.specs.Int.{int_wrap, w128}
use Rattle.std.proofs.lemmas.Int.{int_wrap-add_same, ints}
use Rattle.fl_scan.specs.Totals.{total}

-- the sum of two lists
pub total-append : (xs ys : List ℤ) → total (xs ++ ys) ≡ total xs +ℤ total ys
total-append [] ys = omega (arith, ints)
total-append (x ∷ xs) ys = let rest = total-append xs ys in omega (arith, ints)

-- no integer adds nothing
pub total_stays : (a : ℤ) → int_wrap w128 a ≡ int_wrap w128 (a +ℤ pos 0)
total_stays a = ap (λ z. int_wrap w128 z) (omega (arith, ints))

-- the sum of two lists is that of both as one
pub total_joined : (a b c : ℤ) (xs ys : List ℤ) → int_wrap w128 b ≡ int_wrap w128 (a +ℤ total xs) → int_wrap w128 c ≡ int_wrap w128 (b +ℤ total ys) → int_wrap w128 c ≡ int_wrap w128 (a +ℤ total (xs ++ ys))
total_joined a b c xs ys h k =
    let both = total-append xs ys in
    let same : a +ℤ total xs +ℤ total ys ≡ a +ℤ total (xs ++ ys) = omega (arith, ints) in
    k ∙ (int_wrap-add_same w128 b (a +ℤ total xs) (total ys) h ∙ ap (λ z. int_wrap w128 z) same)
