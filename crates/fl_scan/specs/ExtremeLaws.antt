-- The least and the greatest of lists one after another.
use Rattle.std.proofs.Common.{◌≡◌, ℤ, List, [], ◌∷◌, ◌++◌, Option, Some, None, refl, ap, sym, ◌∙◌}
use Rattle.std.specs.Prelude.{fold}
use Rattle.std.specs.List.{reduce}
use Rattle.std.proofs.lemmas.List.Sums.{fold-append}

-- what is picked of an integer, if there is one, and a list
abbrev pub picked : (ℤ → ℤ → ℤ) → Option ℤ → List ℤ → Option ℤ
picked pick None xs = reduce pick xs
picked pick (Some x) xs = Some (fold pick x xs)

-- no integer changes nothing
pub picked_stays : (pick : ℤ → ℤ → ℤ) (o : Option ℤ) → o ≡ picked pick o []
picked_stays pick None = refl
picked_stays pick (Some x) = refl

picked_of_both : (pick : ℤ → ℤ → ℤ) (o : Option ℤ) (xs ys : List ℤ) → picked pick (picked pick o xs) ys ≡ picked pick o (xs ++ ys)
picked_of_both pick None [] ys = refl
picked_of_both pick None (x ∷ xs) ys = ap (λ z. Some z) (sym (fold-append pick x xs ys))
picked_of_both pick (Some z) xs ys = ap (λ z. Some z) (sym (fold-append pick z xs ys))

-- what is picked of two lists is picked of both as one
pub picked_joined : (pick : ℤ → ℤ → ℤ) (a b c : Option ℤ) (xs ys : List ℤ) → b ≡ picked pick a xs → c ≡ picked pick b ys → c ≡ picked pick a (xs ++ ys)
picked_joined pick a b c xs ys h k = k ∙ (ap (λ o. picked pick o ys) h ∙ picked_of_both pick a xs ys)
