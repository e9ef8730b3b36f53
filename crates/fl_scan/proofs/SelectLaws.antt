-- Integers under the bits of a mask, with a stand-in for the others.
use Rattle.std.proofs.Common.{◌≡◌, ℕ, ℤ, pos, ◌+◌, ◌<◌, List, [], ◌∷◌, length, map, get_or, set, inl, inr, zero, suc, Bool, true, false, cond, Option, Some, None, refl, ap, sym, ◌∙◌, arith}
use Rattle.std.specs.Prelude.{◌+ℤ◌, fold}
use Rattle.std.specs.Int.{int_max, int_min}
use Rattle.std.proofs.lemmas.Int.{ints}
use Rattle.std.proofs.lemmas.Bool.{cases_eq}
use Rattle.std.proofs.lemmas.List.{ext_get_or, get_or-set_other, get_or-set_same, length-map, map-set}
use Rattle.fl_types.specs.Bits.{kept}
use Rattle.fl_scan.specs.ExtremeLaws.{picked}
use Rattle.fl_scan.specs.Selected.{selected}
use Rattle.fl_scan.specs.Totals.{total}

pub length_selected : (bits : List Bool) (zs : List ℤ) (other : ℤ) → length bits ≡ length zs → length (selected bits zs other) ≡ length zs
length_selected [] [] other h = refl
length_selected [] (z ∷ zs) other h = absurd (omega arith)
length_selected (bit ∷ bits) [] other h = absurd (omega arith)
length_selected (bit ∷ bits) (z ∷ zs) other h = let rest = length_selected bits zs other (omega arith) in omega arith

pub get_selected : (bits : List Bool) (zs : List ℤ) (other : ℤ) (i : ℕ) → i < length bits → i < length zs → get_or (selected bits zs other) i (pos 0) ≡ cond (get_or bits i false) (get_or zs i (pos 0)) other
get_selected [] zs other i h k = absurd (omega arith)
get_selected (bit ∷ bits) [] other i h k = absurd (omega arith)
get_selected (bit ∷ bits) (z ∷ zs) other zero h k = refl
get_selected (bit ∷ bits) (z ∷ zs) other (suc i) h k = get_selected bits zs other i (omega arith) (omega arith)

-- a list that has them at each place is the list of them
pub selected_is : (bits : List Bool) (zs chosen : List ℤ) (other : ℤ) → length bits ≡ length zs → length chosen ≡ length zs → ((i : ℕ) → i < length zs → get_or chosen i (pos 0) ≡ cond (get_or bits i false) (get_or zs i (pos 0)) other)
    → chosen ≡ selected bits zs other
selected_is bits zs chosen other h long each =
    let size = length_selected bits zs other h in
    ext_get_or (pos 0) chosen (selected bits zs other) (omega arith) (λ i k. each i (omega arith) ∙ sym (get_selected bits zs other i (omega arith) (omega arith)))

-- one more integer of a list
pub one_more : {X : Type 0} (value : X → ℤ) (item : ℕ → ℤ) (xs : List X) (i : ℕ) (x : X) → i < length xs → ((j : ℕ) → j < i → get_or (map value xs) j (pos 0) ≡ item j) → value x ≡ item i
    → (j : ℕ) → j < i + 1 → get_or (map value (set xs i x)) j (pos 0) ≡ item j
one_more value item xs i x h done e j below =
    let long = length-map xs value in
    ap (λ ys. get_or ys j (pos 0)) (map-set value xs i x) ∙ elim (cases_eq j i) [
      | inl same ↦ (ap (λ k. get_or (set (map value xs) i (value x)) k (pos 0)) same ∙ (get_or-set_same (map value xs) i (value x) (pos 0) (omega arith) ∙ (e ∙ ap item (sym same))))
      | inr other ↦ (get_or-set_other (map value xs) i j (value x) (pos 0) other ∙ done j (omega arith))
    ]

-- 0 stands in for what is not added
pub total_selected : (bits : List Bool) (zs : List ℤ) → total (selected bits zs (pos 0)) ≡ total (kept bits zs)
total_selected [] zs = refl
total_selected (bit ∷ bits) [] = refl
total_selected (true ∷ bits) (z ∷ zs) = ap (λ s. z +ℤ s) (total_selected bits zs)
total_selected (false ∷ bits) (z ∷ zs) = let rest = total_selected bits zs in omega (arith, ints)

-- ---- the least and the greatest
pub record Picks (pick : ℤ → ℤ → ℤ) : Type 0 where
  pub same : (x : ℤ) → pick x x ≡ x
  pub moved : (x y z : ℤ) → pick (pick x y) z ≡ pick (pick x z) y
  pub swapped : (x y : ℤ) → pick x y ≡ pick y x

pub least_picks : Picks int_min
least_picks = record {
  same = λ x. grind (arith, ints);
  moved = λ x y z. grind (arith, ints);
  swapped = λ x y. grind (arith, ints);
}

pub greatest_picks : Picks int_max
greatest_picks = record {
  same = λ x. grind (arith, ints);
  moved = λ x y z. grind (arith, ints);
  swapped = λ x y. grind (arith, ints);
}

-- one more can be picked first or last
fold_moved : (pick : ℤ → ℤ → ℤ) → Picks pick → (x v : ℤ) (zs : List ℤ) → fold pick (pick x v) zs ≡ pick (fold pick x zs) v
fold_moved pick p x v [] = refl
fold_moved pick p x v (z ∷ zs) = ap (λ y. fold pick y zs) (p.moved x v z) ∙ fold_moved pick p (pick x z) v zs

-- one that was picked can be picked again
twice : (pick : ℤ → ℤ → ℤ) → Picks pick → (x v : ℤ) → pick (pick x v) v ≡ pick x v
twice pick p x v = ap (λ y. pick y v) (p.swapped x v) ∙ (p.moved v x v ∙ (ap (λ y. pick y x) (p.same v) ∙ p.swapped v x))

selected_picked : (pick : ℤ → ℤ → ℤ) → Picks pick → (bits : List Bool) (zs : List ℤ) (x v : ℤ) → fold pick (pick x v) (selected bits zs v) ≡ fold pick (pick x v) (kept bits zs)
selected_picked pick p [] zs x v = refl
selected_picked pick p (bit ∷ bits) [] x v = refl
selected_picked pick p (true ∷ bits) (z ∷ zs) x v = ap (λ y. fold pick y (selected bits zs v)) (p.moved x v z) ∙ (selected_picked pick p bits zs (pick x z) v ∙ ap (λ y. fold pick y (kept bits zs)) (sym (p.moved x v z)))
selected_picked pick p (false ∷ bits) (z ∷ zs) x v = ap (λ y. fold pick y (selected bits zs v)) (twice pick p x v) ∙ selected_picked pick p bits zs x v

-- an integer of the list is picked already
picked_already : (pick : ℤ → ℤ → ℤ) → Picks pick → (bits : List Bool) (zs : List ℤ) (x v : ℤ) (i : ℕ) → i < length bits → i < length zs → get_or bits i false ≡ true → v ≡ get_or zs i (pos 0) → fold pick (pick x v) (kept bits zs) ≡ fold pick x (kept bits zs)
picked_already pick p [] zs x v i h k on is = absurd (omega arith)
picked_already pick p (bit ∷ bits) [] x v i h k on is = absurd (omega arith)
picked_already pick p (true ∷ bits) (z ∷ zs) x v zero h k on is = ap (λ y. fold pick (pick (pick x y) z) (kept bits zs)) is ∙ ap (λ y. fold pick y (kept bits zs)) (twice pick p x z)
picked_already pick p (false ∷ bits) (z ∷ zs) x v zero h k on is = let wrong : false ≡ true = on in cc
picked_already pick p (true ∷ bits) (z ∷ zs) x v (suc i) h k on is = ap (λ y. fold pick y (kept bits zs)) (p.moved x v z) ∙ picked_already pick p bits zs (pick x z) v i (omega arith) (omega arith) on is
picked_already pick p (false ∷ bits) (z ∷ zs) x v (suc i) h k on is = picked_already pick p bits zs x v i (omega arith) (omega arith) on is

picked_already_all : (pick : ℤ → ℤ → ℤ) → Picks pick → (bits : List Bool) (zs : List ℤ) (x v : ℤ) (i : ℕ) → i < length bits → i < length zs → get_or bits i false ≡ true → v ≡ get_or zs i (pos 0) → fold pick (pick x v) (selected bits zs v) ≡ fold pick x (selected bits zs v)
picked_already_all pick p [] zs x v i h k on is = absurd (omega arith)
picked_already_all pick p (bit ∷ bits) [] x v i h k on is = absurd (omega arith)
picked_already_all pick p (true ∷ bits) (z ∷ zs) x v zero h k on is = ap (λ y. fold pick (pick (pick x y) z) (selected bits zs v)) is ∙ ap (λ y. fold pick y (selected bits zs v)) (twice pick p x z)
picked_already_all pick p (false ∷ bits) (z ∷ zs) x v i h k on is = ap (λ y. fold pick y (selected bits zs v)) (twice pick p x v)
picked_already_all pick p (true ∷ bits) (z ∷ zs) x v (suc i) h k on is = ap (λ y. fold pick y (selected bits zs v)) (p.moved x v z) ∙ picked_already_all pick p bits zs (pick x z) v i (omega arith) (omega arith) on is

same_fold : (pick : ℤ → ℤ → ℤ) → Picks pick → (bits : List Bool) (zs : List ℤ) (x v : ℤ) (i : ℕ) → i < length bits → i < length zs → get_or bits i false ≡ true → v ≡ get_or zs i (pos 0) → fold pick x (selected bits zs v) ≡ fold pick x (kept bits zs)
same_fold pick p bits zs x v i h k on is = sym (picked_already_all pick p bits zs x v i h k on is) ∙ (selected_picked pick p bits zs x v ∙ picked_already pick p bits zs x v i h k on is)

-- where the first integer is not known, it is the stand-in or the first kept one
first_fold : (pick : ℤ → ℤ → ℤ) → Picks pick → (bits : List Bool) (zs : List ℤ) (v : ℤ) (i : ℕ) → i < length bits → i < length zs → get_or bits i false ≡ true → v ≡ get_or zs i (pos 0) → picked pick None (selected bits zs v) ≡ Some (fold pick v (kept bits zs))
first_fold pick p [] zs v i h k on is = absurd (omega arith)
first_fold pick p (bit ∷ bits) [] v i h k on is = absurd (omega arith)
first_fold pick p (true ∷ bits) (z ∷ zs) v zero h k on is = ap (λ y. Some (fold pick z (selected bits zs y))) is ∙ ap (λ y. Some y) (ap (λ y. fold pick y (selected bits zs z)) (sym (p.same z)) ∙ (selected_picked pick p bits zs z z ∙ ap (λ y. fold pick (pick y z) (kept bits zs)) (sym is)))
first_fold pick p (false ∷ bits) (z ∷ zs) v zero h k on is = let wrong : false ≡ true = on in cc
first_fold pick p (true ∷ bits) (z ∷ zs) v (suc i) h k on is =
    ap (λ y. Some y) (same_fold pick p bits zs z v i (omega arith) (omega arith) on is ∙ (sym (picked_already pick p bits zs z v i (omega arith) (omega arith) on is) ∙ ap (λ y. fold pick y (kept bits zs)) (p.swapped z v)))
first_fold pick p (false ∷ bits) (z ∷ zs) v (suc i) h k on is =
    ap (λ y. Some y) (same_fold pick p bits zs v v i (omega arith) (omega arith) on is)

first_kept : (pick : ℤ → ℤ → ℤ) → Picks pick → (bits : List Bool) (zs : List ℤ) (v : ℤ) (i : ℕ) → i < length bits → i < length zs → get_or bits i false ≡ true → v ≡ get_or zs i (pos 0) → picked pick None (kept bits zs) ≡ Some (fold pick v (kept bits zs))
first_kept pick p [] zs v i h k on is = absurd (omega arith)
first_kept pick p (bit ∷ bits) [] v i h k on is = absurd (omega arith)
first_kept pick p (true ∷ bits) (z ∷ zs) v zero h k on is = ap (λ y. Some (fold pick y (kept bits zs))) (sym (p.same z) ∙ ap (λ y. pick y z) (sym is))
first_kept pick p (false ∷ bits) (z ∷ zs) v zero h k on is = let wrong : false ≡ true = on in cc
first_kept pick p (true ∷ bits) (z ∷ zs) v (suc i) h k on is =
    ap (λ y. Some y) (sym (picked_already pick p bits zs z v i (omega arith) (omega arith) on is) ∙ ap (λ y. fold pick y (kept bits zs)) (p.swapped z v))
first_kept pick p (false ∷ bits) (z ∷ zs) v (suc i) h k on is = first_kept pick p bits zs v i (omega arith) (omega arith) on is

-- an integer that is kept stands in for what is not picked from
pub picked_selected : (pick : ℤ → ℤ → ℤ) → Picks pick → (o : Option ℤ) (bits : List Bool) (zs : List ℤ) (v : ℤ) (i : ℕ) → i < length bits → i < length zs → get_or bits i false ≡ true → v ≡ get_or zs i (pos 0)
    → picked pick o (selected bits zs v) ≡ picked pick o (kept bits zs)
picked_selected pick p None bits zs v i h k on is = first_fold pick p bits zs v i h k on is ∙ sym (first_kept pick p bits zs v i h k on is)
picked_selected pick p (Some x) bits zs v i h k on is = ap (λ y. Some y) (same_fold pick p bits zs x v i h k on is)
