-- Rows of sixteen lanes that are written one after the other.
use Rattle.std.proofs.Common.{◌≡◌, ◌⊎◌, ℕ, zero, suc, ◌+◌, ◌-◌, ◌*◌, ◌/◌, ◌%◌, ◌^◌, ◌<◌, ◌≤◌, ◌∙◌, ap, sym, arith, refl, add-one, inl, inr}
use Rattle.std.proofs.Math.Nat.{mod-eq_of_lt, mod-add-mod, add-mod-mod, add-mod_right}
use Rattle.std.proofs.lemmas.Nat.{mod_below, pow_pos}
use Rattle.std.proofs.lemmas.Bool.{cases_lt}
use Rattle.fastlanes.specs.Layout.{place}
use Rattle.fastlanes.specs.Delta.{delta_sum, summed_before, summed_item, item_before, item_delta}
use Rattle.fastlanes.proofs.RowWrites.{item_here}

-- ---- the sums
sum_zero : (delta : ℕ → ℕ) (l : ℕ) → delta_sum delta l 0 ≡ 0
unfolding delta_sum
sum_zero delta l = refl

sum_next : (delta : ℕ → ℕ) (l r : ℕ) → delta_sum delta l (r + 1) ≡ delta_sum delta l r + delta (place r l)
unfolding delta_sum
sum_next delta l r = rw add-one refl

pub sum_none : (M : ℕ) (base delta : ℕ → ℕ) (l x : ℕ) → x ≡ base l → x < M → x ≡ (base l + delta_sum delta l 0) % M
sum_none M base delta l x e h =
    let whole : base l + delta_sum delta l 0 ≡ x = let z = sum_zero delta l in omega arith in
    rw whole (sym (mod-eq_of_lt h))

pub sum_more : (M : ℕ) (base delta : ℕ → ℕ) (l r : ℕ) → ((base l + delta_sum delta l r) % M + delta (place r l)) % M ≡ (base l + delta_sum delta l (r + 1)) % M
sum_more M base delta l r =
    let whole : base l + delta_sum delta l r + delta (place r l) ≡ base l + delta_sum delta l (r + 1) = let n = sum_next delta l r in omega arith in
    mod-add-mod (base l + delta_sum delta l r) M (delta (place r l)) ∙ ap (λ (n : ℕ). n % M) whole

-- the sums of the lanes of group g after one more row
pub sums_here : (T : ℕ) (base delta : ℕ → ℕ) (r g j to s x y : ℕ) → to ≡ place r (16 * g) → s ≡ summed_before T base delta r (16 * g + j) → x ≡ delta (to + j) → y ≡ (s + x) % 2 ^ T
    → y ≡ summed_before T base delta (r + 1) (16 * g + j)
unfolding summed_before
sums_here T base delta r g j to s x y to_is s_is x_is y_is =
    rw (y_is, s_is, x_is, item_here delta r g j to to_is) (sum_more (2 ^ T) base delta (16 * g + j) r)

pub sum_is_item : (T : ℕ) (base delta : ℕ → ℕ) (r l x : ℕ) → x ≡ summed_before T base delta (r + 1) l → x ≡ summed_item T base delta r l
unfolding summed_before summed_item
sum_is_item T base delta r l x e = e

pub sums_begin : (T : ℕ) (base delta : ℕ → ℕ) (l r x : ℕ) → r ≡ 0 → x ≡ base l → x < 2 ^ T → x ≡ summed_before T base delta r l
unfolding summed_before
sums_begin T base delta l r x z e h = rw z (sum_none (2 ^ T) base delta l x e h)

-- the step of a loop that writes rows of sixteen lanes one after another
pub rows_more : (value : ℕ → ℕ → ℕ) (r g k m : ℕ) (lane old new : ℕ → ℕ) → m ≡ k + 1
    → ((j : ℕ) → j < 16 → lane j ≡ value (r + k) (16 * g + j))
    → ((i : ℕ) → i < 16 * k → old i ≡ value (r + i / 16) (16 * g + i % 16))
    → ((j : ℕ) → j < 16 → new (16 * k + j) ≡ lane j) → ((i : ℕ) → (i < 16 * k) ⊎ (16 * k + 16 ≤ i) → new i ≡ old i)
    → (i : ℕ) → i < 16 * m → new i ≡ value (r + i / 16) (16 * g + i % 16)
rows_more value r g k m lane old new next is done stored others i h =
    elim (cases_lt i (16 * k)) [
      | inl below ↦ others i (inl below) ∙ done i below
      | inr above ↦
          let j = i - 16 * k in
          let there : i ≡ 16 * k + j = omega arith in
          let row_is : r + k ≡ r + i / 16 = omega arith in
          let lane_is : 16 * g + j ≡ 16 * g + i % 16 = omega arith in
          ap new there ∙ (stored j (omega arith) ∙ (is j (omega arith) ∙ (ap (λ (n : ℕ). value n (16 * g + j)) row_is ∙ ap (value (r + i / 16)) lane_is)))
    ]

pub before_first : (base item : ℕ → ℕ) (l : ℕ) → item_before base item 0 l ≡ base l
unfolding item_before
before_first base item l = refl

pub before_begin : (base item : ℕ → ℕ) (l r x : ℕ) → r ≡ 0 → x ≡ base l → x ≡ item_before base item r l
before_begin base item l r x z e = rw z (e ∙ sym (before_first base item l))

-- the deltas of the lanes of group g at row r
pub delta_here : (T : ℕ) (base item : ℕ → ℕ) (r g j to x y z : ℕ) → to ≡ place r (16 * g) → x ≡ item (to + j) → y ≡ item_before base item r (16 * g + j) → z ≡ (x + (2 ^ T - y)) % 2 ^ T
    → z ≡ item_delta T base item r (16 * g + j)
unfolding item_delta
delta_here T base item r g j to x y z to_is x_is y_is z_is = rw (z_is, x_is, item_here item r g j to to_is, y_is) refl

-- a difference and a sum undo each other, whatever the whole wraps at
wrap_there : (M x y : ℕ) → x < M → y < M → (y + (x + (M - y)) % M) % M ≡ x
wrap_there M x y p q =
    let whole : y + (x + (M - y)) ≡ x + M = omega arith in
    add-mod-mod y (x + (M - y)) M ∙ (ap (λ (n : ℕ). n % M) whole ∙ (add-mod_right x M ∙ mod-eq_of_lt p))

wrap_back : (M x d : ℕ) → x < M → d < M → ((x + d) % M + (M - x)) % M ≡ d
wrap_back M x d p q =
    let whole : x + d + (M - x) ≡ d + M = omega arith in
    mod-add-mod (x + d) M (M - x) ∙ (ap (λ (n : ℕ). n % M) whole ∙ (add-mod_right d M ∙ mod-eq_of_lt q))

-- ---- sums of the differences, and differences of the sums
before_small : (M : ℕ) (base item : ℕ → ℕ) (T lanes r l : ℕ) → r < T → l < lanes → ((m : ℕ) → m < lanes → base m < M) → ((s m : ℕ) → s < T → m < lanes → item (place s m) < M) → item_before base item r l < M
unfolding item_before
before_small M base item T lanes zero l p q low items = low l q
before_small M base item T lanes (suc r) l p q low items = items r l (omega arith) q

pub before_more : (base item : ℕ → ℕ) (r l : ℕ) → item_before base item (r + 1) l ≡ item (place r l)
unfolding item_before
before_more base item r l = rw add-one refl

-- what stands before row r is the base and the deltas of the rows below r
sums_before_row : (T lanes : ℕ) (base item delta : ℕ → ℕ) (r l : ℕ) → r < T + 1 → l < lanes
    → ((m : ℕ) → m < lanes → base m < 2 ^ T) → ((s m : ℕ) → s < T → m < lanes → item (place s m) < 2 ^ T)
    → ((s m : ℕ) → s < T → m < lanes → delta (place s m) ≡ item_delta T base item s m)
    → (base l + delta_sum delta l r) % 2 ^ T ≡ item_before base item r l
unfolding item_delta
sums_before_row T lanes base item delta zero l p q low items each = sym (sum_none (2 ^ T) base delta l (base l) refl (low l q)) ∙ sym (before_first base item l)
sums_before_row T lanes base item delta (suc r) l p q low items each =
    let row : r < T = omega arith in
    let before = sums_before_row T lanes base item delta r l (omega arith) q low items each in
    let step = sum_more (2 ^ T) base delta l r in
    let this : (item_before base item r l + delta (place r l)) % 2 ^ T ≡ item (place r l) = rw (each r l row q) (wrap_there (2 ^ T) (item (place r l)) (item_before base item r l) (items r l row q) (before_small (2 ^ T) base item T lanes r l row q low items)) in
    rw (sym (add-one r)) (sym step ∙ (rw before this ∙ sym (before_more base item r l)))

pub sums_back : (T lanes : ℕ) (base item delta : ℕ → ℕ) (r l : ℕ) → r < T → l < lanes
    → ((m : ℕ) → m < lanes → base m < 2 ^ T) → ((s m : ℕ) → s < T → m < lanes → item (place s m) < 2 ^ T)
    → ((s m : ℕ) → s < T → m < lanes → delta (place s m) ≡ item_delta T base item s m)
    → summed_item T base delta r l ≡ item (place r l)
unfolding summed_item
sums_back T lanes base item delta r l p q low items each = sums_before_row T lanes base item delta (r + 1) l (omega arith) q low items each ∙ before_more base item r l

-- the items are the sums of the deltas, so their differences are the deltas
before_summed : (T lanes : ℕ) (base item delta : ℕ → ℕ) (r l : ℕ) → r < T → l < lanes → base l < 2 ^ T
    → ((s m : ℕ) → s < T → m < lanes → item (place s m) ≡ summed_item T base delta s m)
    → item_before base item r l ≡ (base l + delta_sum delta l r) % 2 ^ T
unfolding summed_item
before_summed T lanes base item delta zero l p q low each = before_first base item l ∙ sum_none (2 ^ T) base delta l (base l) refl low
before_summed T lanes base item delta (suc r) l p q low each =
    let row : r < T = omega arith in
    rw (sym (add-one r)) (before_more base item r l ∙ each r l row q)

pub differences_back : (T lanes : ℕ) (base item delta : ℕ → ℕ) (r l : ℕ) → r < T → l < lanes → base l < 2 ^ T → delta (place r l) < 2 ^ T
    → ((s m : ℕ) → s < T → m < lanes → item (place s m) ≡ summed_item T base delta s m)
    → item_delta T base item r l ≡ delta (place r l)
unfolding item_delta summed_item
differences_back T lanes base item delta r l p q low fits each =
    let before = before_summed T lanes base item delta r l p q low each in
    let small = mod_below (base l + delta_sum delta l r) (2 ^ T) (pow_pos T) in
    let here : item (place r l) ≡ ((base l + delta_sum delta l r) % 2 ^ T + delta (place r l)) % 2 ^ T = each r l p q ∙ sym (sum_more (2 ^ T) base delta l r) in
    rw (here, before) (wrap_back (2 ^ T) ((base l + delta_sum delta l r) % 2 ^ T) (delta (place r l)) small fits)
