-- One more integer.
use Rattle.std.proofs.Common.{◌≡◌, ℕ, ℤ, pos, ◌+◌, ◌-◌, ◌*◌, ◌/◌, ◌%◌, ◌<◌, ◌≤◌, ◌^◌, List, [], ◌∷◌, length, map, get_or, min, take, drop, replicate, zero, suc, negsuc, Option, Some, None, refl, ap, sym, ◌∙◌, arith, rules, to_z, of_z, SFits}
use Rattle.std.specs.Prelude.{◌+ℤ◌, ◌*ℤ◌, fold, neg_ℤ}
use Rattle.std.specs.Int.{int_max, int_min, int_wrap, w128}
use Rattle.std.proofs.Math.IntN.{*ℤ-zero, negsuc-*ℤ-pos, pos-*ℤ-pos}
use Rattle.std.proofs.lemmas.Int.{SFits-int_wrap, int_wrap-add_right, int_wrap-add_same, int_wrap_fits, ints, wrapping_add_is, wrapping_add_onto, wrapping_mul_is}
use Rattle.std.proofs.Math.Seq.{take-add}
use Rattle.std.proofs.lemmas.List.{get_or-map, length-map, take_more}
use Rattle.std.proofs.lemmas.List.Sums.{fold_more}
use Rattle.fl_scan.specs.ExtremeLaws.{picked}
use Rattle.fl_scan.specs.TotalLaws.{total-append}
use Rattle.fl_scan.specs.Totals.{total}
use Rattle.fl_scan.proofs.MaskLaws.{part_of}

-- an integer of a list of values
pub mapped_item : {X : Type 0} (value : X → ℤ) (xs : List X) (i : ℕ) (x : X) → i < length xs → x ≡ get_or xs i x → get_or (map value xs) i (pos 0) ≡ value x
mapped_item value xs i x h is = get_or-map value xs i x (pos 0) h ∙ ap value (sym is)

-- ---- sums
wrapped_twice : (z : ℤ) → int_wrap w128 (int_wrap w128 z) ≡ int_wrap w128 z
wrapped_twice z = int_wrap_fits w128 (int_wrap w128 z) (SFits-int_wrap w128 z)

-- a sum of bits and an integer
pub sum_of_bits : (m : ℕ) (b s t : ℤ) → m < 2 ^ 128 → SFits w128 b → int_wrap w128 (to_z w128 m) ≡ int_wrap w128 s → int_wrap w128 b ≡ int_wrap w128 t
    → int_wrap w128 (to_z w128 ((m + of_z w128 b) % 340282366920938463463374607431768211456)) ≡ int_wrap w128 (s +ℤ t)
sum_of_bits m b s t p g h k =
    ap (int_wrap w128) (wrapping_add_onto w128 m b p g) ∙ (wrapped_twice (to_z w128 m +ℤ b)
    ∙ (int_wrap-add_same w128 (to_z w128 m) s b h ∙ (sym (int_wrap-add_right w128 s b) ∙ (ap (λ z. int_wrap w128 (s +ℤ z)) k ∙ int_wrap-add_right w128 s t))))

pub total_more : {X : Type 0} (value : X → ℤ) (xs : List X) (i : ℕ) (x : X) → i < length xs → x ≡ get_or xs i x → total (take i (map value xs)) +ℤ value x ≡ total (take (i + 1) (map value xs))
total_more value xs i x h is =
    let inside : i < length (map value xs) = let same = length-map xs value in omega arith in
    let one : total (get_or (map value xs) i (pos 0) ∷ []) ≡ value x = (let z : get_or (map value xs) i (pos 0) +ℤ pos 0 ≡ get_or (map value xs) i (pos 0) = omega (arith, ints) in z) ∙ mapped_item value xs i x h is in
    ap (λ z. total (take i (map value xs)) +ℤ z) (sym one) ∙ (sym (total-append (take i (map value xs)) (get_or (map value xs) i (pos 0) ∷ [])) ∙ ap total (sym (take_more (map value xs) i (pos 0) inside)))

mul_step : (a n : ℕ) → a * suc n ≡ a + a * n
mul_step a n = omega arith

-- an integer this many times
pub total-replicate : (n : ℕ) (z : ℤ) → total (replicate n z) ≡ z *ℤ pos n
total-replicate zero z = sym (*ℤ-zero z)
total-replicate (suc n) (pos a) =
    let rest : total (replicate n (pos a)) ≡ pos (a * n) = total-replicate n (pos a) ∙ pos-*ℤ-pos a n in
    let step = mul_step a n in
    let sums : pos a +ℤ total (replicate n (pos a)) ≡ pos (a * suc n) = omega (arith, ints) in
    sums ∙ sym (pos-*ℤ-pos a (suc n))
total-replicate (suc n) (negsuc a) =
    let rest : total (replicate n (negsuc a)) ≡ neg_ℤ (pos (suc a * n)) = total-replicate n (negsuc a) ∙ negsuc-*ℤ-pos a n in
    let step = mul_step (suc a) n in
    let sums : negsuc a +ℤ total (replicate n (negsuc a)) ≡ neg_ℤ (pos (suc a * suc n)) = omega (arith, ints) in
    sums ∙ sym (negsuc-*ℤ-pos a (suc n))

-- the sum of two integers that were wrapped
pub sum_of_wrapped : (a b s t : ℤ) → SFits w128 a → SFits w128 b → int_wrap w128 a ≡ int_wrap w128 s → int_wrap w128 b ≡ int_wrap w128 t
    → int_wrap w128 (to_z w128 ((of_z w128 a + of_z w128 b) % 340282366920938463463374607431768211456)) ≡ int_wrap w128 (s +ℤ t)
sum_of_wrapped a b s t f g h k =
    ap (int_wrap w128) (wrapping_add_is w128 a b f g) ∙ (wrapped_twice (a +ℤ b)
    ∙ (int_wrap-add_same w128 a s b h ∙ (sym (int_wrap-add_right w128 s b) ∙ (ap (λ z. int_wrap w128 (s +ℤ z)) k ∙ int_wrap-add_right w128 s t))))

one_integer : (v : ℤ) → int_wrap w128 v ≡ int_wrap w128 (v +ℤ pos 0)
one_integer v = ap (int_wrap w128) (omega (arith, ints))

-- a sum and one integer
pub sum_and_one : (a b v : ℤ) → SFits w128 a → SFits w128 b → b ≡ v → int_wrap w128 (to_z w128 ((of_z w128 a + of_z w128 b) % 340282366920938463463374607431768211456)) ≡ int_wrap w128 (a +ℤ (v +ℤ pos 0))
sum_and_one a b v f g is = sum_of_wrapped a b a (v +ℤ pos 0) f g refl (ap (int_wrap w128) is ∙ one_integer v)

-- an integer this many times, wrapped
pub product_wrapped : (a z : ℤ) (n : ℕ) → SFits w128 a → a ≡ z → n < 2 ^ 64 → int_wrap w128 (to_z w128 (of_z w128 a * n % 340282366920938463463374607431768211456)) ≡ int_wrap w128 (total (replicate n z))
product_wrapped a z n f is small =
    let fits : SFits w128 (pos n) = search (rules, arith) in
    ap (int_wrap w128) (wrapping_mul_is w128 a (pos n) f fits) ∙ (wrapped_twice (a *ℤ pos n) ∙ ap (int_wrap w128) (ap (λ y. y *ℤ pos n) is ∙ sym (total-replicate n z)))

-- ---- the least and the greatest
pub picked_more : {X : Type 0} (value : X → ℤ) (pick : ℤ → ℤ → ℤ) (xs : List X) (i : ℕ) (x : X) (start old new : ℤ) → i < length xs → x ≡ get_or xs i x → new ≡ pick old (value x) → old ≡ fold pick start (take i (map value xs))
    → new ≡ fold pick start (take (i + 1) (map value xs))
picked_more value pick xs i x start old new h is picks so_far =
    let inside : i < length (map value xs) = let same = length-map xs value in omega arith in
    picks ∙ (ap (λ z. pick z (value x)) so_far ∙ (ap (pick (fold pick start (take i (map value xs)))) (sym (mapped_item value xs i x h is)) ∙ sym (fold_more pick start (map value xs) i (pos 0) inside)))

no_news : (pick : ℤ → ℤ → ℤ) (y v : ℤ) (n : ℕ) → pick y v ≡ y → fold pick y (replicate n v) ≡ y
no_news pick y v zero e = refl
no_news pick y v (suc n) e = ap (λ z. fold pick z (replicate n v)) e ∙ no_news pick y v n e

picked_once : (pick : ℤ → ℤ → ℤ) (o : Option ℤ) (n : ℕ) (v : ℤ) → pick v v ≡ v → ((y : ℤ) → pick (pick y v) v ≡ pick y v) → 0 < n → picked pick o (replicate n v) ≡ picked pick o (v ∷ [])
picked_once pick o zero v same twice some = absurd (omega arith)
picked_once pick None (suc n) v same twice some = ap (λ z. Some z) (no_news pick v v n same)
picked_once pick (Some y) (suc n) v same twice some = ap (λ z. Some z) (no_news pick (pick y v) v n (twice y))

min_same : (v : ℤ) → int_min v v ≡ v
min_same v = grind (arith, ints)

min_twice : (v y : ℤ) → int_min (int_min y v) v ≡ int_min y v
min_twice v y = grind (arith, ints)

max_same : (v : ℤ) → int_max v v ≡ v
max_same v = grind (arith, ints)

max_twice : (v y : ℤ) → int_max (int_max y v) v ≡ int_max y v
max_twice v y = grind (arith, ints)

pub least_once : (o : Option ℤ) (n : ℕ) (v : ℤ) → 0 < n → picked int_min o (replicate n v) ≡ picked int_min o (v ∷ [])
least_once o n v some = picked_once int_min o n v (min_same v) (min_twice v) some

pub greatest_once : (o : Option ℤ) (n : ℕ) (v : ℤ) → 0 < n → picked int_max o (replicate n v) ≡ picked int_max o (v ∷ [])
greatest_once o n v some = picked_once int_max o n v (max_same v) (max_twice v) some

-- ---- sums of halves
times_more : (i r : ℕ) → (i + 1) * r ≡ i * r + r
times_more i r = omega arith

pub halves_more : (raise low high r i : ℕ) (z sum next : ℤ) → pos r ≡ z +ℤ pos raise → sum +ℤ z ≡ next → pos (4294967296 * high + low) ≡ sum +ℤ pos (i * raise) → low ≤ i * 4294967295 → r < 18446744073709551616 → high ≤ i * 4294967295
    → (pos (4294967296 * (high + r / 4294967296) + (low + r % 4294967296)) ≡ next +ℤ pos ((i + 1) * raise)) × ((low + r % 4294967296 ≤ (i + 1) * 4294967295) × (high + r / 4294967296 ≤ (i + 1) * 4294967295))
halves_more raise low high r i z sum next is more so_far few small few_high =
    let product = times_more i raise in
    let whole : 4294967296 * (high + r / 4294967296) + (low + r % 4294967296) ≡ 4294967296 * high + low + r = omega arith in
    (omega (arith, ints), (omega arith, omega arith))

-- the sum of one more block
pub block_total : {X : Type 0} (value : X → ℤ) (xs part : List X) (k count : ℕ) → count ≡ min (length xs - 1024 * k) 1024 → part ≡ take count (drop (1024 * k) xs)
    → total (take (1024 * k) (map value xs)) +ℤ total (map value part) ≡ total (take (1024 * (k + 1)) (map value xs))
block_total value xs part k count is part_is =
    let zs = map value xs in
    let next : 1024 * k + 1024 ≡ 1024 * (k + 1) = omega arith in
    let here : map value part ≡ take 1024 (drop (1024 * k) zs) = ap (map value) part_is ∙ sym (part_of value xs (1024 * k) 1024 count is) in
    ap (λ ys. total (take (1024 * k) zs) +ℤ total ys) here
    ∙ (sym (total-append (take (1024 * k) zs) (take 1024 (drop (1024 * k) zs))) ∙ ap total (sym (take-add (1024 * k) 1024 zs) ∙ ap (λ n. take n zs) next))
