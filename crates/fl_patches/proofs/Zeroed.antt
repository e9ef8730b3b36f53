-- Groups of items in which a null is 0.
use Rattle.std.proofs.Common.{◌≡◌, ℕ, ℤ, pos, suc, ◌+◌, ◌-◌, ◌<◌, ◌≤◌, ◌==◌, ◌^◌, Bool, true, false, cond, List, [], ◌∷◌, length, map, take, drop, get_or, set, Option, Some, None, refl, ap, sym, subst, ◌∙◌, arith, inl, inr, length-take, length-drop}
use Rattle.std.proofs.lemmas.Bool.{cases_eq, eq-eqb}
use Rattle.std.proofs.lemmas.List.{get_or-drop, get_or-map, get_or-set_other, get_or-set_same, get_or-take, drop-map, length-map, take-map}
use Rattle.std.proofs.lemmas.Nat.Bits.{bit_at_ones}
use Rattle.fl_types.specs.declared.dtype.PType.{PType}
use Rattle.fl_types.specs.declared.dtype.PType.TheVariants.{U8}
use Rattle.fl_types.specs.declared.validity.Validity.TheVariants as valid
use Rattle.fl_types.specs.Bits.{between, bit_of_word}
use Rattle.fl_types.specs.Integers.{bits_of_type, pattern_of}
use Rattle.fl_types.specs.Validities.{masked}
use Rattle.std.proofs.Math.Nat.{mod-eq_of_lt}
use Rattle.fl_patches.proofs.BitCounts.{pattern_below}
use Rattle.fl_column.proofs.ItemLaws.{get_or-items_of, length-masked}
use Rattle.fl_patches.specs.Exceptions.{bit_count, bits_of_item, count_with_bits}
use Rattle.fl_patches.proofs.Comparisons.{group_length}
use Rattle.fl_patches.proofs.Histograms.{count_cons, count_with_bits_none}

-- a pattern of 8 bits, 0 of a null, has as many bits as the item
zeroed_bits : (t : PType) (b : Bool) (z : ℤ) → bits_of_type t ≡ 8 → bits_of_item U8 (Some (pos (cond b (pattern_of t z) 0))) ≡ bits_of_item t (cond b (Some z) None)
unfolding bit_count
zeroed_bits t true z small =
    let below : pattern_of t z < 2 ^ 8 = subst (λ (n : ℕ). pattern_of t z < 2 ^ n) small (pattern_below t z) in
    ap bit_count (mod-eq_of_lt below)
zeroed_bits t false z small = refl

-- items with as many bits, one by one, are counted alike
counted_alike : (t u : PType) (xs ys : List (Option ℤ)) (b : ℕ) → length xs ≡ length ys → ((i : ℕ) → i < length xs → bits_of_item t (get_or xs i None) ≡ bits_of_item u (get_or ys i None)) → count_with_bits t xs b ≡ count_with_bits u ys b
counted_alike t u [] [] b even same = count_with_bits_none t b ∙ sym (count_with_bits_none u b)
counted_alike t u [] (y ∷ ys) b even same = absurd (omega arith)
counted_alike t u (x ∷ xs) [] b even same = absurd (omega arith)
counted_alike t u (x ∷ xs) (y ∷ ys) b even same =
    let here : bits_of_item t x ≡ bits_of_item u y = same 0 (omega arith) in
    let rest = counted_alike t u xs ys b (omega arith) (λ i h. same (suc i) (omega arith)) in
    count_cons t x xs b ∙ (ap (λ n. cond (n == b) 1 0 + count_with_bits t xs b) here ∙ (ap (λ n. cond (bits_of_item u y == b) 1 0 + n) rest ∙ sym (count_cons u y ys b)))

-- all bits of the greatest word are set
every_bit : (j : ℕ) → j < 64 → bit_of_word 18446744073709551615 j ≡ true
unfolding bit_of_word
every_bit j h = ap (λ b. b == 1) (bit_at_ones 64 j h)

-- an item of a group
part_read : {X : Type 0} (value : X → ℤ) (xs : List X) (from to i : ℕ) → i < to - from → get_or (map value (take (to - from) (drop from xs))) i (pos 0) ≡ get_or (map value xs) (from + i) (pos 0)
part_read value xs from to i h = rw (← take-map, ← drop-map) (get_or-take (to - from) (drop from (map value xs)) i (pos 0) h ∙ get_or-drop from (map value xs) i (pos 0))

-- the patterns of a word's items, of which the nulls are 0, are as many of each number of bits
pub zeroed_counts : {X : Type 0} (t : PType) (value : X → ℤ) (xs : List X) (group : List ℕ) (bits : List Bool) (word from to : ℕ) → bits_of_type t ≡ 8 → length bits ≡ length xs → from ≤ to → to ≤ length xs → length group ≡ to - from
    → ((j : ℕ) → j < to - from → bit_of_word word j ≡ get_or bits (from + j) false)
    → ((j : ℕ) → j < to - from → get_or group j 0 ≡ cond (bit_of_word word j) (pattern_of t (get_or (map value (take (to - from) (drop from xs))) j (pos 0))) 0)
    → (b : ℕ) → count_with_bits U8 (map (λ z. Some z) (map pos group)) b ≡ count_with_bits t (between from to (masked bits (map value xs))) b
zeroed_counts t value xs group bits word from to small even order range size valid_at written b =
    let items : List (Option ℤ) = masked bits (map value xs) in
    let all = length-map xs value in
    let long : length items ≡ length xs = length-masked bits (map value xs) (even ∙ sym all) ∙ all in
    let taken : length (between from to items) ≡ to - from = omega (arith, length-take (to - from) (drop from items), length-drop from items) in
    let group_long = group_length pos group in
    counted_alike U8 t (map (λ z. Some z) (map pos group)) (between from to items) b (omega arith) (λ i h.
    let inside : i < to - from = omega arith in
    let place : from + i < length xs = omega arith in
    let item : ℤ = get_or (map value xs) (from + i) (pos 0) in
    let left : get_or (map (λ z. Some z) (map pos group)) i None ≡ Some (pos (get_or group i 0)) = get_or-map (λ z. Some z) (map pos group) i (pos 0) None (omega (arith, length-map group pos)) ∙ ap (λ z. Some z) (get_or-map pos group i 0 (pos 0) (omega arith)) in
    let right : get_or (between from to items) i None ≡ cond (get_or bits (from + i) false) (Some item) None =
    get_or-take (to - from) (drop from items) i None inside ∙ (get_or-drop from items i None ∙ get_or-items_of (valid.Array bits) (map value xs) (from + i) (pos 0) (eq-eqb _ _ (even ∙ sym all)) (rw all place)) in
    let slot : get_or group i 0 ≡ cond (get_or bits (from + i) false) (pattern_of t item) 0 =
    written i inside ∙ (ap (λ c. cond c (pattern_of t (get_or (map value (take (to - from) (drop from xs))) i (pos 0))) 0) (valid_at i inside) ∙ ap (λ z. cond (get_or bits (from + i) false) (pattern_of t z) 0) (part_read value xs from to i inside)) in
    ap (bits_of_item U8) (left ∙ ap (λ p. Some (pos p)) slot) ∙ (zeroed_bits t (get_or bits (from + i) false) item small ∙ ap (bits_of_item t) (sym right)))

-- the items of a word none of which is null
pub full_counts : {X : Type 0} (t : PType) (value : X → ℤ) (xs : List X) (bits : List Bool) (word from to : ℕ) → length bits ≡ length xs → from ≤ to → to ≤ length xs → to - from ≤ 64 → word ≡ 18446744073709551615
    → ((j : ℕ) → j < to - from → bit_of_word word j ≡ get_or bits (from + j) false)
    → (b : ℕ) → count_with_bits t (map (λ z. Some z) (map value (take (to - from) (drop from xs)))) b ≡ count_with_bits t (between from to (masked bits (map value xs))) b
full_counts t value xs bits word from to even order range few full valid_at b =
    let items : List (Option ℤ) = masked bits (map value xs) in
    let part = take (to - from) (drop from xs) in
    let all = length-map xs value in
    let long : length items ≡ length xs = length-masked bits (map value xs) (even ∙ sym all) ∙ all in
    let taken : length (between from to items) ≡ to - from = omega (arith, length-take (to - from) (drop from items), length-drop from items) in
    let part_long : length (map (λ z. Some z) (map value part)) ≡ to - from = omega (arith, group_length value part, length-take (to - from) (drop from xs), length-drop from xs) in
    counted_alike t t (map (λ z. Some z) (map value part)) (between from to items) b (part_long ∙ sym taken) (λ i h.
    let inside : i < to - from = omega arith in
    let place : from + i < length xs = omega arith in
    let item : ℤ = get_or (map value xs) (from + i) (pos 0) in
    let left : get_or (map (λ z. Some z) (map value part)) i None ≡ Some item = get_or-map (λ z. Some z) (map value part) i (pos 0) None (omega (arith, length-map (map value part) (λ z. Some z))) ∙ ap (λ z. Some z) (part_read value xs from to i inside) in
    let set : get_or bits (from + i) false ≡ true = sym (valid_at i inside) ∙ (ap (λ w. bit_of_word w i) full ∙ every_bit i (omega arith)) in
    let right : get_or (between from to items) i None ≡ Some item =
    get_or-take (to - from) (drop from items) i None inside ∙ (get_or-drop from items i None ∙ (get_or-items_of (valid.Array bits) (map value xs) (from + i) (pos 0) (eq-eqb _ _ (even ∙ sym all)) (rw all place) ∙ ap (λ c. cond c (Some item) None) set)) in
    ap (bits_of_item t) (left ∙ sym right))

-- one more pattern that is written
pub pattern_written : (pattern : ℕ → ℕ) (xs : List ℕ) (i x : ℕ) → i < length xs → ((j : ℕ) → j < i → get_or xs j 0 ≡ pattern j) → x ≡ pattern i → (j : ℕ) → j < i + 1 → get_or (set xs i x) j 0 ≡ pattern j
pattern_written pattern xs i x h done e j below =
    elim (cases_eq j i) [
      | inl same ↦ rw same (get_or-set_same xs i x 0 h ∙ e)
      | inr other ↦ get_or-set_other xs i j x 0 other ∙ done j (omega arith)
    ]
