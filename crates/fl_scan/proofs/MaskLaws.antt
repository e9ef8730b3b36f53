-- Integers that a mask keeps, by the words of its bits.
use Rattle.std.proofs.Common.{◌≡◌, ℕ, ℤ, pos, ◌+◌, ◌-◌, ◌*◌, ◌<◌, ◌≤◌, ◌++◌, List, [], ◌∷◌, length, map, get_or, take, drop, min, Bool, true, false, ap, sym, ◌∙◌, arith, inl, inr}
use Rattle.std.proofs.lemmas.List.{append-nil, drop-map, drop-take, drop_all, get_or-drop, get_or-take, length-drop, length-map, length-take, take-map, take-take, take_all}
use Rattle.std.proofs.lemmas.Bool.{cases_lt}
use Rattle.std.proofs.lemmas.List.FromFn.{get_or-map-range_with_len, length-map-range_with_len}
use Rattle.std.proofs.lemmas.Nat.Bits.{bit_at_ones}
use Rattle.fl_types.specs.Bits.{between, bit_of_word, bits_of_word, kept}
use Rattle.fl_types.proofs.KeptLaws.{bit_true, kept_nothing, kept_split}
use Rattle.fl_column.proofs.FilterLaws.{kept_agree, kept_all}
use Rattle.fl_column.proofs.ListLaws.{kept_no, kept_yes}

pub length_word : (word : ℕ) → length (bits_of_word word) ≡ 64
unfolding bits_of_word
length_word word = length-map-range_with_len (bit_of_word word) 0 64

pub get_word : (word i : ℕ) → i < 64 → get_or (bits_of_word word) i false ≡ bit_of_word word i
unfolding bits_of_word
get_word word i h = get_or-map-range_with_len (bit_of_word word) 0 64 i i false h (omega arith)

-- one more integer under a word
pub word_yes : (word : ℕ) (zs : List ℤ) (j : ℕ) → j < length zs → length zs ≤ 64 → bit_of_word word j ≡ true
    → kept (take (j + 1) (bits_of_word word)) (take (j + 1) zs) ≡ kept (take j (bits_of_word word)) (take j zs) ++ get_or zs j (pos 0) ∷ []
word_yes word zs j h few on = let long = length_word word in kept_yes (bits_of_word word) zs j (pos 0) (omega arith) h (get_word word j (omega arith) ∙ on)

pub word_no : (word : ℕ) (zs : List ℤ) (j : ℕ) → j < length zs → length zs ≤ 64 → bit_of_word word j ≡ false
    → kept (take (j + 1) (bits_of_word word)) (take (j + 1) zs) ≡ kept (take j (bits_of_word word)) (take j zs)
word_no word zs j h few off = let long = length_word word in kept_no (bits_of_word word) zs j (omega arith) h (get_word word j (omega arith) ∙ off)

-- the first items of a mask are all that it keeps
pub prefix_kept : (bits : List Bool) (zs : List ℤ) (j : ℕ) → length zs ≤ j → kept (take j bits) (take j zs) ≡ kept bits zs
prefix_kept bits zs j h =
    sym (kept_split j bits zs ∙ (ap (λ ys. kept (take j bits) (take j zs) ++ kept (drop j bits) ys) (drop_all j zs h) ∙ (ap (λ ys. kept (take j bits) (take j zs) ++ ys) (kept_nothing (drop j bits)) ∙ append-nil (kept (take j bits) (take j zs)))))

pub full_word : (zs : List ℤ) → length zs ≤ 64 → kept (bits_of_word 18446744073709551615) zs ≡ zs
full_word zs few = kept_all (bits_of_word 18446744073709551615) zs (λ i h. get_word 18446744073709551615 i (omega arith) ∙ bit_true 18446744073709551615 i (bit_at_ones 64 i (omega arith)))

-- a part of the items
pub part_of : {X : Type 0} (value : X → ℤ) (xs : List X) (m n count : ℕ) → count ≡ min (length xs - m) n → take n (drop m (map value xs)) ≡ map value (take count (drop m xs))
part_of value xs m n count is =
    let rest = length-drop m xs in
    let mapped = length-map (drop m xs) value in
    let first : take n (map value (drop m xs)) ≡ take count (map value (drop m xs)) = elim (cases_lt (length xs - m) n) [
      | inl short ↦ take_all n (map value (drop m xs)) (omega arith) ∙ sym (take_all count (map value (drop m xs)) (omega arith))
      | inr long ↦ (let same : n ≡ count = omega arith in ap (λ k. take k (map value (drop m xs))) same)
    ] in
    ap (take n) (drop-map value m xs) ∙ (first ∙ take-map value count (drop m xs))

-- the integers of one more word
pub words_more : {X : Type 0} (value : X → ℤ) (xs part : List X) (bits : List Bool) (start k count word : ℕ) → start + length xs ≤ length bits → 64 * k < length xs → count ≡ min (length xs - 64 * k) 64
    → part ≡ take count (drop (64 * k) xs) → ((j : ℕ) → j < count → bit_of_word word j ≡ get_or bits (start + 64 * k + j) false)
    → kept (take (64 * (k + 1)) (between start (start + length xs) bits)) (take (64 * (k + 1)) (map value xs))
    ≡ kept (take (64 * k) (between start (start + length xs) bits)) (take (64 * k) (map value xs)) ++ kept (bits_of_word word) (map value part)
words_more value xs part bits start k count word room more count_is part_is same =
    let m : ℕ = 64 * k in
    let all : List Bool = between start (start + length xs) bits in
    let zs : List ℤ = map value xs in
    let next : 64 * (k + 1) ≡ m + 64 = omega arith in
    let here : List ℤ = map value part in
    let left = length-drop m xs in
    let long : length part ≡ count = ap length part_is ∙ (length-take count (drop m xs) ∙ omega arith) in
    let mapped = length-map part value in
    let width : start + length xs - start ≡ length xs = omega arith in
    let behind = length-drop start bits in
    let size : length all ≡ length xs = length-take (start + length xs - start) (drop start bits) ∙ omega arith in
    let rest = length-drop m all in
    let size_here : length (take 64 (drop m all)) ≡ count = length-take 64 (drop m all) ∙ omega arith in
    let long_word = length_word word in
    let agrees : kept (take 64 (drop m all)) here ≡ kept (bits_of_word word) here = kept_agree (take 64 (drop m all)) (bits_of_word word) here (omega arith) (omega arith) (λ j h.
    let inside : j < count = omega arith in
    let place : start + (m + j) ≡ start + 64 * k + j = omega arith in
    get_or-take 64 (drop m all) j false (omega arith) ∙ (get_or-drop m all j false ∙ (get_or-take (start + length xs - start) (drop start bits) (m + j) false (omega arith)
    ∙ (get_or-drop start bits (m + j) false ∙ (ap (λ i. get_or bits i false) place ∙ (sym (same j inside) ∙ sym (get_word word j (omega arith)))))))) in
    ap (λ n. kept (take n all) (take n zs)) next
    ∙ (kept_split m (take (m + 64) all) (take (m + 64) zs)
    ∙ (ap (λ bs. kept bs (take m (take (m + 64) zs)) ++ kept (drop m (take (m + 64) all)) (drop m (take (m + 64) zs))) (take-take m (m + 64) all (omega arith))
    ∙ (ap (λ ys. kept (take m all) ys ++ kept (drop m (take (m + 64) all)) (drop m (take (m + 64) zs))) (take-take m (m + 64) zs (omega arith))
    ∙ ap (λ ys. kept (take m all) (take m zs) ++ ys)
    (ap (λ bs. kept bs (drop m (take (m + 64) zs))) (drop-take m 64 all) ∙ (ap (kept (take 64 (drop m all))) (drop-take m 64 zs ∙ (part_of value xs m 64 count count_is ∙ ap (map value) (sym part_is))) ∙ agrees)))))
