-- The positions of set bits, by words.
use Rattle.std.proofs.Common.{◌≡◌, ℕ, suc, ◌+◌, ◌-◌, ◌*◌, ◌<◌, ◌≤◌, ◌^◌, ◌++◌, List, [], ◌∷◌, length, get_or, take, drop, min, Bool, true, false, cond, ap, sym, ◌∙◌, arith, inl, inr, refl, append_assoc, length-take, length-drop}
use Rattle.std.specs.List.{range_with_len}
use Rattle.std.proofs.lemmas.Bool.{cases_lt}
use Rattle.std.proofs.lemmas.List.{append-nil, drop-drop, drop_all, get_or-drop, get_or-take, get_or_past}
use Rattle.std.proofs.lemmas.List.FromFn.{get_or-map-range_with_len, get_or-range_with_len, length-map-range_with_len, length-range_with_len}
use Rattle.fl_types.specs.Bits.{bit_of_word, kept, tabulate}
use Rattle.fl_types.proofs.KeptLaws.{kept_none, kept_split}
use Rattle.fl_column.proofs.FilterLaws.{item_there}
use Rattle.fl_scan.specs.Indices.{positions_of}

-- a mask with more bits, which are not set
kept_padded : (bs cs : List Bool) (xs ys : List ℕ) → length bs ≡ length xs → length bs ≤ length cs → length cs ≤ length ys → ((i : ℕ) → get_or bs i false ≡ get_or cs i false) → ((i : ℕ) → i < length xs → get_or xs i 0 ≡ get_or ys i 0) → kept bs xs ≡ kept cs ys
kept_padded [] cs [] ys even h k mask items = sym (kept_none cs ys (λ i l. sym (mask i)))
kept_padded [] cs (x ∷ xs) ys even h k mask items = absurd (omega arith)
kept_padded (b ∷ bs) cs [] ys even h k mask items = absurd (omega arith)
kept_padded (b ∷ bs) [] (x ∷ xs) ys even h k mask items = absurd (omega arith)
kept_padded (b ∷ bs) (c ∷ cs) (x ∷ xs) [] even h k mask items = absurd (omega arith)
kept_padded (b ∷ bs) (c ∷ cs) (x ∷ xs) (y ∷ ys) even h k mask items =
    let rest = kept_padded bs cs xs ys (omega arith) (omega arith) (omega arith) (λ i. mask (suc i)) (λ i l. items (suc i) (omega arith)) in
    rw (mask 0, items 0 (omega arith)) (ap (λ l. cond c (y ∷ l) l) rest)

-- the positions of a word
word_positions : (bits : List Bool) (e word : ℕ) → e < length bits → ((j : ℕ) → j < 64 → bit_of_word word j ≡ get_or bits (e + j) false)
    → kept (take 64 (drop e bits)) (take 64 (drop e (range_with_len 0 (length bits)))) ≡ kept (tabulate (bit_of_word word) 64) (range_with_len e 64)
word_positions bits e word inside same =
    let all = range_with_len 0 (length bits) in
    let long : length all ≡ length bits = length-range_with_len 0 (length bits) in
    let words : length (tabulate (bit_of_word word) 64) ≡ 64 = length-map-range_with_len (bit_of_word word) 0 64 in
    let places : length (range_with_len e 64) ≡ 64 = length-range_with_len e 64 in
    let rest = length-drop e bits in
    let others = length-drop e all in
    let part = length-take 64 (drop e bits) in
    let other = length-take 64 (drop e all) in
    kept_padded (take 64 (drop e bits)) (tabulate (bit_of_word word) 64) (take 64 (drop e all)) (range_with_len e 64) (omega arith) (omega arith) (omega arith)
    (λ i. elim (cases_lt i 64) [
      | inl low ↦ get_or-take 64 (drop e bits) i false low ∙ (get_or-drop e bits i false ∙ (sym (same i low) ∙ sym (get_or-map-range_with_len (bit_of_word word) 0 64 i i false low (omega arith))))
      | inr high ↦ get_or_past (take 64 (drop e bits)) i false (omega arith) ∙ sym (get_or_past (tabulate (bit_of_word word) 64) i false (omega arith))
    ])
    (λ i h.
    let low : i < 64 = omega arith in
    let within : e + i < length bits = omega arith in
    let place : 0 + (e + i) ≡ e + i = omega arith in
    get_or-take 64 (drop e all) i 0 low ∙ (get_or-drop e all i 0 ∙ (get_or-range_with_len 0 (length bits) (e + i) 0 within ∙ (place ∙ sym (get_or-range_with_len e 64 i 0 low)))))

-- one word more
pub positions_more : (bits : List Bool) (old new : List ℕ) (k word : ℕ) → 64 * k < length bits → ((j : ℕ) → j < 64 → bit_of_word word j ≡ get_or bits (64 * k + j) false)
    → new ≡ old ++ kept (tabulate (bit_of_word word) 64) (range_with_len (64 * k) 64)
    → old ++ kept (drop (64 * k) bits) (drop (64 * k) (range_with_len 0 (length bits))) ≡ positions_of bits
    → new ++ kept (drop (64 * (k + 1)) bits) (drop (64 * (k + 1)) (range_with_len 0 (length bits))) ≡ positions_of bits
positions_more bits old new k word inside same pushed so_far =
    let e : ℕ = 64 * k in
    let all : List ℕ = range_with_len 0 (length bits) in
    let here : List ℕ = kept (tabulate (bit_of_word word) 64) (range_with_len e 64) in
    let next : e + 64 ≡ 64 * (k + 1) = omega arith in
    let rest : kept (drop 64 (drop e bits)) (drop 64 (drop e all)) ≡ kept (drop (64 * (k + 1)) bits) (drop (64 * (k + 1)) all) =
    ap (λ bs. kept bs (drop 64 (drop e all))) (drop-drop 64 e bits ∙ ap (λ (n : ℕ). drop n bits) next) ∙ ap (kept (drop (64 * (k + 1)) bits)) (drop-drop 64 e all ∙ ap (λ (n : ℕ). drop n all) next) in
    ap (λ l. l ++ kept (drop (64 * (k + 1)) bits) (drop (64 * (k + 1)) all)) pushed
    ∙ (append_assoc old here (kept (drop (64 * (k + 1)) bits) (drop (64 * (k + 1)) all))
    ∙ (ap (λ l. old ++ l) (ap (λ l. here ++ l) (sym rest) ∙ (ap (λ l. l ++ kept (drop 64 (drop e bits)) (drop 64 (drop e all))) (sym (word_positions bits e word inside same)) ∙ sym (kept_split 64 (drop e bits) (drop e all))))
    ∙ so_far))

-- no word more
pub positions_all : (bits : List Bool) (found : List ℕ) (n : ℕ) → length bits ≤ n → found ++ kept (drop n bits) (drop n (range_with_len 0 (length bits))) ≡ positions_of bits → found ≡ positions_of bits
positions_all bits found n past whole =
    let none : kept (drop n bits) (drop n (range_with_len 0 (length bits))) ≡ [] = ap (λ bs. kept bs (drop n (range_with_len 0 (length bits)))) (drop_all n bits past) in
    sym (append-nil found) ∙ (ap (λ l. found ++ l) (sym none) ∙ whole)

-- a set bit of a word is one of the list
pub bit_inside : (bits : List Bool) (word k : ℕ) → word < 2 ^ 64 → 64 * k < length bits → length bits < 2 ^ 64 → ((j : ℕ) → j < 64 → bit_of_word word j ≡ get_or bits (64 * k + j) false) → (j : ℕ) → bit_of_word word j ≡ true → 64 * k + j < 2 ^ 64
bit_inside bits word k small inside few same j set =
    let low = item_there bits word (64 * k) (64 * k + min (length bits - 64 * k) 64) (length bits) small refl refl same j set in
    omega arith
