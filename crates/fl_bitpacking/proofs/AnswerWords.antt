-- Answers that are appended word by word.
use Rattle.std.proofs.Common.{◌≡◌, ℕ, ℤ, pos, ◌+◌, ◌<◌, ◌≤◌, Bool, List, ◌++◌, length, map, get_or, take, drop, ap, sym, ◌∙◌, arith, append_assoc, length-drop, length-take}
use Rattle.std.proofs.Math.Seq.{take-add}
use Rattle.std.proofs.lemmas.List.{append-nil, get_or-drop, get_or-map, get_or-take, length-map, map-append, same_lists, take_all}
use Rattle.fl_types.specs.Bits.{bit_of_word, tabulate}
use Rattle.fl_bitpacking.proofs.Tables.{get_or-table, length-table}

-- the answers of a word are those for the items of a part
word_is : (test : ℤ → Bool) (zs : List ℤ) (word at count : ℕ) → at + count ≤ length zs → ((j : ℕ) → j < count → bit_of_word word j ≡ test (get_or zs (at + j) (pos 0))) → tabulate (bit_of_word word) count ≡ map test (take count (drop at zs))
word_is test zs word at count room bits =
    let size : length (take count (drop at zs)) ≡ count = omega (arith, length-take count (drop at zs), length-drop at zs) in
    let all = length-table (bit_of_word word) count in
    same_lists (tabulate (bit_of_word word) count) (map test (take count (drop at zs))) (all ∙ sym (length-map (take count (drop at zs)) test ∙ size)) (λ j d h.
    let inside : j < count = omega arith in
    get_or-table (bit_of_word word) count j d inside
    ∙ (bits j inside ∙ (ap test (sym (get_or-take count (drop at zs) j (pos 0) inside ∙ get_or-drop at zs j (pos 0))) ∙ sym (get_or-map test (take count (drop at zs)) j (pos 0) d (omega arith)))))

-- one more word
pub word_answered : (test : ℤ → Bool) (zs : List ℤ) (first old new : List Bool) (word at count : ℕ) → at + count ≤ length zs → ((j : ℕ) → j < count → bit_of_word word j ≡ test (get_or zs (at + j) (pos 0)))
    → old ≡ first ++ map test (take at zs) → new ≡ old ++ tabulate (bit_of_word word) count → new ≡ first ++ map test (take (at + count) zs)
word_answered test zs first old new word at count room bits before is =
    let here = take count (drop at zs) in
    let whole : take (at + count) zs ≡ take at zs ++ here = take-add at count zs in
    is ∙ (ap (λ l. l ++ tabulate (bit_of_word word) count) before ∙ (ap (λ l. (first ++ map test (take at zs)) ++ l) (word_is test zs word at count room bits)
    ∙ (append_assoc first (map test (take at zs)) (map test here) ∙ ap (λ l. first ++ l) (sym (ap (map test) whole ∙ map-append test (take at zs) here)))))

-- no word yet
pub none_answered : (test : ℤ → Bool) (zs : List ℤ) (first : List Bool) (n : ℕ) → n ≡ 0 → first ≡ first ++ map test (take n zs)
none_answered test zs first n none = rw none (sym (append-nil first))

-- all words
pub all_answered : (test : ℤ → Bool) (zs : List ℤ) (first now : List Bool) (n : ℕ) → length zs ≤ n → now ≡ first ++ map test (take n zs) → now ≡ first ++ map test zs
all_answered test zs first now n all is = is ∙ ap (λ l. first ++ map test l) (take_all n zs all)
