-- Words of items none of which is null.
use Rattle.std.proofs.Common.{◌≡◌, ℕ, ℤ, pos, ◌<◌, ◌≤◌, ◌-ℤ◌, ◌∷◌, [], cond, true, List, length, map, get_or, Option, Some, None, option_map, ap, refl, sym, ◌∙◌, arith}
use Rattle.std.proofs.lemmas.List.{get_or-map, length-map}
use Rattle.std.proofs.lemmas.List.FromFn.{fill_by_all}
use Rattle.fl_types.specs.declared.dtype.PType.{PType}
use Rattle.fl_types.specs.Bits.{bit_of_word, tabulate}
use Rattle.fl_types.specs.Integers.{wrap}
use Rattle.fl_codec.specs.FoRColumns.{least_valid, min_valid, minus_reference}
use Rattle.fl_codec.proofs.JoinedLeasts.{least_of_both}
use Rattle.fl_codec.proofs.WithNulls.{every_bit, least_alone}
use Rattle.fl_codec.proofs.WithoutNulls.{all_turned, all_valid}

-- the least of a seed and of a word's items
pub least_of_full : {X : Type 0} (value : X → ℤ) (turn : ℤ → ℤ) (word : ℕ) (seed least : ℤ) (xs : List X) → word ≡ 18446744073709551615 → length xs ≤ 64 → Some least ≡ min_valid (Some seed) (least_valid (all_valid (map (λ x. turn (value x)) xs)))
    → Some least ≡ least_valid (Some seed ∷ tabulate (λ j. option_map turn (cond (bit_of_word word j) (Some (get_or (map value xs) j (pos 0))) None)) (length xs))
least_of_full value turn word seed least xs full few is =
    let slot : ℕ → Option ℤ = λ j. option_map turn (cond (bit_of_word word j) (Some (get_or (map value xs) j (pos 0))) None) in
    let all = all_valid (map (λ x. turn (value x)) xs) in
    let turned : all ≡ map (option_map turn) (all_valid (map value xs)) = all_turned value turn xs in
    let long : length all ≡ length xs = length-map (map (λ x. turn (value x)) xs) (λ z. Some z) ∙ length-map xs (λ x. turn (value x)) in
    let values = length-map xs value in
    let same : all ≡ tabulate slot (length xs) = fill_by_all slot all (length xs) None long (λ k h.
    let bit : bit_of_word word k ≡ true = ap (λ w. bit_of_word w k) full ∙ every_bit k (omega arith) in
    let one : get_or (all_valid (map value xs)) k None ≡ Some (get_or (map value xs) k (pos 0)) = get_or-map (λ z. Some z) (map value xs) k (pos 0) None (omega arith) in
    ap (λ ys. get_or ys k None) turned ∙ (get_or-map (option_map turn) (all_valid (map value xs)) k None None (omega (arith, length-map (map value xs) (λ z. Some z))) ∙ (ap (option_map turn) one ∙ sym (ap (λ b. option_map turn (cond b (Some (get_or (map value xs) k (pos 0))) None)) bit)))) in
    is ∙ (least_of_both (Some seed) (least_valid all) (Some seed ∷ []) all (least_alone seed) refl ∙ ap (λ ys. least_valid (Some seed ∷ ys)) same)

-- the slots of a word's items
pub slots_of_full : (t : PType) (r : ℤ) (word : ℕ) (zs new : List ℤ) (j : ℕ) → word ≡ 18446744073709551615 → length zs ≤ 64 → new ≡ map (λ z. wrap t (z -ℤ r)) zs → j < length zs → get_or new j (pos 0) ≡ minus_reference t r (cond (bit_of_word word j) (Some (get_or zs j (pos 0))) None)
slots_of_full t r word zs new j full few is h =
    let bit : bit_of_word word j ≡ true = ap (λ w. bit_of_word w j) full ∙ every_bit j (omega arith) in
    ap (λ ys. get_or ys j (pos 0)) is ∙ (get_or-map (λ z. wrap t (z -ℤ r)) zs j (pos 0) (pos 0) h ∙ sym (ap (λ b. minus_reference t r (cond b (Some (get_or zs j (pos 0))) None)) bit))
