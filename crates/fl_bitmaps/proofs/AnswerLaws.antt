-- Answers in bitmaps, by their bytes.
use Rattle.std.proofs.Common.{◌≡◌, ℕ, ◌/◌, ◌%◌, ◌<◌, List, [], ◌∷◌, Bool, false, Option, Some, None, IsTrue, length, get_or, cond, refl, ap, sym, ◌∙◌, arith}
use Rattle.std.proofs.lemmas.Simd.{zip2_of_maps}
use Rattle.std.proofs.lemmas.List.FromFn.{fill_by_all, get_or-map-range_with_len, length-map-range_with_len}
use Rattle.std.specs.List.{range_with_len}
use Rattle.fl_types.specs.Bits.{bit_of_word, tabulate}
use Rattle.fl_types.specs.Validities.{covers, is_valid_at, items_of}
use Rattle.fl_types.proofs.BitLists.{same_tables}
use Rattle.fl_column.specs.Bitmaps.{bit_in, bits_in}
use Rattle.fl_column.proofs.ItemLaws.{get_or-items_of, length-items_of}
use Rattle.fl_bitmaps.specs.Bitmaps.{validity_in}
use Rattle.fl_bitmaps.specs.Answers.{AreJoined, answers_in}
use Rattle.fl_bitmaps.specs.Operators.{IsJoin, answer_of, answers_at, known_at}
use Rattle.fl_bitmaps.proofs.BitLaws.{all_known}
use Rattle.std.proofs.lemmas.Bool.Decides.{Decides-eqb}

-- answer i of bitmaps
abbrev pub answer_at : List ℕ → List ℕ → ℕ → Option Bool
answer_at bits validity i = answer_of (answers_at bits validity (i / 8)) (i % 8)

covered : (validity : List ℕ) (n : ℕ) → IsTrue (covers (validity_in validity n) n)
covered [] n = refl
covered (byte ∷ bytes) n = (Decides-eqb _ _).1 (length-map-range_with_len (bit_in (byte ∷ bytes)) 0 n)

-- whether an answer is known, by its byte
known_here : (validity : List ℕ) (n i : ℕ) → i < n → is_valid_at (validity_in validity n) i ≡ bit_of_word (known_at validity (i / 8)) (i % 8)
unfolding bit_in
known_here [] n i h = sym (all_known (i % 8) (omega arith))
known_here (byte ∷ bytes) n i h = get_or-map-range_with_len (bit_in (byte ∷ bytes)) 0 n i i false h (omega arith)

-- the answers of bitmaps, byte by byte
pub answers_table : (n : ℕ) (bits validity : List ℕ) → answers_in n bits validity ≡ tabulate (answer_at bits validity) n
unfolding bit_in
answers_table n bits validity =
    let values = bits_in bits n in
    let long = length-map-range_with_len (bit_in bits) 0 n in
    let known = validity_in validity (length values) in
    let all : IsTrue (covers known (length values)) = covered validity (length values) in
    fill_by_all (answer_at bits validity) (items_of known values) n None (length-items_of known values all ∙ long) (λ i h.
    let within : i < length values = omega arith in
    get_or-items_of known values i false all within
    ∙ ap (λ b. cond b (Some (get_or values i false)) None) (known_here validity (length values) i within)
    ∙ ap (λ b. cond (bit_of_word (known_at validity (i / 8)) (i % 8)) (Some b) None) (get_or-map-range_with_len (bit_in bits) 0 n i i false h (omega arith)))

-- bitmaps whose bytes are joined
pub bytes_joined : (join : Option Bool → Option Bool → Option Bool) (bits validity other other_validity made made_validity : List ℕ)
    → ((k : ℕ) → k < length bits → IsJoin join (answers_at bits validity k) (answers_at other other_validity k) (answers_at made made_validity k)) → AreJoined join (bits, validity) (other, other_validity) (made, made_validity)
unfolding IsJoin
bytes_joined join bits validity other other_validity made made_validity each n few =
    answers_table n made made_validity
    ∙ same_tables (answer_at made made_validity) (λ i. join (answer_at bits validity i) (answer_at other other_validity i)) n (λ i h. each (i / 8) (omega arith) (i % 8) (omega arith))
    ∙ sym (zip2_of_maps join (answer_at bits validity) (answer_at other other_validity) (range_with_len 0 n) (answers_table n bits validity) (answers_table n other other_validity))

-- the same where no answer has a validity
pub known_joined : (join : Option Bool → Option Bool → Option Bool) (bits validity other other_validity made : List ℕ) → validity ≡ [] → other_validity ≡ []
    → ((k : ℕ) → k < length bits → IsJoin join (answers_at bits [] k) (answers_at other [] k) (answers_at made [] k)) → AreJoined join (bits, validity) (other, other_validity) (made, validity)
known_joined join bits validity other other_validity made none no_other each = rw (none, no_other) (bytes_joined join bits [] other [] made [] each)

-- and where the others have none
pub other_known_joined : (join : Option Bool → Option Bool → Option Bool) (bits validity other other_validity made made_validity : List ℕ) → other_validity ≡ []
    → ((k : ℕ) → k < length bits → IsJoin join (answers_at bits validity k) (answers_at other [] k) (answers_at made made_validity k)) → AreJoined join (bits, validity) (other, other_validity) (made, made_validity)
other_known_joined join bits validity other other_validity made made_validity no_other each = rw no_other (bytes_joined join bits validity other [] made made_validity each)
