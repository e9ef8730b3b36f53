-- What is read is what the grammar says.
use Rattle.std.proofs.Common.{◌≡◌, ◌+◌, ◌-◌, ◌*◌, ◌==◌, ◌≤◌, ◌&&◌, ◌++◌, ◌⊎◌, ℕ, zero, suc, true, false, List, [], ◌∷◌, length, Option, Some, None, Ok, Err, refl, ap, sym, subst, ◌∙◌, inl, inr, arith, append_assoc, append-nil, max, nat_le}
use Rattle.std.specs.Prelude.{Result, codes}
use Rattle.std.specs.List.{list_all}
use Rattle.std.specs.Option.{option_map_or}
use Rattle.std.proofs.lemmas.Bool.{cases_Bool}
use Rattle.std.proofs.lemmas.Bool.Decides.{nat_tests}
use Rattle.fl_column.proofs.ListLaws.{and_first, and_second, and_true}
use Rattle.fl_codec.specs.declared.for_.ItemOrder.{ItemOrder}
use Rattle.fl_encode.specs.declared.scheme.Packing.{Packing}
use Rattle.fl_encode.specs.declared.scheme.Packing.TheVariants.{BestWidth, BestWidths, Width}
use Rattle.fl_encode.specs.declared.text.reading.Head.{Head}
use Rattle.fl_encode.specs.declared.text.reading.Head.TheVariants as heads
use Rattle.fl_encode.specs.Grammar.{AreThreeChildren, AreTwoChildren, IsOneChild, IsPackingText, IsSchemeText, IsTextOf, IsWidthText, is_digit, number_of}
use Rattle.fl_encode.specs.Shapes.{BitPacked, Constant, Delta, Dictionary, FoR, FoRChunked, Plain, Primitive, RLE, RunValues, Runs, Shape, is_plain, levels, max_levels, order_text, run_word}
use Rattle.fl_encode.specs.Texts.{after, child_by, digits_behind, expected, frame_in, furthest, goes_on, head_in, one_by, order_in, packing_behind, positioned, rest_behind, scheme_by, scheme_in, scheme_of_text, tail_behind, three_by, two_by, whole, width_in}

-- ---- steps of a reader
pub after_ok : {A B : Type 0} (r : Result A ℕ) (next : A → Result B ℕ) (y : B) → after r next ≡ Ok y → (x : A) × (r ≡ Ok x) × (next x ≡ Ok y)
after_ok (Ok x) next y e = (x, refl, e)
after_ok (Err left) next y e = absurd cc

abbrev Taken : {B : Type 0} → (List ℕ → Result B ℕ) → Option (List ℕ) → Result B ℕ → B → Type 0
Taken f o d y = ((rest : List ℕ) × (o ≡ Some rest) × (f rest ≡ Ok y)) ⊎ ((o ≡ None) × (d ≡ Ok y))

option_cases : {B : Type 0} (f : List ℕ → Result B ℕ) (o : Option (List ℕ)) (d : Result B ℕ) (y : B) → option_map_or f o d ≡ Ok y → Taken f o d y
option_cases f None d y e = inr (refl, e)
option_cases f (Some rest) d y e = inl (rest, refl, e)

pub equal_bytes : (x byte : ℕ) → (x == byte) ≡ true → x ≡ byte
equal_bytes x byte e = grind (arith, nat_tests)

same_some : (more rest : List ℕ) → Some more ≡ Some rest → more ≡ rest
same_some more rest e = cc

none_some : {A : Type 0} (rest : List ℕ) → None ≡ Some rest → A
none_some rest e = absurd cc

pub same_ok : {A : Type 0} (x y : A) → (let r : Result A ℕ = Ok x in r) ≡ Ok y → x ≡ y
same_ok x y e = cc

err_ok : {A C : Type 0} (left : ℕ) (y : A) → (let r : Result A ℕ = Err left in r) ≡ Ok y → C
err_ok left y e = absurd cc

pub tail_is : (byte : ℕ) (text rest : List ℕ) → tail_behind byte text ≡ Some rest → text ≡ byte ∷ rest
tail_is byte [] rest e = none_some rest e
tail_is byte (x ∷ more) rest e = elim (cases_Bool (x == byte)) [
  | inl same ↦
      let own : more ≡ rest = same_some more rest (rw same at e) in
      rw (equal_bytes x byte same, own) refl
  | inr other ↦ none_some rest (rw other at e)
]

pub rest_is : (word text rest : List ℕ) → rest_behind word text ≡ Some rest → text ≡ word ++ rest
rest_is [] text rest e = same_some text rest e
rest_is (w ∷ word) [] rest e = none_some rest e
rest_is (w ∷ word) (x ∷ text) rest e = elim (cases_Bool (x == w)) [
  | inl same ↦
      let behind : text ≡ word ++ rest = rest_is word text rest (rw same at e) in
      rw (equal_bytes x w same, behind) refl
  | inr other ↦ none_some rest (rw other at e)
]

pub expected_is : (byte : ℕ) (text rest : List ℕ) → expected byte text ≡ Ok rest → text ≡ byte ∷ rest
expected_is byte text rest e = elim (option_cases (λ r. Ok r) (tail_behind byte text) (Err (length text)) rest e) [
  | inl found ↦ tail_is byte text found.0 found.1 ∙ ap (λ r. byte ∷ r) (same_ok found.0 rest found.2)
  | inr none ↦ err_ok (length text) rest none.1
]

-- ---- widths
abbrev Digits : ℕ → List ℕ → ℕ × List ℕ → Type 0
Digits before text x = (digits : List ℕ) × (list_all is_digit digits ≡ true) × (number_of before digits ≡ x.0) × (text ≡ digits ++ x.1) × (x.0 ≤ 255)

bounded : (n : ℕ) → nat_le n 255 ≡ true → n ≤ 255
bounded n h = grind (arith, nat_tests)

digits_said : (before : ℕ) (text : List ℕ) → before ≤ 255 → Digits before text (digits_behind before text)
digits_said before [] h = ([], refl, refl, refl, h)
digits_said before (x ∷ rest) h = elim (cases_Bool (goes_on before x)) [
  | inl more ↦
      let digit = and_first (is_digit x) (nat_le (10 * before + (x - 48)) 255) more in
      let next = digits_said (10 * before + (x - 48)) rest (bounded (10 * before + (x - 48)) (and_second (is_digit x) (nat_le (10 * before + (x - 48)) 255) more)) in
      rw more (x ∷ next.0, and_true (is_digit x) (list_all is_digit next.0) digit next.1, next.2, ap (λ (t : List ℕ). x ∷ t) next.3, next.4)
  | inr done ↦ rw done ([], refl, refl, refl, h)
]

width_said : (text : List ℕ) (x : ℕ × List ℕ) → width_in text ≡ Ok x → (digits : List ℕ) × IsWidthText x.0 digits × (text ≡ digits ++ x.1)
width_said [] x e = err_ok 0 x e
width_said (b ∷ rest) x e = elim (cases_Bool (goes_on 0 b)) [
  | inl more ↦
      let digit = and_first (is_digit b) (nat_le (10 * 0 + (b - 48)) 255) more in
      let small = bounded (10 * 0 + (b - 48)) (and_second (is_digit b) (nat_le (10 * 0 + (b - 48)) 255) more) in
      let first : 10 * 0 + (b - 48) ≡ b - 48 = omega arith in
      let next = digits_said (b - 48) rest (omega arith) in
      let same : digits_behind (b - 48) rest ≡ x = same_ok (digits_behind (b - 48) rest) x (rw more at e) in
      let own : Digits (b - 48) rest x = subst (Digits (b - 48) rest) same next in (
        b ∷ own.0,
        record {
          some = omega arith;
          digits = and_true (is_digit b) (list_all is_digit own.0) digit own.1;
          value = ap (λ (n : ℕ). number_of n own.0) first ∙ own.2;
          fits = own.4;
        },
        ap (λ (t : List ℕ). b ∷ t) own.3,
      )
  | inr done ↦ err_ok (length (b ∷ rest)) x (rw done at e)
]

-- ---- words
abbrev Packs : List ℕ → Packing × List ℕ → Type 0
Packs text x = (own : List ℕ) × IsPackingText x.0 (codes "bitpacked" ++ own) × (text ≡ own ++ x.1)

packing_said : (text : List ℕ) (x : Packing × List ℕ) → packing_behind text ≡ Ok x → Packs text x
packing_said text x e = elim (option_cases (λ digits. after (width_in digits) (λ w. Ok (Width w.0, w.1))) (tail_behind 58 text) (Ok (BestWidth, text)) x e) [
  | inl found ↦
      let read = after_ok (width_in found.0) (λ w. Ok (Width w.0, w.1)) x found.2 in
      let said = width_said found.0 read.0 read.1 in
      let here : Packs text (Width read.0.0, read.0.1) = (58 ∷ said.0, (said.0, said.1, refl), tail_is 58 text found.0 found.1 ∙ ap (λ (t : List ℕ). 58 ∷ t) said.2) in
      subst (Packs text) (same_ok (Width read.0.0, read.0.1) x read.2) here
  | inr none ↦
      let here : Packs text (BestWidth, text) = ([], refl, refl) in
      subst (Packs text) (same_ok (BestWidth, text) x none.1) here
]

abbrev pub IsHead : Head → List ℕ → Type 0
IsHead heads.Primitive word = word ≡ codes "primitive"
IsHead heads.Constant word = word ≡ codes "constant"
IsHead (heads.BitPacked packing) word = IsPackingText packing word
IsHead (heads.FoR order) word = word ≡ codes "for" ++ order_text order
IsHead (heads.FoRChunked order) word = word ≡ codes "forc" ++ order_text order
IsHead heads.Delta word = word ≡ codes "delta"
IsHead heads.RLE word = word ≡ codes "rle"
IsHead heads.Dict word = word ≡ codes "dict"

order_said : (text : List ℕ) → text ≡ order_text (order_in text).0 ++ (order_in text).1
order_said [] = refl
order_said (x ∷ rest) = elim (cases_Bool (x == 119)) [
  | inl same ↦ rw (same, equal_bytes x 119 same) refl
  | inr other ↦ rw other refl
]

abbrev Frames : List ℕ → Head × List ℕ → Type 0
Frames text x = (own : List ℕ) × IsHead x.0 (codes "for" ++ own) × (text ≡ own ++ x.1)

frame_said : (text : List ℕ) → Frames text (frame_in text)
frame_said [] = ([], refl, refl)
frame_said (x ∷ rest) = elim (cases_Bool (x == 99)) [
  | inl same ↦ rw same (99 ∷ order_text (order_in rest).0, refl, ap (λ (b : ℕ). b ∷ rest) (equal_bytes x 99 same) ∙ ap (λ (t : List ℕ). 99 ∷ t) (order_said rest))
  | inr other ↦ rw other (order_text (order_in (x ∷ rest)).0, refl, order_said (x ∷ rest))
]

abbrev pub Heads : List ℕ → Head × List ℕ → Type 0
Heads text x = (word : List ℕ) × IsHead x.0 word × (text ≡ word ++ x.1)

head_step : (head : Head) (word text : List ℕ) (d : Result (Head × List ℕ) ℕ) (x : Head × List ℕ) → IsHead head word → (d ≡ Ok x → Heads text x) → option_map_or (λ (rest : List ℕ). Ok (head, rest)) (rest_behind word text) d ≡ Ok x → Heads text x
head_step head word text d x is others e = elim (option_cases (λ (rest : List ℕ). Ok (head, rest)) (rest_behind word text) d x e) [
  | inl found ↦
      let here : Heads text (head, found.0) = (word, is, rest_is word text found.0 found.1) in
      subst (Heads text) (same_ok (head, found.0) x found.2) here
  | inr none ↦ others none.1
]

frame_step : (text : List ℕ) (d : Result (Head × List ℕ) ℕ) (x : Head × List ℕ) → (d ≡ Ok x → Heads text x) → option_map_or (λ (rest : List ℕ). Ok (frame_in rest)) (rest_behind (codes "for") text) d ≡ Ok x → Heads text x
frame_step text d x others e = elim (option_cases (λ (rest : List ℕ). Ok (frame_in rest)) (rest_behind (codes "for") text) d x e) [
  | inl found ↦
      let said = frame_said found.0 in
      let here : Heads text (frame_in found.0) = (codes "for" ++ said.0, said.1, rest_is (codes "for") text found.0 found.1 ∙ ap (λ (t : List ℕ). codes "for" ++ t) said.2) in
      subst (Heads text) (same_ok (frame_in found.0) x found.2) here
  | inr none ↦ others none.1
]

packing_step : (text : List ℕ) (d : Result (Head × List ℕ) ℕ) (x : Head × List ℕ) → (d ≡ Ok x → Heads text x) → option_map_or (λ (rest : List ℕ). after (packing_behind rest) (λ p. Ok (heads.BitPacked p.0, p.1))) (rest_behind (codes "bitpacked") text) d ≡ Ok x → Heads text x
packing_step text d x others e = elim (option_cases (λ (rest : List ℕ). after (packing_behind rest) (λ p. Ok (heads.BitPacked p.0, p.1))) (rest_behind (codes "bitpacked") text) d x e) [
  | inl found ↦
      let read = after_ok (packing_behind found.0) (λ p. Ok (heads.BitPacked p.0, p.1)) x found.2 in
      let said = packing_said found.0 read.0 read.1 in
      let here : Heads text (heads.BitPacked read.0.0, read.0.1) = (codes "bitpacked" ++ said.0, said.1, rest_is (codes "bitpacked") text found.0 found.1 ∙ ap (λ (t : List ℕ). codes "bitpacked" ++ t) said.2) in
      subst (Heads text) (same_ok (heads.BitPacked read.0.0, read.0.1) x read.2) here
  | inr none ↦ others none.1
]

pub head_said : (text : List ℕ) (x : Head × List ℕ) → head_in text ≡ Ok x → Heads text x
head_said text x e =
    head_step heads.Primitive (codes "primitive") text _ x refl (
    head_step heads.Constant (codes "constant") text _ x refl (
    packing_step text _ x (
    head_step (heads.BitPacked BestWidths) (codes "blocked") text _ x refl (
    frame_step text _ x (
    head_step heads.Delta (codes "delta") text _ x refl (
    head_step heads.Dict (codes "dict") text _ x refl (
    head_step heads.RLE (codes "rle") text (Err (length text - furthest text)) x refl (err_ok (length text - furthest text) x)))))))) e

-- ---- children
abbrev pub Reader : Type 0
Reader = List ℕ → Result (Shape × List ℕ) ℕ

-- a text says a child of at most so many levels, and what is behind it
abbrev pub Says : ℕ → List ℕ → Shape × List ℕ → Type 0
Says n text x = (own : List ℕ) × IsTextOf x.0 own × (text ≡ own ++ x.1) × (levels x.0 ≤ n)

abbrev pub Sound : ℕ → Reader → Type 0
Sound n read = (text : List ℕ) (x : Shape × List ℕ) → read text ≡ Ok x → Says n text x

pub child_said : (n : ℕ) (read : Reader) → Sound n read → Sound n (child_by read)
child_said n read sound text x e = elim (option_cases (λ (rest : List ℕ). Ok (Plain, rest)) (tail_behind 95 text) (read text) x e) [
  | inl found ↦
      let here : Says n text (Plain, found.0) = (codes "_", refl, tail_is 95 text found.0 found.1, omega arith) in
      subst (Says n text) (same_ok (Plain, found.0) x found.2) here
  | inr none ↦ sound text x none.1
]

abbrev One : ℕ → List ℕ → Shape × List ℕ → Type 0
One n text x = (own : List ℕ) × IsOneChild (is_plain x.0) (IsTextOf x.0) own × (text ≡ own ++ x.1) × (levels x.0 ≤ n)

one_said : (n : ℕ) (read : Reader) → Sound n read → (text : List ℕ) (x : Shape × List ℕ) → one_by read text ≡ Ok x → One n text x
one_said n read sound text x e = elim (option_cases (λ inner. after (child_by read inner) (λ a. after (expected 41 a.1) (λ rest. Ok (a.0, rest)))) (tail_behind 40 text) (Ok (Plain, text)) x e) [
  | inl found ↦
      let a = after_ok (child_by read found.0) (λ a. after (expected 41 a.1) (λ rest. Ok (a.0, rest))) x found.2 in
      let last = after_ok (expected 41 a.0.1) (λ rest. Ok (a.0.0, rest)) x a.2 in
      let said = child_said n read sound found.0 a.0 a.1 in
      let closed = expected_is 41 a.0.1 last.0 last.1 in
      let text_is : text ≡ (40 ∷ (said.0 ++ 41 ∷ [])) ++ last.0 = tail_is 40 text found.0 found.1 ∙ ap (λ (t : List ℕ). 40 ∷ t) (said.2 ∙ (ap (λ (t : List ℕ). said.0 ++ t) closed ∙ sym (append_assoc said.0 (41 ∷ []) last.0))) in
      let here : One n text (a.0.0, last.0) = (40 ∷ (said.0 ++ 41 ∷ []), inr (said.0, said.1, refl), text_is, said.3) in
      subst (One n text) (same_ok (a.0.0, last.0) x last.2) here
  | inr none ↦
      let here : One n text (Plain, text) = ([], inl (refl, refl), refl, omega arith) in
      subst (One n text) (same_ok (Plain, text) x none.1) here
]

pub both_low : {m k n : ℕ} → m ≤ n → k ≤ n → max m k ≤ n
both_low {m = m} {k = k} {n = n} h l = omega arith

abbrev Two : ℕ → List ℕ → Shape × Shape × List ℕ → Type 0
Two n text x = (own : List ℕ) × AreTwoChildren (is_plain x.0 && is_plain x.1) (IsTextOf x.0) (IsTextOf x.1) own × (text ≡ own ++ x.2) × (max (levels x.0) (levels x.1) ≤ n)

two_said : (n : ℕ) (read : Reader) → Sound n read → (text : List ℕ) (x : Shape × Shape × List ℕ) → two_by read text ≡ Ok x → Two n text x
two_said n read sound text x e = elim (option_cases (λ inner. after (child_by read inner) (λ a. after (expected 44 a.1) (λ more. after (child_by read more) (λ b. after (expected 41 b.1) (λ rest. Ok (a.0, b.0, rest)))))) (tail_behind 40 text) (Ok (Plain, Plain, text)) x e) [
  | inl found ↦
      let a = after_ok (child_by read found.0) (λ a. after (expected 44 a.1) (λ more. after (child_by read more) (λ b. after (expected 41 b.1) (λ rest. Ok (a.0, b.0, rest))))) x found.2 in
      let comma = after_ok (expected 44 a.0.1) (λ more. after (child_by read more) (λ b. after (expected 41 b.1) (λ rest. Ok (a.0.0, b.0, rest)))) x a.2 in
      let b = after_ok (child_by read comma.0) (λ b. after (expected 41 b.1) (λ rest. Ok (a.0.0, b.0, rest))) x comma.2 in
      let last = after_ok (expected 41 b.0.1) (λ rest. Ok (a.0.0, b.0.0, rest)) x b.2 in
      let first = child_said n read sound found.0 a.0 a.1 in
      let second = child_said n read sound comma.0 b.0 b.1 in
      let closed : comma.0 ≡ (second.0 ++ 41 ∷ []) ++ last.0 = second.2 ∙ (ap (λ (t : List ℕ). second.0 ++ t) (expected_is 41 b.0.1 last.0 last.1) ∙ sym (append_assoc second.0 (41 ∷ []) last.0)) in
      let middle : a.0.1 ≡ (44 ∷ (second.0 ++ 41 ∷ [])) ++ last.0 = expected_is 44 a.0.1 comma.0 comma.1 ∙ ap (λ (t : List ℕ). 44 ∷ t) closed in
      let text_is : text ≡ (40 ∷ (first.0 ++ 44 ∷ (second.0 ++ 41 ∷ []))) ++ last.0 =
      tail_is 40 text found.0 found.1 ∙ ap (λ (t : List ℕ). 40 ∷ t) (first.2 ∙ (ap (λ (t : List ℕ). first.0 ++ t) middle ∙ sym (append_assoc first.0 (44 ∷ (second.0 ++ 41 ∷ [])) last.0))) in
      let here : Two n text (a.0.0, b.0.0, last.0) = (40 ∷ (first.0 ++ 44 ∷ (second.0 ++ 41 ∷ [])), inr (first.0, second.0, first.1, second.1, refl), text_is, both_low first.3 second.3) in
      subst (Two n text) (same_ok (a.0.0, b.0.0, last.0) x last.2) here
  | inr none ↦
      let here : Two n text (Plain, Plain, text) = ([], inl (refl, refl), refl, omega arith) in
      subst (Two n text) (same_ok (Plain, Plain, text) x none.1) here
]

abbrev Three : ℕ → List ℕ → Shape × Shape × Shape × List ℕ → Type 0
Three n text x = (own : List ℕ) × AreThreeChildren (is_plain x.0 && (is_plain x.1 && is_plain x.2)) (IsTextOf x.0) (IsTextOf x.1) (IsTextOf x.2) own × (text ≡ own ++ x.3) × (max (levels x.0) (max (levels x.1) (levels x.2)) ≤ n)

three_said : (n : ℕ) (read : Reader) → Sound n read → (text : List ℕ) (x : Shape × Shape × Shape × List ℕ) → three_by read text ≡ Ok x → Three n text x
three_said n read sound text x e = elim (option_cases (λ inner. after (child_by read inner) (λ a. after (expected 44 a.1) (λ more. after (child_by read more) (λ b. after (expected 44 b.1) (λ last. after (child_by read last) (λ c. after (expected 41 c.1) (λ rest. Ok (a.0, b.0, c.0, rest)))))))) (tail_behind 40 text) (Ok (Plain, Plain, Plain, text)) x e) [
  | inl found ↦
      let a = after_ok (child_by read found.0) (λ a. after (expected 44 a.1) (λ more. after (child_by read more) (λ b. after (expected 44 b.1) (λ last. after (child_by read last) (λ c. after (expected 41 c.1) (λ rest. Ok (a.0, b.0, c.0, rest))))))) x found.2 in
      let comma = after_ok (expected 44 a.0.1) (λ more. after (child_by read more) (λ b. after (expected 44 b.1) (λ last. after (child_by read last) (λ c. after (expected 41 c.1) (λ rest. Ok (a.0.0, b.0, c.0, rest)))))) x a.2 in
      let b = after_ok (child_by read comma.0) (λ b. after (expected 44 b.1) (λ last. after (child_by read last) (λ c. after (expected 41 c.1) (λ rest. Ok (a.0.0, b.0, c.0, rest))))) x comma.2 in
      let next = after_ok (expected 44 b.0.1) (λ last. after (child_by read last) (λ c. after (expected 41 c.1) (λ rest. Ok (a.0.0, b.0.0, c.0, rest)))) x b.2 in
      let c = after_ok (child_by read next.0) (λ c. after (expected 41 c.1) (λ rest. Ok (a.0.0, b.0.0, c.0, rest))) x next.2 in
      let last = after_ok (expected 41 c.0.1) (λ rest. Ok (a.0.0, b.0.0, c.0.0, rest)) x c.2 in
      let first = child_said n read sound found.0 a.0 a.1 in
      let second = child_said n read sound comma.0 b.0 b.1 in
      let third = child_said n read sound next.0 c.0 c.1 in
      let closed : next.0 ≡ (third.0 ++ 41 ∷ []) ++ last.0 = third.2 ∙ (ap (λ (t : List ℕ). third.0 ++ t) (expected_is 41 c.0.1 last.0 last.1) ∙ sym (append_assoc third.0 (41 ∷ []) last.0)) in
      let inner : b.0.1 ≡ (44 ∷ (third.0 ++ 41 ∷ [])) ++ last.0 = expected_is 44 b.0.1 next.0 next.1 ∙ ap (λ (t : List ℕ). 44 ∷ t) closed in
      let behind : comma.0 ≡ (second.0 ++ 44 ∷ (third.0 ++ 41 ∷ [])) ++ last.0 = second.2 ∙ (ap (λ (t : List ℕ). second.0 ++ t) inner ∙ sym (append_assoc second.0 (44 ∷ (third.0 ++ 41 ∷ [])) last.0)) in
      let middle : a.0.1 ≡ (44 ∷ (second.0 ++ 44 ∷ (third.0 ++ 41 ∷ []))) ++ last.0 = expected_is 44 a.0.1 comma.0 comma.1 ∙ ap (λ (t : List ℕ). 44 ∷ t) behind in
      let text_is : text ≡ (40 ∷ (first.0 ++ 44 ∷ (second.0 ++ 44 ∷ (third.0 ++ 41 ∷ [])))) ++ last.0 =
      tail_is 40 text found.0 found.1 ∙ ap (λ (t : List ℕ). 40 ∷ t) (first.2 ∙ (ap (λ (t : List ℕ). first.0 ++ t) middle ∙ sym (append_assoc first.0 (44 ∷ (second.0 ++ 44 ∷ (third.0 ++ 41 ∷ []))) last.0))) in
      let here : Three n text (a.0.0, b.0.0, c.0.0, last.0) = (40 ∷ (first.0 ++ 44 ∷ (second.0 ++ 44 ∷ (third.0 ++ 41 ∷ []))), inr (first.0, second.0, third.0, first.1, second.1, third.1, refl), text_is, both_low first.3 (both_low second.3 third.3)) in
      subst (Three n text) (same_ok (a.0.0, b.0.0, c.0.0, last.0) x last.2) here
  | inr none ↦
      let here : Three n text (Plain, Plain, Plain, text) = ([], inl (refl, refl), refl, omega arith) in
      subst (Three n text) (same_ok (Plain, Plain, Plain, text) x none.1) here
]

-- ---- schemes
abbrev pub SaysScheme : ℕ → List ℕ → Shape × List ℕ → Type 0
SaysScheme n text x = (own : List ℕ) × IsTextOf x.0 own × (text ≡ own ++ x.1) × (is_plain x.0 ≡ false) × (levels x.0 ≤ n)

pub above : {m n : ℕ} → m ≤ n → m + 1 ≤ suc n
above {m = m} {n = n} h = omega arith

-- a word for a frame of reference, which an order ends, with what comes after it
ordered : (word : List ℕ) (order : ItemOrder) (own rest : List ℕ) → (word ++ order_text order) ++ (own ++ rest) ≡ (word ++ (order_text order ++ own)) ++ rest
ordered word order own rest = sym (append_assoc (word ++ order_text order) own rest) ∙ ap (λ (t : List ℕ). t ++ rest) (append_assoc word (order_text order) own)

runs_said : (n : ℕ) (read : Reader) → Sound n read → (run_values : RunValues) (word text : List ℕ) (x : Shape × List ℕ) → word ≡ run_word run_values → after (three_by read text) (λ a. Ok (RLE run_values a.0 a.1 a.2, a.3)) ≡ Ok x → SaysScheme (suc n) (word ++ text) x
runs_said n read sound run_values word text x is e =
    let r = after_ok (three_by read text) (λ a. Ok (RLE run_values a.0 a.1 a.2, a.3)) x e in
    let said = three_said n read sound text r.0 r.1 in
    let word_is = run_word run_values in
    let here : SaysScheme (suc n) (word_is ++ text) (RLE run_values r.0.0 r.0.1 r.0.2, r.0.3) =
    (word_is ++ said.0, (said.0, said.1, refl), ap (λ (t : List ℕ). word_is ++ t) said.2 ∙ sym (append_assoc word_is said.0 r.0.3), refl, above said.3) in
    subst (λ (t : List ℕ). SaysScheme (suc n) (t ++ text) x) (sym is) (subst (SaysScheme (suc n) (word_is ++ text)) (same_ok (RLE run_values r.0.0 r.0.1 r.0.2, r.0.3) x r.2) here)

scheme_by_said : (n : ℕ) (read : Reader) → Sound n read → (head : Head) (word text : List ℕ) (x : Shape × List ℕ) → IsHead head word → scheme_by read head text ≡ Ok x → SaysScheme (suc n) (word ++ text) x
scheme_by_said n read sound heads.Primitive word text x is e =
    let here : SaysScheme (suc n) (word ++ text) (Primitive, text) = (word, is, refl, refl, omega arith) in
    subst (SaysScheme (suc n) (word ++ text)) (same_ok (Primitive, text) x e) here
scheme_by_said n read sound heads.Constant word text x is e =
    let here : SaysScheme (suc n) (word ++ text) (Constant, text) = (word, is, refl, refl, omega arith) in
    subst (SaysScheme (suc n) (word ++ text)) (same_ok (Constant, text) x e) here
scheme_by_said n read sound (heads.BitPacked packing) word text x is e =
    let here : SaysScheme (suc n) (word ++ text) (BitPacked packing, text) = (word, is, refl, refl, omega arith) in
    subst (SaysScheme (suc n) (word ++ text)) (same_ok (BitPacked packing, text) x e) here
scheme_by_said n read sound (heads.FoR order) word text x is e =
    let r = after_ok (one_by read text) (λ a. Ok (FoR order a.0, a.1)) x e in
    let said = one_said n read sound text r.0 r.1 in
    let word_is = codes "for" ++ order_text order in
    let here : SaysScheme (suc n) (word_is ++ text) (FoR order r.0.0, r.0.1) = (codes "for" ++ (order_text order ++ said.0), (said.0, said.1, refl), ap (λ (t : List ℕ). word_is ++ t) said.2 ∙ ordered (codes "for") order said.0 r.0.1, refl, above said.3) in
    subst (λ (t : List ℕ). SaysScheme (suc n) (t ++ text) x) (sym is) (subst (SaysScheme (suc n) (word_is ++ text)) (same_ok (FoR order r.0.0, r.0.1) x r.2) here)
scheme_by_said n read sound (heads.FoRChunked order) word text x is e =
    let r = after_ok (two_by read text) (λ a. Ok (FoRChunked order a.0 a.1, a.2)) x e in
    let said = two_said n read sound text r.0 r.1 in
    let word_is = codes "forc" ++ order_text order in
    let here : SaysScheme (suc n) (word_is ++ text) (FoRChunked order r.0.0 r.0.1, r.0.2) = (codes "forc" ++ (order_text order ++ said.0), (said.0, said.1, refl), ap (λ (t : List ℕ). word_is ++ t) said.2 ∙ ordered (codes "forc") order said.0 r.0.2, refl, above said.3) in
    subst (λ (t : List ℕ). SaysScheme (suc n) (t ++ text) x) (sym is) (subst (SaysScheme (suc n) (word_is ++ text)) (same_ok (FoRChunked order r.0.0 r.0.1, r.0.2) x r.2) here)
scheme_by_said n read sound heads.Delta word text x is e =
    let r = after_ok (two_by read text) (λ a. Ok (Delta a.0 a.1, a.2)) x e in
    let said = two_said n read sound text r.0 r.1 in
    let here : SaysScheme (suc n) (codes "delta" ++ text) (Delta r.0.0 r.0.1, r.0.2) = (codes "delta" ++ said.0, (said.0, said.1, refl), ap (λ (t : List ℕ). codes "delta" ++ t) said.2, refl, above said.3) in
    subst (λ (t : List ℕ). SaysScheme (suc n) (t ++ text) x) (sym is) (subst (SaysScheme (suc n) (codes "delta" ++ text)) (same_ok (Delta r.0.0 r.0.1, r.0.2) x r.2) here)
scheme_by_said n read sound heads.RLE word text x is e = runs_said n read sound Runs word text x is e
scheme_by_said n read sound heads.Dict word text x is e = runs_said n read sound Dictionary word text x is e

pub forget : (n : ℕ) (text : List ℕ) (x : Shape × List ℕ) → SaysScheme n text x → Says n text x
forget n text x said = (said.0, said.1, said.2, said.4)

pub scheme_said : (depth : ℕ) (text : List ℕ) (x : Shape × List ℕ) → scheme_in depth text ≡ Ok x → SaysScheme depth text x
scheme_said zero text x e = err_ok (length text) x e
scheme_said (suc depth) text x e =
    let read = after_ok (head_in text) (λ h. scheme_by (scheme_in depth) h.0 h.1) x e in
    let head = head_said text read.0 read.1 in
    let sound : Sound depth (scheme_in depth) = λ t y h. forget depth t y (scheme_said depth t y h) in
    subst (λ (t : List ℕ). SaysScheme (suc depth) t x) (sym head.2) (scheme_by_said depth (scheme_in depth) sound read.0.0 head.0 read.0.1 x head.1 read.2)

-- ---- whole texts
whole_is : (x : Shape × List ℕ) (s : Shape) → whole x ≡ Ok s → x ≡ (s, [])
whole_is (t, []) s e = ap (λ (u : Shape). (u, [])) (same_ok t s e)
whole_is (t, b ∷ rest) s e = err_ok (length (b ∷ rest)) s e

position_ok : (n : ℕ) (r : Result Shape ℕ) (s : Shape) → positioned n r ≡ Ok s → r ≡ Ok s
position_ok n (Ok t) s e = e
position_ok n (Err left) s e = err_ok (n - left) s e

-- what is read is a text of the scheme
pub read_by_grammar : (text : List ℕ) (s : Shape) → scheme_of_text text ≡ Ok s → IsSchemeText s text
read_by_grammar text s e =
    let read = after_ok (scheme_in max_levels text) whole s (position_ok (length text) (after (scheme_in max_levels text) whole) s e) in
    let said = subst (SaysScheme max_levels text) (whole_is read.0 s read.2) (scheme_said max_levels text read.0 read.1) in
    (subst (IsTextOf s) (sym (said.2 ∙ append-nil said.0)) said.1, said.3, said.4)
