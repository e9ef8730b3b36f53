-- What is read before a wrong byte begins the text of some scheme.
use Rattle.std.proofs.Common.{◌≡◌, ◌+◌, ◌-◌, ◌==◌, ◌≤◌, ◌&&◌, ◌++◌, ◌⊎◌, ℕ, zero, suc, false, List, [], ◌∷◌, length, take, Option, Some, None, Ok, Err, refl, ap, sym, subst, ◌∙◌, inl, inr, arith, append_assoc, append-nil, length-append, max}
use Rattle.std.specs.Prelude.{Result, codes}
use Rattle.std.specs.Option.{option_map_or}
use Rattle.std.proofs.lemmas.Bool.{cases_Bool, cases_lt}
use Rattle.std.proofs.lemmas.List.{take-append-le, take_all}
use Rattle.fl_codec.specs.declared.for_.ItemOrder.TheVariants.{Signed}
use Rattle.fl_encode.specs.declared.scheme.Packing.TheVariants.{BestWidth, BestWidths, Width}
use Rattle.fl_encode.specs.declared.text.reading.Head.{Head}
use Rattle.fl_encode.specs.declared.text.reading.Head.TheVariants as heads
use Rattle.fl_encode.specs.Grammar.{AreThreeChildren, AreTwoChildren, BeginsScheme, IsOneChild, IsTextOf, IsWidthText}
use Rattle.fl_encode.specs.Shapes.{BitPacked, Constant, Delta, Dictionary, FoR, FoRChunked, Plain, Primitive, RLE, RunValues, Runs, Shape, is_plain, levels, max_levels, order_text, run_word}
use Rattle.fl_encode.specs.Texts.{after, child_by, common, expected, frame_in, furthest, goes_on, head_in, one_by, packing_behind, positioned, rest_behind, scheme_by, scheme_in, scheme_of_text, tail_behind, three_by, two_by, whole, width_in}
use Rattle.fl_encode.proofs.GrammarLaws.{IsHead, Reader, Sound, above, both_low, child_said, equal_bytes, expected_is, forget, head_said, rest_is, scheme_said, tail_is}

-- ---- steps of a reader
ok_err : {A C : Type 0} (x : A) (left : ℕ) → (let r : Result A ℕ = Ok x in r) ≡ Err left → C
ok_err x left e = absurd cc

same_err : {A : Type 0} (left other : ℕ) → (let r : Result A ℕ = Err left in r) ≡ Err other → left ≡ other
same_err left other e = cc

abbrev Fails : {A B : Type 0} → Result A ℕ → (A → Result B ℕ) → ℕ → Type 0
Fails {A = A} r next left = (r ≡ Err left) ⊎ ((x : A) × (r ≡ Ok x) × (next x ≡ Err left))

after_err : {A B : Type 0} (r : Result A ℕ) (next : A → Result B ℕ) (left : ℕ) → after r next ≡ Err left → Fails r next left
after_err (Ok x) next left e = inr (x, refl, e)
after_err (Err other) next left e = inl (ap (λ (n : ℕ). Err n) (same_err other left e))

abbrev FailsBehind : {B : Type 0} → (List ℕ → Result B ℕ) → Option (List ℕ) → Result B ℕ → ℕ → Type 0
FailsBehind f o d left = ((rest : List ℕ) × (o ≡ Some rest) × (f rest ≡ Err left)) ⊎ (d ≡ Err left)

option_err : {B : Type 0} (f : List ℕ → Result B ℕ) (o : Option (List ℕ)) (d : Result B ℕ) (left : ℕ) → option_map_or f o d ≡ Err left → FailsBehind f o d left
option_err f None d left e = inr e
option_err f (Some rest) d left e = inl (rest, refl, e)

-- ---- texts that are cut
-- so much is left of a text of which the rest, with more behind it, is one of these
abbrev Cut : (List ℕ → Type 0) → List ℕ → ℕ → Type 0
Cut P text left = (done : List ℕ) × (more : List ℕ) × (rest : List ℕ) × (text ≡ done ++ rest) × (length rest ≡ left) × P (done ++ more)

cut_behind : (P Q : List ℕ → Type 0) (front tail text inner : List ℕ) (left : ℕ) → text ≡ front ++ inner → ((own : List ℕ) → P own → Q (front ++ (own ++ tail))) → Cut P inner left → Cut Q text left
cut_behind P Q front tail text inner left e to (done, more, rest, is, size, holds) =
    let joined : front ++ ((done ++ more) ++ tail) ≡ (front ++ done) ++ (more ++ tail) = ap (λ (t : List ℕ). front ++ t) (append_assoc done more tail) ∙ sym (append_assoc front done (more ++ tail)) in (
      front ++ done,
      more ++ tail,
      rest,
      e ∙ (ap (λ (t : List ℕ). front ++ t) is ∙ sym (append_assoc front done rest)),
      size,
      subst Q joined (to (done ++ more) holds),
    )

expected_left : (byte : ℕ) (text : List ℕ) (left : ℕ) → expected byte text ≡ Err left → length text ≡ left
expected_left byte text left e = elim (option_err (λ r. Ok r) (tail_behind byte text) (Err (length text)) left e) [
  | inl (rest, is, missing) ↦ ok_err rest left missing
  | inr missing ↦ same_err (length text) left missing
]

-- with at most so many levels
abbrev SomeScheme : ℕ → List ℕ → Type 0
SomeScheme n own = (s : Shape) × IsTextOf s own × (is_plain s ≡ false) × (levels s ≤ n)

abbrev SomeChild : ℕ → List ℕ → Type 0
SomeChild n own = (s : Shape) × IsTextOf s own × (levels s ≤ n)

abbrev Cuts : ℕ → Reader → Type 0
Cuts n read = (text : List ℕ) (left : ℕ) → read text ≡ Err left → Cut (SomeChild n) text left

-- ---- words
-- a text and a word, as far as they are alike
alike_part : (word text : List ℕ) → (done : List ℕ) × (more : List ℕ) × (rest : List ℕ) × (text ≡ done ++ rest) × (length done ≡ common word text) × (word ≡ done ++ more)
alike_part [] text = ([], [], text, refl, refl, refl)
alike_part (w ∷ word) [] = ([], w ∷ word, [], refl, refl, refl)
alike_part (w ∷ word) (x ∷ text) = elim (cases_Bool (x == w)) [
  | inl same ↦
      let behind = alike_part word text in
      let byte = equal_bytes x w same in
      rw same (
        w ∷ behind.0,
        behind.1,
        behind.2,
        ap (λ (b : ℕ). b ∷ text) byte ∙ ap (λ (t : List ℕ). w ∷ t) behind.3,
        (let size = behind.4 in omega arith),
        ap (λ (t : List ℕ). w ∷ t) behind.5,
      )
  | inr other ↦ rw other ([], w ∷ word, x ∷ text, refl, refl, refl)
]

-- a text begins as a word does, as far as they are alike
word_cut : (n : ℕ) (s : Shape) (word text : List ℕ) → IsTextOf s word → is_plain s ≡ false → levels s ≤ n → (done : List ℕ) × (more : List ℕ) × (rest : List ℕ) × (text ≡ done ++ rest) × (length done ≡ common word text) × SomeScheme n (done ++ more)
word_cut n s word text is p low =
    let alike = alike_part word text in
    (alike.0, alike.1, alike.2, alike.3, alike.4, (s, subst (IsTextOf s) alike.5 is, p, low))

abbrev Begun : ℕ → List ℕ → ℕ → Type 0
Begun high text n = (done : List ℕ) × (more : List ℕ) × (rest : List ℕ) × (text ≡ done ++ rest) × (length done ≡ n) × SomeScheme high (done ++ more)

larger : (high : ℕ) (text : List ℕ) (m n : ℕ) → Begun high text m → Begun high text n → Begun high text (max m n)
larger high text m n h k = elim (cases_lt m n) [
  | inl less ↦ let same : n ≡ max m n = omega arith in subst (Begun high text) same k
  | inr more ↦ let same : m ≡ max m n = omega arith in subst (Begun high text) same h
]

furthest_cut : (n : ℕ) (text : List ℕ) → Begun (suc n) text (furthest text)
furthest_cut n text =
    larger (suc n) text _ _
    (larger (suc n) text _ _ (larger (suc n) text _ _ (word_cut (suc n) Primitive (codes "primitive") text refl refl (omega arith)) (word_cut (suc n) Constant (codes "constant") text refl refl (omega arith)))
    (larger (suc n) text _ _ (word_cut (suc n) (BitPacked BestWidth) (codes "bitpacked") text refl refl (omega arith)) (word_cut (suc n) (BitPacked BestWidths) (codes "blocked") text refl refl (omega arith))))
    (larger (suc n) text _ _
    (larger (suc n) text _ _ (word_cut (suc n) (FoRChunked Signed Plain Plain) (codes "forcw") text ([], inl (refl, refl), refl) refl (omega arith)) (word_cut (suc n) (FoR Signed Plain) (codes "forw") text ([], inl (refl, refl), refl) refl (omega arith)))
    (larger (suc n) text _ _
    (larger (suc n) text _ _ (word_cut (suc n) (Delta Plain Plain) (codes "delta") text ([], inl (refl, refl), refl) refl (omega arith)) (word_cut (suc n) (RLE Dictionary Plain Plain Plain) (codes "dict") text ([], inl (refl, refl), refl) refl (omega arith)))
    (word_cut (suc n) (RLE Runs Plain Plain Plain) (codes "rle") text ([], inl (refl, refl), refl) refl (omega arith))))

from_begun : (high : ℕ) (text : List ℕ) (n left : ℕ) → Begun high text n → length text - n ≡ left → Cut (SomeScheme high) text left
from_begun high text n left (done, more, rest, is, size, holds) e =
    let long : length text ≡ length done + length rest = ap length is ∙ length-append done rest in
    (done, more, rest, is, omega arith, holds)

width_left : (text : List ℕ) (left : ℕ) → width_in text ≡ Err left → length text ≡ left
width_left [] left e = same_err 0 left e
width_left (x ∷ rest) left e = elim (cases_Bool (goes_on 0 x)) [
  | inl more ↦ ok_err _ left (rw more at e)
  | inr done ↦ same_err (length (x ∷ rest)) left (rw done at e)
]

-- a colon without a width
packing_cut : (n : ℕ) (text rest : List ℕ) (left : ℕ) → text ≡ codes "bitpacked" ++ rest → packing_behind rest ≡ Err left → Cut (SomeScheme (suc n)) text left
packing_cut n text rest left is e = elim (option_err (λ digits. after (width_in digits) (λ w. Ok (Width w.0, w.1))) (tail_behind 58 rest) (Ok (BestWidth, rest)) left e) [
  | inl (digits, colon, missing) ↦ elim (after_err (width_in digits) (λ w. Ok (Width w.0, w.1)) left missing) [
    | inl fails ↦
        let zero_width : IsWidthText 0 (codes "0") = record { some = omega arith; digits = refl; value = refl; fits = omega arith } in (
          codes "bitpacked:",
          codes "0",
          digits,
          is ∙ ap (λ (t : List ℕ). codes "bitpacked" ++ t) (tail_is 58 rest digits colon),
          width_left digits left fails,
          (BitPacked (Width 0), (codes "0", zero_width, refl), refl, omega arith),
        )
    | inr (w, read, fine) ↦ ok_err _ left fine
  ]
  | inr fine ↦ ok_err _ left fine
]

words_cut : (n : ℕ) (text : List ℕ) (left : ℕ) (head : Head) (word : List ℕ) (d : Result (Head × List ℕ) ℕ) → (d ≡ Err left → Cut (SomeScheme (suc n)) text left) → option_map_or (λ (rest : List ℕ). Ok (head, rest)) (rest_behind word text) d ≡ Err left → Cut (SomeScheme (suc n)) text left
words_cut n text left head word d others e = elim (option_err (λ (rest : List ℕ). Ok (head, rest)) (rest_behind word text) d left e) [
  | inl (rest, is, fine) ↦ ok_err (head, rest) left fine
  | inr missing ↦ others missing
]

frames_cut : (n : ℕ) (text : List ℕ) (left : ℕ) (d : Result (Head × List ℕ) ℕ) → (d ≡ Err left → Cut (SomeScheme (suc n)) text left) → option_map_or (λ (rest : List ℕ). Ok (frame_in rest)) (rest_behind (codes "for") text) d ≡ Err left → Cut (SomeScheme (suc n)) text left
frames_cut n text left d others e = elim (option_err (λ (rest : List ℕ). Ok (frame_in rest)) (rest_behind (codes "for") text) d left e) [
  | inl (rest, is, fine) ↦ ok_err (frame_in rest) left fine
  | inr missing ↦ others missing
]

packed_cut : (n : ℕ) (text : List ℕ) (left : ℕ) (d : Result (Head × List ℕ) ℕ) → (d ≡ Err left → Cut (SomeScheme (suc n)) text left) → option_map_or (λ (rest : List ℕ). after (packing_behind rest) (λ p. Ok (heads.BitPacked p.0, p.1))) (rest_behind (codes "bitpacked") text) d ≡ Err left → Cut (SomeScheme (suc n)) text left
packed_cut n text left d others e = elim (option_err (λ (rest : List ℕ). after (packing_behind rest) (λ p. Ok (heads.BitPacked p.0, p.1))) (rest_behind (codes "bitpacked") text) d left e) [
  | inl (rest, is, fails) ↦ elim (after_err (packing_behind rest) (λ p. Ok (heads.BitPacked p.0, p.1)) left fails) [
    | inl missing ↦ packing_cut n text rest left (rest_is (codes "bitpacked") text rest is) missing
    | inr (p, read, fine) ↦ ok_err (heads.BitPacked p.0, p.1) left fine
  ]
  | inr missing ↦ others missing
]

head_cut : (n : ℕ) (text : List ℕ) (left : ℕ) → head_in text ≡ Err left → Cut (SomeScheme (suc n)) text left
head_cut n text left e =
    words_cut n text left heads.Primitive (codes "primitive") _ (words_cut n text left heads.Constant (codes "constant") _ (packed_cut n text left _ (words_cut n text left (heads.BitPacked BestWidths) (codes "blocked") _ (frames_cut n text left _ (words_cut n text left heads.Delta (codes "delta") _ (words_cut n text left heads.Dict (codes "dict") _ (words_cut n text left heads.RLE (codes "rle") (Err (length text - furthest text))
    (λ missing. from_begun (suc n) text (furthest text) left (furthest_cut n text) (same_err (length text - furthest text) left missing))))))))) e

-- ---- children
abbrev SomeOne : ℕ → List ℕ → Type 0
SomeOne n own = (s : Shape) × IsOneChild (is_plain s) (IsTextOf s) own × (levels s ≤ n)

abbrev SomeTwo : ℕ → List ℕ → Type 0
SomeTwo n own = (s : Shape) × (t : Shape) × AreTwoChildren (is_plain s && is_plain t) (IsTextOf s) (IsTextOf t) own × (max (levels s) (levels t) ≤ n)

abbrev SomeThree : ℕ → List ℕ → Type 0
SomeThree n own = (s : Shape) × (t : Shape) × (u : Shape) × AreThreeChildren (is_plain s && (is_plain t && is_plain u)) (IsTextOf s) (IsTextOf t) (IsTextOf u) own × (max (levels s) (max (levels t) (levels u)) ≤ n)

child_cut : (n : ℕ) (read : Reader) → Cuts n read → (text : List ℕ) (left : ℕ) → child_by read text ≡ Err left → Cut (SomeChild n) text left
child_cut n read cuts text left e = elim (option_err (λ (rest : List ℕ). Ok (Plain, rest)) (tail_behind 95 text) (read text) left e) [
  | inl (rest, is, fine) ↦ ok_err (Plain, rest) left fine
  | inr missing ↦ cuts text left missing
]

-- a child, and what comes behind it
step_child : {B : Type 0} (n : ℕ) (read : Reader) → Sound n read → Cuts n read → (P : List ℕ → Type 0) (front tail text inner : List ℕ) (next : Shape × List ℕ → Result B ℕ) (left : ℕ) → text ≡ front ++ inner → ((own : List ℕ) → SomeChild n own → P (front ++ (own ++ tail)))
    → ((a : Shape × List ℕ) (own : List ℕ) → IsTextOf a.0 own → levels a.0 ≤ n → text ≡ (front ++ own) ++ a.1 → next a ≡ Err left → Cut P text left) → after (child_by read inner) next ≡ Err left → Cut P text left
step_child n read sound cuts P front tail text inner next left is holds behind e = elim (after_err (child_by read inner) next left e) [
  | inl missing ↦ cut_behind (SomeChild n) P front tail text inner left is holds (child_cut n read cuts inner left missing)
  | inr (a, fine, later) ↦
      let said = child_said n read sound inner a fine in
      behind a said.0 said.1 said.3 (is ∙ (ap (λ (t : List ℕ). front ++ t) said.2 ∙ sym (append_assoc front said.0 a.1))) later
]

-- a byte that has to come, and what comes behind it
step_byte : {B : Type 0} (P : List ℕ → Type 0) (byte : ℕ) (front more text inner : List ℕ) (next : List ℕ → Result B ℕ) (left : ℕ) → text ≡ front ++ inner → P (front ++ more)
    → ((rest : List ℕ) → text ≡ (front ++ byte ∷ []) ++ rest → next rest ≡ Err left → Cut P text left) → after (expected byte inner) next ≡ Err left → Cut P text left
step_byte P byte front more text inner next left is holds behind e = elim (after_err (expected byte inner) next left e) [
  | inl missing ↦ (front, more, inner, is, expected_left byte inner left missing, holds)
  | inr (rest, fine, later) ↦ behind rest (is ∙ (ap (λ (t : List ℕ). front ++ t) (expected_is byte inner rest fine) ∙ sym (append_assoc front (byte ∷ []) rest))) later
]

one_cut : (n : ℕ) (read : Reader) → Sound n read → Cuts n read → (text : List ℕ) (left : ℕ) → one_by read text ≡ Err left → Cut (SomeOne n) text left
one_cut n read sound cuts text left e = elim (option_err (λ inner. after (child_by read inner) (λ a. after (expected 41 a.1) (λ rest. Ok (a.0, rest)))) (tail_behind 40 text) (Ok (Plain, text)) left e) [
  | inl (inner, opened, fails) ↦
      step_child n read sound cuts (SomeOne n) (40 ∷ []) (41 ∷ []) text inner _ left (tail_is 40 text inner opened) (λ own some. (some.0, inr (own, some.1, refl), some.2))
      (λ a own is low so_far later. step_byte (SomeOne n) 41 (40 ∷ own) (41 ∷ []) text a.1 _ left so_far (a.0, inr (own, is, refl), low) (λ rest end fine. ok_err (a.0, rest) left fine) later) fails
  | inr fine ↦ ok_err (Plain, text) left fine
]

two_text : (first second : List ℕ) → ((40 ∷ first) ++ 44 ∷ []) ++ (second ++ 41 ∷ []) ≡ 40 ∷ (first ++ 44 ∷ (second ++ 41 ∷ []))
two_text first second = ap (λ (t : List ℕ). 40 ∷ t) (append_assoc first (44 ∷ []) (second ++ 41 ∷ []))

-- with the second child plain, or the second and the third
with_plain : {m n : ℕ} → m ≤ n → max m 0 ≤ n
with_plain {m = m} {n = n} h = omega arith

with_plain_third : {m k n : ℕ} → m ≤ n → k ≤ n → max m (max k 0) ≤ n
with_plain_third {m = m} {k = k} {n = n} h l = omega arith

two_cut : (n : ℕ) (read : Reader) → Sound n read → Cuts n read → (text : List ℕ) (left : ℕ) → two_by read text ≡ Err left → Cut (SomeTwo n) text left
two_cut n read sound cuts text left e = elim (option_err (λ inner. after (child_by read inner) (λ a. after (expected 44 a.1) (λ more. after (child_by read more) (λ b. after (expected 41 b.1) (λ rest. Ok (a.0, b.0, rest)))))) (tail_behind 40 text) (Ok (Plain, Plain, text)) left e) [
  | inl (inner, opened, fails) ↦
      step_child n read sound cuts (SomeTwo n) (40 ∷ []) (44 ∷ 95 ∷ 41 ∷ []) text inner _ left (tail_is 40 text inner opened) (λ own some. (some.0, Plain, inr (own, codes "_", some.1, refl, refl), with_plain some.2))
      (λ a first isa lowa so_far later. step_byte (SomeTwo n) 44 (40 ∷ first) (44 ∷ 95 ∷ 41 ∷ []) text a.1 _ left so_far (a.0, Plain, inr (first, codes "_", isa, refl, refl), with_plain lowa)
      (λ more comma next. step_child n read sound cuts (SomeTwo n) ((40 ∷ first) ++ 44 ∷ []) (41 ∷ []) text more _ left comma (λ own some. (a.0, some.0, inr (first, own, isa, some.1, two_text first own), both_low lowa some.2))
      (λ b second isb lowb behind end. step_byte (SomeTwo n) 41 (((40 ∷ first) ++ 44 ∷ []) ++ second) (41 ∷ []) text b.1 _ left behind
      (a.0, b.0, inr (first, second, isa, isb, append_assoc ((40 ∷ first) ++ 44 ∷ []) second (41 ∷ []) ∙ two_text first second), both_low lowa lowb) (λ rest closed fine. ok_err (a.0, b.0, rest) left fine) end) next) later) fails
  | inr fine ↦ ok_err (Plain, Plain, text) left fine
]

three_text : (first second third : List ℕ) → ((((40 ∷ first) ++ 44 ∷ []) ++ second) ++ 44 ∷ []) ++ (third ++ 41 ∷ []) ≡ 40 ∷ (first ++ 44 ∷ (second ++ 44 ∷ (third ++ 41 ∷ [])))
three_text first second third =
    append_assoc (((40 ∷ first) ++ 44 ∷ []) ++ second) (44 ∷ []) (third ++ 41 ∷ []) ∙ (append_assoc ((40 ∷ first) ++ 44 ∷ []) second (44 ∷ (third ++ 41 ∷ []))
    ∙ ap (λ (t : List ℕ). 40 ∷ t) (append_assoc first (44 ∷ []) (second ++ 44 ∷ (third ++ 41 ∷ []))))

-- with the third child plain
plain_third : (first second : List ℕ) → ((40 ∷ first) ++ 44 ∷ []) ++ (second ++ 44 ∷ 95 ∷ 41 ∷ []) ≡ 40 ∷ (first ++ 44 ∷ (second ++ 44 ∷ 95 ∷ 41 ∷ []))
plain_third first second = ap (λ (t : List ℕ). 40 ∷ t) (append_assoc first (44 ∷ []) (second ++ 44 ∷ 95 ∷ 41 ∷ []))

three_cut : (n : ℕ) (read : Reader) → Sound n read → Cuts n read → (text : List ℕ) (left : ℕ) → three_by read text ≡ Err left → Cut (SomeThree n) text left
three_cut n read sound cuts text left e = elim (option_err (λ inner. after (child_by read inner) (λ a. after (expected 44 a.1) (λ more. after (child_by read more) (λ b. after (expected 44 b.1) (λ last. after (child_by read last) (λ c. after (expected 41 c.1) (λ rest. Ok (a.0, b.0, c.0, rest)))))))) (tail_behind 40 text) (Ok (Plain, Plain, Plain, text)) left e) [
  | inl (inner, opened, fails) ↦
      step_child n read sound cuts (SomeThree n) (40 ∷ []) (44 ∷ 95 ∷ 44 ∷ 95 ∷ 41 ∷ []) text inner _ left (tail_is 40 text inner opened) (λ own some. (some.0, Plain, Plain, inr (own, codes "_", codes "_", some.1, refl, refl, refl), with_plain some.2))
      (λ a first isa lowa so_far later. step_byte (SomeThree n) 44 (40 ∷ first) (44 ∷ 95 ∷ 44 ∷ 95 ∷ 41 ∷ []) text a.1 _ left so_far (a.0, Plain, Plain, inr (first, codes "_", codes "_", isa, refl, refl, refl), with_plain lowa)
      (λ more comma next. step_child n read sound cuts (SomeThree n) ((40 ∷ first) ++ 44 ∷ []) (44 ∷ 95 ∷ 41 ∷ []) text more _ left comma (λ own some. (a.0, some.0, Plain, inr (first, own, codes "_", isa, some.1, refl, plain_third first own), with_plain_third lowa some.2))
      (λ b second isb lowb behind third_part. step_byte (SomeThree n) 44 (((40 ∷ first) ++ 44 ∷ []) ++ second) (44 ∷ 95 ∷ 41 ∷ []) text b.1 _ left behind
      (a.0, b.0, Plain, inr (first, second, codes "_", isa, isb, refl, append_assoc ((40 ∷ first) ++ 44 ∷ []) second (44 ∷ 95 ∷ 41 ∷ []) ∙ plain_third first second), with_plain_third lowa lowb)
      (λ last second_comma rest_of_it. step_child n read sound cuts (SomeThree n) ((((40 ∷ first) ++ 44 ∷ []) ++ second) ++ 44 ∷ []) (41 ∷ []) text last _ left second_comma (λ own some. (a.0, b.0, some.0, inr (first, second, own, isa, isb, some.1, three_text first second own), both_low lowa (both_low lowb some.2)))
      (λ c third isc lowc at_end end. step_byte (SomeThree n) 41 (((((40 ∷ first) ++ 44 ∷ []) ++ second) ++ 44 ∷ []) ++ third) (41 ∷ []) text c.1 _ left at_end
      (a.0, b.0, c.0, inr (first, second, third, isa, isb, isc, append_assoc ((((40 ∷ first) ++ 44 ∷ []) ++ second) ++ 44 ∷ []) third (41 ∷ []) ∙ three_text first second third), both_low lowa (both_low lowb lowc)) (λ rest closed fine. ok_err (a.0, b.0, c.0, rest) left fine) end) rest_of_it) third_part) next) later) fails
  | inr fine ↦ ok_err (Plain, Plain, Plain, text) left fine
]

-- ---- schemes
-- the same of a text with a word before it
cut_word : (n : ℕ) (P : List ℕ → Type 0) (word text : List ℕ) (left : ℕ) → ((own : List ℕ) → P own → SomeScheme n (word ++ own)) → Cut P text left → Cut (SomeScheme n) (word ++ text) left
cut_word n P word text left to cut = cut_behind P (SomeScheme n) word [] (word ++ text) text left refl (λ own holds. subst (λ (t : List ℕ). SomeScheme n (word ++ t)) (sym (append-nil own)) (to own holds)) cut

-- a call that fails where another one does
only_first : {A B : Type 0} (r : Result A ℕ) (f : A → B) (left : ℕ) → after r (λ x. Ok (f x)) ≡ Err left → r ≡ Err left
only_first (Ok x) f left e = ok_err (f x) left e
only_first (Err other) f left e = ap (λ (n : ℕ). Err n) (same_err other left e)

runs_cut : (n : ℕ) (read : Reader) → Sound n read → Cuts n read → (run_values : RunValues) (word text : List ℕ) (left : ℕ) → word ≡ run_word run_values → after {B = Shape × List ℕ} (three_by read text) (λ a. Ok (RLE run_values a.0 a.1 a.2, a.3)) ≡ Err left → Cut (SomeScheme (suc n)) (word ++ text) left
runs_cut n read sound cuts run_values word text left is e =
    let cut = cut_word (suc n) (SomeThree n) (run_word run_values) text left (λ own some. (RLE run_values some.0 some.1 some.2, (own, some.3, refl), refl, above some.4)) (three_cut n read sound cuts text left (only_first (three_by read text) (λ a. (RLE run_values a.0 a.1 a.2, a.3)) left e)) in
    subst (λ (t : List ℕ). Cut (SomeScheme (suc n)) (t ++ text) left) (sym is) cut

scheme_by_cut : (n : ℕ) (read : Reader) → Sound n read → Cuts n read → (head : Head) (word text : List ℕ) (left : ℕ) → IsHead head word → scheme_by read head text ≡ Err left → Cut (SomeScheme (suc n)) (word ++ text) left
scheme_by_cut n read sound cuts heads.Primitive word text left is e = ok_err (Primitive, text) left e
scheme_by_cut n read sound cuts heads.Constant word text left is e = ok_err (Constant, text) left e
scheme_by_cut n read sound cuts (heads.BitPacked packing) word text left is e = ok_err (BitPacked packing, text) left e
scheme_by_cut n read sound cuts (heads.FoR order) word text left is e =
    let cut = cut_word (suc n) (SomeOne n) (codes "for" ++ order_text order) text left (λ own some. (FoR order some.0, (own, some.1, append_assoc (codes "for") (order_text order) own), refl, above some.2)) (one_cut n read sound cuts text left (only_first (one_by read text) (λ a. (FoR order a.0, a.1)) left e)) in
    subst (λ (t : List ℕ). Cut (SomeScheme (suc n)) (t ++ text) left) (sym is) cut
scheme_by_cut n read sound cuts (heads.FoRChunked order) word text left is e =
    let cut = cut_word (suc n) (SomeTwo n) (codes "forc" ++ order_text order) text left (λ own some. (FoRChunked order some.0 some.1, (own, some.2, append_assoc (codes "forc") (order_text order) own), refl, above some.3)) (two_cut n read sound cuts text left (only_first (two_by read text) (λ a. (FoRChunked order a.0 a.1, a.2)) left e)) in
    subst (λ (t : List ℕ). Cut (SomeScheme (suc n)) (t ++ text) left) (sym is) cut
scheme_by_cut n read sound cuts heads.Delta word text left is e =
    let cut = cut_word (suc n) (SomeTwo n) (codes "delta") text left (λ own some. (Delta some.0 some.1, (own, some.2, refl), refl, above some.3)) (two_cut n read sound cuts text left (only_first (two_by read text) (λ a. (Delta a.0 a.1, a.2)) left e)) in
    subst (λ (t : List ℕ). Cut (SomeScheme (suc n)) (t ++ text) left) (sym is) cut
scheme_by_cut n read sound cuts heads.RLE word text left is e = runs_cut n read sound cuts Runs word text left is e
scheme_by_cut n read sound cuts heads.Dict word text left is e = runs_cut n read sound cuts Dictionary word text left is e

-- the same of a scheme, whose children are read so
level_cut : (n : ℕ) → Cuts n (scheme_in n) → (text : List ℕ) (left : ℕ) → scheme_in (suc n) text ≡ Err left → Cut (SomeScheme (suc n)) text left
level_cut n cuts text left e = elim (after_err (head_in text) (λ h. scheme_by (scheme_in n) h.0 h.1) left e) [
  | inl missing ↦ head_cut n text left missing
  | inr (h, fine, later) ↦
      let head = head_said text h fine in
      let sound : Sound n (scheme_in n) = λ t y k. forget n t y (scheme_said n t y k) in
      subst (λ (t : List ℕ). Cut (SomeScheme (suc n)) t left) (sym head.2) (scheme_by_cut n (scheme_in n) sound cuts h.0 head.0 h.1 left head.1 later)
]

as_child : (n : ℕ) (text : List ℕ) (left : ℕ) → Cut (SomeScheme n) text left → Cut (SomeChild n) text left
as_child n text left (done, more, rest, is, size, some) = (done, more, rest, is, size, (some.0, some.1, some.3))

-- where no level is left a child may be plain
scheme_cut : (n : ℕ) → Cuts n (scheme_in n)
scheme_cut zero text left e = ([], codes "_", text, refl, same_err (length text) left e, (Plain, refl, omega arith))
scheme_cut (suc n) text left e = as_child (suc n) text left (level_cut n (scheme_cut n) text left e)

-- ---- whole texts
whole_left : (x : Shape × List ℕ) (left : ℕ) → whole x ≡ Err left → length x.1 ≡ left
whole_left (s, []) left e = ok_err s left e
whole_left (s, b ∷ rest) left e = same_err (length (b ∷ rest)) left e

whole_cut : (n : ℕ) (text : List ℕ) (left : ℕ) → after (scheme_in (suc n) text) whole ≡ Err left → Cut (SomeScheme (suc n)) text left
whole_cut n text left e = elim (after_err (scheme_in (suc n) text) whole left e) [
  | inl missing ↦ level_cut n (scheme_cut n) text left missing
  | inr (x, fine, later) ↦
      let said = scheme_said (suc n) text x fine in
      (said.0, [], x.1, said.2, whole_left x left later, (x.0, subst (IsTextOf x.0) (sym (append-nil said.0)) said.1, said.3, said.4))
]

begins : (text : List ℕ) (left position : ℕ) → Cut (SomeScheme max_levels) text left → length text - left ≡ position → BeginsScheme (take position text)
begins text left position (done, more, rest, is, size, some) e =
    let long : length text ≡ length done + length rest = ap length is ∙ length-append done rest in
    let at : position ≡ length done = omega arith in
    let front : take position text ≡ done = ap (λ (n : ℕ). take n text) at ∙ (ap (take (length done)) is ∙ (take-append-le (length done) done rest (omega arith) ∙ take_all (length done) done (omega arith))) in
    (some.0, more, (subst (λ (t : List ℕ). IsTextOf some.0 (t ++ more)) (sym front) some.1, some.2, some.3))

at_position : (text : List ℕ) (position : ℕ) (r : Result Shape ℕ) → ((left : ℕ) → r ≡ Err left → Cut (SomeScheme max_levels) text left) → positioned (length text) r ≡ Err position → BeginsScheme (take position text)
at_position text position (Ok s) cuts e = ok_err s position e
at_position text position (Err left) cuts e = begins text left position (cuts left refl) (same_err (length text - left) position e)

-- the bytes before a wrong one begin the text of some scheme
pub begins_before : (text : List ℕ) (position : ℕ) → scheme_of_text text ≡ Err position → BeginsScheme (take position text)
begins_before text position e = at_position text position (after (scheme_in max_levels text) whole) (whole_cut 13 text) e
