-- A reader stops within its text.
use Rattle.std.proofs.Common.{◌≡◌, ◌+◌, ◌-◌, ◌*◌, ◌==◌, ◌≤◌, ℕ, zero, suc, List, [], ◌∷◌, length, Option, Some, None, Ok, Err, inl, inr, arith}
use Rattle.std.specs.Prelude.{Result, codes}
use Rattle.std.specs.Option.{option_map_or}
use Rattle.std.proofs.lemmas.Bool.{cases_Bool}
use Rattle.fl_encode.specs.declared.scheme.Packing.{Packing}
use Rattle.fl_encode.specs.declared.scheme.Packing.TheVariants.{BestWidth, BestWidths, Width}
use Rattle.fl_encode.specs.declared.text.reading.Head.{Head}
use Rattle.fl_encode.specs.declared.text.reading.Head.TheVariants as heads
use Rattle.fl_encode.specs.Shapes.{Delta, Dictionary, FoR, FoRChunked, Plain, RLE, Runs, Shape, max_levels}
use Rattle.fl_encode.specs.Texts.{after, child_by, digits_behind, expected, frame_in, furthest, goes_on, head_in, nested_head_in, one_by, order_in, packing_behind, rest_behind, scheme_by, scheme_in, tail_behind, three_by, two_by, whole, width_in}

-- what a reader leaves of a text is no longer than this
abbrev pub Within : {A : Type 0} → (A → List ℕ) → ℕ → Result A ℕ → Type 0
Within rest n (Ok x) = length (rest x) ≤ n
Within rest n (Err left) = left ≤ n

-- the same of what stands behind a byte or a word
abbrev pub Inside : ℕ → Option (List ℕ) → Type 0
Inside n None = Unit {0}
Inside n (Some rest) = length rest ≤ n

pub after_within : {A B : Type 0} (f : A → List ℕ) (g : B → List ℕ) (n : ℕ) (r : Result A ℕ) (next : A → Result B ℕ) → Within f n r → ((x : A) → length (f x) ≤ n → Within g n (next x)) → Within g n (after r next)
after_within f g n (Ok x) next h k = k x h
after_within f g n (Err left) next h k = h

pub option_within : {B : Type 0} (g : B → List ℕ) (n : ℕ) (o : Option (List ℕ)) (f : List ℕ → Result B ℕ) (d : Result B ℕ) → Inside n o → ((rest : List ℕ) → length rest ≤ n → Within g n (f rest)) → Within g n d → Within g n (option_map_or f o d)
option_within g n None f d h k l = l
option_within g n (Some rest) f d h k l = k rest h

tail_inside : (n byte : ℕ) (text : List ℕ) → length text ≤ n → Inside n (tail_behind byte text)
tail_inside n byte [] h = tt
tail_inside n byte (x ∷ rest) h = elim (cases_Bool (x == byte)) [
  | inl same ↦ rw same (omega arith)
  | inr other ↦ rw other tt
]

pub rest_inside : (n : ℕ) (word text : List ℕ) → length text ≤ n → Inside n (rest_behind word text)
rest_inside n [] text h = h
rest_inside n (w ∷ word) [] h = tt
rest_inside n (w ∷ word) (x ∷ text) h = elim (cases_Bool (x == w)) [
  | inl same ↦ rw same (rest_inside n word text (omega arith))
  | inr other ↦ rw other tt
]

pub digits_inside : (n number : ℕ) (text : List ℕ) → length text ≤ n → length (digits_behind number text).1 ≤ n
digits_inside n number [] h = h
digits_inside n number (x ∷ rest) h = elim (cases_Bool (goes_on number x)) [
  | inl more ↦ rw more (digits_inside n (10 * number + (x - 48)) rest (omega arith))
  | inr done ↦ rw done h
]

pub width_within : (n : ℕ) (text : List ℕ) → length text ≤ n → Within (λ (w : ℕ × List ℕ). w.1) n (width_in text)
width_within n [] h = omega arith
width_within n (x ∷ rest) h = elim (cases_Bool (goes_on 0 x)) [
  | inl more ↦ rw more (digits_inside n (x - 48) rest (omega arith))
  | inr done ↦ rw done h
]

pub packing_within : (n : ℕ) (text : List ℕ) → length text ≤ n → Within (λ (p : Packing × List ℕ). p.1) n (packing_behind text)
packing_within n text h =
    option_within (λ (p : Packing × List ℕ). p.1) n (tail_behind 58 text) (λ digits. after (width_in digits) (λ w. Ok (Width w.0, w.1))) (Ok (BestWidth, text)) (tail_inside n 58 text h)
    (λ digits k. after_within (λ (w : ℕ × List ℕ). w.1) (λ (p : Packing × List ℕ). p.1) n (width_in digits) (λ w. Ok (Width w.0, w.1)) (width_within n digits k) (λ w l. l)) h

pub expected_within : (n byte : ℕ) (text : List ℕ) → length text ≤ n → Within (λ (rest : List ℕ). rest) n (expected byte text)
expected_within n byte text h = option_within (λ (rest : List ℕ). rest) n (tail_behind byte text) (λ rest. Ok rest) (Err (length text)) (tail_inside n byte text h) (λ rest k. k) h

-- one word after another
abbrev pub rest_of_head : Head × List ℕ → List ℕ
rest_of_head h = h.1

pub word_within : (n : ℕ) (word text : List ℕ) (head : Head) (d : Result (Head × List ℕ) ℕ) → length text ≤ n → Within rest_of_head n d → Within rest_of_head n (option_map_or (λ (rest : List ℕ). Ok (head, rest)) (rest_behind word text) d)
word_within n word text head d h k = option_within rest_of_head n (rest_behind word text) (λ (rest : List ℕ). Ok (head, rest)) d (rest_inside n word text h) (λ rest l. l) k

pub order_inside : (n : ℕ) (text : List ℕ) → length text ≤ n → length (order_in text).1 ≤ n
order_inside n [] h = h
order_inside n (x ∷ rest) h = elim (cases_Bool (x == 119)) [
  | inl same ↦ rw same (omega arith)
  | inr other ↦ rw other h
]

-- the same of the word for a frame of reference
pub frame_inside : (n : ℕ) (text : List ℕ) → length text ≤ n → length (frame_in text).1 ≤ n
frame_inside n [] h = h
frame_inside n (x ∷ rest) h = elim (cases_Bool (x == 99)) [
  | inl same ↦ rw same (order_inside n rest (omega arith))
  | inr other ↦ rw other (order_inside n (x ∷ rest) h)
]

nested_within : (n : ℕ) (text : List ℕ) → length text ≤ n → Within rest_of_head n (nested_head_in text)
nested_within n text h =
    option_within rest_of_head n (rest_behind (codes "for") text) (λ rest. Ok (frame_in rest)) _ (rest_inside n (codes "for") text h) (λ rest k. frame_inside n rest k) (
    word_within n (codes "delta") text heads.Delta _ h (
    word_within n (codes "dict") text heads.Dict _ h (
    word_within n (codes "rle") text heads.RLE (Err (length text - furthest text)) h (omega arith))))

head_within : (n : ℕ) (text : List ℕ) → length text ≤ n → Within rest_of_head n (head_in text)
head_within n text h =
    word_within n (codes "primitive") text heads.Primitive _ h (
    word_within n (codes "constant") text heads.Constant _ h (
    option_within rest_of_head n (rest_behind (codes "bitpacked") text) (λ rest. after (packing_behind rest) (λ p. Ok (heads.BitPacked p.0, p.1))) _ (rest_inside n (codes "bitpacked") text h)
    (λ rest k. after_within (λ (p : Packing × List ℕ). p.1) rest_of_head n (packing_behind rest) (λ p. Ok (heads.BitPacked p.0, p.1)) (packing_within n rest k) (λ p l. l)) (
    word_within n (codes "blocked") text (heads.BitPacked BestWidths) (nested_head_in text) h (nested_within n text h))))

-- ---- schemes
abbrev pub rest_of_one : Shape × List ℕ → List ℕ
rest_of_one s = s.1

abbrev pub rest_of_two : Shape × Shape × List ℕ → List ℕ
rest_of_two s = s.2

abbrev pub rest_of_three : Shape × Shape × Shape × List ℕ → List ℕ
rest_of_three s = s.3

abbrev pub Stops : ℕ → (List ℕ → Result (Shape × List ℕ) ℕ) → Type 0
Stops n read = (text : List ℕ) → length text ≤ n → Within rest_of_one n (read text)

pub child_within : (n : ℕ) (read : List ℕ → Result (Shape × List ℕ) ℕ) → Stops n read → Stops n (child_by read)
child_within n read stops text h = option_within rest_of_one n (tail_behind 95 text) (λ rest. Ok (Plain, rest)) (read text) (tail_inside n 95 text h) (λ rest k. k) (stops text h)

pub one_within : (n : ℕ) (read : List ℕ → Result (Shape × List ℕ) ℕ) → Stops n read → Stops n (one_by read)
one_within n read stops text h =
    option_within rest_of_one n (tail_behind 40 text) _ (Ok (Plain, text)) (tail_inside n 40 text h) (λ inner k.
    after_within rest_of_one rest_of_one n (child_by read inner) _ (child_within n read stops inner k) (λ a l.
    after_within (λ (rest : List ℕ). rest) rest_of_one n (expected 41 a.1) _ (expected_within n 41 a.1 l) (λ rest m. m))) h

pub two_within : (n : ℕ) (read : List ℕ → Result (Shape × List ℕ) ℕ) → Stops n read → (text : List ℕ) → length text ≤ n → Within rest_of_two n (two_by read text)
two_within n read stops text h =
    option_within rest_of_two n (tail_behind 40 text) _ (Ok (Plain, Plain, text)) (tail_inside n 40 text h) (λ inner k.
    after_within rest_of_one rest_of_two n (child_by read inner) _ (child_within n read stops inner k) (λ a l.
    after_within (λ (rest : List ℕ). rest) rest_of_two n (expected 44 a.1) _ (expected_within n 44 a.1 l) (λ more m.
    after_within rest_of_one rest_of_two n (child_by read more) _ (child_within n read stops more m) (λ b o.
    after_within (λ (rest : List ℕ). rest) rest_of_two n (expected 41 b.1) _ (expected_within n 41 b.1 o) (λ rest p. p))))) h

pub three_within : (n : ℕ) (read : List ℕ → Result (Shape × List ℕ) ℕ) → Stops n read → (text : List ℕ) → length text ≤ n → Within rest_of_three n (three_by read text)
three_within n read stops text h =
    option_within rest_of_three n (tail_behind 40 text) _ (Ok (Plain, Plain, Plain, text)) (tail_inside n 40 text h) (λ inner k.
    after_within rest_of_one rest_of_three n (child_by read inner) _ (child_within n read stops inner k) (λ a l.
    after_within (λ (rest : List ℕ). rest) rest_of_three n (expected 44 a.1) _ (expected_within n 44 a.1 l) (λ more m.
    after_within rest_of_one rest_of_three n (child_by read more) _ (child_within n read stops more m) (λ b o.
    after_within (λ (rest : List ℕ). rest) rest_of_three n (expected 44 b.1) _ (expected_within n 44 b.1 o) (λ last p.
    after_within rest_of_one rest_of_three n (child_by read last) _ (child_within n read stops last p) (λ c q.
    after_within (λ (rest : List ℕ). rest) rest_of_three n (expected 41 c.1) _ (expected_within n 41 c.1 q) (λ rest r. r))))))) h

pub scheme_by_within : (n : ℕ) (read : List ℕ → Result (Shape × List ℕ) ℕ) (head : Head) (text : List ℕ) → Stops n read → length text ≤ n → Within rest_of_one n (scheme_by read head text)
scheme_by_within n read heads.Primitive text stops h = h
scheme_by_within n read heads.Constant text stops h = h
scheme_by_within n read (heads.BitPacked packing) text stops h = h
scheme_by_within n read (heads.FoR order) text stops h = after_within rest_of_one rest_of_one n (one_by read text) (λ a. Ok (FoR order a.0, a.1)) (one_within n read stops text h) (λ a k. k)
scheme_by_within n read (heads.FoRChunked order) text stops h = after_within rest_of_two rest_of_one n (two_by read text) (λ a. Ok (FoRChunked order a.0 a.1, a.2)) (two_within n read stops text h) (λ a k. k)
scheme_by_within n read heads.Delta text stops h = after_within rest_of_two rest_of_one n (two_by read text) (λ a. Ok (Delta a.0 a.1, a.2)) (two_within n read stops text h) (λ a k. k)
scheme_by_within n read heads.RLE text stops h = after_within rest_of_three rest_of_one n (three_by read text) (λ a. Ok (RLE Runs a.0 a.1 a.2, a.3)) (three_within n read stops text h) (λ a k. k)
scheme_by_within n read heads.Dict text stops h = after_within rest_of_three rest_of_one n (three_by read text) (λ a. Ok (RLE Dictionary a.0 a.1 a.2, a.3)) (three_within n read stops text h) (λ a k. k)

pub scheme_within : (depth n : ℕ) → Stops n (scheme_in depth)
scheme_within zero n text h = h
scheme_within (suc depth) n text h = after_within rest_of_head rest_of_one n (head_in text) (λ x. scheme_by (scheme_in depth) x.0 x.1) (head_within n text h) (λ x k. scheme_by_within n (scheme_in depth) x.0 x.1 (scheme_within depth n) k)

-- the whole text
abbrev pub nothing : Shape → List ℕ
nothing s = []

pub whole_within : (n : ℕ) (x : Shape × List ℕ) → length x.1 ≤ n → Within nothing n (whole x)
whole_within n (s, []) h = omega arith
whole_within n (s, x ∷ rest) h = h

left_within : (n left : ℕ) (r : Result Shape ℕ) → Within nothing n r → r ≡ Err left → left ≤ n
left_within n left (Ok s) h e = cc
left_within n left (Err m) h e = let same : m ≡ left = cc in omega arith

pub stops_within : (text : List ℕ) (left : ℕ) → after (scheme_in max_levels text) whole ≡ Err left → left ≤ length text
stops_within text left e =
    left_within (length text) left (after (scheme_in max_levels text) whole) (after_within rest_of_one nothing (length text) (scheme_in max_levels text) whole (scheme_within max_levels (length text) text (omega arith)) (λ x k. whole_within (length text) x k)) e
