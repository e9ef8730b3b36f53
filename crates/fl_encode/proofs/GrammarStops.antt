-- A reader reads each byte that a scheme's text begins with, whatever comes after it.
use Rattle.std.proofs.Common.{◌≡◌, ◌+◌, ◌-◌, ◌*◌, ◌==◌, ◌<◌, ◌≤◌, ◌&&◌, ◌||◌, ◌++◌, ◌⊎◌, ℕ, zero, suc, true, false, List, [], ◌∷◌, length, take, drop, None, Ok, Err, refl, ap, sym, subst, ◌∙◌, inl, inr, arith, append_assoc, eq-eqb, length-append, max}
use Rattle.std.specs.Prelude.{Result, codes}
use Rattle.std.specs.List.{list_all}
use Rattle.std.proofs.lemmas.Bool.{cases_Bool}
use Rattle.std.proofs.lemmas.List.{length-take-le, take-append-drop}
use Rattle.fl_column.proofs.ListLaws.{and_first, and_second}
use Rattle.fl_codec.specs.declared.for_.ItemOrder.{ItemOrder}
use Rattle.fl_codec.specs.declared.for_.ItemOrder.TheVariants.{Natural, Signed}
use Rattle.fl_encode.specs.declared.scheme.Packing.{Packing}
use Rattle.fl_encode.specs.declared.scheme.Packing.TheVariants.{BestWidth, BestWidths, Width}
use Rattle.fl_encode.specs.declared.scheme.Scheme.{Scheme}
use Rattle.fl_encode.specs.declared.text.SchemeError.{SchemeError}
use Rattle.fl_encode.specs.declared.text.SchemeError.TheVariants as errors
use Rattle.fl_encode.specs.declared.text.reading.Head.TheVariants as heads
use Rattle.fl_encode.specs.Grammar.{AreThreeChildren, AreTwoChildren, BeginsScheme, FollowsGrammar, IsFirstWrong, IsOneChild, IsTextOf, IsWidthText, is_digit, number_of}
use Rattle.fl_encode.specs.Shapes.{BitPacked, Constant, Delta, Dictionary, FoR, FoRChunked, Plain, Primitive, RLE, RunValues, Runs, Shape, is_plain, levels, max_levels, order_text, run_word}
use Rattle.fl_encode.specs.SchemeShapes.{shape}
use Rattle.fl_encode.specs.Texts.{IsParsed, after, child_by, common, digits_behind, expected, frame_in, furthest, head_in, nested_head_in, one_by, packing_behind, positioned, rest_behind, scheme_by, scheme_in, scheme_of_text, three_by, two_by, whole, width_in}
use Rattle.fl_encode.proofs.GrammarCuts.{begins_before}
use Rattle.fl_encode.proofs.GrammarLaws.{Reader, read_by_grammar}
use Rattle.fl_encode.proofs.GrammarReads.{Opens, child_read, from_low, grammar_is_read, grows, no_underscore, one_opens, read_any, to_high, two_opens}
use Rattle.fl_encode.proofs.TextBounds.{Inside, Within, after_within, child_within, digits_inside, expected_within, frame_inside, nothing, one_within, option_within, order_inside, packing_within, rest_inside, rest_of_head, rest_of_one, rest_of_three, rest_of_two, scheme_by_within, scheme_within, three_within, two_within, whole_within, width_within}
use Rattle.fl_encode.proofs.TextLaws.{follows, goes, runs_read}

-- ---- two ways to cut a text
abbrev Cut : List ℕ → List ℕ → List ℕ → List ℕ → Type 0
Cut a c own tail = ((d : List ℕ) × (own ≡ a ++ d)) ⊎ ((x : ℕ) × (b : List ℕ) × (a ≡ own ++ x ∷ b) × (tail ≡ x ∷ (b ++ c)))

same_byte : (x y : ℕ) (s t : List ℕ) → x ∷ s ≡ y ∷ t → x ≡ y
same_byte x y s t e = cc

same_tail : (x y : ℕ) (s t : List ℕ) → x ∷ s ≡ y ∷ t → s ≡ t
same_tail x y s t e = cc

no_bytes : {A : Type 0} (x : ℕ) (s : List ℕ) → x ∷ s ≡ [] → A
no_bytes x s e = absurd cc

cut_further : (x w : ℕ) (a c own tail : List ℕ) → x ≡ w → Cut a c own tail → Cut (x ∷ a) c (w ∷ own) tail
cut_further x w a c own tail same (inl (d, is)) = inl (d, rw (same, is) refl)
cut_further x w a c own tail same (inr (y, b, is, rest)) = inr (y, b, rw (same, is) refl, rest)

cut_at : (a c own tail : List ℕ) → a ++ c ≡ own ++ tail → Cut a c own tail
cut_at [] c own tail e = inl (own, refl)
cut_at (x ∷ a) c [] tail e = inr (x, a, refl, sym e)
cut_at (x ∷ a) c (w ∷ own) tail e = cut_further x w a c own tail (same_byte x w (a ++ c) (own ++ tail) e) (cut_at a c own tail (same_tail x w (a ++ c) (own ++ tail) e))

-- ---- words
-- a word that another one does not begin with is not read through the other one's first bytes alone
other_inside : (v a c y : List ℕ) → rest_behind v (a ++ c) ≡ None → Inside (length y) (rest_behind v (a ++ y))
other_inside [] a c y none = absurd cc
other_inside (k ∷ v) [] c y none = rest_inside (length y) (k ∷ v) y (omega arith)
other_inside (k ∷ v) (x ∷ a) c y none = elim (cases_Bool (x == k)) [
  | inl same ↦ rw same (other_inside v a c y (rw same at none))
  | inr other ↦ rw other tt
]

same_eqb : (x : ℕ) → (x == x) ≡ true
same_eqb x = eq-eqb x x refl

own_inside : (a c y : List ℕ) → Inside (length y) (rest_behind (a ++ c) (a ++ y))
own_inside [] c y = rest_inside (length y) c y (omega arith)
own_inside (x ∷ a) c y = rw (same_eqb x) (own_inside a c y)

alike : (a c y : List ℕ) → length a ≤ common (a ++ c) (a ++ y)
alike [] c y = omega arith
alike (x ∷ a) c y = rw (same_eqb x) (let more = alike a c y in omega arith)

abbrev Apart : List ℕ → List ℕ → Type 0
Apart v w = (rest_behind v w ≡ None) ⊎ (v ≡ w)

inside : (v w a c y : List ℕ) → Apart v w → w ≡ a ++ c → Inside (length y) (rest_behind v (a ++ y))
inside v w a c y (inl none) e = other_inside v a c y (ap (rest_behind v) (sym e) ∙ none)
inside v w a c y (inr same) e = subst (λ (t : List ℕ). Inside (length y) (rest_behind t (a ++ y))) (sym (same ∙ e)) (own_inside a c y)

-- the words of which none begins another one
record AreApart (w : List ℕ) : Type 0 where
  primitive : Apart (codes "primitive") w
  constant : Apart (codes "constant") w
  bitpacked : Apart (codes "bitpacked") w
  blocked : Apart (codes "blocked") w
  frame : Apart (codes "for") w
  delta : Apart (codes "delta") w
  dict : Apart (codes "dict") w
  rle : Apart (codes "rle") w

word_cut : (w farthest a c d y : List ℕ) → AreApart w → w ≡ a ++ c → farthest ≡ a ++ d → common farthest (a ++ y) ≤ furthest (a ++ y) → Within rest_of_head (length y) (head_in (a ++ y))
word_cut w farthest a c d y apart e f most =
    let n = length y in
    let text = a ++ y in
    let size : length (a ++ y) ≡ length a + length y = length-append a y in
    let reached : length a ≤ common farthest (a ++ y) = subst (λ (t : List ℕ). length a ≤ common t (a ++ y)) (sym f) (alike a d y) in
    let last : Within rest_of_head n (Err (length text - furthest text)) = omega arith in
    option_within rest_of_head n (rest_behind (codes "primitive") text) (λ rest. Ok (heads.Primitive, rest)) _ (inside (codes "primitive") w a c y apart.primitive e) (λ rest k. k) (
    option_within rest_of_head n (rest_behind (codes "constant") text) (λ rest. Ok (heads.Constant, rest)) _ (inside (codes "constant") w a c y apart.constant e) (λ rest k. k) (
    option_within rest_of_head n (rest_behind (codes "bitpacked") text) (λ rest. after (packing_behind rest) (λ p. Ok (heads.BitPacked p.0, p.1))) _ (inside (codes "bitpacked") w a c y apart.bitpacked e)
    (λ rest k. after_within (λ (p : Packing × List ℕ). p.1) rest_of_head n (packing_behind rest) (λ p. Ok (heads.BitPacked p.0, p.1)) (packing_within n rest k) (λ p l. l)) (
    option_within rest_of_head n (rest_behind (codes "blocked") text) (λ rest. Ok (heads.BitPacked BestWidths, rest)) (nested_head_in text) (inside (codes "blocked") w a c y apart.blocked e) (λ rest k. k) (
    option_within rest_of_head n (rest_behind (codes "for") text) (λ rest. Ok (frame_in rest)) _ (inside (codes "for") w a c y apart.frame e) (λ rest k. frame_inside n rest k) (
    option_within rest_of_head n (rest_behind (codes "delta") text) (λ rest. Ok (heads.Delta, rest)) _ (inside (codes "delta") w a c y apart.delta e) (λ rest k. k) (
    option_within rest_of_head n (rest_behind (codes "dict") text) (λ rest. Ok (heads.Dict, rest)) _ (inside (codes "dict") w a c y apart.dict e) (λ rest k. k) (
    option_within rest_of_head n (rest_behind (codes "rle") text) (λ rest. Ok (heads.RLE, rest)) (Err (length text - furthest text)) (inside (codes "rle") w a c y apart.rle e) (λ rest k. k) last)))))))

left_of : (k m n : ℕ) → k ≤ m → k ≤ max m n
left_of k m n h = omega arith

right_of : (k m n : ℕ) → k ≤ n → k ≤ max m n
right_of k m n h = omega arith

itself : (k : ℕ) → k ≤ k
itself k = omega arith

apart_from : (w : List ℕ) → Apart (codes "primitive") w → Apart (codes "constant") w → Apart (codes "bitpacked") w → Apart (codes "blocked") w → Apart (codes "for") w → Apart (codes "delta") w → Apart (codes "dict") w → Apart (codes "rle") w → AreApart w
apart_from w p c b l f d i r = record { primitive = p; constant = c; bitpacked = b; blocked = l; frame = f; delta = d; dict = i; rle = r }

primitive_cut : (a c y : List ℕ) → codes "primitive" ≡ a ++ c → Within rest_of_head (length y) (head_in (a ++ y))
primitive_cut a c y e =
    word_cut (codes "primitive") (codes "primitive") a c c y (apart_from (codes "primitive") (inr refl) (inl refl) (inl refl) (inl refl) (inl refl) (inl refl) (inl refl) (inl refl)) e e (left_of _ _ _ (left_of _ _ _ (left_of _ _ _ (itself _))))

constant_cut : (a c y : List ℕ) → codes "constant" ≡ a ++ c → Within rest_of_head (length y) (head_in (a ++ y))
constant_cut a c y e =
    word_cut (codes "constant") (codes "constant") a c c y (apart_from (codes "constant") (inl refl) (inr refl) (inl refl) (inl refl) (inl refl) (inl refl) (inl refl) (inl refl)) e e (left_of _ _ _ (left_of _ _ _ (right_of _ _ _ (itself _))))

bitpacked_cut : (a c y : List ℕ) → codes "bitpacked" ≡ a ++ c → Within rest_of_head (length y) (head_in (a ++ y))
bitpacked_cut a c y e =
    word_cut (codes "bitpacked") (codes "bitpacked") a c c y (apart_from (codes "bitpacked") (inl refl) (inl refl) (inr refl) (inl refl) (inl refl) (inl refl) (inl refl) (inl refl)) e e (left_of _ _ _ (right_of _ _ _ (left_of _ _ _ (itself _))))

blocked_cut : (a c y : List ℕ) → codes "blocked" ≡ a ++ c → Within rest_of_head (length y) (head_in (a ++ y))
blocked_cut a c y e =
    word_cut (codes "blocked") (codes "blocked") a c c y (apart_from (codes "blocked") (inl refl) (inl refl) (inl refl) (inr refl) (inl refl) (inl refl) (inl refl) (inl refl)) e e (left_of _ _ _ (right_of _ _ _ (right_of _ _ _ (itself _))))

frame_cut : (a c y : List ℕ) → codes "for" ≡ a ++ c → Within rest_of_head (length y) (head_in (a ++ y))
frame_cut a c y e =
    let longer : codes "forcw" ≡ a ++ (c ++ codes "cw") = ap (λ (t : List ℕ). t ++ codes "cw") e ∙ append_assoc a c (codes "cw") in
    word_cut (codes "for") (codes "forcw") a c (c ++ codes "cw") y (apart_from (codes "for") (inl refl) (inl refl) (inl refl) (inl refl) (inr refl) (inl refl) (inl refl) (inl refl)) e longer (right_of _ _ _ (left_of _ _ _ (left_of _ _ _ (itself _))))

delta_cut : (a c y : List ℕ) → codes "delta" ≡ a ++ c → Within rest_of_head (length y) (head_in (a ++ y))
delta_cut a c y e =
    word_cut (codes "delta") (codes "delta") a c c y (apart_from (codes "delta") (inl refl) (inl refl) (inl refl) (inl refl) (inl refl) (inr refl) (inl refl) (inl refl)) e e (right_of _ _ _ (right_of _ _ _ (left_of _ _ _ (left_of _ _ _ (itself _)))))

dict_cut : (a c y : List ℕ) → codes "dict" ≡ a ++ c → Within rest_of_head (length y) (head_in (a ++ y))
dict_cut a c y e =
    word_cut (codes "dict") (codes "dict") a c c y (apart_from (codes "dict") (inl refl) (inl refl) (inl refl) (inl refl) (inl refl) (inl refl) (inr refl) (inl refl)) e e (right_of _ _ _ (right_of _ _ _ (left_of _ _ _ (right_of _ _ _ (itself _)))))

rle_cut : (a c y : List ℕ) → codes "rle" ≡ a ++ c → Within rest_of_head (length y) (head_in (a ++ y))
rle_cut a c y e =
    word_cut (codes "rle") (codes "rle") a c c y (apart_from (codes "rle") (inl refl) (inl refl) (inl refl) (inl refl) (inl refl) (inl refl) (inl refl) (inr refl)) e e (right_of _ _ _ (right_of _ _ _ (right_of _ _ _ (itself _))))

run_word_cut : (run_values : RunValues) (a c y : List ℕ) → run_word run_values ≡ a ++ c → Within rest_of_head (length y) (head_in (a ++ y))
run_word_cut Runs a c y e = rle_cut a c y e
run_word_cut Dictionary a c y e = dict_cut a c y e

-- a width
digits_cut : (before : ℕ) (b c y : List ℕ) → list_all is_digit (b ++ c) ≡ true → number_of before (b ++ c) ≤ 255 → length (digits_behind before (b ++ y)).1 ≤ length y
digits_cut before [] c y all fits = digits_inside (length y) before y (itself (length y))
digits_cut before (x ∷ b) c y all fits =
    let digit = and_first (is_digit x) (list_all is_digit (b ++ c)) all in
    let more = grows (10 * before + (x - 48)) (b ++ c) in
    rw (goes before x (from_low x digit) (to_high x digit) (omega arith)) (digits_cut (10 * before + (x - 48)) b c y (and_second (is_digit x) (list_all is_digit (b ++ c)) all) fits)

width_cut : (w : ℕ) (digits b c y : List ℕ) → IsWidthText w digits → digits ≡ b ++ c → Within (λ (p : ℕ × List ℕ). p.1) (length y) (width_in (b ++ y))
width_cut w digits [] c y is e = width_within (length y) y (itself (length y))
width_cut w digits (x ∷ b) c y is e =
    let all : list_all is_digit (x ∷ (b ++ c)) ≡ true = ap (list_all is_digit) (sym e) ∙ is.digits in
    let value : number_of 0 (x ∷ (b ++ c)) ≡ w = ap (number_of 0) (sym e) ∙ is.value in
    let digit = and_first (is_digit x) (list_all is_digit (b ++ c)) all in
    let first : 10 * 0 + (x - 48) ≡ x - 48 = omega arith in
    let later : number_of (x - 48) (b ++ c) ≡ w = ap (λ (n : ℕ). number_of n (b ++ c)) (sym first) ∙ value in
    let fits : number_of (x - 48) (b ++ c) ≤ 255 = omega (arith, later, is.fits) in
    let more = grows (x - 48) (b ++ c) in
    rw (goes 0 x (from_low x digit) (to_high x digit) (omega arith)) (digits_cut (x - 48) b c y (and_second (is_digit x) (list_all is_digit (b ++ c)) all) fits)

colon_cut : (y t : List ℕ) → Within (λ (p : ℕ × List ℕ). p.1) (length y) (width_in t) → Within rest_of_head (length y) (head_in (codes "bitpacked:" ++ t))
colon_cut y t h =
    after_within (λ (p : Packing × List ℕ). p.1) rest_of_head (length y) (after (width_in t) (λ w. Ok (Width w.0, w.1))) (λ p. Ok (heads.BitPacked p.0, p.1))
    (after_within (λ (p : ℕ × List ℕ). p.1) (λ (p : Packing × List ℕ). p.1) (length y) (width_in t) (λ w. Ok (Width w.0, w.1)) h (λ w k. k)) (λ p k. k)

-- a word for a frame of reference
chunked_inside : (y : List ℕ) → length (frame_in (99 ∷ y)).1 ≤ length y
chunked_inside y = order_inside (length y) y (itself (length y))

-- what comes after a head
headed : (n : ℕ) (y text : List ℕ) → Within rest_of_head (length y) (head_in text) → Within rest_of_one (length y) (scheme_in (suc n) text)
headed n y text h = after_within rest_of_head rest_of_one (length y) (head_in text) (λ x. scheme_by (scheme_in n) x.0 x.1) h (λ x k. scheme_by_within (length y) (scheme_in n) x.0 x.1 (scheme_within n (length y)) k)

-- ---- children
-- a child's text that is cut is read, and a whole one is read as it is
abbrev Cuts : Shape → ℕ → List ℕ → Type 0
Cuts s n y = (own a c : List ℕ) → IsTextOf s own → own ≡ a ++ c → levels s ≤ n → Within rest_of_one (length y) (child_by (scheme_in n) (a ++ y))

abbrev Back : Shape → ℕ → Type 0
Back s n = (own more : List ℕ) → IsTextOf s own → levels s ≤ n → follows more ≡ true → child_by (scheme_in n) (own ++ more) ≡ Ok (s, more)

back : (s : Shape) (n : ℕ) → Back s n
back s n own more is low f = child_read s (scheme_in n) own more is (λ p. read_any s n more own is p low f)

-- a child with a comma or a parenthesis after it, and what comes then
child_step : {B : Type 0} (g : B → List ℕ) (s : Shape) (n byte : ℕ) (own tail a c y : List ℕ) (next : Shape × List ℕ → Result B ℕ) → IsTextOf s own → own ++ byte ∷ tail ≡ a ++ c → (byte == 44 || byte == 41) ≡ true → levels s ≤ n → Cuts s n y
    → ((x : Shape × List ℕ) → length x.1 ≤ length y → Within g (length y) (next x)) → ((b : List ℕ) → tail ≡ b ++ c → Within g (length y) (next (s, byte ∷ (b ++ y))))
    → Within g (length y) (after (child_by (scheme_in n) (a ++ y)) next)
child_step g s n byte own tail a c y next is e closes low cuts later on = elim (cut_at a c own (byte ∷ tail) (sym e)) [
  | inl (d, part) ↦ after_within rest_of_one g (length y) (child_by (scheme_in n) (a ++ y)) next (cuts own a d is part low) later
  | inr (x, b, all, rest) ↦
      let same : x ≡ byte = sym (same_byte byte x tail (b ++ c) rest) in
      let joined : a ++ y ≡ own ++ byte ∷ (b ++ y) = ap (λ (t : List ℕ). t ++ y) all ∙ (append_assoc own (x ∷ b) y ∙ ap (λ (k : ℕ). own ++ k ∷ (b ++ y)) same) in
      let read : child_by (scheme_in n) (a ++ y) ≡ Ok (s, byte ∷ (b ++ y)) = ap (child_by (scheme_in n)) joined ∙ back s n own (byte ∷ (b ++ y)) is low closes in
      rw read (on b (same_tail byte x tail (b ++ c) rest))
]

ended : (b c y : List ℕ) → [] ≡ b ++ c → length (b ++ y) ≤ length y
ended [] c y e = itself (length y)
ended (x ∷ b) c y e = no_bytes x (b ++ c) (sym e)

-- children begun with a parenthesis
opened : (x : ℕ) (b c own inner : List ℕ) → own ≡ x ∷ (b ++ c) → own ≡ 40 ∷ inner → (x ≡ 40) × (inner ≡ b ++ c)
opened x b c own inner e is = (same_byte x 40 (b ++ c) inner (sym e ∙ is), same_tail 40 x inner (b ++ c) (sym is ∙ e))

one_within_cut : (s : Shape) (n : ℕ) (own b c y : List ℕ) → IsOneChild (is_plain s) (IsTextOf s) own → own ≡ b ++ c → levels s ≤ n → Cuts s n y → Within rest_of_one (length y) (one_by (scheme_in n) (b ++ y))
one_within_cut s n own [] c y is e low cuts = one_within (length y) (scheme_in n) (scheme_within n (length y)) y (itself (length y))
one_within_cut s n own (x ∷ b) c y (inl (plain, none)) e low cuts = no_bytes x (b ++ c) (sym e ∙ none)
one_within_cut s n own (x ∷ b) c y (inr (child, is, text)) e low cuts =
    let begun = opened x b c own (child ++ 41 ∷ []) e text in
    subst (λ (k : ℕ). Within rest_of_one (length y) (one_by (scheme_in n) (k ∷ (b ++ y)))) (sym begun.0)
    (child_step rest_of_one s n 41 child [] b c y (λ a. after (expected 41 a.1) (λ rest. Ok (a.0, rest))) is begun.1 refl low cuts
    (λ a l. after_within (λ (rest : List ℕ). rest) rest_of_one (length y) (expected 41 a.1) _ (expected_within (length y) 41 a.1 l) (λ rest m. m))
    (λ d t. ended d c y t))

two_within_cut : (s t : Shape) (n : ℕ) (own b c y : List ℕ) → AreTwoChildren (is_plain s && is_plain t) (IsTextOf s) (IsTextOf t) own → own ≡ b ++ c → max (levels s) (levels t) ≤ n → Cuts s n y → Cuts t n y → Within rest_of_two (length y) (two_by (scheme_in n) (b ++ y))
two_within_cut s t n own [] c y is e low cuts cutt = two_within (length y) (scheme_in n) (scheme_within n (length y)) y (itself (length y))
two_within_cut s t n own (x ∷ b) c y (inl (plain, none)) e low cuts cutt = no_bytes x (b ++ c) (sym e ∙ none)
two_within_cut s t n own (x ∷ b) c y (inr (first, second, iss, ist, text)) e low cuts cutt =
    let read = scheme_in n in
    let len = length y in
    let stops = scheme_within n len in
    let begun = opened x b c own (first ++ 44 ∷ (second ++ 41 ∷ [])) e text in
    subst (λ (k : ℕ). Within rest_of_two (length y) (two_by (scheme_in n) (k ∷ (b ++ y)))) (sym begun.0)
    (child_step rest_of_two s n 44 first (second ++ 41 ∷ []) b c y (λ p. after (expected 44 p.1) (λ more. after (child_by read more) (λ q. after (expected 41 q.1) (λ rest. Ok (p.0, q.0, rest))))) iss begun.1 refl (omega arith) cuts
    (λ p l.
    after_within (λ (rest : List ℕ). rest) rest_of_two len (expected 44 p.1) _ (expected_within len 44 p.1 l) (λ more m.
    after_within rest_of_one rest_of_two len (child_by read more) _ (child_within len read stops more m) (λ q o.
    after_within (λ (rest : List ℕ). rest) rest_of_two len (expected 41 q.1) _ (expected_within len 41 q.1 o) (λ rest k. k))))
    (λ d u.
    child_step rest_of_two t n 41 second [] d c y (λ q. after (expected 41 q.1) (λ rest. Ok (s, q.0, rest))) ist u refl (omega arith) cutt
    (λ q o. after_within (λ (rest : List ℕ). rest) rest_of_two len (expected 41 q.1) _ (expected_within len 41 q.1 o) (λ rest k. k)) (λ f v. ended f c y v)))

three_within_cut : (s t u : Shape) (n : ℕ) (own b c y : List ℕ) → AreThreeChildren (is_plain s && (is_plain t && is_plain u)) (IsTextOf s) (IsTextOf t) (IsTextOf u) own → own ≡ b ++ c → max (levels s) (max (levels t) (levels u)) ≤ n → Cuts s n y → Cuts t n y → Cuts u n y
    → Within rest_of_three (length y) (three_by (scheme_in n) (b ++ y))
three_within_cut s t u n own [] c y is e low cuts cutt cutu = three_within (length y) (scheme_in n) (scheme_within n (length y)) y (itself (length y))
three_within_cut s t u n own (x ∷ b) c y (inl (plain, none)) e low cuts cutt cutu = no_bytes x (b ++ c) (sym e ∙ none)
three_within_cut s t u n own (x ∷ b) c y (inr (first, second, third, iss, ist, isu, text)) e low cuts cutt cutu =
    let read = scheme_in n in
    let len = length y in
    let stops = scheme_within n len in
    let begun = opened x b c own (first ++ 44 ∷ (second ++ 44 ∷ (third ++ 41 ∷ []))) e text in
    subst (λ (k : ℕ). Within rest_of_three (length y) (three_by (scheme_in n) (k ∷ (b ++ y)))) (sym begun.0)
    (child_step rest_of_three s n 44 first (second ++ 44 ∷ (third ++ 41 ∷ [])) b c y
    (λ p. after (expected 44 p.1) (λ more. after (child_by read more) (λ q. after (expected 44 q.1) (λ last. after (child_by read last) (λ r. after (expected 41 r.1) (λ rest. Ok (p.0, q.0, r.0, rest))))))) iss begun.1 refl (omega arith) cuts
    (λ p l.
    after_within (λ (rest : List ℕ). rest) rest_of_three len (expected 44 p.1) _ (expected_within len 44 p.1 l) (λ more m.
    after_within rest_of_one rest_of_three len (child_by read more) _ (child_within len read stops more m) (λ q o.
    after_within (λ (rest : List ℕ). rest) rest_of_three len (expected 44 q.1) _ (expected_within len 44 q.1 o) (λ last k.
    after_within rest_of_one rest_of_three len (child_by read last) _ (child_within len read stops last k) (λ r v.
    after_within (λ (rest : List ℕ). rest) rest_of_three len (expected 41 r.1) _ (expected_within len 41 r.1 v) (λ rest w. w))))))
    (λ d e2.
    child_step rest_of_three t n 44 second (third ++ 41 ∷ []) d c y (λ q. after (expected 44 q.1) (λ last. after (child_by read last) (λ r. after (expected 41 r.1) (λ rest. Ok (s, q.0, r.0, rest))))) ist e2 refl (omega arith) cutt
    (λ q o.
    after_within (λ (rest : List ℕ). rest) rest_of_three len (expected 44 q.1) _ (expected_within len 44 q.1 o) (λ last k.
    after_within rest_of_one rest_of_three len (child_by read last) _ (child_within len read stops last k) (λ r v.
    after_within (λ (rest : List ℕ). rest) rest_of_three len (expected 41 r.1) _ (expected_within len 41 r.1 v) (λ rest w. w))))
    (λ f e3.
    child_step rest_of_three u n 41 third [] f c y (λ r. after (expected 41 r.1) (λ rest. Ok (s, t, r.0, rest))) isu e3 refl (omega arith) cutu
    (λ r v. after_within (λ (rest : List ℕ). rest) rest_of_three len (expected 41 r.1) _ (expected_within len 41 r.1 v) (λ rest w. w)) (λ h e4. ended h c y e4))))

-- a scheme's text begins with a letter
abbrev BeginsWithLetter : List ℕ → Type 0
BeginsWithLetter own = (w : ℕ) × (tail : List ℕ) × (own ≡ w ∷ tail) × ((w == 95) ≡ false)

letter : (s : Shape) (own : List ℕ) → IsTextOf s own → is_plain s ≡ false → BeginsWithLetter own
letter Plain own is p = absurd cc
letter Primitive own is p = (112, _, is, refl)
letter Constant own is p = (99, _, is, refl)
letter (BitPacked BestWidth) own is p = (98, _, is, refl)
letter (BitPacked (Width w)) own is p = (98, _, is.2, refl)
letter (BitPacked BestWidths) own is p = (98, _, is, refl)
letter (FoR order a) own is p = (102, _, is.2, refl)
letter (FoRChunked order a b) own is p = (102, _, is.2, refl)
letter (Delta a b) own is p = (100, _, is.2, refl)
letter (RLE Runs a b c) own is p = (114, _, is.2, refl)
letter (RLE Dictionary a b c) own is p = (100, _, is.2, refl)

plain_cut : (read : Reader) (a c y : List ℕ) → 95 ∷ [] ≡ a ++ c → Within rest_of_one (length y) (child_by read y) → Within rest_of_one (length y) (child_by read (a ++ y))
plain_cut read [] c y e h = h
plain_cut read (x ∷ a) c y e h =
    let same : x ≡ 95 = sym (same_byte 95 x [] (a ++ c) e) in
    rw same (ended a c y (same_tail 95 x [] (a ++ c) e))

scheme_child : (s : Shape) (n : ℕ) (own a c y : List ℕ) → IsTextOf s own → is_plain s ≡ false → own ≡ a ++ c → Within rest_of_one (length y) (scheme_in n (a ++ y)) → Within rest_of_one (length y) (child_by (scheme_in n) (a ++ y))
scheme_child s n own [] c y is p e h = child_within (length y) (scheme_in n) (scheme_within n (length y)) y (itself (length y))
scheme_child s n own (x ∷ a) c y is p e h =
    let begins = letter s own is p in
    let same : x ≡ begins.0 = same_byte x begins.0 (a ++ c) begins.1 (sym e ∙ begins.2) in
    let apart : (x == 95) ≡ false = ap (λ (k : ℕ). k == 95) same ∙ begins.3 in
    rw (no_underscore (scheme_in n) x a (x ∷ a) y apart refl) h

child_cuts : (s : Shape) (n : ℕ) (y own a c : List ℕ) → IsTextOf s own → own ≡ a ++ c → (is_plain s ≡ false → Within rest_of_one (length y) (scheme_in n (a ++ y))) → Within rest_of_one (length y) (child_by (scheme_in n) (a ++ y))
child_cuts Plain n y own a c is e h = plain_cut (scheme_in n) a c y (sym is ∙ e) (child_within (length y) (scheme_in n) (scheme_within n (length y)) y (itself (length y)))
child_cuts Primitive n y own a c is e h = scheme_child Primitive n own a c y is refl e (h refl)
child_cuts Constant n y own a c is e h = scheme_child Constant n own a c y is refl e (h refl)
child_cuts (BitPacked packing) n y own a c is e h = scheme_child (BitPacked packing) n own a c y is refl e (h refl)
child_cuts (FoR order f) n y own a c is e h = scheme_child (FoR order f) n own a c y is refl e (h refl)
child_cuts (FoRChunked order f g) n y own a c is e h = scheme_child (FoRChunked order f g) n own a c y is refl e (h refl)
child_cuts (Delta f g) n y own a c is e h = scheme_child (Delta f g) n own a c y is refl e (h refl)
child_cuts (RLE run_values f g k) n y own a c is e h = scheme_child (RLE run_values f g k) n own a c y is refl e (h refl)

-- ---- schemes
-- an encoding's word, or what comes after it
after_word : (n : ℕ) (word own a c y : List ℕ) → word ++ own ≡ a ++ c → ((d : List ℕ) → word ≡ a ++ d → Within rest_of_head (length y) (head_in (a ++ y)))
    → ((b : List ℕ) → own ≡ b ++ c → 0 < length b → Within rest_of_one (length y) (scheme_in (suc n) (word ++ (b ++ y)))) → Within rest_of_one (length y) (scheme_in (suc n) (a ++ y))
after_word n word own a c y e here later = elim (cut_at a c word own (sym e)) [
  | inl (d, part) ↦ headed n y (a ++ y) (here d part)
  | inr (x, b, all, rest) ↦
      let joined : a ++ y ≡ word ++ (x ∷ (b ++ y)) = ap (λ (t : List ℕ). t ++ y) all ∙ append_assoc word (x ∷ b) y in
      subst (λ (t : List ℕ). Within rest_of_one (length y) (scheme_in (suc n) t)) (sym joined) (later (x ∷ b) rest (omega arith))
]

one_scheme : (n : ℕ) (y t : List ℕ) (make : Shape → Shape) → Within rest_of_one (length y) (one_by (scheme_in n) t) → Within rest_of_one (length y) (after (one_by (scheme_in n) t) (λ a. Ok (make a.0, a.1)))
one_scheme n y t make h = after_within rest_of_one rest_of_one (length y) (one_by (scheme_in n) t) (λ a. Ok (make a.0, a.1)) h (λ a k. k)

two_scheme : (n : ℕ) (y t : List ℕ) (make : Shape → Shape → Shape) → Within rest_of_two (length y) (two_by (scheme_in n) t) → Within rest_of_one (length y) (after (two_by (scheme_in n) t) (λ a. Ok (make a.0 a.1, a.2)))
two_scheme n y t make h = after_within rest_of_two rest_of_one (length y) (two_by (scheme_in n) t) (λ a. Ok (make a.0 a.1, a.2)) h (λ a k. k)

three_scheme : (n : ℕ) (y t : List ℕ) (make : Shape → Shape → Shape → Shape) → Within rest_of_three (length y) (three_by (scheme_in n) t) → Within rest_of_one (length y) (after (three_by (scheme_in n) t) (λ a. Ok (make a.0 a.1 a.2, a.3)))
three_scheme n y t make h = after_within rest_of_three rest_of_one (length y) (three_by (scheme_in n) t) (λ a. Ok (make a.0 a.1 a.2, a.3)) h (λ a k. k)

runs_scheme : (run_values : RunValues) (n : ℕ) (y t : List ℕ) → Within rest_of_three (length y) (three_by (scheme_in n) t) → Within rest_of_one (length y) (scheme_in (suc n) (run_word run_values ++ t))
runs_scheme run_values n y t h = subst (Within rest_of_one (length y)) (sym (runs_read run_values n t)) (three_scheme n y t (RLE run_values) h)

-- the first byte of children is a parenthesis
parenthesis : (x : ℕ) (b c own : List ℕ) → Opens own → own ≡ x ∷ (b ++ c) → x ≡ 40
parenthesis x b c own (inl none) e = no_bytes x (b ++ c) (sym e ∙ none)
parenthesis x b c own (inr (more, is)) e = same_byte x 40 (b ++ c) more (sym e ∙ is)

for_cut : (order : ItemOrder) (s : Shape) (n : ℕ) (own b c y : List ℕ) → IsOneChild (is_plain s) (IsTextOf s) own → order_text order ++ own ≡ b ++ c → levels s ≤ n → 0 < length b → Cuts s n y → Within rest_of_one (length y) (scheme_in (suc n) (codes "for" ++ (b ++ y)))
for_cut order s n own [] c y is e low some cuts = absurd (omega arith)
for_cut Natural s n own (x ∷ b) c y is e low some cuts =
    let first = parenthesis x b c own (one_opens (is_plain s) (IsTextOf s) own is) e in
    let children = one_within_cut s n own (x ∷ b) c y is e low cuts in
    subst (λ (k : ℕ). Within rest_of_one (length y) (scheme_in (suc n) (codes "for" ++ (k ∷ (b ++ y))))) (sym first)
    (one_scheme n y (40 ∷ (b ++ y)) (FoR Natural) (subst (λ (k : ℕ). Within rest_of_one (length y) (one_by (scheme_in n) (k ∷ (b ++ y)))) first children))
for_cut Signed s n own (x ∷ b) c y is e low some cuts =
    let first : x ≡ 119 = sym (same_byte 119 x own (b ++ c) e) in
    subst (λ (k : ℕ). Within rest_of_one (length y) (scheme_in (suc n) (codes "for" ++ (k ∷ (b ++ y))))) (sym first)
    (one_scheme n y (b ++ y) (FoR Signed) (one_within_cut s n own b c y is (same_tail 119 x own (b ++ c) e) low cuts))

forc_cut : (order : ItemOrder) (s t : Shape) (n : ℕ) (own b c y : List ℕ) → AreTwoChildren (is_plain s && is_plain t) (IsTextOf s) (IsTextOf t) own → order_text order ++ own ≡ b ++ c → max (levels s) (levels t) ≤ n → Cuts s n y → Cuts t n y → Within rest_of_one (length y) (scheme_in (suc n) (codes "forc" ++ (b ++ y)))
forc_cut order s t n own [] c y is e low cuts cutt = headed n y (codes "forc" ++ y) (chunked_inside y)
forc_cut Natural s t n own (x ∷ b) c y is e low cuts cutt =
    let first = parenthesis x b c own (two_opens (is_plain s && is_plain t) (IsTextOf s) (IsTextOf t) own is) e in
    let children = two_within_cut s t n own (x ∷ b) c y is e low cuts cutt in
    subst (λ (k : ℕ). Within rest_of_one (length y) (scheme_in (suc n) (codes "forc" ++ (k ∷ (b ++ y))))) (sym first)
    (two_scheme n y (40 ∷ (b ++ y)) (FoRChunked Natural) (subst (λ (k : ℕ). Within rest_of_two (length y) (two_by (scheme_in n) (k ∷ (b ++ y)))) first children))
forc_cut Signed s t n own (x ∷ b) c y is e low cuts cutt =
    let first : x ≡ 119 = sym (same_byte 119 x own (b ++ c) e) in
    subst (λ (k : ℕ). Within rest_of_one (length y) (scheme_in (suc n) (codes "forc" ++ (k ∷ (b ++ y))))) (sym first)
    (two_scheme n y (b ++ y) (FoRChunked Signed) (two_within_cut s t n own b c y is (same_tail 119 x own (b ++ c) e) low cuts cutt))

forc_behind : (order : ItemOrder) (s t : Shape) (n : ℕ) (own b c y : List ℕ) → AreTwoChildren (is_plain s && is_plain t) (IsTextOf s) (IsTextOf t) own → 99 ∷ (order_text order ++ own) ≡ b ++ c → max (levels s) (levels t) ≤ n → 0 < length b → Cuts s n y → Cuts t n y
    → Within rest_of_one (length y) (scheme_in (suc n) (codes "for" ++ (b ++ y)))
forc_behind order s t n own [] c y is e low some cuts cutt = absurd (omega arith)
forc_behind order s t n own (x ∷ b) c y is e low some cuts cutt =
    let first : x ≡ 99 = sym (same_byte 99 x (order_text order ++ own) (b ++ c) e) in
    subst (λ (k : ℕ). Within rest_of_one (length y) (scheme_in (suc n) (codes "for" ++ (k ∷ (b ++ y))))) (sym first)
    (forc_cut order s t n own b c y is (same_tail 99 x (order_text order ++ own) (b ++ c) e) low cuts cutt)

colon : (w n : ℕ) (digits b c y : List ℕ) → IsWidthText w digits → 58 ∷ digits ≡ b ++ c → 0 < length b → Within rest_of_one (length y) (scheme_in (suc n) (codes "bitpacked" ++ (b ++ y)))
colon w n digits [] c y is e some = absurd (omega arith)
colon w n digits (x ∷ b) c y is e some =
    let first : x ≡ 58 = sym (same_byte 58 x digits (b ++ c) e) in
    subst (λ (k : ℕ). Within rest_of_one (length y) (scheme_in (suc n) (codes "bitpacked" ++ (k ∷ (b ++ y))))) (sym first) (headed n y (codes "bitpacked:" ++ (b ++ y)) (colon_cut y (b ++ y) (width_cut w digits b c y is (same_tail 58 x digits (b ++ c) e))))

some_levels : (s : Shape) → is_plain s ≡ false → 0 < levels s
some_levels Plain p = absurd cc
some_levels Primitive p = omega arith
some_levels Constant p = omega arith
some_levels (BitPacked packing) p = omega arith
some_levels (FoR order f) p = omega arith
some_levels (FoRChunked order f g) p = omega arith
some_levels (Delta f g) p = omega arith
some_levels (RLE run_values f g k) p = omega arith

-- a text that begins as a scheme's does is read at least as far
cut_any : (s : Shape) (n : ℕ) (y text a c : List ℕ) → IsTextOf s text → is_plain s ≡ false → text ≡ a ++ c → levels s ≤ n → Within rest_of_one (length y) (scheme_in n (a ++ y))
cut_any s zero y text a c is p e low = absurd (let some = some_levels s p in omega arith)
cut_any Plain (suc n) y text a c is p e low = absurd cc
cut_any Primitive (suc n) y text a c is p e low = headed n y (a ++ y) (primitive_cut a c y (sym is ∙ e))
cut_any Constant (suc n) y text a c is p e low = headed n y (a ++ y) (constant_cut a c y (sym is ∙ e))
cut_any (BitPacked BestWidth) (suc n) y text a c is p e low = headed n y (a ++ y) (bitpacked_cut a c y (sym is ∙ e))
cut_any (BitPacked (Width w)) (suc n) y text a c is p e low =
    after_word n (codes "bitpacked") (58 ∷ is.0) a c y (sym is.2 ∙ e) (λ d h. bitpacked_cut a d y h) (λ b h m. colon w n is.0 b c y is.1 h m)
cut_any (BitPacked BestWidths) (suc n) y text a c is p e low = headed n y (a ++ y) (blocked_cut a c y (sym is ∙ e))
cut_any (FoR order f) (suc n) y text a c is p e low =
    after_word n (codes "for") (order_text order ++ is.0) a c y (sym is.2 ∙ e) (λ d h. frame_cut a d y h)
    (λ b h m. for_cut order f n is.0 b c y is.1 h (omega arith) m (λ own i j iso q k. child_cuts f n y own i j iso q (λ r. cut_any f n y own i j iso r q k)))
cut_any (FoRChunked order f g) (suc n) y text a c is p e low =
    after_word n (codes "for") (99 ∷ (order_text order ++ is.0)) a c y (sym is.2 ∙ e) (λ d h. frame_cut a d y h)
    (λ b h m. forc_behind order f g n is.0 b c y is.1 h (omega arith) m (λ own i j iso q k. child_cuts f n y own i j iso q (λ r. cut_any f n y own i j iso r q k)) (λ own i j iso q k. child_cuts g n y own i j iso q (λ r. cut_any g n y own i j iso r q k)))
cut_any (Delta f g) (suc n) y text a c is p e low =
    after_word n (codes "delta") is.0 a c y (sym is.2 ∙ e) (λ d h. delta_cut a d y h)
    (λ b h m.
    two_scheme n y (b ++ y) Delta
    (two_within_cut f g n is.0 b c y is.1 h (omega arith) (λ own i j iso q k. child_cuts f n y own i j iso q (λ r. cut_any f n y own i j iso r q k)) (λ own i j iso q k. child_cuts g n y own i j iso q (λ r. cut_any g n y own i j iso r q k))))
cut_any (RLE run_values f g u) (suc n) y text a c is p e low =
    after_word n (run_word run_values) is.0 a c y (sym is.2 ∙ e) (λ d h. run_word_cut run_values a d y h)
    (λ b h m.
    runs_scheme run_values n y (b ++ y)
    (three_within_cut f g u n is.0 b c y is.1 h (omega arith) (λ own i j iso q k. child_cuts f n y own i j iso q (λ r. cut_any f n y own i j iso r q k)) (λ own i j iso q k. child_cuts g n y own i j iso q (λ r. cut_any g n y own i j iso r q k))
    (λ own i j iso q k. child_cuts u n y own i j iso q (λ r. cut_any u n y own i j iso r q k))))

-- ---- the wrong byte
position_is : (len position n : ℕ) (r : Result Shape ℕ) → positioned len r ≡ Err position → Within nothing n r → Within nothing len r → len ≤ position + n
position_is len position n (Ok s) e h k = absurd cc
position_is len position n (Err left) e h k = let same : len - left ≡ position = cc in omega arith

position_within : (len position : ℕ) (r : Result Shape ℕ) → positioned len r ≡ Err position → position ≤ len
position_within len position (Ok s) e = absurd cc
position_within len position (Err left) e = let same : len - left ≡ position = cc in omega arith

whole_cut : (n m : ℕ) (text : List ℕ) → Within rest_of_one n (scheme_in m text) → Within nothing n (after (scheme_in m text) whole)
whole_cut n m text h = after_within rest_of_one nothing n (scheme_in m text) whole h (λ x k. whole_within n x k)

wrong_within : (text : List ℕ) (position : ℕ) → scheme_of_text text ≡ Err position → position ≤ length text
wrong_within text position e = position_within (length text) position (after (scheme_in max_levels text) whole) e

-- no scheme's text begins with the bytes up to the wrong one
begins_no_scheme : (text : List ℕ) (position : ℕ) → scheme_of_text text ≡ Err position → position < length text → BeginsScheme (take (position + 1) text) → ⊥
begins_no_scheme text position e inner (s, more, is) =
    let a = take (position + 1) text in
    let y = drop (position + 1) text in
    let len = length text in
    let text_is : a ++ y ≡ text = take-append-drop (position + 1) text in
    let size : length a ≡ position + 1 = length-take-le (position + 1) text (omega arith) in
    let rest : length a + length y ≡ length text = sym (length-append a y) ∙ ap length text_is in
    let cut : Within rest_of_one (length y) (scheme_in max_levels (a ++ y)) = cut_any s max_levels y (a ++ more) a more is.0 is.1 refl is.2 in
    let here : Within rest_of_one (length y) (scheme_in max_levels text) = subst (λ (t : List ℕ). Within rest_of_one (length y) (scheme_in max_levels t)) text_is cut in
    let far = position_is len position (length y) (after (scheme_in max_levels text) whole) e (whole_cut (length y) max_levels text here) (whole_cut len max_levels text (scheme_within max_levels len text (itself len))) in
    omega arith

pub first_wrong : (text : List ℕ) (position : ℕ) → scheme_of_text text ≡ Err position → IsFirstWrong text position
first_wrong text position h = record {
  none = λ s is. (let read = grammar_is_read text s is in cc);
  within = wrong_within text position h;
  before = begins_before text position h;
  wrong = begins_no_scheme text position h;
}

-- ---- answers
pub parsed_by_grammar : (text : List ℕ) (result : Result Scheme SchemeError) → IsParsed result (scheme_of_text text) → FollowsGrammar text result
parsed_by_grammar text (Ok scheme) h = read_by_grammar text (shape scheme) h
parsed_by_grammar text (Err errors.OutOfMemory) h = tt
parsed_by_grammar text (Err (errors.WrongByte position)) h = first_wrong text position h
