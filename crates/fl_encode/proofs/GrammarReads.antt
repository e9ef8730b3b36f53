-- What the grammar says is read.
use Rattle.std.proofs.Common.{◌≡◌, ◌+◌, ◌-◌, ◌*◌, ◌==◌, ◌<◌, ◌≤◌, ◌&&◌, ◌++◌, ◌⊎◌, ℕ, zero, suc, Bool, true, false, List, [], ◌∷◌, length, Ok, Err, refl, ap, sym, ◌∙◌, inl, inr, arith, append_assoc, append-nil}
use Rattle.std.specs.Prelude.{Result, codes}
use Rattle.std.specs.List.{list_all}
use Rattle.std.proofs.lemmas.Bool.Decides.{nat_tests}
use Rattle.fl_column.proofs.ListLaws.{and_first, and_second}
use Rattle.fl_encode.specs.declared.scheme.Packing.TheVariants.{BestWidth, BestWidths, Width}
use Rattle.fl_encode.specs.declared.text.reading.Head.TheVariants as heads
use Rattle.fl_encode.specs.Grammar.{AreThreeChildren, AreTwoChildren, IsOneChild, IsSchemeText, IsTextOf, IsWidthText, is_digit, number_of}
use Rattle.fl_encode.specs.Shapes.{BitPacked, Constant, Delta, Dictionary, FoR, FoRChunked, Plain, Primitive, RLE, Runs, Shape, is_plain, levels, max_levels, order_text, run_word, scheme_text}
use Rattle.fl_encode.specs.SchemeShapes.{shape}
use Rattle.fl_encode.specs.Texts.{after, child_by, digits_behind, expected, has_widths, one_by, positioned, scheme_in, scheme_of_text, three_by, two_by, whole, width_in}
use Rattle.fl_encode.specs.declared.scheme.Scheme.{Scheme}
use Rattle.fl_encode.proofs.GrammarLaws.{read_by_grammar, same_ok}
use Rattle.fl_encode.proofs.TextLaws.{NoLetter, Reader, follows, for_read, forc_read, goes, headed, no_children, no_letters, plain_is, reads, runs_read, shape_some, stops, widened}

-- ---- widths
pub grows : (n : ℕ) (digits : List ℕ) → n ≤ number_of n digits
grows n [] = omega arith
grows n (d ∷ digits) = let more = grows (10 * n + (d - 48)) digits in omega arith

pub from_low : (x : ℕ) → is_digit x ≡ true → 48 ≤ x
from_low x h = grind (arith, nat_tests)

pub to_high : (x : ℕ) → is_digit x ≡ true → x ≤ 57
to_high x h = grind (arith, nat_tests)

digits_read : (before : ℕ) (digits rest : List ℕ) → list_all is_digit digits ≡ true → number_of before digits ≤ 255 → follows rest ≡ true → digits_behind before (digits ++ rest) ≡ (number_of before digits, rest)
digits_read before [] rest all fits f = stops before rest f
digits_read before (x ∷ digits) rest all fits f =
    let digit = and_first (is_digit x) (list_all is_digit digits) all in
    let more = grows (10 * before + (x - 48)) digits in
    rw (goes before x (from_low x digit) (to_high x digit) (omega arith)) (digits_read (10 * before + (x - 48)) digits rest (and_second (is_digit x) (list_all is_digit digits) all) fits f)

width_read : (w : ℕ) (text rest : List ℕ) → IsWidthText w text → follows rest ≡ true → width_in (text ++ rest) ≡ Ok (w, rest)
width_read w [] rest is f = absurd (omega (arith, is.some))
width_read w (x ∷ digits) rest is f =
    let digit = and_first (is_digit x) (list_all is_digit digits) is.digits in
    let first : 10 * 0 + (x - 48) ≡ x - 48 = omega arith in
    let value : number_of (x - 48) digits ≡ w = ap (λ (n : ℕ). number_of n digits) (sym first) ∙ is.value in
    let bound : number_of (x - 48) digits ≤ 255 = omega (arith, value, is.fits) in
    let more = grows (x - 48) digits in
    let read : digits_behind (x - 48) (digits ++ rest) ≡ (w, rest) = digits_read (x - 48) digits rest (and_second (is_digit x) (list_all is_digit digits) is.digits) bound f ∙ ap (λ (n : ℕ). (n, rest)) value in
    rw (goes 0 x (from_low x digit) (to_high x digit) (omega arith)) (ap (λ (p : ℕ × List ℕ). Ok p) read)

-- ---- children
abbrev Back : Reader → Shape → Type 0
Back read s = (child more : List ℕ) → IsTextOf s child → follows more ≡ true → child_by read (child ++ more) ≡ Ok (s, more)

pub no_underscore : (read : Reader) (w : ℕ) (tail text rest : List ℕ) → (w == 95) ≡ false → text ≡ w ∷ tail → child_by read (text ++ rest) ≡ read (text ++ rest)
no_underscore read w tail text rest other e =
    let here : child_by read (w ∷ (tail ++ rest)) ≡ read (w ∷ (tail ++ rest)) = rw other refl in
    let same : text ++ rest ≡ w ∷ (tail ++ rest) = ap (λ (t : List ℕ). t ++ rest) e in
    ap (child_by read) same ∙ (here ∙ ap read (sym same))

pub child_read : (s : Shape) (read : Reader) (text rest : List ℕ) → IsTextOf s text → (is_plain s ≡ false → read (text ++ rest) ≡ Ok (s, rest)) → child_by read (text ++ rest) ≡ Ok (s, rest)
child_read Plain read text rest is h = ap (λ (t : List ℕ). child_by read (t ++ rest)) is
child_read Primitive read text rest is h = no_underscore read 112 _ text rest refl is ∙ h refl
child_read Constant read text rest is h = no_underscore read 99 _ text rest refl is ∙ h refl
child_read (BitPacked BestWidth) read text rest is h = no_underscore read 98 _ text rest refl is ∙ h refl
child_read (BitPacked (Width w)) read text rest is h = no_underscore read 98 _ text rest refl is.2 ∙ h refl
child_read (BitPacked BestWidths) read text rest is h = no_underscore read 98 _ text rest refl is ∙ h refl
child_read (FoR order a) read text rest is h = no_underscore read 102 _ text rest refl is.2 ∙ h refl
child_read (FoRChunked order a b) read text rest is h = no_underscore read 102 _ text rest refl is.2 ∙ h refl
child_read (Delta a b) read text rest is h = no_underscore read 100 _ text rest refl is.2 ∙ h refl
child_read (RLE Runs a b c) read text rest is h = no_underscore read 114 _ text rest refl is.2 ∙ h refl
child_read (RLE Dictionary a b c) read text rest is h = no_underscore read 100 _ text rest refl is.2 ∙ h refl

one_read : (a : Shape) (read : Reader) (own rest : List ℕ) → follows rest ≡ true → IsOneChild (is_plain a) (IsTextOf a) own → Back read a → one_by read (own ++ rest) ≡ Ok (a, rest)
one_read a read own rest f (inl (plain, e)) back = rw (e, plain_is a plain, no_children rest f) refl
one_read a read own rest f (inr (child, is, e)) back =
    let inner : child_by read ((child ++ 41 ∷ []) ++ rest) ≡ Ok (a, 41 ∷ rest) = ap (child_by read) (append_assoc child (41 ∷ []) rest) ∙ back child (41 ∷ rest) is refl in
    ap (λ (t : List ℕ). one_by read (t ++ rest)) e ∙ ap (λ o. after o (λ x. after (expected 41 x.1) (λ more. Ok (x.0, more)))) inner

two_read : (a b : Shape) (read : Reader) (own rest : List ℕ) → follows rest ≡ true → AreTwoChildren (is_plain a && is_plain b) (IsTextOf a) (IsTextOf b) own → Back read a → Back read b → two_by read (own ++ rest) ≡ Ok (a, b, rest)
two_read a b read own rest f (inl (plain, e)) backa backb = rw (e, plain_is a (and_first (is_plain a) (is_plain b) plain), plain_is b (and_second (is_plain a) (is_plain b) plain), no_children rest f) refl
two_read a b read own rest f (inr (first, second, isa, isb, e)) backa backb =
    let text = first ++ 44 ∷ second in
    let parts : 40 ∷ (first ++ 44 ∷ (second ++ 41 ∷ [])) ≡ 40 ∷ (text ++ 41 ∷ []) = ap (λ (t : List ℕ). 40 ∷ t) (sym (append_assoc first (44 ∷ second) (41 ∷ []))) in
    let whole_text : (text ++ 41 ∷ []) ++ rest ≡ first ++ 44 ∷ (second ++ 41 ∷ rest) = append_assoc text (41 ∷ []) rest ∙ append_assoc first (44 ∷ second) (41 ∷ rest) in
    let inner : child_by read ((text ++ 41 ∷ []) ++ rest) ≡ Ok (a, 44 ∷ (second ++ 41 ∷ rest)) = ap (child_by read) whole_text ∙ backa first (44 ∷ (second ++ 41 ∷ rest)) isa refl in
    ap (λ (t : List ℕ). two_by read (t ++ rest)) (e ∙ parts)
    ∙ (ap (λ o. after o (λ x. after (expected 44 x.1) (λ more. after (child_by read more) (λ y. after (expected 41 y.1) (λ last. Ok (x.0, y.0, last)))))) inner
    ∙ ap (λ o. after o (λ y. after (expected 41 y.1) (λ last. Ok (a, y.0, last)))) (backb second (41 ∷ rest) isb refl))

three_read : (a b c : Shape) (read : Reader) (own rest : List ℕ) → follows rest ≡ true → AreThreeChildren (is_plain a && (is_plain b && is_plain c)) (IsTextOf a) (IsTextOf b) (IsTextOf c) own → Back read a → Back read b → Back read c
    → three_by read (own ++ rest) ≡ Ok (a, b, c, rest)
three_read a b c read own rest f (inl (plain, e)) backa backb backc =
    let others = and_second (is_plain a) (is_plain b && is_plain c) plain in
    rw (e, plain_is a (and_first (is_plain a) (is_plain b && is_plain c) plain), plain_is b (and_first (is_plain b) (is_plain c) others), plain_is c (and_second (is_plain b) (is_plain c) others), no_children rest f) refl
three_read a b c read own rest f (inr (first, second, third, isa, isb, isc, e)) backa backb backc =
    let behind = second ++ 44 ∷ third in
    let text = first ++ 44 ∷ behind in
    let inside : first ++ 44 ∷ (second ++ 44 ∷ (third ++ 41 ∷ [])) ≡ text ++ 41 ∷ [] =
    ap (λ (t : List ℕ). first ++ 44 ∷ t) (sym (append_assoc second (44 ∷ third) (41 ∷ []))) ∙ sym (append_assoc first (44 ∷ behind) (41 ∷ [])) in
    let last : behind ++ 41 ∷ rest ≡ second ++ 44 ∷ (third ++ 41 ∷ rest) = append_assoc second (44 ∷ third) (41 ∷ rest) in
    let whole_text : (text ++ 41 ∷ []) ++ rest ≡ first ++ 44 ∷ (second ++ 44 ∷ (third ++ 41 ∷ rest)) =
    append_assoc text (41 ∷ []) rest ∙ (append_assoc first (44 ∷ behind) (41 ∷ rest) ∙ ap (λ (t : List ℕ). first ++ 44 ∷ t) last) in
    let inner : child_by read ((text ++ 41 ∷ []) ++ rest) ≡ Ok (a, 44 ∷ (second ++ 44 ∷ (third ++ 41 ∷ rest))) = ap (child_by read) whole_text ∙ backa first (44 ∷ (second ++ 44 ∷ (third ++ 41 ∷ rest))) isa refl in
    ap (λ (t : List ℕ). three_by read (t ++ rest)) (e ∙ ap (λ (t : List ℕ). 40 ∷ t) inside)
    ∙ (ap (λ o. after o (λ x. after (expected 44 x.1) (λ more. after (child_by read more) (λ y. after (expected 44 y.1) (λ next. after (child_by read next) (λ z. after (expected 41 z.1) (λ tail. Ok (x.0, y.0, z.0, tail)))))))) inner
    ∙ (ap (λ o. after o (λ y. after (expected 44 y.1) (λ next. after (child_by read next) (λ z. after (expected 41 z.1) (λ tail. Ok (a, y.0, z.0, tail)))))) (backb second (44 ∷ (third ++ 41 ∷ rest)) isb refl)
    ∙ ap (λ o. after o (λ z. after (expected 41 z.1) (λ tail. Ok (a, b, z.0, tail)))) (backc third (41 ∷ rest) isc refl)))

-- ---- words for frames of reference
abbrev pub Opens : List ℕ → Type 0
Opens own = (own ≡ []) ⊎ ((more : List ℕ) × (own ≡ 40 ∷ more))

pub one_opens : (plain : Bool) (Is : List ℕ → Type 0) (own : List ℕ) → IsOneChild plain Is own → Opens own
one_opens plain Is own (inl (all, e)) = inl e
one_opens plain Is own (inr (child, is, e)) = inr (child ++ 41 ∷ [], e)

pub two_opens : (plain : Bool) (Is Are : List ℕ → Type 0) (own : List ℕ) → AreTwoChildren plain Is Are own → Opens own
two_opens plain Is Are own (inl (all, e)) = inl e
two_opens plain Is Are own (inr (first, second, is, are, e)) = inr (first ++ 44 ∷ (second ++ 41 ∷ []), e)

no_letter_opens : (own rest : List ℕ) → follows rest ≡ true → Opens own → NoLetter (own ++ rest)
no_letter_opens own rest f (inl e) = rw e (no_letters rest f)
no_letter_opens own rest f (inr (more, e)) = rw e (refl, refl)

-- ---- schemes
abbrev At : Shape → ℕ → List ℕ → Type 0
At s n rest = (text : List ℕ) → IsTextOf s text → is_plain s ≡ false → levels s ≤ n → follows rest ≡ true → scheme_in n (text ++ rest) ≡ Ok (s, rest)

pub read_any : (s : Shape) (n : ℕ) (rest text : List ℕ) → IsTextOf s text → is_plain s ≡ false → levels s ≤ n → follows rest ≡ true → scheme_in n (text ++ rest) ≡ Ok (s, rest)
read_any Plain n rest text is p h f = cc
read_any Primitive n rest text is p h f = ap (λ (t : List ℕ). scheme_in n (t ++ rest)) is ∙ reads Primitive n rest refl refl h f
read_any Constant n rest text is p h f = ap (λ (t : List ℕ). scheme_in n (t ++ rest)) is ∙ reads Constant n rest refl refl h f
read_any (BitPacked BestWidth) n rest text is p h f = ap (λ (t : List ℕ). scheme_in n (t ++ rest)) is ∙ reads (BitPacked BestWidth) n rest refl refl h f
read_any (BitPacked (Width width)) zero rest text is p h f = absurd (omega arith)
read_any (BitPacked (Width width)) (suc n) rest text is p h f =
    ap (λ (t : List ℕ). scheme_in (suc n) (t ++ rest)) is.2 ∙ ap (λ (o : Result (ℕ × List ℕ) ℕ). headed n (after (widened o) (λ q. Ok (heads.BitPacked q.0, q.1)))) (width_read width is.0 rest is.1 f)
read_any (BitPacked BestWidths) n rest text is p h f = ap (λ (t : List ℕ). scheme_in n (t ++ rest)) is ∙ reads (BitPacked BestWidths) n rest refl refl h f
read_any (FoR order a) zero rest text is p h f = absurd (omega arith)
read_any (FoR order a) (suc n) rest text is p h f =
    let back = one_read a (scheme_in n) is.0 rest f is.1 (λ child more c g. child_read a (scheme_in n) child more c (λ q. read_any a n more child c q (omega arith) g)) in
    let none = no_letter_opens is.0 rest f (one_opens (is_plain a) (IsTextOf a) is.0 is.1) in
    ap (λ (t : List ℕ). scheme_in (suc n) (t ++ rest)) is.2 ∙ (ap (λ (t : List ℕ). scheme_in (suc n) (codes "for" ++ t)) (append_assoc (order_text order) is.0 rest)
    ∙ (ap (headed n) (for_read order (is.0 ++ rest) none) ∙ ap (λ (o : Result (Shape × List ℕ) ℕ). after o (λ x. Ok (FoR order x.0, x.1))) back))
read_any (FoRChunked order a b) zero rest text is p h f = absurd (omega arith)
read_any (FoRChunked order a b) (suc n) rest text is p h f =
    let back = two_read a b (scheme_in n) is.0 rest f is.1 (λ child more c g. child_read a (scheme_in n) child more c (λ q. read_any a n more child c q (omega arith) g)) (λ child more c g. child_read b (scheme_in n) child more c (λ q. read_any b n more child c q (omega arith) g)) in
    let none = no_letter_opens is.0 rest f (two_opens (is_plain a && is_plain b) (IsTextOf a) (IsTextOf b) is.0 is.1) in
    ap (λ (t : List ℕ). scheme_in (suc n) (t ++ rest)) is.2 ∙ (ap (λ (t : List ℕ). scheme_in (suc n) (codes "forc" ++ t)) (append_assoc (order_text order) is.0 rest)
    ∙ (ap (headed n) (forc_read order (is.0 ++ rest) none) ∙ ap (λ (o : Result (Shape × Shape × List ℕ) ℕ). after o (λ x. Ok (FoRChunked order x.0 x.1, x.2))) back))
read_any (Delta a b) zero rest text is p h f = absurd (omega arith)
read_any (Delta a b) (suc n) rest text is p h f =
    let back = two_read a b (scheme_in n) is.0 rest f is.1 (λ child more c g. child_read a (scheme_in n) child more c (λ q. read_any a n more child c q (omega arith) g)) (λ child more c g. child_read b (scheme_in n) child more c (λ q. read_any b n more child c q (omega arith) g)) in
    ap (λ (t : List ℕ). scheme_in (suc n) (t ++ rest)) is.2 ∙ ap (λ (o : Result (Shape × Shape × List ℕ) ℕ). after o (λ x. Ok (Delta x.0 x.1, x.2))) back
read_any (RLE run_values a b c) zero rest text is p h f = absurd (omega arith)
read_any (RLE run_values a b c) (suc n) rest text is p h f =
    let back = three_read a b c (scheme_in n) is.0 rest f is.1 (λ child more k g. child_read a (scheme_in n) child more k (λ q. read_any a n more child k q (omega arith) g)) (λ child more k g. child_read b (scheme_in n) child more k (λ q. read_any b n more child k q (omega arith) g))
    (λ child more k g. child_read c (scheme_in n) child more k (λ q. read_any c n more child k q (omega arith) g)) in
    ap (λ (t : List ℕ). scheme_in (suc n) (t ++ rest)) is.2 ∙ (ap (scheme_in (suc n)) (append_assoc (run_word run_values) is.0 rest)
    ∙ (runs_read run_values n (is.0 ++ rest) ∙ ap (λ (o : Result (Shape × Shape × Shape × List ℕ) ℕ). after o (λ x. Ok (RLE run_values x.0 x.1 x.2, x.3))) back))

-- a text of a scheme is read as it
pub grammar_is_read : (text : List ℕ) (s : Shape) → IsSchemeText s text → scheme_of_text text ≡ Ok s
grammar_is_read text s is =
    let read : scheme_in max_levels text ≡ Ok (s, []) = ap (scheme_in max_levels) (sym (append-nil text)) ∙ read_any s max_levels [] text is.0 is.1 is.2 refl in
    ap (λ (o : Result (Shape × List ℕ) ℕ). positioned (length text) (after o whole)) read

-- ---- texts of too many levels
is_wrong : (r : Result Shape ℕ) → ((t : Shape) → r ≡ Ok t → ⊥) → (position : ℕ) × (r ≡ Err position)
is_wrong (Ok t) never = absurd (never t refl)
is_wrong (Err position) never = (position, refl)

same_shape : (s t : Shape) (r : Result (Shape × List ℕ) ℕ) → r ≡ Ok (s, []) → r ≡ Ok (t, []) → s ≡ t
same_shape s t r h k = ap (λ (x : Shape × List ℕ). x.0) (same_ok (s, []) (t, []) (sym h ∙ k))

-- what is printed for a scheme is the text of no other
one_text : (s t : Shape) → is_plain s ≡ false → has_widths s ≡ true → IsSchemeText t (scheme_text s) → s ≡ t
one_text s t p w is =
    let n = levels s + levels t in
    same_shape s t (scheme_in n (scheme_text s ++ [])) (reads s n [] p w (omega arith) refl) (read_any t n [] (scheme_text s) is.0 is.1 (omega arith) refl)

too_deep : (s t : Shape) → is_plain s ≡ false → has_widths s ≡ true → max_levels < levels s → IsSchemeText t (scheme_text s) → ⊥
too_deep s t p w deep is =
    let same : levels s ≡ levels t = ap levels (one_text s t p w is) in
    let low : levels t ≤ max_levels = is.2 in
    omega arith

pub deep_is_wrong : (s : Scheme) → has_widths (shape s) ≡ true → max_levels < levels (shape s) → (position : ℕ) × (scheme_of_text (scheme_text (shape s)) ≡ Err position)
deep_is_wrong s w deep =
    is_wrong (scheme_of_text (scheme_text (shape s))) (λ t e. too_deep (shape s) t (shape_some s) w deep (read_by_grammar (scheme_text (shape s)) t e))
