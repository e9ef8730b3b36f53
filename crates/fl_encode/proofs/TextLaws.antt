-- What is printed is read.
use Rattle.std.proofs.Common.{◌≡◌, ◌+◌, ◌-◌, ◌*◌, ◌/◌, ◌%◌, ◌==◌, ◌<◌, ◌≤◌, ◌&&◌, ◌||◌, ◌++◌, ℕ, zero, suc, Bool, true, false, List, [], ◌∷◌, length, Option, None, Ok, Err, refl, ap, sym, subst, ◌∙◌, inl, inr, ◌⊎◌, arith, append_assoc, append-nil, nat_lt}
use Rattle.std.specs.Prelude.{IsErrAnd, Result, codes}
use Rattle.std.proofs.lemmas.Bool.{cases_Bool}
use Rattle.std.proofs.lemmas.Bool.Decides.{nat_tests}
use Rattle.fl_column.proofs.ListLaws.{and_first, and_second}
use Rattle.fl_encode.specs.declared.scheme.Packing.{Packing}
use Rattle.fl_encode.specs.declared.scheme.Packing.TheVariants.{BestWidth, BestWidths, Width}
use Rattle.std.specs.Option.{option_map_or}
use Rattle.fl_encode.specs.declared.text.reading.Head.{Head}
use Rattle.fl_encode.specs.declared.text.reading.Head.TheVariants as heads
use Rattle.fl_encode.specs.declared.text.reading.Stop.{Stop}
use Rattle.fl_encode.specs.declared.text.reading.Stop.TheVariants as ends
use Rattle.fl_codec.specs.declared.for_.ItemOrder.{ItemOrder}
use Rattle.fl_codec.specs.declared.for_.ItemOrder.TheVariants.{Natural, Signed}
use Rattle.fl_encode.specs.declared.scheme.Scheme.{Scheme}
use Rattle.fl_encode.specs.declared.scheme.Scheme.TheVariants as schemes
use Rattle.fl_encode.specs.SchemeShapes.{shape}
use Rattle.fl_encode.specs.Shapes.{BitPacked, Constant, Delta, Dictionary, FoR, FoRChunked, Plain, Primitive, RLE, RunValues, Runs, Shape, in_parentheses, is_plain, levels, max_levels, order_text, run_word, scheme_text, width_text}
use Rattle.fl_encode.specs.Texts.{Finds, RunsOutIf, after, child_by, digits_behind, expected, goes_on, has_widths, head_in, one_by, order_in, packing_behind, positioned, scheme_by, scheme_in, scheme_of_text, tail_behind, three_by, two_by, whole, width_in}

-- ---- what stands behind a scheme: nothing, a comma or a closing parenthesis
abbrev pub follows : List ℕ → Bool
follows [] = true
follows (x ∷ rest) = x == 44 || x == 41

one_of : (x : ℕ) → (x == 44 || x == 41) ≡ true → (x ≡ 44) ⊎ (x ≡ 41)
one_of x h = grind (arith, nat_tests)

no_tail : (byte : ℕ) (rest : List ℕ) → (44 == byte) ≡ false → (41 == byte) ≡ false → follows rest ≡ true → tail_behind byte rest ≡ None
no_tail byte [] e f h = refl
no_tail byte (x ∷ rest) e f h = elim (one_of x h) [
  | inl is ↦ rw (is, e) refl
  | inr is ↦ rw (is, f) refl
]

-- the word for a frame of reference, where no letter of it follows
abbrev pub NoLetter : List ℕ → Type 0
NoLetter text = (tail_behind 99 text ≡ None) × (tail_behind 119 text ≡ None)

pub no_letters : (rest : List ℕ) → follows rest ≡ true → NoLetter rest
no_letters rest h = (no_tail 99 rest refl refl h, no_tail 119 rest refl refl h)

pub order_read : (order : ItemOrder) (rest : List ℕ) → NoLetter rest → order_in (order_text order ++ rest) ≡ (order, rest)
order_read Natural rest none = rw none.1 refl
order_read Signed rest none = refl

pub for_read : (order : ItemOrder) (rest : List ℕ) → NoLetter rest → head_in (codes "for" ++ (order_text order ++ rest)) ≡ Ok (heads.FoR order, rest)
for_read Natural rest none = rw (none.0, none.1) refl
for_read Signed rest none = refl

pub forc_read : (order : ItemOrder) (rest : List ℕ) → NoLetter rest → head_in (codes "forc" ++ (order_text order ++ rest)) ≡ Ok (heads.FoRChunked order, rest)
forc_read order rest none = ap (λ (x : ItemOrder × List ℕ). Ok (heads.FoRChunked x.0, x.1)) (order_read order rest none)

-- ---- widths
pub stops : (number : ℕ) (rest : List ℕ) → follows rest ≡ true → digits_behind number rest ≡ (number, rest)
stops number [] h = refl
stops number (x ∷ rest) h = elim (one_of x h) [
  | inl is ↦ rw is refl
  | inr is ↦ rw is refl
]

pub goes : (number byte : ℕ) → 48 ≤ byte → byte ≤ 57 → 10 * number + (byte - 48) ≤ 255 → goes_on number byte ≡ true
goes number byte low high fits = grind (arith, nat_tests)

below : (n m : ℕ) → n < m → nat_lt n m ≡ true
below n m h = grind (arith, nat_tests)

not_below : (n m : ℕ) → m ≤ n → nat_lt n m ≡ false
not_below n m h = grind (arith, nat_tests)

one_digit : (d : ℕ) (rest : List ℕ) → d < 10 → follows rest ≡ true → width_in ((48 + d) ∷ rest) ≡ Ok (d, rest)
one_digit d rest h f =
    let same : 48 + d - 48 ≡ d = omega arith in
    rw (goes 0 (48 + d) (omega arith) (omega arith) (omega arith), same, stops d rest f) refl

two_digits : (d e : ℕ) (rest : List ℕ) → d < 10 → e < 10 → follows rest ≡ true → width_in ((48 + d) ∷ (48 + e) ∷ rest) ≡ Ok (10 * d + e, rest)
two_digits d e rest h k f =
    let first : 48 + d - 48 ≡ d = omega arith in
    let second : 48 + e - 48 ≡ e = omega arith in
    rw (goes 0 (48 + d) (omega arith) (omega arith) (omega arith), first, goes d (48 + e) (omega arith) (omega arith) (omega arith), second, stops (10 * d + e) rest f) refl

three_digits : (c d e : ℕ) (rest : List ℕ) → c < 10 → d < 10 → e < 10 → 10 * (10 * c + d) + e ≤ 255 → follows rest ≡ true → width_in ((48 + c) ∷ (48 + d) ∷ (48 + e) ∷ rest) ≡ Ok (10 * (10 * c + d) + e, rest)
three_digits c d e rest g h k fits f =
    let first : 48 + c - 48 ≡ c = omega arith in
    let second : 48 + d - 48 ≡ d = omega arith in
    let third : 48 + e - 48 ≡ e = omega arith in
    rw (goes 0 (48 + c) (omega arith) (omega arith) (omega arith), first, goes c (48 + d) (omega arith) (omega arith) (omega arith), second, goes (10 * c + d) (48 + e) (omega arith) (omega arith) (omega arith), third, stops (10 * (10 * c + d) + e) rest f) refl

width_back : (w : ℕ) (rest : List ℕ) → w ≤ 255 → follows rest ≡ true → width_in (width_text w ++ rest) ≡ Ok (w, rest)
width_back w rest fits f = elim (cases_Bool (nat_lt w 10)) [
  | inl small ↦
      let text : width_text w ≡ (48 + w) ∷ [] = rw small refl in
      ap (λ (t : List ℕ). width_in (t ++ rest)) text ∙ one_digit w rest (grind (arith, nat_tests)) f
  | inr large ↦ elim (cases_Bool (nat_lt w 100)) [
    | inl small ↦
        let text : width_text w ≡ (48 + w / 10) ∷ (48 + w % 10) ∷ [] = rw (large, small) refl in
        let bound : w < 100 = grind (arith, nat_tests) in
        let value : 10 * (w / 10) + w % 10 ≡ w = omega arith in
        ap (λ (t : List ℕ). width_in (t ++ rest)) text ∙ (two_digits (w / 10) (w % 10) rest (omega arith) (omega arith) f ∙ ap (λ (n : ℕ). Ok (n, rest)) value)
    | inr larger ↦
        let text : width_text w ≡ (48 + w / 100) ∷ (48 + w / 10 % 10) ∷ (48 + w % 10) ∷ [] = rw (large, larger) refl in
        let value : 10 * (10 * (w / 100) + w / 10 % 10) + w % 10 ≡ w = omega arith in
        ap (λ (t : List ℕ). width_in (t ++ rest)) text ∙ (three_digits (w / 100) (w / 10 % 10) (w % 10) rest (omega arith) (omega arith) (omega arith) (omega arith) f ∙ ap (λ (n : ℕ). Ok (n, rest)) value)
  ]
]

-- ---- children
pub plain_is : (s : Shape) → is_plain s ≡ true → s ≡ Plain
plain_is Plain h = refl
plain_is Primitive h = cc
plain_is Constant h = cc
plain_is (BitPacked packing) h = cc
plain_is (FoR order a) h = cc
plain_is (FoRChunked order a b) h = cc
plain_is (Delta a b) h = cc
plain_is (RLE run_values a b c) h = cc

-- a reader of schemes, and what it says of a text that begins with a shape's
abbrev pub Reader : Type 0
Reader = List ℕ → Result (Shape × List ℕ) ℕ

child_from : (s : Shape) (read : Reader) (rest : List ℕ) → (is_plain s ≡ false → read (scheme_text s ++ rest) ≡ Ok (s, rest)) → child_by read (scheme_text s ++ rest) ≡ Ok (s, rest)
child_from Plain read rest h = refl
child_from Primitive read rest h = h refl
child_from Constant read rest h = h refl
child_from (BitPacked BestWidth) read rest h = h refl
child_from (BitPacked (Width w)) read rest h = h refl
child_from (BitPacked BestWidths) read rest h = h refl
child_from (FoR order a) read rest h = h refl
child_from (FoRChunked order a b) read rest h = h refl
child_from (Delta a b) read rest h = h refl
child_from (RLE Runs a b c) read rest h = h refl
child_from (RLE Dictionary a b c) read rest h = h refl

-- a child is read wherever it stands
abbrev Back : Reader → Shape → Type 0
Back read s = (more : List ℕ) → follows more ≡ true → child_by read (scheme_text s ++ more) ≡ Ok (s, more)

pub no_children : (rest : List ℕ) → follows rest ≡ true → tail_behind 40 rest ≡ None
no_children rest f = no_tail 40 rest refl refl f

one_back : (a : Shape) (read : Reader) (rest : List ℕ) → follows rest ≡ true → Back read a → one_by read (in_parentheses (is_plain a) (scheme_text a) ++ rest) ≡ Ok (a, rest)
one_back a read rest f back = elim (cases_Bool (is_plain a)) [
  | inl plain ↦ rw (plain_is a plain, no_children rest f) refl
  | inr other ↦
      let inner : child_by read ((scheme_text a ++ 41 ∷ []) ++ rest) ≡ Ok (a, 41 ∷ rest) = ap (child_by read) (append_assoc (scheme_text a) (41 ∷ []) rest) ∙ back (41 ∷ rest) refl in
      ap (λ (b : Bool). one_by read (in_parentheses b (scheme_text a) ++ rest)) other ∙ ap (λ o. after o (λ x. after (expected 41 x.1) (λ more. Ok (x.0, more)))) inner
]

two_back : (a b : Shape) (read : Reader) (rest : List ℕ) → follows rest ≡ true → Back read a → Back read b → two_by read (in_parentheses (is_plain a && is_plain b) (scheme_text a ++ (codes "," ++ scheme_text b)) ++ rest) ≡ Ok (a, b, rest)
two_back a b read rest f backa backb = elim (cases_Bool (is_plain a && is_plain b)) [
  | inl plain ↦ rw (plain_is a (and_first (is_plain a) (is_plain b) plain), plain_is b (and_second (is_plain a) (is_plain b) plain), no_children rest f) refl
  | inr other ↦
      let text = scheme_text a ++ 44 ∷ scheme_text b in
      let whole_text : (text ++ 41 ∷ []) ++ rest ≡ scheme_text a ++ 44 ∷ (scheme_text b ++ 41 ∷ rest) = append_assoc text (41 ∷ []) rest ∙ append_assoc (scheme_text a) (44 ∷ scheme_text b) (41 ∷ rest) in
      let first : child_by read ((text ++ 41 ∷ []) ++ rest) ≡ Ok (a, 44 ∷ (scheme_text b ++ 41 ∷ rest)) = ap (child_by read) whole_text ∙ backa (44 ∷ (scheme_text b ++ 41 ∷ rest)) refl in
      ap (λ (c : Bool). two_by read (in_parentheses c text ++ rest)) other
      ∙ (ap (λ o. after o (λ x. after (expected 44 x.1) (λ more. after (child_by read more) (λ y. after (expected 41 y.1) (λ last. Ok (x.0, y.0, last)))))) first
      ∙ ap (λ o. after o (λ y. after (expected 41 y.1) (λ last. Ok (a, y.0, last)))) (backb (41 ∷ rest) refl))
]

three_back : (a b c : Shape) (read : Reader) (rest : List ℕ) → follows rest ≡ true → Back read a → Back read b → Back read c
    → three_by read (in_parentheses (is_plain a && (is_plain b && is_plain c)) (scheme_text a ++ (codes "," ++ (scheme_text b ++ (codes "," ++ scheme_text c)))) ++ rest) ≡ Ok (a, b, c, rest)
three_back a b c read rest f backa backb backc = elim (cases_Bool (is_plain a && (is_plain b && is_plain c))) [
  | inl plain ↦
      let others = and_second (is_plain a) (is_plain b && is_plain c) plain in
      rw (plain_is a (and_first (is_plain a) (is_plain b && is_plain c) plain), plain_is b (and_first (is_plain b) (is_plain c) others), plain_is c (and_second (is_plain b) (is_plain c) others), no_children rest f) refl
  | inr other ↦
      let text = scheme_text a ++ 44 ∷ (scheme_text b ++ 44 ∷ scheme_text c) in
      let last : (scheme_text b ++ 44 ∷ scheme_text c) ++ 41 ∷ rest ≡ scheme_text b ++ 44 ∷ (scheme_text c ++ 41 ∷ rest) = append_assoc (scheme_text b) (44 ∷ scheme_text c) (41 ∷ rest) in
      let whole_text : (text ++ 41 ∷ []) ++ rest ≡ scheme_text a ++ 44 ∷ (scheme_text b ++ 44 ∷ (scheme_text c ++ 41 ∷ rest)) =
      append_assoc text (41 ∷ []) rest ∙ (append_assoc (scheme_text a) (44 ∷ (scheme_text b ++ 44 ∷ scheme_text c)) (41 ∷ rest) ∙ ap (λ (t : List ℕ). scheme_text a ++ 44 ∷ t) last) in
      let first : child_by read ((text ++ 41 ∷ []) ++ rest) ≡ Ok (a, 44 ∷ (scheme_text b ++ 44 ∷ (scheme_text c ++ 41 ∷ rest))) = ap (child_by read) whole_text ∙ backa (44 ∷ (scheme_text b ++ 44 ∷ (scheme_text c ++ 41 ∷ rest))) refl in
      ap (λ (d : Bool). three_by read (in_parentheses d text ++ rest)) other
      ∙ (ap (λ o. after o (λ x. after (expected 44 x.1) (λ more. after (child_by read more) (λ y. after (expected 44 y.1) (λ third. after (child_by read third) (λ z. after (expected 41 z.1) (λ tail. Ok (x.0, y.0, z.0, tail)))))))) first
      ∙ (ap (λ o. after o (λ y. after (expected 44 y.1) (λ third. after (child_by read third) (λ z. after (expected 41 z.1) (λ tail. Ok (a, y.0, z.0, tail)))))) (backb (44 ∷ (scheme_text c ++ 41 ∷ rest)) refl)
      ∙ ap (λ o. after o (λ z. after (expected 41 z.1) (λ tail. Ok (a, b, z.0, tail)))) (backc (41 ∷ rest) refl)))
]

-- ---- schemes
no_letter_behind : (all : Bool) (text rest : List ℕ) → follows rest ≡ true → NoLetter (in_parentheses all text ++ rest)
no_letter_behind true text rest f = no_letters rest f
no_letter_behind false text rest f = (refl, refl)

-- what a word and its children say, and the width behind a colon
abbrev pub headed : ℕ → Result (Head × List ℕ) ℕ → Result (Shape × List ℕ) ℕ
headed n o = after o (λ x. scheme_by (scheme_in n) x.0 x.1)

abbrev pub widened : Result (ℕ × List ℕ) ℕ → Result (Packing × List ℕ) ℕ
widened o = after o (λ x. Ok (Width x.0, x.1))

-- the word for run-length encoding is read, and then its children
pub runs_read : (run_values : RunValues) (n : ℕ) (text : List ℕ) → scheme_in (suc n) (run_word run_values ++ text) ≡ after (three_by (scheme_in n) text) (λ x. Ok (RLE run_values x.0 x.1 x.2, x.3))
runs_read Runs n text = refl
runs_read Dictionary n text = refl

pub reads : (s : Shape) (n : ℕ) (rest : List ℕ) → is_plain s ≡ false → has_widths s ≡ true → levels s ≤ n → follows rest ≡ true → scheme_in n (scheme_text s ++ rest) ≡ Ok (s, rest)
reads Plain n rest p w h f = cc
reads Primitive zero rest p w h f = absurd (omega arith)
reads Primitive (suc n) rest p w h f = refl
reads Constant zero rest p w h f = absurd (omega arith)
reads Constant (suc n) rest p w h f = refl
reads (BitPacked packing) zero rest p w h f = absurd (omega arith)
reads (BitPacked BestWidth) (suc n) rest p w h f =
    let packed : packing_behind rest ≡ Ok (BestWidth, rest) = ap (λ (o : Option (List ℕ)). option_map_or (λ digits. after (width_in digits) (λ x. Ok (Width x.0, x.1))) o (Ok (BestWidth, rest))) (no_tail 58 rest refl refl f) in
    ap (λ (o : Result (Packing × List ℕ) ℕ). headed n (after o (λ q. Ok (heads.BitPacked q.0, q.1)))) packed
reads (BitPacked (Width width)) (suc n) rest p w h f =
    let fits : width ≤ 255 = grind (arith, nat_tests) in
    ap (λ (o : Result (ℕ × List ℕ) ℕ). headed n (after (widened o) (λ q. Ok (heads.BitPacked q.0, q.1)))) (width_back width rest fits f)
reads (BitPacked BestWidths) (suc n) rest p w h f = refl
reads (FoR order a) zero rest p w h f = absurd (omega arith)
reads (FoR order a) (suc n) rest p w h f =
    let back = one_back a (scheme_in n) rest f (λ more g. child_from a (scheme_in n) more (λ q. reads a n more q w (omega arith) g)) in
    let own = in_parentheses (is_plain a) (scheme_text a) in
    ap (λ (t : List ℕ). scheme_in (suc n) (codes "for" ++ t)) (append_assoc (order_text order) own rest)
    ∙ (ap (headed n) (for_read order (own ++ rest) (no_letter_behind (is_plain a) (scheme_text a) rest f)) ∙ ap (λ (o : Result (Shape × List ℕ) ℕ). after o (λ x. Ok (FoR order x.0, x.1))) back)
reads (FoRChunked order a b) zero rest p w h f = absurd (omega arith)
reads (FoRChunked order a b) (suc n) rest p w h f =
    let wa = and_first (has_widths a) (has_widths b) w in
    let wb = and_second (has_widths a) (has_widths b) w in
    let back = two_back a b (scheme_in n) rest f (λ more g. child_from a (scheme_in n) more (λ q. reads a n more q wa (omega arith) g)) (λ more g. child_from b (scheme_in n) more (λ q. reads b n more q wb (omega arith) g)) in
    let text = scheme_text a ++ (codes "," ++ scheme_text b) in
    let own = in_parentheses (is_plain a && is_plain b) text in
    ap (λ (t : List ℕ). scheme_in (suc n) (codes "forc" ++ t)) (append_assoc (order_text order) own rest)
    ∙ (ap (headed n) (forc_read order (own ++ rest) (no_letter_behind (is_plain a && is_plain b) text rest f)) ∙ ap (λ (o : Result (Shape × Shape × List ℕ) ℕ). after o (λ x. Ok (FoRChunked order x.0 x.1, x.2))) back)
reads (Delta a b) zero rest p w h f = absurd (omega arith)
reads (Delta a b) (suc n) rest p w h f =
    let wa = and_first (has_widths a) (has_widths b) w in
    let wb = and_second (has_widths a) (has_widths b) w in
    let back = two_back a b (scheme_in n) rest f (λ more g. child_from a (scheme_in n) more (λ q. reads a n more q wa (omega arith) g)) (λ more g. child_from b (scheme_in n) more (λ q. reads b n more q wb (omega arith) g)) in
    ap (λ (o : Result (Shape × Shape × List ℕ) ℕ). after o (λ x. Ok (Delta x.0 x.1, x.2))) back
reads (RLE run_values a b c) zero rest p w h f = absurd (omega arith)
reads (RLE run_values a b c) (suc n) rest p w h f =
    let wa = and_first (has_widths a) (has_widths b && has_widths c) w in
    let others = and_second (has_widths a) (has_widths b && has_widths c) w in
    let wb = and_first (has_widths b) (has_widths c) others in
    let wc = and_second (has_widths b) (has_widths c) others in
    let back = three_back a b c (scheme_in n) rest f (λ more g. child_from a (scheme_in n) more (λ q. reads a n more q wa (omega arith) g)) (λ more g. child_from b (scheme_in n) more (λ q. reads b n more q wb (omega arith) g)) (λ more g. child_from c (scheme_in n) more (λ q. reads c n more q wc (omega arith) g)) in
    let own = in_parentheses (is_plain a && (is_plain b && is_plain c)) (scheme_text a ++ (codes "," ++ (scheme_text b ++ (codes "," ++ scheme_text c)))) in
    ap (scheme_in (suc n)) (append_assoc (run_word run_values) own rest)
    ∙ (runs_read run_values n (own ++ rest) ∙ ap (λ (o : Result (Shape × Shape × Shape × List ℕ) ℕ). after o (λ x. Ok (RLE run_values x.0 x.1 x.2, x.3))) back)

pub printed_is_read : (s : Shape) → is_plain s ≡ false → has_widths s ≡ true → levels s ≤ max_levels → scheme_of_text (scheme_text s) ≡ Ok s
printed_is_read s p w h =
    let text = scheme_text s in
    let read : scheme_in max_levels text ≡ Ok (s, []) = ap (scheme_in max_levels) (sym (append-nil text)) ∙ reads s max_levels [] p w h refl in
    ap (λ (o : Result (Shape × List ℕ) ℕ). positioned (length text) (after o whole)) read

-- ---- reading
pub next_scheme : {X : Type 0} (view : X → Shape × List ℕ) (r : Result X Stop) (depth : ℕ) (text rest : List ℕ) (head : Head) → (depth ≡ 0 → ⊥) → head_in text ≡ Ok (head, rest) → Finds view r (scheme_by (scheme_in (depth - 1)) head rest) → Finds view r (scheme_in depth text)
next_scheme view r zero text rest head some h f = absurd (some refl)
next_scheme view r (suc n) text rest head some h f =
    let same : suc n - 1 ≡ n = omega arith in
    let here = subst (λ (m : ℕ). Finds view r (scheme_by (scheme_in m) head rest)) same f in
    subst (λ (o : Result (Shape × List ℕ) ℕ). Finds view r o) (sym (ap (headed n) h)) here

-- where memory never runs out
never : (X Y : Type 0) (asked : Bool) (e : Stop) → RunsOutIf {X = X} false (Err e) → RunsOutIf {X = Y} asked (Err e)
never X Y asked ends.OutOfMemory none = absurd cc
never X Y asked (ends.Left left) none = tt

pub never_runs_out : (X : Type 0) {Y : Type 0} (asked : Bool) (result : Result Y Stop) (e : Stop) → IsErrAnd result (λ f. f ≡ e) → RunsOutIf {X = X} false (Err e) → RunsOutIf asked result
never_runs_out X asked (Ok y) e is none = absurd is
never_runs_out X {Y = Y} asked (Err f) e is none = subst (λ (g : Stop). RunsOutIf {X = Y} asked (Err g)) (sym is) (never X Y asked e none)

-- ---- printing
pub shape_some : (s : Scheme) → is_plain (shape s) ≡ false
shape_some schemes.Primitive = refl
shape_some schemes.Constant = refl
shape_some (schemes.BitPacked packing) = refl
shape_some (schemes.FoR order a) = refl
shape_some (schemes.FoRChunked order a b) = refl
shape_some (schemes.Delta a b) = refl
shape_some (schemes.RLE a b c) = refl
shape_some (schemes.Dict a b c) = refl

-- the same of a scheme
pub scheme_is_read : (s : Scheme) → has_widths (shape s) ≡ true → levels (shape s) ≤ max_levels → scheme_of_text (scheme_text (shape s)) ≡ Ok (shape s)
scheme_is_read s w h = printed_is_read (shape s) (shape_some s) w h

pub one_printed : (old a : List ℕ) (all : Bool) → all ≡ false → ((old ++ 40 ∷ []) ++ a) ++ 41 ∷ [] ≡ old ++ in_parentheses all a
one_printed old a all h = rw h (append_assoc (old ++ 40 ∷ []) a (41 ∷ []) ∙ append_assoc old (40 ∷ []) (a ++ 41 ∷ []))

pub two_printed : (old a b : List ℕ) (all : Bool) → all ≡ false → ((((old ++ 40 ∷ []) ++ a) ++ 44 ∷ []) ++ b) ++ 41 ∷ [] ≡ old ++ in_parentheses all (a ++ (codes "," ++ b))
two_printed old a b all h =
    let inner : (((old ++ 40 ∷ []) ++ a) ++ 44 ∷ []) ++ b ≡ (old ++ 40 ∷ []) ++ (a ++ 44 ∷ b) = append_assoc ((old ++ 40 ∷ []) ++ a) (44 ∷ []) b ∙ append_assoc (old ++ 40 ∷ []) a (44 ∷ b) in
    ap (λ (t : List ℕ). t ++ 41 ∷ []) inner ∙ one_printed old (a ++ 44 ∷ b) all h

pub three_printed : (old a b c : List ℕ) (all : Bool) → all ≡ false → ((((((old ++ 40 ∷ []) ++ a) ++ 44 ∷ []) ++ b) ++ 44 ∷ []) ++ c) ++ 41 ∷ [] ≡ old ++ in_parentheses all (a ++ (codes "," ++ (b ++ (codes "," ++ c))))
three_printed old a b c all h =
    let first = ((old ++ 40 ∷ []) ++ a) ++ 44 ∷ [] in
    let inner : ((first ++ b) ++ 44 ∷ []) ++ c ≡ first ++ (b ++ 44 ∷ c) = append_assoc (first ++ b) (44 ∷ []) c ∙ append_assoc first b (44 ∷ c) in
    ap (λ (t : List ℕ). t ++ 41 ∷ []) inner ∙ two_printed old a (b ++ 44 ∷ c) all h
