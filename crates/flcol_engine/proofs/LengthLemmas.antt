-- How long the lines of items are, and what they are from an item on.
use Rattle.std.proofs.Common.{◌≡◌, ◌⊎◌, inl, inr, ◌<◌, ◌≤◌, ◌+◌, ◌*◌, ◌^◌, ℕ, zero, suc, ℤ, pos, negsuc, List, [], ◌++◌, length, map, get_or, drop, take, max, true, false, None, IsTrue, refl, sym, ap, ◌∙◌, arith, unsigned_abs, length-append}
use Rattle.std.specs.Fmt.{decimal, signed_decimal}
use Rattle.std.specs.Prelude.{codes, int_lt}
use Rattle.std.specs.Str.Parse.{AllDigits}
use Rattle.std.proofs.Math.Nat.{pow-le-pow_right}
use Rattle.std.proofs.lemmas.Bool.{cases_lt}
use Rattle.std.proofs.lemmas.Bool.Decides.{nat_tests}
use Rattle.std.proofs.lemmas.Fmt.{decimal_is_IsNumeral, decimal_nonempty, length-decimal-le}
use Rattle.std.proofs.lemmas.Grind.{flat_map-append}
use Rattle.std.proofs.lemmas.List.{append-nil, drop_all, drop_more, length-map, take-append-drop, take_all}
use Rattle.std.proofs.lemmas.Str.Parse.{digits_value_short, numerals_by_value, tells_digits}
use Rattle.fl_types.specs.declared.dtype.DType.TheVariants as dtypes
use Rattle.fl_types.specs.declared.dtype.PType.{PType}
use Rattle.fl_types.specs.declared.validity.Validity.{Validity}
use Rattle.fl_types.specs.Validities.{covers, is_valid_at, items_of, nullability_of}
use Rattle.fl_column.specs.Columns.{column_of_primitive}
use Rattle.fl_column.proofs.ItemLaws.{length-items_of}
use Rattle.flcol_engine.specs.Printing.{column_text, item_line, item_lines, line, text_of_item, text_of_items}
use Rattle.flcol_engine.proofs.AnswerLemmas.{null_item, valid_item}

-- ---- digits
-- a number with no more than k digits is below 10 ^ k
below_power : (n k : ℕ) → n < 2 ^ 64 → length (decimal n) ≤ k → n < 10 ^ k
below_power n k small short =
    let d = decimal_is_IsNumeral n small in
    rw (← d.1) (digits_value_short (numerals_by_value (AllDigits 10) tells_digits) (decimal n) k d.0.1 short)

-- the digits of a number, 0 having one, are one more than its power of ten
pub decimal_len : (n m k : ℕ) → n < 2 ^ 64 → m ≡ max n 1 → 10 ^ k ≤ m → m < 10 * 10 ^ k → length (decimal n) ≡ k + 1
decimal_len n m zero small is low high =
    let some = decimal_nonempty n small in
    let most = length-decimal-le 1 n (omega arith) (omega (arith, is)) small in
    omega arith
decimal_len n m (suc k) small is low high =
    let most = length-decimal-le (suc (suc k)) n (omega arith) (omega (arith, is)) small in
    let ten : 10 ^ 1 ≤ 10 ^ suc k = pow-le-pow_right {n = 10} (omega arith) {i = 1} {j = suc k} (omega arith) in
    by_order most ten (cases_lt (length (decimal n)) (suc (suc k)))
  where
    by_order : length (decimal n) ≤ suc (suc k) → 10 ^ 1 ≤ 10 ^ suc k → (length (decimal n) < suc (suc k)) ⊎ (suc (suc k) ≤ length (decimal n)) → length (decimal n) ≡ suc k + 1
    by_order most ten (inl short) = let below = below_power n (suc k) small (omega arith) in absurd (omega (arith, is, below, ten))
    by_order most ten (inr long) = omega arith

-- the line of an integer that isn't below 0 is its digits and a line feed
pub plain_len : (z : ℤ) (m k : ℕ) → int_lt z (pos 0) ≡ false → unsigned_abs z < 2 ^ 64 → m ≡ max (unsigned_abs z) 1 → 10 ^ k ≤ m → m < 10 * 10 ^ k → k + 1 + 1 ≡ length (line (signed_decimal z))
plain_len (pos a) m k sign small more low high = let len = decimal_len a m k small more low high in rw length-append (omega (arith, len))
plain_len (negsuc a) m k sign small more low high = cc

-- that of one below 0 has a minus too
pub minus_len : (z : ℤ) (m k : ℕ) → int_lt z (pos 0) ≡ true → unsigned_abs z < 2 ^ 64 → m ≡ max (unsigned_abs z) 1 → 10 ^ k ≤ m → m < 10 * 10 ^ k → k + 1 + 2 ≡ length (line (signed_decimal z))
minus_len (pos a) m k sign small more low high = absurd (grind (arith, nat_tests, sign))
minus_len (negsuc a) m k sign small more low high = let len = decimal_len (suc a) m k small more low high in rw length-append (omega (arith, len))

-- ---- lines
-- the line of a valid item is its slot's
pub valid_line : {X : Type 0} (value : X → ℤ) (t : PType) (v : Validity) (xs : List X) (i : ℕ) (x : X) → IsTrue (covers v (length xs)) → i < length xs → is_valid_at v i ≡ true → get_or xs i x ≡ x → item_line t v (map value xs) i ≡ line (signed_decimal (value x))
valid_line value t v xs i x bit h valid is = rw (valid_item value v xs i x bit h valid is) refl

-- that of another is a null's
pub null_line : {X : Type 0} (value : X → ℤ) (t : PType) (v : Validity) (xs : List X) (i : ℕ) → IsTrue (covers v (length xs)) → i < length xs → is_valid_at v i ≡ false → item_line t v (map value xs) i ≡ line (codes "null")
null_line value t v xs i bit h valid = rw (null_item value v xs i (pos 0) bit h valid) refl

-- the lines from an item on are its own and those behind it
pub next_line : {X : Type 0} (value : X → ℤ) (t : PType) (v : Validity) (xs : List X) (i : ℕ) → IsTrue (covers v (length xs)) → i < length xs → item_lines t v (map value xs) i ≡ item_line t v (map value xs) i ++ item_lines t v (map value xs) (i + 1)
next_line value t v xs i bit h = rw (drop_more (items_of v (map value xs)) i None (rw (length-items_of v (map value xs) (rw length-map bit), length-map) h)) refl

pub more_lines : {X : Type 0} (value : X → ℤ) (t : PType) (v : Validity) (xs : List X) (i : ℕ) → IsTrue (covers v (length xs)) → i < length xs → length (item_lines t v (map value xs) i) ≡ length (item_line t v (map value xs) i) + length (item_lines t v (map value xs) (i + 1))
more_lines value t v xs i bit h = ap length (next_line value t v xs i bit h) ∙ length-append (item_line t v (map value xs) i) (item_lines t v (map value xs) (i + 1))

-- behind the last one there are none
pub no_lines : {X : Type 0} (value : X → ℤ) (t : PType) (v : Validity) (xs : List X) (i : ℕ) → IsTrue (covers v (length xs)) → length xs ≤ i → item_lines t v (map value xs) i ≡ []
no_lines value t v xs i bit h = rw (drop_all i (items_of v (map value xs)) (rw (length-items_of v (map value xs) (rw length-map bit), length-map) h)) refl

-- the lines from an item on are no longer than all
lines_within : (t : PType) (v : Validity) (xs : List ℤ) (i : ℕ) → length (item_lines t v xs i) ≤ length (item_lines t v xs 0)
lines_within t v xs i =
    let items = items_of v xs in
    let text = text_of_items (dtypes.Primitive t (nullability_of v)) in
    let apart : text items ≡ text (take i items) ++ text (drop i items) = ap text (sym (take-append-drop i items)) ∙ flat_map-append (λ item. line (text_of_item (dtypes.Primitive t (nullability_of v)) item)) (take i items) (drop i items) in
    let len = ap length apart ∙ length-append (text (take i items)) (text (drop i items)) in
    omega (arith, len)

-- ---- the whole text
-- a text that has the lines from an item on at its end, and room for those before it
pub record IsPrinted (t : PType) (v : Validity) (xs : List ℤ) (i end : ℕ) (text : List ℕ) : Type 0 where
  pub lines : drop end text ≡ item_lines t v xs i
  pub start : end + length (item_lines t v xs i) ≡ length text
  pub whole : length text ≡ length (item_lines t v xs 0)

-- no line is written
pub none_printed : {X : Type 0} (value : X → ℤ) (t : PType) (v : Validity) (xs : List X) (i len : ℕ) (text : List ℕ) → IsTrue (covers v (length xs)) → length xs ≤ i → len ≡ length text → length text ≡ length (item_lines t v (map value xs) 0) → IsPrinted t v (map value xs) i len text
none_printed value t v xs i len text bit h is room =
    let none = no_lines value t v xs i bit h in
    let empty = ap length none in
    record { lines = drop_all len text (omega (arith, is)) ∙ sym none; start = omega (arith, empty, is); whole = room }

-- there is room for the line before
pub line_fits : {X : Type 0} (value : X → ℤ) (t : PType) (v : Validity) (xs : List X) (i j end : ℕ) (text : List ℕ) → IsTrue (covers v (length xs)) → i < length xs → j ≡ i + 1 → IsPrinted t v (map value xs) j end text → length (item_line t v (map value xs) i) ≤ end
line_fits value t v xs i j end text bit h next printed =
    let more = more_lines value t v xs i bit h in
    let same = ap (λ k. length (item_lines t v (map value xs) k)) next in
    let part = lines_within t v (map value xs) i in
    omega (arith, more, same, part, printed.start, printed.whole)

-- the line before is written
pub line_printed : {X : Type 0} (value : X → ℤ) (t : PType) (v : Validity) (xs : List X) (i j end start : ℕ) (old new : List ℕ) → IsTrue (covers v (length xs)) → i < length xs → j ≡ i + 1 → IsPrinted t v (map value xs) j end old
    → start + length (item_line t v (map value xs) i) ≡ end → drop start new ≡ item_line t v (map value xs) i ++ drop end old → length new ≡ length old → IsPrinted t v (map value xs) i start new
line_printed value t v xs i j end start old new bit h next printed from written len =
    let more = more_lines value t v xs i bit h in
    let same = ap (λ k. length (item_lines t v (map value xs) k)) next in
    record {
      lines = written ∙ (ap (λ rest. item_line t v (map value xs) i ++ rest) (printed.lines ∙ ap (item_lines t v (map value xs)) next) ∙ sym (next_line value t v xs i bit h));
      start = omega (arith, more, same, from, len, printed.start);
      whole = len ∙ printed.whole;
    }

-- all lines are written
pub lines_printed : (t : PType) (v : Validity) (xs : List ℤ) (i end : ℕ) (text : List ℕ) → i ≤ 0 → IsPrinted t v xs i end text → text ≡ item_lines t v xs 0
lines_printed t v xs zero end text h printed =
    let first : end ≡ 0 = omega (arith, printed.start, printed.whole) in
    sym (ap (λ k. drop k text) first) ∙ printed.lines
lines_printed t v xs (suc i) end text h printed = absurd (omega arith)

-- they are the column's text
pub column_printed : (ptype t : PType) (v w : Validity) (xs ys : List ℤ) → t ≡ ptype → v ≡ w → xs ≡ ys → column_text (column_of_primitive (record { ptype = t; slots = ys; validity = w })) ≡ item_lines ptype v xs 0
column_printed ptype t v w xs ys typed valid slots = rw (typed, ← valid, ← slots) refl

-- what is written to the whole of a list stands in it
pub written_back : (len : ℕ) (new old : List ℕ) → length new ≡ length old → len ≡ length old → take len (new ++ drop (length new) old) ≡ new
written_back len new old same is =
    let none : drop (length new) old ≡ [] = drop_all (length new) old (omega (arith, same)) in
    rw (none, append-nil) (take_all len new (omega (arith, same, is)))
