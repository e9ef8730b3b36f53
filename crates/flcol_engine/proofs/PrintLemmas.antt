-- A printed column is read back.
use Rattle.std.proofs.Common.{◌≡◌, ◌≢◌, ℕ, ℤ, pos, negsuc, neg_ℤ, unsigned_abs, ◌<◌, ◌≤◌, suc, List, [], ◌∷◌, ◌++◌, length, arith, refl, ap, ◌∙◌, Bool, true, false, cond, None, Some, ◌&&◌, ◌||◌}
use Rattle.std.specs.Prelude.{Option, is_some, nat_lt, IsTrue}
use Rattle.std.specs.List.{AllByRecursion, list_all}
use Rattle.std.proofs.lemmas.Bool.{ne_eqb}
use Rattle.std.proofs.lemmas.Bool.Decides.{nat_tests}
use Rattle.std.specs.Fmt.{decimal}
use Rattle.std.specs.Str.{all_ascii_digits}
use Rattle.std.specs.Char.{is_ascii_digit}
use Rattle.std.specs.Str.Parse.{digits_value, AllDigits, IsNumeral}
use Rattle.std.proofs.lemmas.Str.Parse.{digit_from_value}
use Rattle.std.proofs.lemmas.Fmt.{decimal_is_IsNumeral}
use Rattle.fl_types.specs.declared.dtype.DType.TheVariants.{Primitive}
use Rattle.fl_types.specs.declared.dtype.Nullability.{Nullability}
use Rattle.fl_types.specs.declared.dtype.PType.{PType}
use Rattle.fl_types.specs.Integers.{fits}
use Rattle.fl_types.specs.Types.{can_be_null}
use Rattle.fl_column.specs.Columns.{is_column, option_all}
use Rattle.fl_column.proofs.ListLaws.{and_first, and_second}
use Rattle.flcol_engine.specs.Text.{column_in_text, item_in_line, item_text, items_in_lines, items_text, lines_of, number_in_digits}
use Rattle.flcol_engine.proofs.IntegerLemmas.{fits_small}

-- a line feed ends the line before it
pub line_first : (front rest : List ℕ) → AllByRecursion (λ b. b ≢ 10) front → lines_of (front ++ 10 ∷ rest) ≡ front ∷ lines_of rest
line_first [] rest h = refl
line_first (b ∷ bs) rest h = let ih = line_first bs rest h.1 in rw (ne_eqb b 10 h.0, ih) refl

-- the end ends a line that has bytes
pub line_last : (line : List ℕ) → AllByRecursion (λ b. b ≢ 10) line → 0 < length line → lines_of line ≡ line ∷ []
line_last [] h some = absurd (omega arith)
line_last (b ∷ []) h some = rw (ne_eqb b 10 h.0) refl
line_last (b ∷ c ∷ bs) h some = let ih = line_last (c ∷ bs) h.1 (omega arith) in rw (ne_eqb b 10 h.0, ih) refl

-- ---- digits
digits_have_no_line_feed : (ds : List ℕ) → AllDigits 10 ds → AllByRecursion (λ b. b ≢ 10) ds
digits_have_no_line_feed [] h = tt
digits_have_no_line_feed (c ∷ cs) h = let range = digit_from_value c h.0 in (omega arith, digits_have_no_line_feed cs h.1)

are_ascii_digits : (ds : List ℕ) → AllDigits 10 ds → all_ascii_digits ds ≡ true
are_ascii_digits [] h = refl
are_ascii_digits (c ∷ cs) h = let range = digit_from_value c h.0 in let here : is_ascii_digit c ≡ true = is_digit c range.0 range.1 in rw (here, are_ascii_digits cs h.1) refl
  where
    is_digit : (c : ℕ) → 48 ≤ c → c ≤ 57 → is_ascii_digit c ≡ true
    is_digit c low high = grind (arith, nat_tests)

lt_true : (a b : ℕ) → a < b → nat_lt a b ≡ true
lt_true a b h = grind (arith, nat_tests)

-- the digits of a number are read as that number, zeros before them too
numeral_read : (ds : List ℕ) → IsNumeral 10 ds → number_in_digits ds ≡ Some (digits_value 10 ds)
numeral_read ds h = rw (lt_true 0 (length ds) h.0, are_ascii_digits ds h.1) refl

-- ---- items
no_null : {A : Type 0} (b : Bool) (x y z : A) → y ≡ z → cond (b && false) x y ≡ z
no_null true x y z e = e
no_null false x y z e = e

-- the item of digits alone, which begin with neither a minus nor the first letter of null
numeral_item : (ptype : PType) (n : Nullability) (ds : List ℕ) → IsNumeral 10 ds → fits ptype (pos (digits_value 10 ds)) ≡ true → item_in_line ptype n ds ≡ Some (Some (pos (digits_value 10 ds)))
numeral_item ptype n [] h fit = absurd (omega (arith, h.0))
numeral_item ptype n (c ∷ cs) h fit =
    let range = digit_from_value c h.1.0 in
    let no_minus : c ≢ 45 = omega arith in
    let no_letter : c ≢ 110 = omega arith in
    let read = numeral_read (c ∷ cs) h in
    rw (ne_eqb c 110 no_letter) (no_null (can_be_null n) _ _ _ (rw (ne_eqb c 45 no_minus, read) (rw fit refl)))

minus_item : (ptype : PType) (n : Nullability) (ds : List ℕ) (z : ℤ) → number_in_digits ds ≡ Some (unsigned_abs z) → neg_ℤ (pos (unsigned_abs z)) ≡ z → fits ptype z ≡ true → item_in_line ptype n (45 ∷ ds) ≡ Some (Some z)
minus_item ptype n ds z read is fit = no_null (can_be_null n) _ _ _ (rw read (rw (is, fit) refl))

-- a printed item of the type is read
printed_item : (ptype : PType) (n : Nullability) (item : Option ℤ) → option_all (fits ptype) item ≡ true → (can_be_null n || is_some item) ≡ true → item_in_line ptype n (item_text item) ≡ Some item
printed_item ptype n None fit null = null_read (can_be_null n) _ _ null
  where
    null_read : {A : Type 0} (b : Bool) (x y : A) → (b || false) ≡ true → cond (b && true) x y ≡ x
    null_read true x y e = refl
    null_read false x y e = cc
printed_item ptype n (Some (pos k)) fit null =
    let d = decimal_is_IsNumeral k (fits_small ptype (pos k) fit) in
    let fit_too : fits ptype (pos (digits_value 10 (decimal k))) ≡ true = rw d.1 fit in
    numeral_item ptype n (decimal k) d.0 fit_too ∙ ap (λ m. Some (Some (pos m))) d.1
printed_item ptype n (Some (negsuc k)) fit null =
    let d = decimal_is_IsNumeral (suc k) (fits_small ptype (negsuc k) fit) in
    minus_item ptype n (decimal (suc k)) (negsuc k) (numeral_read (decimal (suc k)) d.0 ∙ ap Some d.1) refl fit

no_line_feed : (ptype : PType) (item : Option ℤ) → option_all (fits ptype) item ≡ true → AllByRecursion (λ b. b ≢ 10) (item_text item)
no_line_feed ptype None fit = (omega arith, (omega arith, (omega arith, (omega arith, tt))))
no_line_feed ptype (Some (pos k)) fit = digits_have_no_line_feed (decimal k) (decimal_is_IsNumeral k (fits_small ptype (pos k) fit)).0.1
no_line_feed ptype (Some (negsuc k)) fit = (omega arith, digits_have_no_line_feed (decimal (suc k)) (decimal_is_IsNumeral (suc k) (fits_small ptype (negsuc k) fit)).0.1)

-- items that are printed, a line for each, are read back
printed_items : (ptype : PType) (n : Nullability) (items : List (Option ℤ)) → list_all (option_all (fits ptype)) items ≡ true → (can_be_null n || list_all is_some items) ≡ true
    → items_in_lines ptype n (lines_of (items_text items)) ≡ Some items
printed_items ptype n [] fit nulls = refl
printed_items ptype n (item ∷ items) fit nulls =
    let here = and_first (option_all (fits ptype) item) (list_all (option_all (fits ptype)) items) fit in
    let ih = printed_items ptype n items (and_second (option_all (fits ptype) item) (list_all (option_all (fits ptype)) items) fit) (later (can_be_null n) (is_some item) (list_all is_some items) nulls) in
    rw (line_first (item_text item) (items_text items) (no_line_feed ptype item here), printed_item ptype n item here (first (can_be_null n) (is_some item) (list_all is_some items) nulls), ih) refl
  where
    first : (a b c : Bool) → (a || (b && c)) ≡ true → (a || b) ≡ true
    first true b c h = refl
    first false true c h = refl
    first false false c h = h

    later : (a b c : Bool) → (a || (b && c)) ≡ true → (a || c) ≡ true
    later true b c h = refl
    later false true c h = h
    later false false c h = cc

-- a column that is printed is read back
pub printed_column : (ptype : PType) (n : Nullability) (items : List (Option ℤ)) → IsTrue (is_column (record { dtype = Primitive ptype n; items = items })) → column_in_text ptype n (items_text items) ≡ Some (record { dtype = Primitive ptype n; items = items })
printed_column ptype n items is =
    let fit = and_first (list_all (option_all (fits ptype)) items) (can_be_null n || list_all is_some items) is in
    let nulls = and_second (list_all (option_all (fits ptype)) items) (can_be_null n || list_all is_some items) is in
    rw (printed_items ptype n items fit nulls) refl
