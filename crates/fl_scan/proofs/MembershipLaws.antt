-- Answers of a test, of which those for nulls are null.
use Rattle.std.proofs.Common.{◌≡◌, ◌&&◌, ℕ, ℤ, pos, ◌<◌, List, length, map, get_or, Bool, true, false, cond, Option, Some, None, Result, Ok, refl, ap, sym, ◌∙◌, arith, option_map}
use Rattle.std.specs.Prelude.{is_some, unwrap_or}
use Rattle.std.proofs.lemmas.List.{get_or-map, length-map, same_lists}
use Rattle.std.proofs.lemmas.List.FromFn.{length-map-range_with_len}
use Rattle.fl_types.specs.declared.error.FastLanesError.{FastLanesError}
use Rattle.fl_types.specs.declared.validity.Validity.{Validity}
use Rattle.fl_types.specs.Refusals.{Answers}
use Rattle.fl_types.specs.Types.{nullability_in}
use Rattle.fl_types.specs.Validities.{covers, is_valid_at, items_of}
use Rattle.fl_types.specs.Values.{bool_number}
use Rattle.fl_types.specs.declared.dtype.DType.TheVariants as dtypes
use Rattle.fl_column.specs.Columns.{BoolParts, Column, column_of_bools, integers_in, new_bools}
use Rattle.fl_column.specs.Queries.{tested}
use Rattle.fl_column.proofs.ItemLaws.{get_or-items_of, length-items_of}
use Rattle.fl_array.specs.Reads.{IsValidityOf}
use Rattle.fl_scan.specs.Counts.{both, marked_from, passed_in}
use Rattle.fl_scan.specs.Selections.{passing_marks}
use Rattle.fl_scan.proofs.BlockLaws.{integer_at}
use Rattle.fl_scan.proofs.PassingLaws.{get_mark}

covers_as : (v : Validity) (n m : ℕ) → n ≡ m → covers v m ≡ true → covers v n ≡ true
covers_as v n m e h = rw e h

-- the answer of an item
one_answer : (test : ℤ → Bool) (valid : Bool) (o : Option ℤ) (answer : Bool) → valid ≡ is_some o → ((z : ℤ) → o ≡ Some z → answer ≡ test z) → option_map bool_number (cond valid (Some answer) None) ≡ option_map (λ z. bool_number (test z)) o
one_answer test valid None answer is each = rw is refl
one_answer test valid (Some z) answer is each = rw (is, each z refl) refl

one_mark : (test : ℤ → Bool) (valid : Bool) (o : Option ℤ) (z : ℤ) → valid ≡ is_some o → o ≡ Some z → (valid && test (unwrap_or o (pos 0))) ≡ test z
one_mark test valid None z is some = cc
one_mark test valid (Some y) z is some = let same : y ≡ z = cc in rw is (ap test same)

-- the column of the answers
pub answers_are : (test : ℤ → Bool) (bits : List Bool) (v : Validity) (c : Column) (r : Result BoolParts FastLanesError) → IsValidityOf v c → bits ≡ passing_marks test v c → r ≡ new_bools bits v → Answers column_of_bools r (Ok (tested test c))
answers_are test bits v c r of answered is =
    let long : length bits ≡ length c.items = ap length answered ∙ length-map-range_with_len (both (marked_from v 0) (passed_in test (integers_in c))) 0 (length c.items) in
    let covered : covers v (length bits) ≡ true = covers_as v (length bits) (length c.items) long of.covered in
    let shown = items_of v bits in
    let size = length-items_of v bits covered in
    let left = length-map shown (option_map bool_number) in
    let right = length-map c.items (option_map (λ z. bool_number (test z))) in
    let items : map (option_map bool_number) shown ≡ map (option_map (λ z. bool_number (test z))) c.items = same_lists _ _ (omega arith) (λ i d h.
    let inside : i < length c.items = omega arith in
    get_or-map (option_map bool_number) shown i None d (omega arith)
    ∙ (ap (option_map bool_number) (get_or-items_of v bits i false covered (omega arith))
    ∙ (one_answer test (is_valid_at v i) (get_or c.items i None) (get_or bits i false) (of.valid i inside) (λ z e.
    ap (λ (bs : List Bool). get_or bs i false) answered ∙ (get_mark test v c i inside ∙ (ap (λ y. is_valid_at v i && test y) (integer_at c i inside) ∙ one_mark test (is_valid_at v i) (get_or c.items i None) z (of.valid i inside) e)))
    ∙ sym (get_or-map (option_map (λ z. bool_number (test z))) c.items i None d inside)))) in
    rw (is, covered) (ap (λ column. Ok column) (rw of.nullable (ap (λ list. record { dtype = dtypes.Bool (nullability_in c.dtype); items = list }) (sym items))))
