-- Answers of a test, block by block, and the column that they make.
use Rattle.std.proofs.Common.{◌≡◌, ℕ, ℤ, ◌+◌, ◌-◌, ◌*◌, ◌/◌, ◌%◌, ◌<◌, ◌++◌, Bool, true, false, List, length, map, get_or, Option, Some, None, Result, Ok, cond, option_map, refl, ap, sym, ◌∙◌, arith, inl, inr, length-append}
use Rattle.std.specs.Prelude.{is_some}
use Rattle.std.proofs.lemmas.Bool.{cases_lt}
use Rattle.std.proofs.lemmas.List.{get_or-map, length-map, same_lists}
use Rattle.fastlanes.specs.Compared.{has_bit}
use Rattle.fl_types.specs.declared.dtype.DType.TheVariants as dtypes
use Rattle.fl_types.specs.declared.error.FastLanesError.{FastLanesError}
use Rattle.fl_types.specs.declared.validity.Validity.{Validity}
use Rattle.fl_types.specs.Bits.{bits_from}
use Rattle.fl_types.specs.Refusals.{Answers}
use Rattle.fl_types.specs.Types.{nullability_in}
use Rattle.fl_types.specs.Validities.{covers, is_valid_at, items_of}
use Rattle.fl_types.specs.Values.{bool_number}
use Rattle.fl_column.specs.Chunks.{chunk_count}
use Rattle.fl_column.specs.Columns.{BoolParts, Column, column_of_bools, new_bools}
use Rattle.fl_column.specs.Queries.{tested}
use Rattle.fl_column.proofs.ItemLaws.{get_or-items_of, length-items_of}
use Rattle.fl_bitpacking.proofs.ComparedLaws.{bit_added, bit_before, bit_from, length-bits_from}
use Rattle.fl_array.specs.BlockAnswers.{AreBlockAnswers}
use Rattle.fl_array.specs.Readers.{Prepared}
use Rattle.fl_array.specs.Reads.{IsValidityOf}
use Rattle.fl_ops.specs.BlockReads.{AreAnswered, AreAnswers}

-- before the first block
pub answered_none : (test : ℤ → Bool) (words : List ℕ) (p : Prepared) → length words ≡ 0 → AreAnswered test words 0 p
answered_none test words p none = record { long = none; each = λ i z inside below e. absurd (omega (arith, below)) }

-- a block more
pub answered_more : (test : ℤ → Bool) (words new bits : List ℕ) (j : ℕ) (p : Prepared) → new ≡ words ++ bits → length bits ≡ 16 → AreBlockAnswers test bits j p.offset p.column → AreAnswered test words j p → AreAnswered test new (j + 1) p
answered_more test words new bits j p is whole block begun =
    let long = begun.long in
    let both = length-append words bits in
    let size : length (words ++ bits) ≡ 16 * (j + 1) = omega arith in
    rw is (record {
      long = size;
      each = λ i z inside below e. elim (cases_lt (p.offset + i) (1024 * j)) [
        | inl before ↦ bit_before words bits j (p.offset + i) long before ∙ begun.each i z inside before e
        | inr here ↦
            let at : (p.offset + i) / 1024 ≡ j = omega arith in
            let place : p.offset + i - 1024 * j ≡ (p.offset + i) % 1024 = omega arith in
            bit_added words bits j (p.offset + i) long here ∙ (ap (has_bit bits) place ∙ block i z inside at e)
      ];
    })

-- after the last one
pub answered_all : (test : ℤ → Bool) (words : List ℕ) (bits : List Bool) (n offset len : ℕ) (p : Prepared) → n ≡ chunk_count (p.offset + length p.column.items) → offset ≡ p.offset → len ≡ length p.column.items → bits ≡ bits_from words offset len → AreAnswered test words n p → AreAnswers test bits p.column
answered_all test words bits n offset len p all offset_is len_is is answered = rw (is, offset_is, len_is) (record {
  long = length-bits_from words p.offset (length p.column.items);
  each = λ i z inside e. bit_from words p.offset (length p.column.items) i inside ∙ answered.each i z inside (omega arith) e;
})

-- what is answered where an item is, and where none is
item_answered : (test : ℤ → Bool) (o : Option ℤ) (valid bit : Bool) → valid ≡ is_some o → ((z : ℤ) → o ≡ Some z → bit ≡ test z) → option_map bool_number (cond valid (Some bit) None) ≡ option_map (λ z. bool_number (test z)) o
item_answered test None valid bit there each = rw there refl
item_answered test (Some z) valid bit there each = rw (there, each z refl) refl

-- the column of the answers
pub answers_are : (test : ℤ → Bool) (bits : List Bool) (v : Validity) (c : Column) (r : Result BoolParts FastLanesError) → IsValidityOf v c → AreAnswers test bits c → r ≡ new_bools bits v → Answers column_of_bools r (Ok (tested test c))
answers_are test bits v c r of answered is =
    let long = answered.long in
    let covered : covers v (length bits) ≡ true = rw long of.covered in
    let made : r ≡ Ok (record { bits = bits; validity = v }) = is ∙ (rw covered refl) in
    let items = items_of v bits in
    let size : length items ≡ length c.items = length-items_of v bits covered ∙ long in
    let first = length-map items (option_map bool_number) in
    let second = length-map c.items (option_map (λ z. bool_number (test z))) in
    let same : map (option_map bool_number) items ≡ map (option_map (λ z. bool_number (test z))) c.items = same_lists (map (option_map bool_number) items) (map (option_map (λ z. bool_number (test z))) c.items) (omega arith) (λ i d h.
    let inside : i < length c.items = omega arith in
    get_or-map (option_map bool_number) items i None d (omega arith) ∙ (ap (option_map bool_number) (get_or-items_of v bits i false covered (omega arith))
    ∙ (item_answered test (get_or c.items i None) (is_valid_at v i) (get_or bits i false) (of.valid i inside) (λ z e. answered.each i z inside e)
    ∙ sym (get_or-map (option_map (λ z. bool_number (test z))) c.items i None d inside)))) in
    let with : List (Option ℤ) → Column = λ xs. record { dtype = dtypes.Bool (nullability_in c.dtype); items = xs } in
    let column : column_of_bools (record { bits = bits; validity = v }) ≡ tested test c = rw of.nullable (ap with same) in
    let answer : Column → Result Column FastLanesError = λ x. Ok x in
    rw made (ap answer (sym column))
