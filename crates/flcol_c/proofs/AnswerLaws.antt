-- Answers of tests.
use Rattle.std.proofs.Common.{inl, inr, arith, ◌≡◌, ℕ, suc, ℤ, pos, List, [], ◌∷◌, length, map, Bool, true, false, not, Option, Some, None, Result, Ok, Err, option_map, count_by, ◌∙◌, ap, sym, subst, refl}
use Rattle.std.specs.Prelude.{All, is_none}
use Rattle.std.specs.List.{list_all}
use Rattle.std.specs.Ordering.{int_eq}
use Rattle.std.proofs.lemmas.List.{length-map}
use Rattle.std.proofs.lemmas.Bool.{eq-eqb}
use Rattle.fl_types.specs.declared.dtype.DType.{DType}
use Rattle.fl_types.specs.declared.dtype.PType.{PType}
use Rattle.fl_types.specs.declared.scalar.PValue.{PValue}
use Rattle.fl_types.specs.declared.error.FastLanesError.{FastLanesError}
use Rattle.fl_types.specs.declared.error.FastLanesError.TheVariants.{OutOfMemory}
use Rattle.fl_types.specs.Refusals.{Refuses}
use Rattle.fl_types.proofs.RefusalLaws.{Refuses_cases}
use Rattle.fl_types.specs.declared.query.CompareOperator.{CompareOperator}
use Rattle.fl_types.specs.declared.query.BetweenOptions.{BetweenOptions}
use Rattle.fl_types.specs.Types.{has_ptype, is_integer}
use Rattle.fl_types.specs.Values.{ScalarParts, bool_number, ptype_of_value}
use Rattle.fl_column.specs.Columns.{BoolParts, Column, bools, column_of_bools}
use Rattle.fl_column.specs.Queries.{holds, is_between, tested}
use Rattle.fl_ops.specs.Queries.{between_scalars, compare_scalar, integer_in, nullable_with}
use Rattle.fl_scan.specs.Membership.{are_comparable}
use Rattle.fl_scan.specs.Totals.{of_integers}
use Rattle.flcol_c.specs.Answering.{AreAnswers, compare_fault, operator_of, test_fault}
use Rattle.fl_column.specs.Bitmaps.{bitmap_len, bits_in}
use Rattle.fl_bitmaps.specs.Bitmaps.{items_in}
use Rattle.flcol_c.specs.Bitmaps.{room_fault}
use Rattle.flcol_c.specs.Reading.{nulls_fault, nulls_in}
use Rattle.flcol_c.proofs.ReadLaws.{integers_of_type, ok_is}
use Rattle.flcol_c.proofs.NullCounts.{nulls_mapped}

abbrev truth : ℤ → Bool
truth z = not (int_eq z (pos 0))

truths_back : (xs : List (Option Bool)) → map (option_map truth) (map (option_map bool_number) xs) ≡ xs
truths_back [] = refl
truths_back (None ∷ xs) = ap (λ ys. None ∷ ys) (truths_back xs)
truths_back (Some true ∷ xs) = ap (λ ys. Some true ∷ ys) (truths_back xs)
truths_back (Some false ∷ xs) = ap (λ ys. Some false ∷ ys) (truths_back xs)

same_truths : (xs ys : List (Option Bool)) → map (option_map bool_number) xs ≡ map (option_map bool_number) ys → xs ≡ ys
same_truths xs ys e = sym (truths_back xs) ∙ (ap (map (option_map truth)) e ∙ truths_back ys)

tests_as_truths : (test : ℤ → Bool) (items : List (Option ℤ)) → map (option_map (λ z. bool_number (test z))) items ≡ map (option_map bool_number) (map (option_map test) items)
tests_as_truths test [] = refl
tests_as_truths test (None ∷ items) = ap (λ ys. None ∷ ys) (tests_as_truths test items)
tests_as_truths test (Some z ∷ items) = ap (λ ys. Some (bool_number (test z)) ∷ ys) (tests_as_truths test items)

answers_of : (test : ℤ → Bool) (c : Column) (b : BoolParts) → map (option_map (λ z. bool_number (test z))) c.items ≡ (column_of_bools b).items → bools b ≡ map (option_map test) c.items
answers_of test c b e = same_truths (bools b) (map (option_map test) c.items) (sym e ∙ tests_as_truths test c.items)

-- what a comparison answered
pub compared : (operator : CompareOperator) (constant : ScalarParts) (z : ℤ) (c : Column) (b : BoolParts) (q : PType) → integer_in constant ≡ z → has_ptype q c.dtype ≡ true → compare_scalar operator constant c ≡ Ok (column_of_bools b) → bools b ≡ map (option_map (holds operator z)) c.items
compared operator constant z c b q is typed e =
    let integers : is_integer c.dtype ≡ true = integers_of_type q c.dtype typed in
    let answer : ◌≡◌ {A = Result Column FastLanesError} (Ok (nullable_with constant (tested (holds operator (integer_in constant)) c))) (Ok (column_of_bools b)) = (rw integers refl) ∙ e in
    subst (λ (k : ℤ). bools b ≡ map (option_map (holds operator k)) c.items) is
    (answers_of (holds operator (integer_in constant)) c b (ap (λ (d : Column). d.items) (ok_is (nullable_with constant (tested (holds operator (integer_in constant)) c)) (column_of_bools b) answer)))

-- a comparison of integers is not refused
pub compare_memory : (operator : CompareOperator) (constant : ScalarParts) (c : Column) (q : PType) (e : FastLanesError) → has_ptype q c.dtype ≡ true → Refuses e (compare_scalar operator constant c) → e ≡ OutOfMemory
compare_memory operator constant c q e typed refused = elim (Refuses_cases e (compare_scalar operator constant c) refused) [
  | inl memory ↦ memory
  | inr same ↦
      let integers : is_integer c.dtype ≡ true = integers_of_type q c.dtype typed in
      let wrong : ◌≡◌ {A = Result Column FastLanesError} (Ok (nullable_with constant (tested (holds operator (integer_in constant)) c))) (Err e) = (rw integers refl) ∙ same in
      absurd (let none : ⊥ = cc in none)
]

-- what a range test answered
pub lies_between : (lower upper : ScalarParts) (low high : ℤ) (options : BetweenOptions) (c : Column) (b : BoolParts) (q : PType) → integer_in lower ≡ low → integer_in upper ≡ high → has_ptype q c.dtype ≡ true → between_scalars lower upper options c ≡ Ok (column_of_bools b) → bools b ≡ map (option_map (is_between options low high)) c.items
lies_between lower upper low high options c b q is_low is_high typed e =
    let integers : is_integer c.dtype ≡ true = integers_of_type q c.dtype typed in
    let test = is_between options (integer_in lower) (integer_in upper) in
    let made : Column = nullable_with upper (nullable_with lower (tested test c)) in
    let answer : ◌≡◌ {A = Result Column FastLanesError} (Ok made) (Ok (column_of_bools b)) = (rw integers refl) ∙ e in
    subst (λ (k : ℤ). bools b ≡ map (option_map (is_between options low k)) c.items) is_high
    (subst (λ (k : ℤ). bools b ≡ map (option_map (is_between options k (integer_in upper))) c.items) is_low
    (answers_of test c b (ap (λ (d : Column). d.items) (ok_is made (column_of_bools b) answer))))

-- what a test of integers answered
pub tests_answered : (test : ℤ → Bool) (c : Column) (b : BoolParts) (q : PType) → has_ptype q c.dtype ≡ true → of_integers c (tested test c) ≡ Ok (column_of_bools b) → bools b ≡ map (option_map test) c.items
tests_answered test c b q typed e =
    let integers : is_integer c.dtype ≡ true = integers_of_type q c.dtype typed in
    let answer : ◌≡◌ {A = Result Column FastLanesError} (Ok (tested test c)) (Ok (column_of_bools b)) = (rw integers refl) ∙ e in
    answers_of test c b (ap (λ (d : Column). d.items) (ok_is (tested test c) (column_of_bools b) answer))

-- a test of integers is not refused
pub tests_memory : (test : ℤ → Bool) (c : Column) (q : PType) (e : FastLanesError) → has_ptype q c.dtype ≡ true → Refuses e (of_integers c (tested test c)) → e ≡ OutOfMemory
tests_memory test c q e typed refused = elim (Refuses_cases e (of_integers c (tested test c)) refused) [
  | inl memory ↦ memory
  | inr same ↦
      let integers : is_integer c.dtype ≡ true = integers_of_type q c.dtype typed in
      let wrong : ◌≡◌ {A = Result Column FastLanesError} (Ok (tested test c)) (Err e) = (rw integers refl) ∙ same in
      absurd (let none : ⊥ = cc in none)
]

-- values of a type are of a column's
listed_of_type : (q : PType) (d : DType) (values : List PValue) → has_ptype q d ≡ true → All (λ value. ptype_of_value value ≡ q) values → list_all (λ value. has_ptype (ptype_of_value value) d) values ≡ true
listed_of_type q d [] typed all = refl
listed_of_type q d (value ∷ values) typed all =
    let first : has_ptype (ptype_of_value value) d ≡ true = ap (λ p. has_ptype p d) (all 0 value (omega arith)) ∙ typed in
    rw (first, listed_of_type q d values typed (λ k other within. all (suc k) other (omega arith))) refl

-- so items of the column are tested for being one of them
pub list_comparable : (q : PType) (c : Column) (values : List PValue) → has_ptype q c.dtype ≡ true → All (λ value. ptype_of_value value ≡ q) values → are_comparable c values ≡ true
list_comparable q c values typed all =
    let integers : is_integer c.dtype ≡ true = integers_of_type q c.dtype typed in
    rw (integers, listed_of_type q c.dtype values typed all) refl

-- as many answers are null as items
pub nulls_answered : (test : ℤ → Bool) (c : Column) (b : BoolParts) → bools b ≡ map (option_map test) c.items → count_by is_none (bools b) ≡ count_by is_none c.items
nulls_answered test c b e = ap (count_by is_none) e ∙ nulls_mapped test c.items

-- there are as many answers as items
pub answers_counted : (test : ℤ → Bool) (c : Column) (b : BoolParts) (n : ℕ) → n ≡ length b.bits → n ≡ length (column_of_bools b).items → bools b ≡ map (option_map test) c.items → length b.bits ≡ length c.items
answers_counted test c b n bits items e = sym bits ∙ (items ∙ (length-map (bools b) (option_map bool_number) ∙ (ap length e ∙ length-map c.items (option_map test))))

-- a column that is tested
pub test_allowed : (ptype : PType) (bits : ℕ) (c : Column) → has_ptype ptype c.dtype ≡ true → bits ≡ bitmap_len (length c.items) → test_fault ptype bits c ≡ None
test_allowed ptype bits c typed room = rw (typed, eq-eqb bits (bitmap_len (length c.items)) room) refl

-- or compared
pub compare_allowed : (ptype : PType) (operator bits : ℕ) (op : CompareOperator) (c : Column) → operator_of operator ≡ Some op → has_ptype ptype c.dtype ≡ true → bits ≡ bitmap_len (length c.items) → compare_fault ptype operator bits c ≡ None
compare_allowed ptype operator bits op c named typed room = let known : is_none (operator_of operator) ≡ false = ap is_none named in (rw known refl) ∙ test_allowed ptype bits c typed room

-- the room for the bitmap of its answers
pub test_room : (bytes n nulls : ℕ) (c : Column) → n ≡ length c.items → nulls ≡ nulls_in c → room_fault bytes n nulls ≡ nulls_fault bytes c
test_room bytes n nulls c len null = rw (len, null) refl

-- the bits that were written are the answers
pub answered : (test : ℤ → Bool) (c : Column) (b : BoolParts) (bits validity : List ℕ) → bools b ≡ map (option_map test) c.items → length b.bits ≡ length c.items → bools b ≡ items_in (bits_in bits (length b.bits)) validity → AreAnswers test c bits validity
answered test c b bits validity told len e = sym told ∙ (e ∙ ap (λ n. items_in (bits_in bits n) validity) len)
