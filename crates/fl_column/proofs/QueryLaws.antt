-- Tests of items, and what they say of a whole column.
use Rattle.std.proofs.Common.{◌≡◌, ℕ, ℤ, pos, zero, suc, ◌+◌, ◌<◌, Bool, true, false, List, [], ◌∷◌, length, map, get_or, not, negsuc, int_lt, int_le, nat_lt, nat_le, Option, Some, None, Result, Ok, Err, IfOk, IfErr, option_map, IsTrue, refl, ap, ◌∙◌, sym, arith}
use Rattle.std.specs.List.{list_all}
use Rattle.std.proofs.lemmas.List.{length-map, same_lists, get_or-map, get_or_default}
use Rattle.std.proofs.lemmas.Bool.Decides.{Decides-int_eq, nat_tests}
use Rattle.std.specs.Ordering.{int_eq}
use Rattle.fl_types.specs.Validities.{items_of, covers, masked, nullability_of}
use Rattle.fl_types.specs.Refusals.{Answers}
use Rattle.fl_types.specs.declared.error.FastLanesError.{FastLanesError}
use Rattle.fl_types.specs.declared.error.FastLanesError.TheVariants.{OutOfMemory}
use Rattle.fl_types.specs.declared.dtype.DType.TheVariants as dtypes
use Rattle.fl_column.specs.Columns.{BoolParts, PrimitiveParts, column_of_bools, column_of_primitive, new_bools}
use Rattle.fl_column.specs.Queries.{are_constant, each_next, same_item, tested}
use Rattle.fl_types.specs.Values.{bool_number}
use Rattle.fl_types.specs.declared.validity.Validity.{Validity}
use Rattle.fl_types.specs.declared.validity.Validity.TheVariants as valid
use Rattle.fl_column.proofs.ListLaws.{all_fails, all_from, and_true, and_false}

same_bits : (test : ℤ → Bool) (zs : List ℤ) (n : ℕ) (b : List Bool) → n ≡ length zs → length b ≡ n → ((i : ℕ) → i < n → get_or b i false ≡ test (get_or zs i (pos 0))) → b ≡ map test zs
same_bits test zs n b same len bits =
    same_lists b (map test zs) (len ∙ (same ∙ sym (length-map zs test)))
    (λ k d h. get_or_default b k d false h ∙ (bits k (omega arith) ∙ sym (get_or-map test zs k (pos 0) d (omega arith))))

-- a list of bits that are the answers of a test is the list of the answers
pub tested_bits : (test : ℤ → Bool) (zs : List ℤ) (n : ℕ) (r : Result (List Bool) FastLanesError) → n ≡ length zs → IfOk r (λ b. length b ≡ n) → IfOk r (λ b. (i : ℕ) → i < n → get_or b i false ≡ test (get_or zs i (pos 0)))
    → IfErr r (λ e. e ≡ OutOfMemory) → Answers (λ b. b) r (Ok (map test zs))
tested_bits test zs n (Err e) same len bits memory = rw memory tt
tested_bits test zs n (Ok b) same len bits memory = ap Ok (sym (same_bits test zs n b same len bits))

masked_tests : (test : ℤ → Bool) (bits : List Bool) (zs : List ℤ) → map (option_map bool_number) (masked bits (map test zs)) ≡ map (option_map (λ z. bool_number (test z))) (masked bits zs)
masked_tests test [] zs = refl
masked_tests test (b ∷ bits) [] = refl
masked_tests test (true ∷ bits) (z ∷ zs) = ap (λ xs. Some (bool_number (test z)) ∷ xs) (masked_tests test bits zs)
masked_tests test (false ∷ bits) (z ∷ zs) = ap (λ xs. None ∷ xs) (masked_tests test bits zs)

valid_tests : (test : ℤ → Bool) (zs : List ℤ) → map (option_map bool_number) (map (λ b. Some b) (map test zs)) ≡ map (option_map (λ z. bool_number (test z))) (map (λ z. Some z) zs)
valid_tests test [] = refl
valid_tests test (z ∷ zs) = ap (λ xs. Some (bool_number (test z)) ∷ xs) (valid_tests test zs)

null_tests : (test : ℤ → Bool) (zs : List ℤ) → map (option_map bool_number) (items_of valid.AllInvalid (map test zs)) ≡ map (option_map (λ z. bool_number (test z))) (items_of valid.AllInvalid zs)
null_tests test [] = refl
null_tests test (z ∷ zs) = ap (λ xs. None ∷ xs) (null_tests test zs)

-- a test of each slot is a test of each item
pub item_tests : (test : ℤ → Bool) (v : Validity) (zs : List ℤ) → map (option_map bool_number) (items_of v (map test zs)) ≡ map (option_map (λ z. bool_number (test z))) (items_of v zs)
item_tests test valid.NonNullable zs = valid_tests test zs
item_tests test valid.AllValid zs = valid_tests test zs
item_tests test valid.AllInvalid zs = null_tests test zs
item_tests test (valid.Array bits) zs = masked_tests test bits zs

pub tested_covers : (test : ℤ → Bool) (v : Validity) (zs : List ℤ) → IsTrue (covers v (length zs)) → covers v (length (map test zs)) ≡ true
tested_covers test v zs k = rw length-map k

-- the column of the bits that a test of the slots gives
pub tested_column : (test : ℤ → Bool) (a : PrimitiveParts) (v w : Validity) (zs : List ℤ) (bits : List Bool) (r : Result BoolParts FastLanesError) → v ≡ a.validity → IsTrue (covers a.validity (length a.slots)) → zs ≡ a.slots
    → ◌≡◌ {A = Result Validity FastLanesError} (Ok v) (Ok w) → ◌≡◌ {A = Result (List Bool) FastLanesError} (Ok (map test zs)) (Ok bits) → r ≡ new_bools bits w → Answers column_of_bools r (Ok (tested test (column_of_primitive a)))
tested_column test a v w zs bits r valid covered slots copied answered is =
    let validity : w ≡ a.validity = cc in
    let tests : bits ≡ map test a.slots = cc in
    let all = tested_covers test a.validity a.slots covered in
    rw (is, validity, tests, all) (ap (λ items. Ok (record { dtype = dtypes.Bool (nullability_of a.validity); items = items })) (sym (item_tests test a.validity a.slots)))

pub ruleset tests = (item_tests, tested_covers, length-map)

int_eq-refl : (z : ℤ) → int_eq z z ≡ true
int_eq-refl z = (Decides-int_eq z z).1 refl

same_joined : (a b c : Option ℤ) → same_item a b ≡ true → same_item a c ≡ true → same_item b c ≡ true
same_joined None None None e f = refl
same_joined None None (Some z) e f = f
same_joined None (Some y) c e f = cc
same_joined (Some x) None c e f = cc
same_joined (Some x) (Some y) None e f = f
same_joined (Some x) (Some y) (Some z) e f = (Decides-int_eq y z).1 (sym ((Decides-int_eq x y).0 e) ∙ (Decides-int_eq x z).0 f)

-- items that equal the first are all equal
pub constant_from_first : (items : List (Option ℤ)) → ((i : ℕ) → i < length items → same_item (get_or items 0 None) (get_or items i None) ≡ true) → are_constant items ≡ true
constant_from_first items h = all_from (λ x. list_all (same_item x) items) items None (λ i k. all_from (same_item (get_or items i None)) items None (λ j l. same_joined (get_or items 0 None) (get_or items i None) (get_or items j None) (h i k) (h j l)))

-- an item that differs from the first
pub not_constant : (items : List (Option ℤ)) (i : ℕ) → i < length items → same_item (get_or items 0 None) (get_or items i None) ≡ false → are_constant items ≡ false
not_constant items i h e = all_fails (λ x. list_all (same_item x) items) items 0 None (omega arith) (all_fails (same_item (get_or items 0 None)) items i None h e)

-- a pair that fails
pub next_fails : {A : Type 0} (test : A → A → Bool) (xs : List A) (i : ℕ) (d : A) → i + 1 < length xs → test (get_or xs i d) (get_or xs (i + 1) d) ≡ false → each_next test xs ≡ false
next_fails test [] i d h e = absurd (omega arith)
next_fails test (x ∷ []) i d h e = absurd (omega arith)
next_fails test (x ∷ y ∷ rest) zero d h e = rw e refl
next_fails test (x ∷ y ∷ rest) (suc i) d h e = let step : suc i + 1 ≡ suc (i + 1) = omega arith in and_false (test x y) (next_fails test (y ∷ rest) i d (omega arith) (rw step at e))

-- no pair that fails
pub next_holds : {A : Type 0} (test : A → A → Bool) (xs : List A) (d : A) → ((i : ℕ) → i + 1 < length xs → test (get_or xs i d) (get_or xs (i + 1) d) ≡ true) → each_next test xs ≡ true
next_holds test [] d h = refl
next_holds test (x ∷ []) d h = refl
next_holds test (x ∷ y ∷ rest) d h = and_true (test x y) (each_next test (y ∷ rest)) (h 0 (omega arith)) (next_holds test (y ∷ rest) d (λ i k. let step : suc i + 1 ≡ suc (i + 1) = omega arith in rw step at (h (suc i) (omega arith))))

not_below : (x y : ℕ) → not (nat_lt x y) ≡ nat_le y x
not_below x y = grind (arith, nat_tests)

-- what is not below is at it or above
pub not_less : (x y : ℤ) → not (int_lt x y) ≡ int_le y x
not_less (pos x) (pos y) = not_below x y
not_less (pos x) (negsuc y) = refl
not_less (negsuc x) (pos y) = refl
not_less (negsuc x) (negsuc y) = not_below y x
