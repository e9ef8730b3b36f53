-- The simplest validity of items is the one that their bits say.
use Rattle.std.proofs.lemmas.Bool.Decides.{Decides-eqb}
use Rattle.std.proofs.Common.{◌≡◌, ℕ, suc, IsTrue, ℤ, ◌<◌, ◌≤◌, Bool, true, false, List, [], ◌∷◌, length, map, Some, None, refl, ap, sym, ◌∙◌, arith}
use Rattle.std.specs.Prelude.{is_none, is_some, if◌then◌else◌}
use Rattle.std.specs.Bool.{beq}
use Rattle.std.specs.List.{list_all}
use Rattle.fl_types.specs.Validities.{covers, items_of, masked, nullability_of}
use Rattle.fl_types.specs.declared.validity.Validity.{Validity}
use Rattle.fl_types.specs.declared.validity.Validity.TheVariants as valid
use Rattle.fl_types.specs.declared.dtype.Nullability.TheVariants.{Nullable}
use Rattle.fl_types.specs.declared.dtype.PType.{PType}
use Rattle.fl_types.specs.declared.dtype.DType.TheVariants.{Primitive}
use Rattle.fl_column.specs.Columns.{PrimitiveParts, column_of_primitive, item_validity}

-- items with bits are all there where each bit is set
all_there : (bits : List Bool) (xs : List ℤ) → length xs ≡ length bits → list_all (λ item. is_some item) (masked bits xs) ≡ list_all (beq true) bits
all_there [] xs e = refl
all_there (bit ∷ bits) [] e = absurd (omega arith)
all_there (true ∷ bits) (x ∷ xs) e = all_there bits xs (omega arith)
all_there (false ∷ bits) (x ∷ xs) e = refl

-- and are all null where none is
none_there : (bits : List Bool) (xs : List ℤ) → length xs ≡ length bits → list_all (λ item. is_none item) (masked bits xs) ≡ list_all (beq false) bits
none_there [] xs e = refl
none_there (bit ∷ bits) [] e = absurd (omega arith)
none_there (true ∷ bits) (x ∷ xs) e = refl
none_there (false ∷ bits) (x ∷ xs) e = none_there bits xs (omega arith)

bits_again : (bits : List Bool) (xs : List ℤ) → length xs ≡ length bits → map (λ item. is_some item) (masked bits xs) ≡ bits
bits_again [] xs e = refl
bits_again (bit ∷ bits) [] e = absurd (omega arith)
bits_again (true ∷ bits) (x ∷ xs) e = ap (λ rest. true ∷ rest) (bits_again bits xs (omega arith))
bits_again (false ∷ bits) (x ∷ xs) e = ap (λ rest. false ∷ rest) (bits_again bits xs (omega arith))

-- the simplest validity by two tests of the bits
pub by_tests : (bits : List Bool) (xs : List ℤ) → length xs ≡ length bits
    → item_validity Nullable (items_of (valid.Array bits) xs) ≡ (if list_all (beq true) bits then valid.AllValid else if list_all (beq false) bits then valid.AllInvalid else valid.Array bits)
by_tests bits xs e =
    ap (λ b. if b then valid.AllValid else if list_all (λ item. is_none item) (masked bits xs) then valid.AllInvalid else valid.Array (map (λ item. is_some item) (masked bits xs))) (all_there bits xs e)
    ∙ ap (λ b. if list_all (beq true) bits then valid.AllValid else if b then valid.AllInvalid else valid.Array (map (λ item. is_some item) (masked bits xs))) (none_there bits xs e)
    ∙ ap (λ bs. if list_all (beq true) bits then valid.AllValid else if list_all (beq false) bits then valid.AllInvalid else valid.Array bs) (bits_again bits xs e)

all_valid : (xs : List ℤ) → list_all (λ item. is_some item) (items_of valid.AllValid xs) ≡ true
all_valid [] = refl
all_valid (x ∷ xs) = all_valid xs

-- where no item is null by the validity's form
pub full_simplest : (xs : List ℤ) → valid.AllValid ≡ item_validity Nullable (items_of valid.AllValid xs)
full_simplest xs = rw (all_valid xs) refl

all_null : (xs : List ℤ) → list_all (λ item. is_none item) (items_of valid.AllInvalid xs) ≡ true
all_null [] = refl
all_null (x ∷ xs) = all_null xs

-- where there are items, and each is null
pub null_simplest : (xs : List ℤ) (n : ℕ) → 0 < n → length xs ≡ n → valid.AllInvalid ≡ item_validity Nullable (items_of valid.AllInvalid xs)
null_simplest [] n lt e = absurd (omega arith)
null_simplest (x ∷ xs) n lt e = rw (all_null xs) refl

-- where there are none
pub no_simplest : (xs : List ℤ) (n : ℕ) → n ≤ 0 → length xs ≡ n → valid.AllValid ≡ item_validity Nullable (items_of valid.AllInvalid xs)
no_simplest [] n le e = refl
no_simplest (x ∷ xs) n le e = absurd (omega arith)

-- ---- the items stay
all_set : (bits : List Bool) (xs : List ℤ) → length xs ≡ length bits → list_all (beq true) bits ≡ true → items_of valid.AllValid xs ≡ masked bits xs
all_set [] [] e h = refl
all_set [] (x ∷ xs) e h = absurd (omega arith)
all_set (bit ∷ bits) [] e h = absurd (omega arith)
all_set (true ∷ bits) (x ∷ xs) e h = ap (λ rest. Some x ∷ rest) (all_set bits xs (omega arith) h)
all_set (false ∷ bits) (x ∷ xs) e h = cc

none_set : (bits : List Bool) (xs : List ℤ) → length xs ≡ length bits → list_all (beq false) bits ≡ true → items_of valid.AllInvalid xs ≡ masked bits xs
none_set [] [] e h = refl
none_set [] (x ∷ xs) e h = absurd (omega arith)
none_set (bit ∷ bits) [] e h = absurd (omega arith)
none_set (true ∷ bits) (x ∷ xs) e h = cc
none_set (false ∷ bits) (x ∷ xs) e h = ap (λ rest. None ∷ rest) (none_set bits xs (omega arith) h)

-- the plain array of these slots
abbrev plain : PType → List ℤ → Validity → PrimitiveParts
plain p xs v = record { ptype = p; slots = xs; validity = v }

by_bits : (p : PType) (xs : List ℤ) (bits : List Bool) (all none : Bool) → length xs ≡ length bits → list_all (beq true) bits ≡ all → list_all (beq false) bits ≡ none
    → column_of_primitive (plain p xs (if all then valid.AllValid else if none then valid.AllInvalid else valid.Array bits)) ≡ column_of_primitive (plain p xs (valid.Array bits))
by_bits p xs bits true none e h k = ap (λ items. record { dtype = Primitive p Nullable; items = items }) (all_set bits xs e h)
by_bits p xs bits false true e h k = ap (λ items. record { dtype = Primitive p Nullable; items = items }) (none_set bits xs e k)
by_bits p xs bits false false e h k = refl

same_simplest : (p : PType) (xs : List ℤ) (v : Validity) → IsTrue (covers v (length xs)) → column_of_primitive (plain p xs (item_validity (nullability_of v) (items_of v xs))) ≡ column_of_primitive (plain p xs v)
same_simplest p xs valid.NonNullable h = refl
same_simplest p xs valid.AllValid h = ap (λ v. column_of_primitive (plain p xs v)) (sym (full_simplest xs))
same_simplest p [] valid.AllInvalid h = refl
same_simplest p (x ∷ xs) valid.AllInvalid h = ap (λ v. column_of_primitive (plain p (x ∷ xs) v)) (sym (null_simplest (x ∷ xs) (suc (length xs)) (omega arith) refl))
same_simplest p xs (valid.Array bits) h =
    let long : length xs ≡ length bits = sym ((Decides-eqb (length bits) (length xs)).0 h) in
    ap (λ v. column_of_primitive (plain p xs v)) (by_tests bits xs long) ∙ by_bits p xs bits (list_all (beq true) bits) (list_all (beq false) bits) long refl refl

-- a plain array with its simplest validity is the same column
pub simplest_column : (a b : PrimitiveParts) → IsTrue (covers a.validity (length a.slots)) → b ≡ record { ptype = a.ptype; slots = a.slots; validity = item_validity (nullability_of a.validity) (column_of_primitive a).items } → column_of_primitive b ≡ column_of_primitive a
simplest_column a b h e = ap column_of_primitive e ∙ same_simplest a.ptype a.slots a.validity h
