-- Integers in another type, and the nulls that hinder it.
use Rattle.std.proofs.Common.{◌≡◌, ℕ, ℤ, suc, ◌+◌, ◌<◌, ◌&&◌, ◌||◌, not, Bool, true, false, List, [], ◌∷◌, length, map, Option, Some, None, option_map, is_some, is_none, IsTrue, if◌then◌else◌, cond, nat_lt, refl, ◌∙◌, sym, arith}
use Rattle.std.specs.Bool.{beq}
use Rattle.std.specs.List.{list_all, list_any}
use Rattle.std.proofs.lemmas.Bool.{lt-ltb}
use Rattle.std.proofs.lemmas.Bool.Decides.{Decides-int_eq, Decides-ltb, Decides-eqb, Decides-like, same_from_decides}
use Rattle.std.proofs.lemmas.List.Sums.{count_by-le-length, sum_by-cons}
use Rattle.num_traits.specs.Laws.{Checks}
use Rattle.fl_types.specs.Bits.{true_count}
use Rattle.fl_types.specs.Validities.{items_of, covers, masked}
use Rattle.fl_types.specs.Integers.{fits, wrap}
use Rattle.fl_column.specs.Selections.{any_null}
use Rattle.fl_types.specs.Types.{can_be_null}
use Rattle.fl_types.specs.declared.dtype.PType.{PType}
use Rattle.fl_types.specs.declared.dtype.Nullability.{Nullability}
use Rattle.fl_types.specs.declared.dtype.Nullability.TheVariants.{NonNullable, Nullable}
use Rattle.fl_types.specs.declared.validity.Validity.{Validity}
use Rattle.fl_types.specs.declared.validity.Validity.TheVariants as valid

false_by : (b : Bool) → (b ≡ true → ⊥) → b ≡ false
false_by true h = absurd (h refl)
false_by false h = refl

-- a checked conversion, by the type's own test
pub checked : {T : Type 0} (value : T → ℤ) (Fits : ℤ → Type 0) (ptype : PType) (z : ℤ) (r : Option T) → (Fits z → wrap ptype z ≡ z) → (wrap ptype z ≡ z → Fits z) → Checks value Fits z r
    → option_map value r ≡ (if fits ptype z then Some z else None)
checked value Fits ptype z (Some y) to from h = let yes : fits ptype z ≡ true = (Decides-int_eq (wrap ptype z) z).1 (to h.0) in rw (yes, h.1) refl
checked value Fits ptype z None to from h = let no : fits ptype z ≡ false = false_by (fits ptype z) (λ e. h (from ((Decides-int_eq (wrap ptype z) z).0 e))) in rw no refl

pub some_if : {A : Type 0} (b : Bool) (x y : A) → Some x ≡ (if b then Some y else None) → (b ≡ true) × (x ≡ y)
some_if true x y e = (refl, cc)
some_if false x y e = cc

none_of_all : {A : Type 0} (xs : List A) → list_any is_none (map (λ x. Some x) xs) ≡ false
none_of_all [] = refl
none_of_all (x ∷ xs) = none_of_all xs

any_of_nulls : {A : Type 0} (xs : List A) → list_any is_none (items_of valid.AllInvalid xs) ≡ nat_lt 0 (length xs)
any_of_nulls [] = refl
any_of_nulls (x ∷ xs) = sym (lt-ltb 0 (suc (length xs)) (omega arith))

same_test : (a b c d : ℕ) → (a < b → c < d) → (c < d → a < b) → nat_lt a b ≡ nat_lt c d
same_test a b c d to from = same_from_decides (nat_lt a b) (nat_lt c d) (Decides-like (nat_lt a b) to from (Decides-ltb a b)) (Decides-ltb c d)

any_masked : {A : Type 0} (bits : List Bool) (xs : List A) → length bits ≡ length xs → nat_lt (true_count bits) (length xs) ≡ list_any is_none (masked bits xs)
any_masked [] [] e = refl
any_masked [] (x ∷ xs) e = absurd (omega arith)
any_masked (b ∷ bits) [] e = absurd (omega arith)
any_masked (true ∷ bits) (x ∷ xs) e =
    let more : true_count (true ∷ bits) ≡ 1 + true_count bits = sum_by-cons (λ bit. cond bit 1 0) true bits in
    same_test _ _ _ _ (λ h. omega arith) (λ h. omega arith) ∙ any_masked bits xs (omega arith)
any_masked (false ∷ bits) (x ∷ xs) e = let few = count_by-le-length (λ bit. bit) bits in lt-ltb _ _ (omega arith)

-- some bit is not set where not each is
pub unset_by_test : (bits : List Bool) → not (list_all (beq true) bits) ≡ nat_lt (true_count bits) (length bits)
unset_by_test [] = refl
unset_by_test (true ∷ bits) =
    let more : true_count (true ∷ bits) ≡ 1 + true_count bits = sum_by-cons (λ bit. cond bit 1 0) true bits in
    unset_by_test bits ∙ sym (same_test _ _ _ _ (λ k. omega arith) (λ k. omega arith))
unset_by_test (false ∷ bits) = let few = count_by-le-length (λ bit. bit) bits in sym (lt-ltb _ _ (omega arith))

-- an item is null where the validity says so
pub any_null_is : {A : Type 0} (v : Validity) (xs : List A) (n : ℕ) → n ≡ length xs → IsTrue (covers v (length xs)) → any_null v n ≡ list_any is_none (items_of v xs)
any_null_is valid.NonNullable xs n e k = sym (none_of_all xs)
any_null_is valid.AllValid xs n e k = sym (none_of_all xs)
any_null_is valid.AllInvalid xs n e k = rw e (sym (any_of_nulls xs))
any_null_is (valid.Array bits) xs n e k = rw e (any_masked bits xs ((Decides-eqb (length bits) (length xs)).0 k))

-- no item is null
pub no_null : {A : Type 0} (xs : List (Option A)) → list_any is_none xs ≡ false → list_all is_some xs ≡ true
no_null [] e = refl
no_null (Some x ∷ xs) e = no_null xs e
no_null (None ∷ xs) e = cc

-- a cast is not hindered by a null
pub may_cast : {A : Type 0} (n : Nullability) (xs : List (Option A)) → (not (can_be_null n) && list_any is_none xs) ≡ false → IsTrue (can_be_null n || list_all is_some xs)
may_cast NonNullable xs e = no_null xs e
may_cast Nullable xs e = refl
