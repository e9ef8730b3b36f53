-- Items that are gathered one by one.
use Rattle.std.proofs.Common.{◌≡◌, ℕ, zero, suc, ◌<◌, Bool, true, false, List, [], ◌∷◌, ◌++◌, length, map, replicate, get_or, Option, Some, None, option_map, IsTrue, refl, ap, ◌∙◌, arith, is_some, unwrap_or}
use Rattle.std.specs.List.{list_all}
use Rattle.std.proofs.lemmas.List.{length-map, map-append}
use Rattle.std.proofs.lemmas.Bool.Decides.{Decides-eqb}
use Rattle.fl_types.specs.Validities.{items_of, masked}
use Rattle.fl_types.specs.declared.validity.Validity.{Validity}
use Rattle.fl_types.specs.declared.validity.Validity.TheVariants as valid
use Rattle.fl_column.specs.Builders.{grown, is_growing}
use Rattle.fl_column.proofs.ItemLaws.{masked_more, no_nulls_masked}

-- bits that are all set
pub all_set : (bits : List Bool) (n : ℕ) → length bits ≡ n → ((i : ℕ) → i < n → get_or bits i false ≡ true) → bits ≡ replicate n true
all_set [] zero long each = refl
all_set [] (suc n) long each = absurd (omega arith)
all_set (bit ∷ bits) zero long each = absurd (omega arith)
all_set (bit ∷ bits) (suc n) long each =
    let first : bit ≡ true = each 0 (omega arith) in
    let rest : bits ≡ replicate n true = all_set bits n (omega arith) (λ i h. each (suc i) (omega arith)) in
    rw (first, rest) refl

-- items whose bits are all set are all valid
all_masked : {A : Type 0} (xs : List A) → masked (replicate (length xs) true) xs ≡ map (λ x. Some x) xs
all_masked [] = refl
all_masked (x ∷ xs) = ap (λ ys. Some x ∷ ys) (all_masked xs)

-- one more valid item
valid_more : {A : Type 0} (xs : List A) (x : A) → map (λ y. Some y) (xs ++ x ∷ []) ≡ map (λ y. Some y) xs ++ Some x ∷ []
valid_more [] x = refl
valid_more (y ∷ xs) x = ap (λ ys. Some y ∷ ys) (valid_more xs x)

-- the first null
null_more : {A : Type 0} (xs : List A) (x : A) → masked (replicate (length xs) true ++ false ∷ []) (xs ++ x ∷ []) ≡ map (λ y. Some y) xs ++ None ∷ []
null_more [] x = refl
null_more (y ∷ xs) x = ap (λ ys. Some y ∷ ys) (null_more xs x)

-- one more item
pub item_more : {A B : Type 0} (f : A → B) (v : Validity) (slots : List A) (n : ℕ) (item : Option A) (d : A) → IsTrue (is_growing v n) → n ≡ length slots
    → items_of (grown v n (is_some item)) (map f (slots ++ unwrap_or item d ∷ [])) ≡ items_of v (map f slots) ++ option_map f item ∷ []
item_more f valid.NonNullable slots n item d growing even = cc
item_more f valid.AllValid slots n (Some x) d growing even = rw map-append (valid_more (map f slots) (f x))
item_more f valid.AllValid slots n None d growing even = rw (map-append, even, ← length-map slots f) (null_more (map f slots) (f d))
item_more f valid.AllInvalid slots n item d growing even = cc
item_more f (valid.Array bits) slots n item d growing even = masked_more f bits slots item d ((Decides-eqb (length bits) n).0 growing ∙ even)

-- without a null each slot is an item
pub no_nulls_gathered : {A : Type 0} (v : Validity) (slots : List A) → IsTrue (is_growing v (length slots)) → list_all is_some (items_of v slots) ≡ true → items_of v slots ≡ map (λ x. Some x) slots
no_nulls_gathered valid.NonNullable slots growing all = refl
no_nulls_gathered valid.AllValid slots growing all = refl
no_nulls_gathered valid.AllInvalid slots growing all = cc
no_nulls_gathered (valid.Array bits) slots growing all = no_nulls_masked bits slots ((Decides-eqb (length bits) (length slots)).0 growing) all
