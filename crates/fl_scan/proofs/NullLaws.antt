-- How many items are null.
use Rattle.std.proofs.Common.{◌≡◌, ℕ, ℤ, ◌+◌, ◌-◌, ◌<◌, suc, List, [], ◌∷◌, length, get_or, Bool, true, false, cond, Option, Some, None, ◌⊎◌, inl, inr, refl, ap, sym, ◌∙◌, arith}
use Rattle.std.specs.Prelude.{◌==◌, count_by, is_none, is_some}
use Rattle.std.proofs.Math.Path.{subst}
use Rattle.std.proofs.lemmas.List.Sums.{sum_by-cons}
use Rattle.fl_types.specs.declared.validity.Validity.{Validity}
use Rattle.fl_types.specs.declared.validity.Validity.TheVariants as valid
use Rattle.fl_types.specs.Bits.{true_count}
use Rattle.fl_types.specs.Validities.{covers, is_valid_at}
use Rattle.fl_column.specs.Columns.{Column}
use Rattle.fl_array.specs.Reads.{IsValidityOf}
use Rattle.fl_scan.specs.Totals.{null_count_of}

null_cons : (o : Option ℤ) (items : List (Option ℤ)) → count_by is_none (o ∷ items) ≡ cond (is_none o) 1 0 + count_by is_none items
null_cons o items = sum_by-cons (λ x. cond (is_none x) 1 0) o items

no_null : (items : List (Option ℤ)) → ((i : ℕ) → i < length items → true ≡ is_some (get_or items i None)) → count_by is_none items ≡ 0
no_null [] each = refl
no_null (None ∷ items) each = let wrong : true ≡ false = each 0 (omega arith) in cc
no_null (Some z ∷ items) each =
    let rest = no_null items (λ i h. each (suc i) (omega arith)) in
    let more : count_by is_none (Some z ∷ items) ≡ 0 + count_by is_none items = null_cons (Some z) items in
    omega arith

nulls_alone : (items : List (Option ℤ)) → ((i : ℕ) → i < length items → false ≡ is_some (get_or items i None)) → count_by is_none items ≡ length items
nulls_alone [] each = refl
nulls_alone (Some z ∷ items) each = let wrong : false ≡ true = each 0 (omega arith) in cc
nulls_alone (None ∷ items) each =
    let rest = nulls_alone items (λ i h. each (suc i) (omega arith)) in
    let more : count_by is_none (None ∷ items) ≡ 1 + count_by is_none items = null_cons None items in
    omega arith

null_or_set : (bits : List Bool) (items : List (Option ℤ)) → length bits ≡ length items → ((i : ℕ) → i < length items → get_or bits i false ≡ is_some (get_or items i None)) → count_by is_none items + true_count bits ≡ length items
null_or_set [] [] long each = refl
null_or_set [] (o ∷ items) long each = absurd (omega arith)
null_or_set (b ∷ bits) [] long each = absurd (omega arith)
null_or_set (b ∷ bits) (None ∷ items) long each =
    let rest = null_or_set bits items (omega arith) (λ i h. each (suc i) (omega arith)) in
    let off : b ≡ false = each 0 (omega arith) in
    let more : count_by is_none (None ∷ items) ≡ 1 + count_by is_none items = null_cons None items in
    let set : true_count (b ∷ bits) ≡ 0 + true_count bits = sum_by-cons (λ bit. cond bit 1 0) b bits ∙ ap (λ x. cond x 1 0 + true_count bits) off in
    omega arith
null_or_set (b ∷ bits) (Some z ∷ items) long each =
    let rest = null_or_set bits items (omega arith) (λ i h. each (suc i) (omega arith)) in
    let on : b ≡ true = each 0 (omega arith) in
    let more : count_by is_none (Some z ∷ items) ≡ 0 + count_by is_none items = null_cons (Some z) items in
    let set : true_count (b ∷ bits) ≡ 1 + true_count bits = sum_by-cons (λ bit. cond bit 1 0) b bits ∙ ap (λ x. cond x 1 0 + true_count bits) on in
    omega arith

pub none_null : (v : Validity) (c : Column) → IsValidityOf v c → (v ≡ valid.NonNullable) ⊎ (v ≡ valid.AllValid) → null_count_of c ≡ 0
none_null v c of (inl is) = no_null c.items (λ i h. ap (λ u. is_valid_at u i) (sym is) ∙ of.valid i h)
none_null v c of (inr is) = no_null c.items (λ i h. ap (λ u. is_valid_at u i) (sym is) ∙ of.valid i h)

pub each_null : (v : Validity) (c : Column) → IsValidityOf v c → v ≡ valid.AllInvalid → null_count_of c ≡ length c.items
each_null v c of is = nulls_alone c.items (λ i h. ap (λ u. is_valid_at u i) (sym is) ∙ of.valid i h)

same_length : (bits : List Bool) (n : ℕ) → (length bits == n) ≡ true → length bits ≡ n
same_length bits n h = grind arith

pub unset_null : (v : Validity) (bits : List Bool) (c : Column) → IsValidityOf v c → v ≡ valid.Array bits → null_count_of c ≡ length c.items - true_count bits
unset_null v bits c of is =
    let long : length bits ≡ length c.items = same_length bits (length c.items) (subst (λ u. covers u (length c.items) ≡ true) is of.covered) in
    let both = null_or_set bits c.items long (λ i h. ap (λ u. is_valid_at u i) (sym is) ∙ of.valid i h) in
    omega arith
