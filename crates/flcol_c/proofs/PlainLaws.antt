-- The plain arrays that arrays are encoded from.
use Rattle.std.proofs.Common.{◌≡◌, Bool, true, false, Some, None, Result, Ok, Err, cond, ap, ◌∙◌, sym, refl}
use Rattle.fl_types.specs.declared.error.FastLanesError.{FastLanesError}
use Rattle.fl_types.specs.declared.error.FastLanesError.TheVariants.{NotInteger}
use Rattle.fl_types.specs.Types.{is_integer, nullability_in}
use Rattle.fl_types.specs.Validities.{nullability_of}
use Rattle.fl_column.specs.Columns.{Column, PrimitiveParts, column_of_primitive, item_validity}
use Rattle.fl_array.specs.Reads.{integer_column}
use Rattle.flcol_c.specs.declared.fault.Fault.{Fault}
use Rattle.flcol_c.specs.declared.fault.Fault.TheVariants.{Refused}
use Rattle.flcol_c.specs.Plain.{IsSimplestOf}
use Rattle.flcol_c.specs.Statuses.{Gives, refusal_in}

answered_ok : (b : Bool) (c d : Column) → ◌≡◌ {A = Result Column FastLanesError} (cond b (Ok c) (Err NotInteger)) (Ok d) → (b ≡ true) × (c ≡ d)
answered_ok true c d e = (refl, cc)
answered_ok false c d e = absurd (let wrong : ⊥ = cc in wrong)

-- integers are refused by nothing
pub integers_of : (b : Bool) (c : Column) → refusal_in (cond b (Ok c) (Err NotInteger)) ≡ None → b ≡ true
integers_of true c e = refl
integers_of false c e = absurd (let wrong : ⊥ = cc in wrong)

-- booleans are
pub booleans_of : (b : Bool) (c : Column) (fault : Fault) → refusal_in (cond b (Ok c) (Err NotInteger)) ≡ Some fault → (b ≡ false) × (fault ≡ Refused NotInteger)
booleans_of true c fault e = absurd (let wrong : ⊥ = cc in wrong)
booleans_of false c fault e = (refl, cc)

-- the plain array with the simplest validity
pub simplest_given : (c : Column) (plain simplest : PrimitiveParts) → integer_column c ≡ Ok (column_of_primitive plain)
    → simplest ≡ record { ptype = plain.ptype; slots = plain.slots; validity = item_validity (nullability_of plain.validity) (column_of_primitive plain).items } → column_of_primitive simplest ≡ column_of_primitive plain
    → Gives (refusal_in (integer_column c)) (IsSimplestOf c) (Ok simplest)
simplest_given c plain simplest decoded is same =
    let of = (answered_ok (is_integer c.dtype) c (column_of_primitive plain) decoded).1 in
    (ap refusal_in decoded, (same ∙ sym of, ap (λ (p : PrimitiveParts). p.validity) is ∙ ap (λ (d : Column). item_validity (nullability_in d.dtype) d.items) (sym of)))
