-- Plain arrays of values and a bitmap.
use Rattle.std.proofs.Common.{◌≡◌, ◌≢◌, ℕ, ℤ, ◌*◌, ◌≤◌, List, [], ◌∷◌, length, Bool, true, false, Option, Some, None, Result, Ok, IsTrue, subst, refl, cond}
use Rattle.std.proofs.lemmas.Bool.{ltb-false}
use Rattle.fl_types.specs.declared.dtype.PType.{PType}
use Rattle.fl_types.specs.declared.error.FastLanesError.{FastLanesError}
use Rattle.fl_types.specs.declared.error.FastLanesError.TheVariants.{ValidityLength}
use Rattle.fl_types.specs.declared.validity.Validity.{Validity}
use Rattle.fl_types.specs.Validities.{covers}
use Rattle.fl_bitmaps.specs.Bitmaps.{validity_in}
use Rattle.flcol_c.specs.Bitmaps.{is_short, short_fault}
use Rattle.flcol_c.specs.declared.fault.Fault.{Fault}
use Rattle.flcol_c.specs.declared.fault.Fault.TheVariants.{Refused}
use Rattle.flcol_c.specs.Values.{plain_in}
use Rattle.flcol_c.proofs.ValidityLaws.{bitmap_covers}

ok_is : (v w : Validity) → ◌≡◌ {A = Result Validity FastLanesError} (Ok v) (Ok w) → v ≡ w
ok_is v w e = cc

-- a validity that was made of a bitmap covers the items
pub bitmap_covered : (bitmap : List ℕ) (n : ℕ) (v : Validity) → ◌≡◌ {A = Result Validity FastLanesError} (Ok (validity_in bitmap n)) (Ok v) → IsTrue (covers v n)
bitmap_covered bitmap n v e = subst (λ (w : Validity). IsTrue (covers w n)) (ok_is (validity_in bitmap n) v e) (bitmap_covers bitmap n)

-- and the array of these values and that validity is the one that was asked for
pub values_of_bitmap : (ptype : PType) (slots : List ℤ) (bitmap : List ℕ) (n : ℕ) (v : Validity) → length slots ≡ n → ◌≡◌ {A = Result Validity FastLanesError} (Ok (validity_in bitmap n)) (Ok v)
    → plain_in ptype slots bitmap ≡ record { ptype = ptype; slots = slots; validity = v }
values_of_bitmap ptype slots bitmap n v len e = let made = ok_is (validity_in bitmap n) v e in rw (len, made) refl

-- a bitmap that is not short has a bit for each item
pub enough_bits : (bitmap : List ℕ) (n : ℕ) → is_short bitmap n ≡ false → length bitmap ≢ 0 → n ≤ 8 * length bitmap
enough_bits [] n e some = absurd (some refl)
enough_bits (byte ∷ bytes) n e some = ltb-false (8 * length (byte ∷ bytes)) n e

short_none : (short : Bool) → ◌≡◌ {A = Option Fault} (cond short (Some (Refused ValidityLength)) None) None → short ≡ false
short_none true e = absurd (let wrong : ⊥ = cc in wrong)
short_none false e = refl

-- which is so where nothing is refused
pub not_short : (bitmap : List ℕ) (n : ℕ) → short_fault bitmap n ≡ None → is_short bitmap n ≡ false
not_short bitmap n e = short_none (is_short bitmap n) e
