-- What nodes say.
use Rattle.std.proofs.Common.{◌≡◌, ◌↔◌, ℕ, Bool, true, false, List, Option, Some, None, refl, sym, ap}
use Rattle.std.specs.Prelude.{IsTrue, is_some}
use Rattle.fl_metadata.specs.Wire.{Field, IsMessage, IsRow}
use Rattle.fl_metadata.specs.WireReading.{fields_of}

-- bytes are a message where their fields are read
pub message_is : (b : Bool) (bytes : List ℕ) → (IsTrue b ↔ IsMessage bytes) → ((bytes : List ℕ) (fs : List Field) → fields_of bytes ≡ Some fs → IsRow fs bytes) → ((bytes : List ℕ) (fs : List Field) → IsRow fs bytes → fields_of bytes ≡ Some fs)
    → b ≡ is_some (fields_of bytes)
message_is true bytes both found only = let m = both.0 refl in sym (ap (λ o. is_some o) (only bytes m.0 m.1))
message_is false bytes both found only = none (fields_of bytes) (λ fs e. both.1 (fs, found bytes fs e))
  where
    none : (o : Option (List Field)) → ((fs : List Field) → o ≡ Some fs → IsTrue false) → false ≡ is_some o
    none None h = refl
    none (Some fs) h = let e : false ≡ true = h fs refl in cc
