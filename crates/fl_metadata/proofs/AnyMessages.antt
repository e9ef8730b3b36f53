-- A text is a message of some schema where it is one of the schema that knows no tag.
use Rattle.std.proofs.Common.{◌≡◌, ℕ, true, List, [], ◌∷◌, Option, Some, None, Result, Ok, Err, refl}
use Rattle.std.specs.Prelude.{IsTrue, is_ok, option_and_then, ok_or}
use Rattle.fl_types.specs.declared.error.FastLanesError.{FastLanesError}
use Rattle.fl_types.specs.declared.error.FastLanesError.TheVariants.{BadMetadata}
use Rattle.fl_metadata.specs.Wire.{Field, IsMessage}
use Rattle.fl_metadata.specs.WireReading.{fields_of}
use Rattle.fl_metadata.specs.Schemas.{has_kinds, are_within, last_values, said, values_of, Gives}
use Rattle.fl_metadata.proofs.FieldRows.{fields_sound, fields_again}

any_kinds : (fs : List Field) → has_kinds [] fs ≡ true
unfolding has_kinds
any_kinds [] = refl
any_kinds (f ∷ fs) = any_kinds fs

any_said : (fs : List Field) → said [] fs ≡ Some (last_values fs)
unfolding said are_within
any_said fs = rw (any_kinds fs) refl

pub any_found : (bytes : List ℕ) → IsTrue (is_ok (values_of [] bytes)) → IsMessage bytes
unfolding values_of
any_found bytes ok = each (fields_of bytes) refl ok
  where
    each : (row : Option (List Field)) → fields_of bytes ≡ row → IsTrue (is_ok (ok_or (option_and_then (said []) row) BadMetadata)) → IsMessage bytes
    each None e is = absurd cc
    each (Some fs) e is = (fs, fields_sound bytes fs e)

pub any_only : (bytes : List ℕ) → IsMessage bytes → IsTrue (is_ok (values_of [] bytes))
unfolding values_of
any_only bytes message = rw (fields_again bytes message.0 message.1, any_said message.0) refl

pub given_ok : {X Y : Type 0} (view : X → Y) (r : Result X FastLanesError) (m : Result Y FastLanesError) → Gives view r m → is_ok r ≡ is_ok m
given_ok view (Ok x) m h = rw h refl
given_ok view (Err e) m h = rw h refl
