-- What a text says is what a row of its fields says.
use Rattle.std.proofs.Common.{◌≡◌, ℕ, Bool, true, false, List, length, Option, Some, None, Ok, Err, refl, sym, ap, ◌∙◌}
use Rattle.std.specs.Prelude.{option_and_then, ok_or, if◌then◌else◌}
use Rattle.std.proofs.lemmas.List.FromFn.{length-map-range_with_len}
use Rattle.fl_types.specs.declared.error.FastLanesError.{FastLanesError}
use Rattle.fl_types.specs.declared.error.FastLanesError.TheVariants.{BadMetadata}
use Rattle.fl_metadata.specs.Wire.{Payload, Field, IsRow}
use Rattle.fl_metadata.specs.WireReading.{fields_of}
use Rattle.fl_metadata.specs.Schemas.{last_values, has_kinds, are_within, last, said, Says, KeepsLimits, values_of}
use Rattle.fl_metadata.specs.declared.schema.Kind.{Kind}
use Rattle.fl_metadata.proofs.SchemaSteps.{keeps_limits}
use Rattle.fl_metadata.proofs.FieldRows.{fields_sound, fields_again}

pub row_says : (schema : List Kind) (bytes : List ℕ) (values : List (Option Payload)) → values_of schema bytes ≡ Ok values → (fs : List Field) × IsRow fs bytes × Says schema fs values
unfolding values_of said
row_says schema bytes values e = each (fields_of bytes) refl e
  where
    in_row : (fs : List Field) → (kinds_hold limits_hold : Bool) → has_kinds schema fs ≡ kinds_hold → are_within schema (last_values fs) ≡ limits_hold → ok_or (if kinds_hold then (if limits_hold then Some (last_values fs) else None) else None) BadMetadata ≡ Ok values → Says schema fs values
    in_row fs true true k l is = let same : values ≡ last_values fs = cc in record { of_kinds = k; are_last = same; limited = rw same l }
    in_row fs true false k l is = absurd cc
    in_row fs false b k l is = absurd cc

    each : (row : Option (List Field)) → fields_of bytes ≡ row → ok_or (option_and_then (said schema) row) BadMetadata ≡ Ok values → (fs : List Field) × IsRow fs bytes × Says schema fs values
    each None at is = absurd cc
    each (Some fs) at is = (fs, fields_sound bytes fs at, in_row fs (has_kinds schema fs) (are_within schema (last_values fs)) refl refl is)

pub row_is_said : (schema : List Kind) (bytes : List ℕ) (values : List (Option Payload)) (fs : List Field) → IsRow fs bytes → Says schema fs values → values_of schema bytes ≡ Ok values
unfolding values_of said
row_is_said schema bytes values fs row says =
    let limits : are_within schema (last_values fs) ≡ true = rw says.are_last at says.limited in
    rw (fields_again bytes fs row, says.of_kinds, limits) (ap Ok (sym says.are_last))

pub only_bad : (schema : List Kind) (bytes : List ℕ) (e : FastLanesError) → values_of schema bytes ≡ Err e → e ≡ BadMetadata
unfolding values_of
only_bad schema bytes e is = each (option_and_then (said schema) (fields_of bytes)) is
  where
    each : (o : Option (List (Option Payload))) → ok_or o BadMetadata ≡ Err e → e ≡ BadMetadata
    each None at = cc
    each (Some values) at = absurd cc

-- values that are read keep their limits
pub said_keeps : (schema : List Kind) (bytes : List ℕ) (values : List (Option Payload)) → values_of schema bytes ≡ Ok values → KeepsLimits schema values
unfolding last_values
said_keeps schema bytes values e =
    let row = row_says schema bytes values e in
    keeps_limits schema values (ap length row.2.are_last ∙ length-map-range_with_len (λ tag. last tag row.0) 0 7) row.2.limited
