-- What a row of fields says under a schema.
use Rattle.std.specs.Prelude.{◌≡◌, ◌≤◌, ℕ, Bool, true, false, List, [], ◌∷◌, map, ◌==◌, nat_le, if◌then◌else◌, Option, Some, None, option_map, option_and_then, ok_or, unwrap_or, Result, Ok, Err, IsTrue}
use Rattle.std.specs.List.{slice_index_or, list_all, range_with_len}
use Rattle.std.specs.Option.{option_or}
use Rattle.fl_types.specs.declared.error.FastLanesError.{FastLanesError}
use Rattle.fl_types.specs.declared.error.FastLanesError.TheVariants.{BadMetadata}
use Rattle.fl_metadata.specs.Wire.{Payload, Number, Eight, Bytes, Four, Field}
use Rattle.fl_metadata.specs.WireReading.{fields_of, seen}
use Rattle.fl_metadata.specs.declared.schema.Values as code
use Rattle.fl_metadata.specs.declared.schema.Kind.{Kind}
use Rattle.fl_metadata.specs.declared.schema.Kind.TheVariants as kinds

-- the kind of a tag: unknown where the schema doesn't list it
abbrev pub kind_at : List Kind → ℕ → Kind
kind_at schema tag = slice_index_or schema tag kinds.Unknown

-- the payload is of the kind, however large its number
abbrev pub is_of_kind : Kind → Payload → Bool
is_of_kind kinds.Unknown payload = true
is_of_kind (kinds.Number limit) (Number n) = true
is_of_kind (kinds.Number limit) (Eight held) = false
is_of_kind (kinds.Number limit) (Bytes held) = false
is_of_kind (kinds.Number limit) (Four held) = false
is_of_kind kinds.Message (Number n) = false
is_of_kind kinds.Message (Eight held) = false
is_of_kind kinds.Message (Bytes held) = true
is_of_kind kinds.Message (Four held) = false

-- the last payload of a tag passes no limit
abbrev pub is_within : Kind → Option Payload → Bool
is_within (kinds.Number limit) (Some (Number n)) = nat_le n limit
is_within (kinds.Number limit) (Some (Eight held)) = true
is_within (kinds.Number limit) (Some (Bytes held)) = true
is_within (kinds.Number limit) (Some (Four held)) = true
is_within (kinds.Number limit) None = true
is_within kinds.Unknown last = true
is_within kinds.Message last = true

-- the last payload of a tag
abbrev pub last : ℕ → List Field → Option Payload
last tag [] = None
last tag (f ∷ fs) = option_or (last tag fs) (if f.tag == tag then Some f.payload else None)

-- the tags that a message here may know
abbrev pub tags : List ℕ
tags = range_with_len 0 7

-- each known tag's last payload
unfoldable pub last_values : List Field → List (Option Payload)
last_values fs = map (λ tag. last tag fs) tags

-- each field is of the kind of its tag
unfoldable pub has_kinds : List Kind → List Field → Bool
has_kinds schema fs = list_all (λ f. is_of_kind (kind_at schema f.tag) f.payload) fs

-- no value passes its limit
unfoldable pub are_within : List Kind → List (Option Payload) → Bool
are_within schema values = list_all (λ tag. is_within (kind_at schema tag) (slice_index_or values tag None)) tags

-- what a row says, where it keeps to the schema
unfoldable pub said : List Kind → List Field → Option (List (Option Payload))
said schema fs = if has_kinds schema fs then (if are_within schema (last_values fs) then Some (last_values fs) else None) else None

-- what a text says, where it is a row that keeps to the schema
unfoldable pub values_of : List Kind → List ℕ → Result (List (Option Payload)) FastLanesError
values_of schema bytes = ok_or (option_and_then (said schema) (fields_of bytes)) BadMetadata

-- what a row says under a schema: each field is of its tag's kind, the last payload of each tag is the value, and no value passes its limit
pub record Says (schema : List Kind) (fs : List Field) (values : List (Option Payload)) : Type 0 where
  pub of_kinds : IsTrue (has_kinds schema fs)
  pub are_last : values ≡ last_values fs
  pub limited : IsTrue (are_within schema values)

-- the number of a payload
abbrev pub number_held : Option Payload → Option ℕ
number_held None = None
number_held (Some (Number n)) = Some n
number_held (Some (Eight held)) = None
number_held (Some (Bytes held)) = None
number_held (Some (Four held)) = None

-- the bytes of a message in a payload
abbrev pub message_held : Option Payload → Option (List ℕ)
message_held None = None
message_held (Some (Number n)) = None
message_held (Some (Eight held)) = None
message_held (Some (Bytes held)) = Some held
message_held (Some (Four held)) = None

-- the number under a tag, where it is there
unfoldable pub optional_number_at : ℕ → List (Option Payload) → Option ℕ
optional_number_at tag values = number_held (slice_index_or values tag None)

-- the number under a tag, or 0
unfoldable pub number_at : ℕ → List (Option Payload) → ℕ
number_at tag values = unwrap_or (optional_number_at tag values) 0

-- the message under a tag, where it is there
unfoldable pub message_at : ℕ → List (Option Payload) → Option (List ℕ)
message_at tag values = message_held (slice_index_or values tag None)

-- the number under each tag is at most the tag's limit
abbrev pub KeepsLimits : List Kind → List (Option Payload) → Type 0
KeepsLimits schema values = (tag limit : ℕ) → kind_at schema tag ≡ kinds.Number limit → number_at tag values ≤ limit

-- one step and then another, unless the first refuses
infixl 10 ◌>>=◌
abbrev pub ◌>>=◌ : {A B : Type 0} → Result A FastLanesError → (A → Result B FastLanesError) → Result B FastLanesError
(Ok x) >>= f = f x
(Err e) >>= f = Err e

-- ---- what the code holds, without where it lies in memory

-- what the code holds of the last payloads, tag by tag
abbrev pub seen_values : code.Values → List (Option Payload)
seen_values v = map (option_map seen) v.last

-- What is read, seen by view, is what the definition has, and so is a refusal.
abbrev pub Gives : {X Y : Type 0} → (X → Y) → Result X FastLanesError → Result Y FastLanesError → Type 0
Gives view (Ok x) read = read ≡ Ok (view x)
Gives view (Err e) read = read ≡ Err e
