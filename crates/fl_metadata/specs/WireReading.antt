-- Reading a row of fields from the front, byte by byte.
use Rattle.std.specs.Prelude.{◌≡◌, ℕ, zero, suc, ◌+◌, ◌-◌, ◌*◌, ◌/◌, ◌%◌, ◌^◌, List, [], ◌∷◌, length, take, drop, nat_lt, ◌==◌, if◌then◌else◌, Option, Some, None, option_map, option_and_then}
use Rattle.fl_metadata.specs.Wire.{Payload, Number, Eight, Bytes, Four, Field}
use Rattle.fl_metadata.specs.declared.wire.Value.{Value}
use Rattle.fl_metadata.specs.declared.wire.Value.TheVariants as values
use Rattle.fl_metadata.specs.declared.wire.Field as code

-- a group before the groups of the number's rest, where the number fits
abbrev pub before_groups : ℕ → ℕ × List ℕ → Option (ℕ × List ℕ)
before_groups b x = if nat_lt (b - 128 + 128 * x.0) (2 ^ 64) then Some (b - 128 + 128 * x.0, x.1) else None

-- the number of the groups at the front, with at most this many more bytes than one
unfoldable pub groups_at : ℕ → List ℕ → Option (ℕ × List ℕ)
groups_at more [] = None
groups_at more (b ∷ bs) =
    if nat_lt b 128 then Some (b, bs)
    else if more == 0 then None
    else option_and_then (before_groups b) (groups_at (more - 1) bs)

-- the varint at the front, of at most ten bytes
abbrev pub varint_at : List ℕ → Option (ℕ × List ℕ)
varint_at bytes = groups_at 9 bytes

-- this many bytes at the front
abbrev pub front_at : ℕ → List ℕ → Option (List ℕ × List ℕ)
front_at n bytes = if nat_lt (length bytes) n then None else Some (take n bytes, drop n bytes)

-- a number that was read, as a payload
abbrev pub as_number : ℕ × List ℕ → Payload × List ℕ
as_number x = (Number x.0, x.1)

-- eight bytes that were read, as a payload
abbrev pub as_eight : List ℕ × List ℕ → Payload × List ℕ
as_eight x = (Eight x.0, x.1)

-- bytes behind their length that were read, as a payload
abbrev pub as_bytes : List ℕ × List ℕ → Payload × List ℕ
as_bytes x = (Bytes x.0, x.1)

-- four bytes that were read, as a payload
abbrev pub as_four : List ℕ × List ℕ → Payload × List ℕ
as_four x = (Four x.0, x.1)

-- this many bytes behind their length
abbrev pub behind_length : ℕ × List ℕ → Option (Payload × List ℕ)
behind_length n = option_map as_bytes (front_at n.0 n.1)

-- the payload of a wire type at the front
unfoldable pub payload_at : ℕ → List ℕ → Option (Payload × List ℕ)
payload_at wire bytes =
    if wire == 0 then option_map as_number (varint_at bytes)
    else if wire == 1 then option_map as_eight (front_at 8 bytes)
    else if wire == 2 then option_and_then behind_length (varint_at bytes)
    else if wire == 5 then option_map as_four (front_at 4 bytes)
    else None

-- a payload that was read, as the field of a tag
abbrev pub under_tag : ℕ → Payload × List ℕ → Field × List ℕ
under_tag tag x = (record { tag = tag; payload = x.0 }, x.1)

-- the field behind its key
abbrev pub behind_key : ℕ × List ℕ → Option (Field × List ℕ)
behind_key key = if nat_lt (key.0 / 8) 1 then None
    else if nat_lt (key.0 / 8) (2 ^ 29) then option_map (under_tag (key.0 / 8)) (payload_at (key.0 % 8) key.1)
    else None

-- the field at the front
unfoldable pub field_at : List ℕ → Option (Field × List ℕ)
field_at bytes = option_and_then behind_key (varint_at bytes)

-- a field before the fields behind it
abbrev pub before : Field → List Field → List Field
before f fs = f ∷ fs

-- the fields of a text, of at most this many
unfoldable pub fields_up_to : ℕ → List ℕ → Option (List Field)
fields_up_to zero [] = Some []
fields_up_to zero (b ∷ bs) = None
fields_up_to (suc n) [] = Some []
fields_up_to (suc n) (b ∷ bs) = option_and_then (λ x. option_map (before x.0) (fields_up_to n x.1)) (field_at (b ∷ bs))

-- the fields of a text, where it is a row of them
unfoldable pub fields_of : List ℕ → Option (List Field)
fields_of bytes = fields_up_to (length bytes) bytes

-- ---- what the code holds, without where it lies in memory

-- what the code holds of a payload, without where its bytes lie in memory
abbrev pub seen : Value → Payload
seen (values.Number n) = Number n
seen (values.Eight held) = Eight held.now
seen (values.Bytes held) = Bytes held.now
seen (values.Four held) = Four held.now

-- the same of a field
abbrev pub seen_field : code.Field → Field
seen_field f = record { tag = f.tag; payload = seen f.value }

-- What is found, seen by view, is what the definition has.
abbrev pub Sees : {X Y : Type 0} → (X → Y) → Option X → Option Y → Type 0
Sees view None read = read ≡ None
Sees view (Some x) read = read ≡ Some (view x)
