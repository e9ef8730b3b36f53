-- The canonical encoding of a row of fields: rising tags, and each varint as short as it can be.
use Rattle.std.specs.Prelude.{◌≡◌, ℕ, zero, suc, ◌+◌, ◌*◌, ◌/◌, ◌%◌, ◌<◌, ◌≤◌, List, [], ◌∷◌, ◌++◌, length, map, nat_lt, ◌==◌, if◌then◌else◌, Option, Some, None, option_map}
use Rattle.std.specs.List.{All}
use Rattle.std.specs.List.Sorted.{IsStrictlyIncreasing}
use Rattle.fl_metadata.specs.Wire.{Payload, Number, Eight, Bytes, Four, Field, IsRow}
use Rattle.fl_metadata.specs.WireReading.{seen}
use Rattle.fl_metadata.specs.declared.writing.Slot as code

-- the shortest groups of a number, this many at most
unfoldable pub groups_text : ℕ → ℕ → List ℕ
groups_text zero n = []
groups_text (suc k) n = if nat_lt n 128 then n ∷ [] else (n % 128 + 128) ∷ groups_text k (n / 128)

-- the shortest varint of a number below 2 ^ 64
unfoldable pub varint_text : ℕ → List ℕ
varint_text n = groups_text 10 n

-- the wire type that the key of a payload names
abbrev pub wire_of : Payload → ℕ
wire_of (Number n) = 0
wire_of (Eight held) = 1
wire_of (Bytes held) = 2
wire_of (Four held) = 5

-- the bytes of a payload, its number written in the shortest varint
abbrev pub payload_text : Payload → List ℕ
payload_text (Number n) = varint_text n
payload_text (Eight held) = held
payload_text (Bytes held) = varint_text (length held) ++ held
payload_text (Four held) = held

-- a field: its key and its payload
unfoldable pub field_text : ℕ → Payload → List ℕ
field_text tag payload = varint_text (tag * 8 + wire_of payload) ++ payload_text payload

-- a tag, and what a message writes under it, if anything
pub record Slot : Type 0 where
  pub tag : ℕ
  pub payload : Option Payload

-- a number, which isn't written at 0
abbrev pub number : ℕ → ℕ → Slot
number tag n = record { tag = tag; payload = if n == 0 then None else Some (Number n) }

-- a number that is written where it is there, also at 0
abbrev pub stated : ℕ → Option ℕ → Slot
stated tag n = record { tag = tag; payload = option_map Number n }

-- a message that is written where it is there
abbrev pub message : ℕ → Option (List ℕ) → Slot
message tag text = record { tag = tag; payload = option_map Bytes text }

-- the bytes of a payload behind the key of its tag, or nothing
abbrev pub payload_text_at : ℕ → Option Payload → List ℕ
payload_text_at tag None = []
payload_text_at tag (Some payload) = field_text tag payload

-- what is written, slot by slot
unfoldable pub message_text : List Slot → List ℕ
message_text [] = []
message_text (s ∷ ss) = payload_text_at s.tag s.payload ++ message_text ss

-- the field that a slot writes, if it writes one
abbrev pub field_at_slot : ℕ → Option Payload → List Field
field_at_slot tag None = []
field_at_slot tag (Some payload) = record { tag = tag; payload = payload } ∷ []

-- the fields that slots write
abbrev pub fields_in : List Slot → List Field
fields_in [] = []
fields_in (s ∷ ss) = field_at_slot s.tag s.payload ++ fields_in ss

-- the numbers are bytes
abbrev pub AreBytes : List ℕ → Type 0
AreBytes bytes = All (λ b. b < 256) bytes

-- The canonical encoding of fields: their tags rise, it is a row of them, and each other row of them is longer.
pub record IsOneText (fs : List Field) (bytes : List ℕ) : Type 0 where
  pub rising : IsStrictlyIncreasing (map (λ f. f.tag) fs)
  pub row : IsRow fs bytes
  pub shortest : (other : List ℕ) → AreBytes other → IsRow fs other → length bytes ≤ length other
  pub only : (other : List ℕ) → AreBytes other → IsRow fs other → length other ≤ length bytes → other ≡ bytes

-- ---- what the code holds, without where it lies in memory

-- what the code holds of a slot, without where its bytes lie in memory
abbrev pub seen_slot : code.Slot → Slot
seen_slot s = record { tag = s.tag; payload = option_map seen s.value }
