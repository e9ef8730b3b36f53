-- A row of fields, as the bytes are written. Nothing here reads: each word relates bytes to what they spell.
use Rattle.std.specs.Prelude.{◌≡◌, ℕ, ◌+◌, ◌*◌, ◌<◌, ◌≤◌, ◌^◌, List, [], ◌∷◌, ◌++◌, length}

-- what a field has behind its key
pub data Payload : Type 0 where
  Number : ℕ → Payload
  Eight : List ℕ → Payload
  Bytes : List ℕ → Payload
  Four : List ℕ → Payload

-- a field of a row: its tag, and what it has behind its key
pub record Field : Type 0 where
  pub tag : ℕ
  pub payload : Payload

-- Groups of seven bits, the low group first. All bytes but the last have 128 added.
abbrev pub IsGroups : List ℕ → ℕ → Type 0
IsGroups [] n = ⊥
IsGroups (b ∷ []) n = (b < 128) × (n ≡ b)
IsGroups (b ∷ c ∷ bs) n = (128 ≤ b) × (high : ℕ) × (n + 128 ≡ b + 128 * high) × IsGroups (c ∷ bs) high

-- A varint: groups, of which a number may have more than it needs, up to ten.
pub record IsVarint (bytes : List ℕ) (n : ℕ) : Type 0 where
  pub groups : IsGroups bytes n
  pub short : length bytes ≤ 10
  pub fits : n < 2 ^ 64

-- A payload, and the wire type that the key names.
abbrev pub IsPayload : ℕ → Payload → List ℕ → Type 0
IsPayload wire (Number n) bytes = (wire ≡ 0) × IsVarint bytes n
IsPayload wire (Eight held) bytes = (wire ≡ 1) × (bytes ≡ held) × (length held ≡ 8)
IsPayload wire (Bytes held) bytes = (wire ≡ 2) × (front : List ℕ) × IsVarint front (length held) × (bytes ≡ front ++ held)
IsPayload wire (Four held) bytes = (wire ≡ 5) × (bytes ≡ held) × (length held ≡ 4)

-- A field: a key of tag and wire type, and a payload.
pub record IsField (f : Field) (bytes : List ℕ) : Type 0 where
  pub key : List ℕ
  pub rest : List ℕ
  pub wire : ℕ
  pub low : 1 ≤ f.tag
  pub high : f.tag < 2 ^ 29
  pub type_below : wire < 8
  pub is_key : IsVarint key (f.tag * 8 + wire)
  pub is_payload : IsPayload wire f.payload rest
  pub parts : bytes ≡ key ++ rest

-- A message: fields, one behind the other.
abbrev pub IsRow : List Field → List ℕ → Type 0
IsRow [] bytes = bytes ≡ []
IsRow (f ∷ fs) bytes = (front : List ℕ) × (rest : List ℕ) × IsField f front × IsRow fs rest × (bytes ≡ front ++ rest)

-- The bytes are a message, whatever it says.
abbrev pub IsMessage : List ℕ → Type 0
IsMessage bytes = (fs : List Field) × IsRow fs bytes
