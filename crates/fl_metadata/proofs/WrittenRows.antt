-- What slots write is a row of their fields, the shortest one.
use Rattle.std.proofs.Common.{◌≡◌, ℕ, zero, suc, ◌+◌, ◌*◌, ◌/◌, ◌%◌, ◌^◌, ◌<◌, ◌≤◌, Bool, true, false, ltb, List, [], ◌∷◌, ◌++◌, length, map, get_or, Option, Some, None, refl, sym, ap, subst, arith, inl, inr}
use Rattle.std.specs.Prelude.{◌&&◌}
use Rattle.std.specs.List.Sorted.{IsStrictlyIncreasing}
use Rattle.std.proofs.Math.Nat.{pow-suc}
use Rattle.std.proofs.lemmas.Bool.{cases_lt, ltb-true, lt-ltb, le-ltb}
use Rattle.std.proofs.lemmas.List.{length-append}
use Rattle.std.proofs.lemmas.List.Elements.{All-head, All-tail, All-cons}
use Rattle.fl_metadata.specs.Wire.{Payload, Number, Eight, Bytes, Four, Field, IsGroups, IsVarint, IsPayload, IsField, IsRow}
use Rattle.fl_metadata.specs.WrittenText.{Slot, groups_text, varint_text, wire_of, payload_text, field_text, payload_text_at, message_text, field_at_slot, fields_in, AreBytes, IsOneText}

-- ---- bytes

abbrev IsByte : ℕ → Type 0
IsByte b = b < 256

front_bytes : (xs ys : List ℕ) → AreBytes (xs ++ ys) → AreBytes xs
front_bytes [] ys h = λ k d lt. absurd (omega arith)
front_bytes (x ∷ xs) ys h = All-cons IsByte x xs (All-head IsByte x (xs ++ ys) h) (front_bytes xs ys (All-tail IsByte x (xs ++ ys) h))

back_bytes : (xs ys : List ℕ) → AreBytes (xs ++ ys) → AreBytes ys
back_bytes [] ys h = h
back_bytes (x ∷ xs) ys h = back_bytes xs ys (All-tail IsByte x (xs ++ ys) h)

-- ---- varints

before_others : (b n high : ℕ) (bytes : List ℕ) → 128 ≤ b → n + 128 ≡ b + 128 * high → IsGroups bytes high → IsGroups (b ∷ bytes) n
before_others b n high [] large is h = absurd h
before_others b n high (c ∷ cs) large is h = (large, high, is, h)

are_groups : (k n : ℕ) → n < 128 ^ suc k → IsGroups (groups_text (suc k) n) n
unfolding groups_text
are_groups zero n lt = let small : n < 128 = omega arith in rw (lt-ltb n 128 small) (small, refl)
are_groups (suc k) n lt =
    elim (cases_lt n 128) [
      | inl small ↦ rw (lt-ltb n 128 small) (small, refl)
      | inr large ↦ rw (le-ltb n 128 large) (before_others (n % 128 + 128) n (n / 128) (groups_text (suc k) (n / 128)) (omega arith) (omega arith) (are_groups k (n / 128) (omega (arith, pow-suc 128 (suc k)))))
    ]

-- no groups of a number are fewer than the written ones
fewest_groups : (k n : ℕ) (bytes : List ℕ) → AreBytes bytes → IsGroups bytes n → length (groups_text k n) ≤ length bytes
unfolding groups_text
fewest_groups zero n bytes all h = omega arith
fewest_groups (suc k) n [] all h = absurd h
fewest_groups (suc k) n (b ∷ []) all h = let small : n < 128 = omega (arith, h.0, h.1) in rw (lt-ltb n 128 small) (omega arith)
fewest_groups (suc k) n (b ∷ c ∷ bs) all h =
    let below : b < 256 = All-head IsByte b (c ∷ bs) all in
    let high : h.1 ≡ n / 128 = omega (arith, h.0, h.2) in
    elim (cases_lt n 128) [
      | inl small ↦ rw (lt-ltb n 128 small) (omega arith)
      | inr large ↦ rw (le-ltb n 128 large) (omega (arith, fewest_groups k (n / 128) (c ∷ bs) (All-tail IsByte b (c ∷ bs) all) (subst (IsGroups (c ∷ bs)) high h.3)))
    ]

-- and no others are as few
only_groups : (k n : ℕ) (bytes : List ℕ) → AreBytes bytes → IsGroups bytes n → length bytes ≤ length (groups_text k n) → bytes ≡ groups_text k n
unfolding groups_text
only_groups zero n [] all h le = absurd h
only_groups zero n (b ∷ bs) all h le = absurd (omega arith)
only_groups (suc k) n [] all h le = absurd h
only_groups (suc k) n (b ∷ []) all h le = let small : n < 128 = omega (arith, h.0, h.1) in rw (lt-ltb n 128 small) (ap (λ (d : ℕ). d ∷ []) (sym h.1))
only_groups (suc k) n (b ∷ c ∷ bs) all h le =
    let below : b < 256 = All-head IsByte b (c ∷ bs) all in
    let high : h.1 ≡ n / 128 = omega (arith, h.0, h.2) in
    let first : b ≡ n % 128 + 128 = omega (arith, h.0, h.2) in
    elim (cases_lt n 128) [
      | inl small ↦ let short : suc (suc (length bs)) ≤ 1 = rw (lt-ltb n 128 small) at le in absurd (omega arith)
      | inr large ↦
          let rest : suc (suc (length bs)) ≤ suc (length (groups_text k (n / 128))) = rw (le-ltb n 128 large) at le in
          let later : c ∷ bs ≡ groups_text k (n / 128) = only_groups k (n / 128) (c ∷ bs) (All-tail IsByte b (c ∷ bs) all) (subst (IsGroups (c ∷ bs)) high h.3) (omega arith) in
          rw (le-ltb n 128 large) (cc)
    ]

pub groups_length : (k n : ℕ) → length (groups_text k n) ≤ k
unfolding groups_text
groups_length zero n = omega arith
groups_length (suc k) n =
    elim (cases_lt n 128) [
      | inl small ↦ rw (lt-ltb n 128 small) (omega arith)
      | inr large ↦ rw (le-ltb n 128 large) (omega (arith, groups_length k (n / 128)))
    ]

pub is_varint_text : (n : ℕ) → n < 2 ^ 64 → IsVarint (varint_text n) n
unfolding varint_text
is_varint_text n fits = record { groups = are_groups 9 n (omega arith); short = groups_length 10 n; fits = fits }

pub shortest_varint : (n : ℕ) (bytes : List ℕ) → AreBytes bytes → IsVarint bytes n → length (varint_text n) ≤ length bytes
unfolding varint_text
shortest_varint n bytes all h = fewest_groups 10 n bytes all h.groups

pub only_varint : (n : ℕ) (bytes : List ℕ) → AreBytes bytes → IsVarint bytes n → length bytes ≤ length (varint_text n) → bytes ≡ varint_text n
unfolding varint_text
only_varint n bytes all h le = only_groups 10 n bytes all h.groups le

-- ---- fields

-- a payload that can be written
abbrev pub IsWritable : Payload → Type 0
IsWritable (Number n) = n < 2 ^ 64
IsWritable (Eight held) = length held ≡ 8
IsWritable (Bytes held) = length held < 2 ^ 64
IsWritable (Four held) = length held ≡ 4

is_payload_text : (p : Payload) → IsWritable p → IsPayload (wire_of p) p (payload_text p)
is_payload_text (Number n) h = (refl, is_varint_text n h)
is_payload_text (Eight held) h = (refl, refl, h)
is_payload_text (Bytes held) h = (refl, varint_text (length held), is_varint_text (length held) h, refl)
is_payload_text (Four held) h = (refl, refl, h)

wire_below : (p : Payload) → wire_of p < 8
wire_below (Number n) = omega arith
wire_below (Eight held) = omega arith
wire_below (Bytes held) = omega arith
wire_below (Four held) = omega arith

is_field_text : (tag : ℕ) (p : Payload) → 1 ≤ tag → tag < 2 ^ 29 → IsWritable p → IsField (record { tag = tag; payload = p }) (field_text tag p)
unfolding field_text
is_field_text tag p low high h =
    let below = wire_below p in
    record { key = varint_text (tag * 8 + wire_of p); rest = payload_text p; wire = wire_of p; low = low; high = high; type_below = below; is_key = is_varint_text (tag * 8 + wire_of p) (omega arith); is_payload = is_payload_text p h; parts = refl }

same_wire : (p : Payload) (wire : ℕ) (bytes : List ℕ) → IsPayload wire p bytes → wire ≡ wire_of p
same_wire (Number n) wire bytes h = h.0
same_wire (Eight held) wire bytes h = h.0
same_wire (Bytes held) wire bytes h = h.0
same_wire (Four held) wire bytes h = h.0

-- a text is at least as long as the written one, and is it where it is no longer
record IsNoShorter (bytes text : List ℕ) : Type 0 where
  long : length text ≤ length bytes
  same : length bytes ≤ length text → bytes ≡ text

joined : (front back : List ℕ) (text rest : List ℕ) → IsNoShorter front text → IsNoShorter back rest → IsNoShorter (front ++ back) (text ++ rest)
joined front back text rest p q =
    let have = length-append front back in
    let want = length-append text rest in
    let one = p.long in
    let two = q.long in
    record {
      long = omega arith;
      same = λ le. let first : front ≡ text = p.same (omega arith) in let second : back ≡ rest = q.same (omega arith) in cc;
    }

along : (a b text : List ℕ) → a ≡ b → IsNoShorter a text → IsNoShorter b text
along a b text e h = subst (λ (t : List ℕ). IsNoShorter t text) e h

itself : (bytes held : List ℕ) → bytes ≡ held → IsNoShorter bytes held
itself bytes held e = record { long = omega (arith, ap length e); same = λ le. e }

varint_no_shorter : (n : ℕ) (bytes : List ℕ) → AreBytes bytes → IsVarint bytes n → IsNoShorter bytes (varint_text n)
varint_no_shorter n bytes all h = record { long = shortest_varint n bytes all h; same = only_varint n bytes all h }

payload_no_shorter : (p : Payload) (wire : ℕ) (bytes : List ℕ) → AreBytes bytes → IsPayload wire p bytes → IsNoShorter bytes (payload_text p)
payload_no_shorter (Number n) wire bytes all h = varint_no_shorter n bytes all h.1
payload_no_shorter (Eight held) wire bytes all h = itself bytes held h.1
payload_no_shorter (Bytes held) wire bytes all h =
    let parts : AreBytes (h.1 ++ held) = subst AreBytes h.3 all in
    along (h.1 ++ held) bytes (payload_text (Bytes held)) (sym h.3) (joined h.1 held (varint_text (length held)) held (varint_no_shorter (length held) h.1 (front_bytes h.1 held parts) h.2) (itself held held refl))
payload_no_shorter (Four held) wire bytes all h = itself bytes held h.1

field_no_shorter : (f : Field) (bytes : List ℕ) → AreBytes bytes → IsField f bytes → IsNoShorter bytes (field_text f.tag f.payload)
unfolding field_text
field_no_shorter f bytes all h =
    let parts : AreBytes (h.key ++ h.rest) = subst AreBytes h.parts all in
    let key : IsVarint h.key (f.tag * 8 + wire_of f.payload) = subst (λ (w : ℕ). IsVarint h.key (f.tag * 8 + w)) (same_wire f.payload h.wire h.rest h.is_payload) h.is_key in
    along (h.key ++ h.rest) bytes (varint_text (f.tag * 8 + wire_of f.payload) ++ payload_text f.payload) (sym h.parts) (joined h.key h.rest (varint_text (f.tag * 8 + wire_of f.payload)) (payload_text f.payload) (varint_no_shorter (f.tag * 8 + wire_of f.payload) h.key (front_bytes h.key h.rest parts) key) (payload_no_shorter f.payload h.wire h.rest (back_bytes h.key h.rest parts) h.is_payload))

-- ---- rows

-- the tags rise from above this one, and none is too large
abbrev pub rises : ℕ → List Slot → Bool
rises low [] = true
rises low (s ∷ ss) = ltb low s.tag && ltb s.tag (2 ^ 29) && rises s.tag ss

abbrev pub WritableAt : Option Payload → Type 0
WritableAt None = Unit {0}
WritableAt (Some p) = IsWritable p

abbrev pub AreWritable : List Slot → Type 0
AreWritable [] = Unit {0}
AreWritable (s ∷ ss) = WritableAt s.payload × AreWritable ss

pub record Rises (low : ℕ) (s : Slot) (ss : List Slot) : Type 0 where
  pub above : low < s.tag
  pub below : s.tag < 2 ^ 29
  pub later : rises s.tag ss ≡ true

both : (a b : Bool) → (a && b) ≡ true → (a ≡ true) × (b ≡ true)
both true b e = (refl, e)
both false b e = absurd cc

pub rises_on : (low : ℕ) (s : Slot) (ss : List Slot) → rises low (s ∷ ss) ≡ true → Rises low s ss
rises_on low s ss e =
    let p = both (ltb low s.tag && ltb s.tag (2 ^ 29)) (rises s.tag ss) e in
    let q = both (ltb low s.tag) (ltb s.tag (2 ^ 29)) p.0 in
    record { above = ltb-true low s.tag q.0; below = ltb-true s.tag (2 ^ 29) q.1; later = p.1 }

-- one slot before others
slot_row : (low : ℕ) (s : Slot) (ss : List Slot) → Rises low s ss → (o : Option Payload) → WritableAt o → IsRow (fields_in ss) (message_text ss) → IsRow (field_at_slot s.tag o ++ fields_in ss) (payload_text_at s.tag o ++ message_text ss)
slot_row low s ss on None h later = later
slot_row low s ss on (Some p) h later = (field_text s.tag p, message_text ss, is_field_text s.tag p (omega (arith, on.above)) on.below h, later, refl)

pub is_row_text : (low : ℕ) (ss : List Slot) → rises low ss ≡ true → AreWritable ss → IsRow (fields_in ss) (message_text ss)
unfolding message_text
is_row_text low [] rise fits = refl
is_row_text low (s ∷ ss) rise fits =
    let on = rises_on low s ss rise in
    slot_row low s ss on s.payload fits.0 (is_row_text s.tag ss on.later fits.1)

slot_no_shorter : (tag : ℕ) (ss : List Slot) (o : Option Payload) (other : List ℕ) → AreBytes other → IsRow (field_at_slot tag o ++ fields_in ss) other → ((rest : List ℕ) → AreBytes rest → IsRow (fields_in ss) rest → IsNoShorter rest (message_text ss)) → IsNoShorter other (payload_text_at tag o ++ message_text ss)
slot_no_shorter tag ss None other all h later = later other all h
slot_no_shorter tag ss (Some p) other all h later =
    let parts : AreBytes (h.0 ++ h.1) = subst AreBytes h.4 all in
    along (h.0 ++ h.1) other (field_text tag p ++ message_text ss) (sym h.4) (joined h.0 h.1 (field_text tag p) (message_text ss) (field_no_shorter (record { tag = tag; payload = p }) h.0 (front_bytes h.0 h.1 parts) h.2) (later h.1 (back_bytes h.0 h.1 parts) h.3))

row_no_shorter : (ss : List Slot) (other : List ℕ) → AreBytes other → IsRow (fields_in ss) other → IsNoShorter other (message_text ss)
unfolding message_text
row_no_shorter [] other all h = itself other [] h
row_no_shorter (s ∷ ss) other all h = slot_no_shorter s.tag ss s.payload other all h (λ rest bytes row. row_no_shorter ss rest bytes row)

-- ---- rising tags

abbrev tag_of : Field → ℕ
tag_of f = f.tag

abbrev HeadAbove : ℕ → List Field → Type 0
HeadAbove low [] = Unit {0}
HeadAbove low (f ∷ fs) = low < f.tag

record FieldsRise (low : ℕ) (fs : List Field) : Type 0 where
  head : HeadAbove low fs
  rest : IsStrictlyIncreasing (map tag_of fs)

head_lower : (low lower : ℕ) (fs : List Field) → lower ≤ low → HeadAbove low fs → HeadAbove lower fs
head_lower low lower [] le h = tt
head_lower low lower (f ∷ fs) le h = omega arith

before_head : (f : Field) (fs : List Field) → FieldsRise f.tag fs → IsStrictlyIncreasing (map tag_of (f ∷ fs))
before_head f [] h = λ k lt. absurd (omega arith)
before_head f (g ∷ gs) h = each
  where
    each : (k : ℕ) → k + 1 < length (map tag_of (f ∷ g ∷ gs)) → get_or (map tag_of (f ∷ g ∷ gs)) k 0 < get_or (map tag_of (f ∷ g ∷ gs)) (k + 1) 0
    each zero lt = h.head
    each (suc k) lt = let next : suc k + 1 ≡ suc (k + 1) = omega arith in rw next (h.rest k (omega arith))

slot_rises : (low : ℕ) (s : Slot) (ss : List Slot) → Rises low s ss → (o : Option Payload) → FieldsRise s.tag (fields_in ss) → FieldsRise low (field_at_slot s.tag o ++ fields_in ss)
slot_rises low s ss on None h = record { head = head_lower s.tag low (fields_in ss) (omega (arith, on.above)) h.head; rest = h.rest }
slot_rises low s ss on (Some p) h = record { head = on.above; rest = before_head (record { tag = s.tag; payload = p }) (fields_in ss) h }

fields_rise : (low : ℕ) (ss : List Slot) → rises low ss ≡ true → FieldsRise low (fields_in ss)
fields_rise low [] rise = record { head = tt; rest = λ k lt. absurd (omega arith) }
fields_rise low (s ∷ ss) rise = let on = rises_on low s ss rise in slot_rises low s ss on s.payload (fields_rise s.tag ss on.later)

-- what slots write is the one text of their fields
pub one_text : (ss : List Slot) → rises 0 ss ≡ true → AreWritable ss → IsOneText (fields_in ss) (message_text ss)
one_text ss rise fits = record {
  rising = (fields_rise 0 ss rise).rest;
  row = is_row_text 0 ss rise fits;
  shortest = λ other all row. (row_no_shorter ss other all row).long;
  only = λ other all row le. (row_no_shorter ss other all row).same le;
}
