-- Reading finds the fields of a row, and nothing else.
use Rattle.std.proofs.Common.{◌≡◌, ◌≢◌, ℕ, zero, suc, ◌+◌, ◌-◌, ◌*◌, ◌/◌, ◌%◌, ◌^◌, ◌<◌, ◌≤◌, Bool, true, false, cond, eqb, ltb, List, [], ◌∷◌, ◌++◌, length, take, drop, Option, Some, None, refl, sym, ap, subst, ◌∙◌, append_assoc, arith, inl, inr, ◌⊎◌}
use Rattle.std.specs.Prelude.{option_map, option_and_then}
use Rattle.std.proofs.lemmas.Bool.{ltb-true, ltb-false, le-ltb, lt-ltb, eqb-true, eqb-false, ne_eqb}
use Rattle.std.proofs.lemmas.List.{take_at, drop_at, take-append-drop, length-append, length-take}
use Rattle.std.proofs.lemmas.Nat.{div-mul-add, mod-mul-add}
use Rattle.fl_metadata.specs.Wire.{Payload, Number, Eight, Bytes, Four, Field, IsGroups, IsVarint, IsPayload, IsField, IsRow}
use Rattle.fl_metadata.specs.WireReading.{before_groups, groups_at, varint_at, front_at, as_number, as_eight, as_bytes, as_four, behind_length, payload_at, under_tag, behind_key, field_at, before, fields_up_to, fields_of}

-- ---- options

some_then : {A B : Type 0} (f : A → Option B) (o : Option A) (y : B) → option_and_then f o ≡ Some y → (x : A) × (o ≡ Some x) × (f x ≡ Some y)
some_then f None y e = absurd cc
some_then f (Some x) y e = (x, refl, e)

some_map : {A B : Type 0} (f : A → B) (o : Option A) (y : B) → option_map f o ≡ Some y → (x : A) × (o ≡ Some x) × (f x ≡ y)
some_map f None y e = absurd cc
some_map f (Some x) y e = (x, refl, cc)

same_then : {A B : Type 0} (f g : A → Option B) (o : Option A) → ((x : A) → o ≡ Some x → f x ≡ g x) → option_and_then f o ≡ option_and_then g o
same_then f g None h = refl
same_then f g (Some x) h = h x refl

chosen : {A : Type 0} (b : Bool) (x y z : A) → cond b x y ≡ z → ((b ≡ true) × (x ≡ z)) ⊎ ((b ≡ false) × (y ≡ z))
chosen true x y z e = inl (refl, e)
chosen false x y z e = inr (refl, e)

refused : {A : Type 0} (b : Bool) (o : Option A) (y : A) → cond b None o ≡ Some y → (b ≡ false) × (o ≡ Some y)
refused true o y e = absurd cc
refused false o y e = (refl, e)

allowed : {A : Type 0} (b : Bool) (o : Option A) (y : A) → cond b o None ≡ Some y → (b ≡ true) × (o ≡ Some y)
allowed true o y e = (refl, e)
allowed false o y e = absurd cc

some_is : {A : Type 0} (x y : A) (o : Option A) → o ≡ Some x → o ≡ Some y → x ≡ y
some_is x y o p q = cc

-- ---- varints

-- what was read, and what is behind it
pub record HasGroups (more n : ℕ) (rest bytes : List ℕ) : Type 0 where
  pub front : List ℕ
  pub parts : bytes ≡ front ++ rest
  pub groups : IsGroups front n
  pub short : length front ≤ more + 1
  pub some : 0 < length front
  pub fits : n < 2 ^ 64

pair_is : {A B : Type 0} (x y : A) (u v : B) (o : Option (A × B)) → o ≡ Some (x, u) → o ≡ Some (y, v) → (x ≡ y) × (u ≡ v)
pair_is {A = A} {B = B} x y u v o p q = let e = some_is (x, u) (y, v) o p q in (ap (λ (t : A × B). t.0) e, ap (λ (t : A × B). t.1) e)

one_more : (more b high : ℕ) (bs rest : List ℕ) → 128 ≤ b → 0 < more → b - 128 + 128 * high < 2 ^ 64 → HasGroups (more - 1) high rest bs → HasGroups more (b - 128 + 128 * high) rest (b ∷ bs)
one_more more b high bs rest large some fits h = at_front h.front h.parts h.groups h.short h.some
  where
    at_front : (front : List ℕ) → bs ≡ front ++ rest → IsGroups front high → length front ≤ more - 1 + 1 → 0 < length front → HasGroups more (b - 128 + 128 * high) rest (b ∷ bs)
    at_front [] parts groups short some_front = absurd (omega arith)
    at_front (c ∷ cs) parts groups short some_front = record { front = b ∷ c ∷ cs; parts = ap (λ (t : List ℕ). b ∷ t) parts; groups = (large, high, omega arith, groups); short = omega arith; some = omega arith; fits = fits }

abbrev some_of : ℕ → List ℕ → Option (ℕ × List ℕ)
some_of n rest = Some (n, rest)

pub groups_sound : (more : ℕ) (bytes : List ℕ) (n : ℕ) (rest : List ℕ) → groups_at more bytes ≡ Some (n, rest) → HasGroups more n rest bytes
unfolding groups_at
groups_sound more [] n rest e = absurd cc
groups_sound more (b ∷ bs) n rest e =
    elim (chosen (ltb b 128) (Some (b, bs)) (cond (eqb more 0) None (option_and_then (before_groups b) (groups_at (more - 1) bs))) (Some (n, rest)) e) [
      | inl p ↦ small p.0 p.1
      | inr p ↦ large (λ m k r q. groups_sound m bs k r q) p.0 p.1
    ]
  where
    small : ltb b 128 ≡ true → some_of b bs ≡ some_of n rest → HasGroups more n rest (b ∷ bs)
    small lt same = let is = pair_is b n bs rest (some_of b bs) refl same in
        let below : b < 128 = ltb-true b 128 lt in
        record { front = b ∷ []; parts = ap (λ (t : List ℕ). b ∷ t) is.1; groups = (below, sym is.0); short = omega arith; some = omega arith; fits = omega (arith, is.0) }

    large : ((m k : ℕ) (r : List ℕ) → groups_at m bs ≡ Some (k, r) → HasGroups m k r bs) → ltb b 128 ≡ false → cond (eqb more 0) None (option_and_then (before_groups b) (groups_at (more - 1) bs)) ≡ Some (n, rest) → HasGroups more n rest (b ∷ bs)
    large sound le same =
        let p = refused (eqb more 0) (option_and_then (before_groups b) (groups_at (more - 1) bs)) (n, rest) same in
        let q = some_then (before_groups b) (groups_at (more - 1) bs) (n, rest) p.1 in
        let r = allowed (ltb (b - 128 + 128 * q.0.0) (2 ^ 64)) (Some (b - 128 + 128 * q.0.0, q.0.1)) (n, rest) q.2 in
        let is = pair_is (b - 128 + 128 * q.0.0) n q.0.1 rest (some_of (b - 128 + 128 * q.0.0) q.0.1) refl r.1 in
        let ih = sound (more - 1) q.0.0 q.0.1 q.1 in
        let not_none : more ≢ 0 = eqb-false more 0 p.0 in
        let at : HasGroups more (b - 128 + 128 * q.0.0) q.0.1 (b ∷ bs) = one_more more b q.0.0 bs q.0.1 (ltb-false b 128 le) (omega arith) (ltb-true (b - 128 + 128 * q.0.0) (2 ^ 64) r.0) ih in
        subst (λ (t : List ℕ). HasGroups more n t (b ∷ bs)) is.1 (subst (λ (m : ℕ). HasGroups more m q.0.1 (b ∷ bs)) is.0 at)

pub groups_again : (front : List ℕ) (more n : ℕ) (rest : List ℕ) → IsGroups front n → length front ≤ more + 1 → n < 2 ^ 64 → groups_at more (front ++ rest) ≡ Some (n, rest)
unfolding groups_at
groups_again [] more n rest h short fits = absurd h
groups_again (b ∷ []) more n rest h short fits = rw (lt-ltb b 128 h.0) (ap (λ (m : ℕ). Some (m, rest)) (sym h.1))
groups_again (b ∷ c ∷ bs) more n rest h short fits =
    let high = h.1 in
    let is : b - 128 + 128 * high ≡ n = omega (arith, h.0, h.2) in
    let ih : groups_at (more - 1) (c ∷ bs ++ rest) ≡ Some (high, rest) = groups_again (c ∷ bs) (more - 1) high rest h.3 (omega arith) (omega (arith, h.0, h.2)) in
    rw (le-ltb b 128 h.0, ne_eqb more 0 (λ e. omega arith), ih, is, lt-ltb n (2 ^ 64) fits) refl

varint_sound : (bytes : List ℕ) (x : ℕ × List ℕ) → groups_at 9 bytes ≡ Some x → HasGroups 9 x.0 x.1 bytes
varint_sound bytes x e = groups_sound 9 bytes x.0 x.1 e

is_varint : (n : ℕ) (rest bytes : List ℕ) (h : HasGroups 9 n rest bytes) → IsVarint h.front n
is_varint n rest bytes h = record { groups = h.groups; short = h.short; fits = h.fits }

-- ---- payloads

record HasPayload (wire : ℕ) (p : Payload) (rest bytes : List ℕ) : Type 0 where
  front : List ℕ
  parts : bytes ≡ front ++ rest
  is : IsPayload wire p front

front_sound : (n : ℕ) (bytes : List ℕ) (x : List ℕ × List ℕ) → front_at n bytes ≡ Some x → (bytes ≡ x.0 ++ x.1) × (length x.0 ≡ n)
front_sound n bytes x e =
    let g = refused (ltb (length bytes) n) (Some (take n bytes, drop n bytes)) x e in
    let long : n ≤ length bytes = ltb-false (length bytes) n g.0 in
    let made : (bytes ≡ take n bytes ++ drop n bytes) × (length (take n bytes) ≡ n) = (sym (take-append-drop n bytes), omega (arith, length-take n bytes)) in
    subst (λ (y : List ℕ × List ℕ). (bytes ≡ y.0 ++ y.1) × (length y.0 ≡ n)) (some_is (take n bytes, drop n bytes) x (Some (take n bytes, drop n bytes)) refl g.1) made

front_again : (n : ℕ) (front rest : List ℕ) → length front ≡ n → front_at n (front ++ rest) ≡ Some (front, rest)
front_again n front rest len =
    let long : ltb (length (front ++ rest)) n ≡ false = le-ltb _ _ (omega (arith, length-append front rest)) in
    rw (long, take_at front rest n len, drop_at front rest n len) refl

abbrev Sound : ℕ → List ℕ → Payload × List ℕ → Type 0
Sound wire bytes x = HasPayload wire x.0 x.1 bytes

number_sound : (bytes : List ℕ) (x : Payload × List ℕ) → option_map as_number (varint_at bytes) ≡ Some x → Sound 0 bytes x
number_sound bytes x e =
    let q = some_map as_number (varint_at bytes) x e in
    let h = varint_sound bytes q.0 q.1 in
    let made : Sound 0 bytes (as_number q.0) = record { front = h.front; parts = h.parts; is = (refl, is_varint q.0.0 q.0.1 bytes h) } in
    subst (Sound 0 bytes) q.2 made

eight_sound : (bytes : List ℕ) (x : Payload × List ℕ) → option_map as_eight (front_at 8 bytes) ≡ Some x → Sound 1 bytes x
eight_sound bytes x e =
    let q = some_map as_eight (front_at 8 bytes) x e in
    let h = front_sound 8 bytes q.0 q.1 in
    let made : Sound 1 bytes (as_eight q.0) = record { front = q.0.0; parts = h.0; is = (refl, refl, h.1) } in
    subst (Sound 1 bytes) q.2 made

four_sound : (bytes : List ℕ) (x : Payload × List ℕ) → option_map as_four (front_at 4 bytes) ≡ Some x → Sound 5 bytes x
four_sound bytes x e =
    let q = some_map as_four (front_at 4 bytes) x e in
    let h = front_sound 4 bytes q.0 q.1 in
    let made : Sound 5 bytes (as_four q.0) = record { front = q.0.0; parts = h.0; is = (refl, refl, h.1) } in
    subst (Sound 5 bytes) q.2 made

bytes_sound : (bytes : List ℕ) (x : Payload × List ℕ) → option_and_then behind_length (varint_at bytes) ≡ Some x → Sound 2 bytes x
bytes_sound bytes x e =
    let n = some_then behind_length (varint_at bytes) x e in
    let q = some_map as_bytes (front_at n.0.0 n.0.1) x n.2 in
    let h = varint_sound bytes n.0 n.1 in
    let f = front_sound n.0.0 n.0.1 q.0 q.1 in
    let len : IsVarint h.front (length q.0.0) = subst (IsVarint h.front) (sym f.1) (is_varint n.0.0 n.0.1 bytes h) in
    let whole : bytes ≡ (h.front ++ q.0.0) ++ q.0.1 = h.parts ∙ ap (λ (t : List ℕ). h.front ++ t) f.0 ∙ sym (append_assoc h.front q.0.0 q.0.1) in
    let made : Sound 2 bytes (as_bytes q.0) = record { front = h.front ++ q.0.0; parts = whole; is = (refl, h.front, len, refl) } in
    subst (Sound 2 bytes) q.2 made

payload_sound : (wire : ℕ) (bytes : List ℕ) (x : Payload × List ℕ) → payload_at wire bytes ≡ Some x → Sound wire bytes x
unfolding payload_at
payload_sound wire bytes x e =
    elim (chosen (eqb wire 0) (option_map as_number (varint_at bytes)) (cond (eqb wire 1) (option_map as_eight (front_at 8 bytes)) (cond (eqb wire 2) (option_and_then behind_length (varint_at bytes)) (cond (eqb wire 5) (option_map as_four (front_at 4 bytes)) None))) (Some x) e) [
      | inl p ↦ at 0 (eqb-true wire 0 p.0) (number_sound bytes x p.1)
      | inr p ↦ elim (chosen (eqb wire 1) (option_map as_eight (front_at 8 bytes)) (cond (eqb wire 2) (option_and_then behind_length (varint_at bytes)) (cond (eqb wire 5) (option_map as_four (front_at 4 bytes)) None)) (Some x) p.1) [
        | inl q ↦ at 1 (eqb-true wire 1 q.0) (eight_sound bytes x q.1)
        | inr q ↦ elim (chosen (eqb wire 2) (option_and_then behind_length (varint_at bytes)) (cond (eqb wire 5) (option_map as_four (front_at 4 bytes)) None) (Some x) q.1) [
          | inl r ↦ at 2 (eqb-true wire 2 r.0) (bytes_sound bytes x r.1)
          | inr r ↦ let s = allowed (eqb wire 5) (option_map as_four (front_at 4 bytes)) x r.1 in at 5 (eqb-true wire 5 s.0) (four_sound bytes x s.1)
        ]
      ]
    ]
  where
    at : (k : ℕ) → wire ≡ k → Sound k bytes x → Sound wire bytes x
    at k is h = subst (λ (w : ℕ). Sound w bytes x) (sym is) h

payload_again : (p : Payload) (wire : ℕ) (front rest : List ℕ) → IsPayload wire p front → payload_at wire (front ++ rest) ≡ Some (p, rest)
unfolding payload_at
payload_again (Number n) wire front rest h = rw (h.0, groups_again front 9 n rest h.1.groups h.1.short h.1.fits) refl
payload_again (Eight held) wire front rest h = rw (h.0, h.1, front_again 8 held rest h.2) refl
payload_again (Bytes held) wire front rest h =
    let len = h.2 in
    let whole : front ++ rest ≡ h.1 ++ (held ++ rest) = ap (λ (t : List ℕ). t ++ rest) h.3 ∙ append_assoc h.1 held rest in
    rw (h.0, whole, groups_again h.1 9 (length held) (held ++ rest) len.groups len.short len.fits, front_again (length held) held rest refl) refl
payload_again (Four held) wire front rest h = rw (h.0, h.1, front_again 4 held rest h.2) refl

-- ---- fields

pub record HasField (x : Field × List ℕ) (bytes : List ℕ) : Type 0 where
  pub front : List ℕ
  pub parts : bytes ≡ front ++ x.1
  pub is : IsField x.0 front
  pub shorter : length x.1 < length bytes

pub field_sound : (bytes : List ℕ) (x : Field × List ℕ) → field_at bytes ≡ Some x → HasField x bytes
unfolding field_at
field_sound bytes x e =
    let k = some_then behind_key (varint_at bytes) x e in
    let n = k.0.0 in
    let low = refused (ltb (n / 8) 1) (cond (ltb (n / 8) (2 ^ 29)) (option_map (under_tag (n / 8)) (payload_at (n % 8) k.0.1)) None) x k.2 in
    let high = allowed (ltb (n / 8) (2 ^ 29)) (option_map (under_tag (n / 8)) (payload_at (n % 8) k.0.1)) x low.1 in
    let p = some_map (under_tag (n / 8)) (payload_at (n % 8) k.0.1) x high.1 in
    let key = varint_sound bytes k.0 k.1 in
    let h = payload_sound (n % 8) k.0.1 p.0 p.1 in
    let whole : bytes ≡ (key.front ++ h.front) ++ p.0.1 = key.parts ∙ ap (λ (t : List ℕ). key.front ++ t) h.parts ∙ sym (append_assoc key.front h.front p.0.1) in
    let again : n ≡ n / 8 * 8 + n % 8 = omega arith in
    let is_key : IsVarint key.front (n / 8 * 8 + n % 8) = subst (IsVarint key.front) again (is_varint n k.0.1 bytes key) in
    let at_least : 1 ≤ n / 8 = ltb-false (n / 8) 1 low.0 in
    let below : n / 8 < 2 ^ 29 = ltb-true (n / 8) (2 ^ 29) high.0 in
    let some : 0 < length key.front = key.some in
    let shorter : length p.0.1 < length bytes = omega (arith, ap length whole, length-append (key.front ++ h.front) p.0.1, length-append key.front h.front) in
    let made : HasField (under_tag (n / 8) p.0) bytes = record {
      front = key.front ++ h.front;
      parts = whole;
      is = record { key = key.front; rest = h.front; wire = n % 8; low = at_least; high = below; type_below = omega arith; is_key = is_key; is_payload = h.is; parts = refl };
      shorter = shorter;
    } in
    subst (λ (y : Field × List ℕ). HasField y bytes) p.2 made

field_again : (f : Field) (front rest : List ℕ) → IsField f front → field_at (front ++ rest) ≡ Some (f, rest)
unfolding field_at
field_again f front rest h =
    let whole : front ++ rest ≡ h.key ++ (h.rest ++ rest) = ap (λ (t : List ℕ). t ++ rest) h.parts ∙ append_assoc h.key h.rest rest in
    let key = h.is_key in
    rw (whole, groups_again h.key 9 (f.tag * 8 + h.wire) (h.rest ++ rest) key.groups key.short key.fits, div-mul-add f.tag 8 h.wire h.type_below, mod-mul-add f.tag 8 h.wire h.type_below, le-ltb f.tag 1 h.low, lt-ltb f.tag (2 ^ 29) h.high, payload_again f.payload h.wire h.rest rest h.is_payload) refl

-- ---- rows

up_to_more : (n : ℕ) (bytes : List ℕ) → 0 < length bytes → fields_up_to (suc n) bytes ≡ option_and_then (λ x. option_map (before x.0) (fields_up_to n x.1)) (field_at bytes)
unfolding fields_up_to
up_to_more n [] some = absurd (omega arith)
up_to_more n (b ∷ bs) some = refl

up_to_none : (n : ℕ) → fields_up_to n [] ≡ Some []
unfolding fields_up_to
up_to_none zero = refl
up_to_none (suc n) = refl

pub enough : (n m : ℕ) (bytes : List ℕ) → length bytes ≤ n → length bytes ≤ m → fields_up_to n bytes ≡ fields_up_to m bytes
unfolding fields_up_to
enough n m [] p q = up_to_none n ∙ sym (up_to_none m)
enough zero m (b ∷ bs) p q = absurd (omega arith)
enough (suc n) zero (b ∷ bs) p q = absurd (omega arith)
enough (suc n) (suc m) (b ∷ bs) p q =
    same_then (λ (x : Field × List ℕ). option_map (before x.0) (fields_up_to n x.1)) (λ (x : Field × List ℕ). option_map (before x.0) (fields_up_to m x.1)) (field_at (b ∷ bs))
    (λ x e. let s = (field_sound (b ∷ bs) x e).shorter in ap (option_map (before x.0)) (enough n m x.1 (omega arith) (omega arith)))

pub fields_go_on : (bytes : List ℕ) (x : Field × List ℕ) → 0 < length bytes → field_at bytes ≡ Some x → fields_of bytes ≡ option_map (before x.0) (fields_of x.1)
unfolding fields_of
fields_go_on bytes x some e =
    let k : length bytes ≡ suc (length bytes - 1) = omega arith in
    let s = (field_sound bytes x e).shorter in
    let one : fields_up_to (length bytes) bytes ≡ option_and_then (λ (y : Field × List ℕ). option_map (before y.0) (fields_up_to (length bytes - 1) y.1)) (field_at bytes) = ap (λ (n : ℕ). fields_up_to n bytes) k ∙ up_to_more (length bytes - 1) bytes some in
    one ∙ rw e (ap (option_map (before x.0)) (enough (length bytes - 1) (length x.1) x.1 (omega arith) (omega arith)))

pub fields_stop : (bytes : List ℕ) → 0 < length bytes → field_at bytes ≡ None → fields_of bytes ≡ None
unfolding fields_of
fields_stop bytes some e =
    let k : length bytes ≡ suc (length bytes - 1) = omega arith in
    ap (λ (n : ℕ). fields_up_to n bytes) k ∙ up_to_more (length bytes - 1) bytes some ∙ rw e refl

row_sound : (n : ℕ) (bytes : List ℕ) (fs : List Field) → fields_up_to n bytes ≡ Some fs → IsRow fs bytes
unfolding fields_up_to
row_sound n [] fs e = subst (λ (gs : List Field). IsRow gs []) (some_is [] fs (fields_up_to n []) (up_to_none n) e) refl
row_sound zero (b ∷ bs) fs e = absurd cc
row_sound (suc n) (b ∷ bs) fs e =
    let p = some_then (λ (x : Field × List ℕ). option_map (before x.0) (fields_up_to n x.1)) (field_at (b ∷ bs)) fs e in
    let q = some_map (before p.0.0) (fields_up_to n p.0.1) fs p.2 in
    let h = field_sound (b ∷ bs) p.0 p.1 in
    subst (λ (gs : List Field). IsRow gs (b ∷ bs)) q.2 (h.front, p.0.1, h.is, row_sound n p.0.1 q.0 q.1, h.parts)

has_key : (f : Field) (front : List ℕ) → IsField f front → 0 < length front
has_key f front h = let some : 0 < length h.key = has_groups h.key (f.tag * 8 + h.wire) h.is_key.groups in omega (arith, ap length h.parts, length-append h.key h.rest)
  where
    has_groups : (bytes : List ℕ) (n : ℕ) → IsGroups bytes n → 0 < length bytes
    has_groups [] n e = absurd e
    has_groups (b ∷ bs) n e = omega arith

row_again : (fs : List Field) (n : ℕ) (bytes : List ℕ) → IsRow fs bytes → length bytes ≤ n → fields_up_to n bytes ≡ Some fs
row_again [] n bytes h le = rw h (up_to_none n)
row_again (f ∷ fs) n bytes h le =
    let front = h.0 in
    let rest = h.1 in
    let some : 0 < length front = has_key f front h.2 in
    let len : length bytes ≡ length front + length rest = ap length h.4 ∙ length-append front rest in
    let k : n ≡ suc (n - 1) = omega arith in
    let ih : fields_up_to (n - 1) rest ≡ Some fs = row_again fs (n - 1) rest h.3 (omega arith) in
    ap (λ (m : ℕ). fields_up_to m bytes) k ∙ up_to_more (n - 1) bytes (omega arith) ∙ rw (h.4, field_again f front rest h.2, ih) refl

pub fields_sound : (bytes : List ℕ) (fs : List Field) → fields_of bytes ≡ Some fs → IsRow fs bytes
unfolding fields_of
fields_sound bytes fs e = row_sound (length bytes) bytes fs e

pub fields_again : (bytes : List ℕ) (fs : List Field) → IsRow fs bytes → fields_of bytes ≡ Some fs
unfolding fields_of
fields_again bytes fs h = row_again fs (length bytes) bytes h (omega arith)
