-- What slots write is read again by a schema that admits it.
use Rattle.std.proofs.Common.{◌≡◌, ◌≢◌, ℕ, ◌^◌, ◌<◌, ◌≤◌, true, cond, eqb, List, [], ◌∷◌, ◌++◌, length, map, get_or, Option, Some, None, Ok, refl, sym, ap, subst, ◌∙◌, arith, inl, inr}
use Rattle.std.specs.Prelude.{option_map, unwrap_or}
use Rattle.std.specs.Option.{option_or}
use Rattle.std.proofs.lemmas.Bool.{cases_eq, eq-eqb, ne_eqb, le-leb}
use Rattle.std.proofs.lemmas.List.FromFn.{get_or-map-range_with_len, length-map-range_with_len, fill_by_all}
use Rattle.fl_metadata.specs.Wire.{Payload, Number, Eight, Bytes, Four, Field}
use Rattle.fl_metadata.specs.Schemas.{kind_at, is_of_kind, is_within, last, tags, last_values, has_kinds, are_within, said, values_of, number_held}
use Rattle.fl_metadata.specs.WrittenText.{Slot, message_text, field_at_slot, fields_in}
use Rattle.fl_metadata.specs.declared.schema.Kind.{Kind}
use Rattle.fl_metadata.specs.declared.schema.Kind.TheVariants as kinds
use Rattle.fl_metadata.proofs.FieldRows.{fields_again}
use Rattle.fl_metadata.proofs.SchemaSteps.{none_over}
use Rattle.fl_metadata.proofs.WrittenRows.{rises, rises_on, WritableAt, AreWritable, is_row_text}

-- a schema takes what is written under a tag
abbrev pub Admits : Kind → Option Payload → Type 0
Admits kind None = Unit {0}
Admits kinds.Unknown (Some p) = ⊥
Admits (kinds.Number limit) (Some (Number n)) = (n ≤ limit) × (n < 2 ^ 64)
Admits (kinds.Number limit) (Some (Eight held)) = ⊥
Admits (kinds.Number limit) (Some (Bytes held)) = ⊥
Admits (kinds.Number limit) (Some (Four held)) = ⊥
Admits kinds.Message (Some (Number n)) = ⊥
Admits kinds.Message (Some (Eight held)) = ⊥
Admits kinds.Message (Some (Bytes held)) = length held < 2 ^ 64
Admits kinds.Message (Some (Four held)) = ⊥

abbrev pub AdmitsAll : List Kind → List Slot → Type 0
AdmitsAll schema [] = Unit {0}
AdmitsAll schema (s ∷ ss) = Admits (kind_at schema s.tag) s.payload × AdmitsAll schema ss

writable : (kind : Kind) (o : Option Payload) → Admits kind o → WritableAt o
writable kind None h = tt
writable kinds.Unknown (Some p) h = absurd h
writable (kinds.Number limit) (Some (Number n)) h = h.1
writable (kinds.Number limit) (Some (Eight held)) h = absurd h
writable (kinds.Number limit) (Some (Bytes held)) h = absurd h
writable (kinds.Number limit) (Some (Four held)) h = absurd h
writable kinds.Message (Some (Number n)) h = absurd h
writable kinds.Message (Some (Eight held)) h = absurd h
writable kinds.Message (Some (Bytes held)) h = h
writable kinds.Message (Some (Four held)) h = absurd h

pub are_writable : (schema : List Kind) (ss : List Slot) → AdmitsAll schema ss → AreWritable ss
are_writable schema [] h = tt
are_writable schema (s ∷ ss) h = (writable (kind_at schema s.tag) s.payload h.0, are_writable schema ss h.1)

of_kind : (kind : Kind) (p : Payload) → Admits kind (Some p) → is_of_kind kind p ≡ true
of_kind kinds.Unknown p h = absurd h
of_kind (kinds.Number limit) (Number n) h = refl
of_kind (kinds.Number limit) (Eight held) h = absurd h
of_kind (kinds.Number limit) (Bytes held) h = absurd h
of_kind (kinds.Number limit) (Four held) h = absurd h
of_kind kinds.Message (Number n) h = absurd h
of_kind kinds.Message (Eight held) h = absurd h
of_kind kinds.Message (Bytes held) h = refl
of_kind kinds.Message (Four held) h = absurd h

within : (kind : Kind) (o : Option Payload) → Admits kind o → is_within kind o ≡ true
within kinds.Unknown o h = refl
within (kinds.Number limit) None h = refl
within (kinds.Number limit) (Some (Number n)) h = le-leb n limit h.0
within (kinds.Number limit) (Some (Eight held)) h = absurd h
within (kinds.Number limit) (Some (Bytes held)) h = absurd h
within (kinds.Number limit) (Some (Four held)) h = absurd h
within kinds.Message o h = refl

slot_kinds : (schema : List Kind) (s : Slot) (ss : List Slot) (o : Option Payload) → Admits (kind_at schema s.tag) o → has_kinds schema (fields_in ss) ≡ true → has_kinds schema (field_at_slot s.tag o ++ fields_in ss) ≡ true
unfolding has_kinds
slot_kinds schema s ss None h later = later
slot_kinds schema s ss (Some p) h later = rw (of_kind (kind_at schema s.tag) p h, later) refl

all_kinds : (schema : List Kind) (ss : List Slot) → AdmitsAll schema ss → has_kinds schema (fields_in ss) ≡ true
unfolding has_kinds
all_kinds schema [] h = refl
all_kinds schema (s ∷ ss) h = slot_kinds schema s ss s.payload h.0 (all_kinds schema ss h.1)

-- ---- the last payload of a tag is the only one

-- what is written under a tag
abbrev pub written_at : ℕ → List Slot → Option Payload
written_at tag [] = None
written_at tag (s ∷ ss) = cond (eqb s.tag tag) s.payload (written_at tag ss)

or_none : (later : Option Payload) → option_or later None ≡ later
or_none None = refl
or_none (Some p) = refl

last_other : (tag : ℕ) (s : Slot) (fs : List Field) (o : Option Payload) → s.tag ≢ tag → last tag (field_at_slot s.tag o ++ fs) ≡ last tag fs
last_other tag s fs None ne = refl
last_other tag s fs (Some p) ne = rw (ne_eqb s.tag tag ne) (or_none (last tag fs))

last_here : (tag : ℕ) (s : Slot) (fs : List Field) (o : Option Payload) → s.tag ≡ tag → last tag fs ≡ None → last tag (field_at_slot s.tag o ++ fs) ≡ o
last_here tag s fs None is later = later
last_here tag s fs (Some p) is later = rw (eq-eqb s.tag tag is, later) refl

absent : (low tag : ℕ) (ss : List Slot) → rises low ss ≡ true → tag ≤ low → last tag (fields_in ss) ≡ None
absent low tag [] rise le = refl
absent low tag (s ∷ ss) rise le =
    let on = rises_on low s ss rise in
    let ne : s.tag ≢ tag = λ e. omega (arith, on.above) in
    last_other tag s (fields_in ss) s.payload ne ∙ absent s.tag tag ss on.later (omega (arith, on.above))

pub last_written : (low tag : ℕ) (ss : List Slot) → rises low ss ≡ true → last tag (fields_in ss) ≡ written_at tag ss
last_written low tag [] rise = refl
last_written low tag (s ∷ ss) rise =
    let on = rises_on low s ss rise in
    elim (cases_eq s.tag tag) [
      | inl is ↦ rw (eq-eqb s.tag tag is) (last_here tag s (fields_in ss) s.payload is (absent s.tag tag ss on.later (omega arith)))
      | inr ne ↦ rw (ne_eqb s.tag tag ne) (last_other tag s (fields_in ss) s.payload ne ∙ last_written s.tag tag ss on.later)
    ]

written_within : (schema : List Kind) (tag : ℕ) (ss : List Slot) → AdmitsAll schema ss → is_within (kind_at schema tag) (written_at tag ss) ≡ true
written_within schema tag [] h = within (kind_at schema tag) None tt
written_within schema tag (s ∷ ss) h =
    elim (cases_eq s.tag tag) [
      | inl is ↦ rw (eq-eqb s.tag tag is) (within (kind_at schema tag) s.payload (subst (λ (t : ℕ). Admits (kind_at schema t) s.payload) is h.0))
      | inr ne ↦ rw (ne_eqb s.tag tag ne) (written_within schema tag ss h.1)
    ]

-- what is written, tag by tag
abbrev pub written_values : List Slot → List (Option Payload)
written_values ss = map (λ tag. written_at tag ss) tags

values_written : (ss : List Slot) → rises 0 ss ≡ true → last_values (fields_in ss) ≡ written_values ss
unfolding last_values
values_written ss rise = fill_by_all (λ tag. written_at tag ss) (map (λ tag. last tag (fields_in ss)) tags) 7 None (length-map-range_with_len (λ tag. last tag (fields_in ss)) 0 7) (λ k lt. get_or-map-range_with_len (λ tag. last tag (fields_in ss)) 0 7 k k None lt (omega arith) ∙ last_written 0 k ss rise)

values_within : (schema : List Kind) (ss : List Slot) → AdmitsAll schema ss → are_within schema (written_values ss) ≡ true
unfolding are_within
values_within schema ss h = none_over (λ tag. is_within (kind_at schema tag) (get_or (written_values ss) tag None)) 0 7 (λ k lt. ap (is_within (kind_at schema k)) (get_or-map-range_with_len (λ tag. written_at tag ss) 0 7 k k None (omega arith) (omega arith)) ∙ written_within schema k ss h)

-- what slots write says their values
pub read_again : (schema : List Kind) (ss : List Slot) → rises 0 ss ≡ true → AdmitsAll schema ss → values_of schema (message_text ss) ≡ Ok (written_values ss)
unfolding values_of said
read_again schema ss rise h = rw (fields_again (message_text ss) (fields_in ss) (is_row_text 0 ss rise (are_writable schema ss h)), all_kinds schema ss h, values_written ss rise, values_within schema ss h) refl

-- ---- slots of one number

abbrev pub number_payload : ℕ → Option Payload
number_payload n = cond (eqb n 0) None (Some (Number n))

pub admits_number : (limit n : ℕ) → n ≤ limit → limit < 2 ^ 64 → Admits (kinds.Number limit) (number_payload n)
admits_number limit n le wide =
    elim (cases_eq n 0) [
      | inl is ↦ rw (eq-eqb n 0 is) tt
      | inr ne ↦ rw (ne_eqb n 0 ne) (le, omega arith)
    ]

pub number_again : (n : ℕ) → unwrap_or (number_held (number_payload n)) 0 ≡ n
number_again n =
    elim (cases_eq n 0) [
      | inl is ↦ rw (eq-eqb n 0 is) (sym is)
      | inr ne ↦ rw (ne_eqb n 0 ne) refl
    ]

pub stated_again : (o : Option ℕ) → number_held (option_map Number o) ≡ o
stated_again None = refl
stated_again (Some n) = refl
