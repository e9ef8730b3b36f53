-- A message as a loop from the front reads it: the values so far, and what the rest adds to them.
use Rattle.std.proofs.Common.{◌≡◌, ◌≢◌, ◌==◌, ℕ, zero, suc, ◌+◌, ◌<◌, ◌≤◌, Bool, true, false, List, [], ◌∷◌, length, get_or, replicate, Option, Some, None, Result, Ok, Err, refl, sym, ap, subst, ◌∙◌, arith, inl, inr, get_or-set_same, get_or-set_other}
use Rattle.std.specs.Prelude.{option_map, option_and_then, ok_or, unwrap_or, if◌then◌else◌, ◌&&◌}
use Rattle.std.specs.List.{list_all, range_with_len}
use Rattle.std.specs.Option.{option_or}
use Rattle.std.proofs.Math.ListN.{set}
use Rattle.std.proofs.lemmas.Bool.Decides.{nat_tests}
use Rattle.std.proofs.lemmas.Bool.{cases_lt, cases_eq, ne_eqb, eq-eqb}
use Rattle.std.proofs.lemmas.List.{length-set, get_or-replicate, get_or_past, nil_from_length}
use Rattle.std.proofs.lemmas.List.FromFn.{fill_by_all}
use Rattle.fl_types.specs.declared.error.FastLanesError.{FastLanesError}
use Rattle.fl_types.specs.declared.error.FastLanesError.TheVariants.{BadMetadata}
use Rattle.fl_metadata.specs.Wire.{Payload, Number, Eight, Bytes, Four, Field}
use Rattle.fl_metadata.specs.WireReading.{field_at, before, fields_of, fields_up_to}
use Rattle.fl_metadata.specs.Schemas.{kind_at, is_of_kind, last, last_values, has_kinds, is_within, are_within, number_held, number_at, optional_number_at, KeepsLimits, said, values_of}
use Rattle.fl_metadata.specs.declared.schema.Kind.{Kind}
use Rattle.fl_metadata.specs.declared.schema.Kind.TheVariants as kinds
use Rattle.fl_metadata.proofs.FieldRows.{fields_go_on, fields_stop}

-- a message's values by tag
abbrev pub Table : Type 0
Table = List (Option Payload)

-- the values so far, and over them those of the fields that follow
abbrev pub gathered : Table → List Field → Table
gathered v [] = v
gathered v (f ∷ fs) = gathered (set v f.tag (Some f.payload)) fs

length-gathered : (v : Table) (fs : List Field) → length (gathered v fs) ≡ length v
length-gathered v [] = refl
length-gathered v (f ∷ fs) = length-gathered (set v f.tag (Some f.payload)) fs ∙ length-set v f.tag (Some f.payload)

or_later : (later : Option Payload) (p : Payload) (old : Option Payload) → option_or later (Some p) ≡ option_or (option_or later (Some p)) old
or_later None p old = refl
or_later (Some q) p old = refl

or_same : (later old : Option Payload) → option_or later old ≡ option_or (option_or later None) old
or_same None old = refl
or_same (Some q) old = refl

get_or-gathered : (tag : ℕ) (v : Table) (fs : List Field) → tag < length v → get_or (gathered v fs) tag None ≡ option_or (last tag fs) (get_or v tag None)
get_or-gathered tag v [] lt = refl
get_or-gathered tag v (f ∷ fs) lt =
    let next : Table = set v f.tag (Some f.payload) in
    let ih : get_or (gathered next fs) tag None ≡ option_or (last tag fs) (get_or next tag None) = get_or-gathered tag next fs (omega (arith, length-set v f.tag (Some f.payload))) in
    elim (cases_eq f.tag tag) [
      | inl is ↦ ih ∙ rw (eq-eqb f.tag tag is, is, get_or-set_same v tag (Some f.payload) None lt) (or_later (last tag fs) f.payload (get_or v tag None))
      | inr ne ↦ let other : tag ≢ f.tag = λ e. ne (sym e) in ih ∙ rw (ne_eqb f.tag tag ne, get_or-set_other v f.tag tag (Some f.payload) None other) (or_same (last tag fs) (get_or v tag None))
    ]

or_none : (later : Option Payload) → option_or later None ≡ later
or_none None = refl
or_none (Some p) = refl

-- before the first field
abbrev pub blank : Table
blank = replicate 7 None

gathered_all : (fs : List Field) → gathered blank fs ≡ last_values fs
unfolding last_values
gathered_all fs = fill_by_all (λ tag. last tag fs) (gathered blank fs) 7 None (length-gathered blank fs) (λ k lt. get_or-gathered k blank fs lt ∙ ap (λ (old : Option Payload). option_or (last k fs) old) (none_at k lt) ∙ or_none (last k fs))
  where
    none_at : (k : ℕ) → k < 7 → get_or blank k None ≡ None
    none_at k lt = get_or-replicate 7 k None None lt

-- ---- the rest of a text

-- what a row adds to the values so far, where it keeps to the schema
abbrev pub told : List Kind → Table → List Field → Option Table
told schema v fs = if has_kinds schema fs then (if are_within schema (gathered v fs) then Some (gathered v fs) else None) else None

-- the values so far, and what the rest of the text adds to them
unfoldable pub after : List Kind → Table → List ℕ → Result Table FastLanesError
after schema v bytes = ok_or (option_and_then (told schema v) (fields_of bytes)) BadMetadata

pub some_left : (bytes : List ℕ) → false ≡ (length bytes == 0) → 0 < length bytes
some_left [] e = absurd (cc)
some_left (b ∷ bs) e = omega arith

pub none_left : (bytes : List ℕ) → true ≡ (length bytes == 0) → bytes ≡ []
none_left bytes e = nil_from_length bytes (grind (arith, nat_tests, e))

pub after_starts : (schema : List Kind) (bytes : List ℕ) → after schema blank bytes ≡ values_of schema bytes
unfolding after values_of said
after_starts schema bytes = each (fields_of bytes)
  where
    each : (row : Option (List Field)) → ok_or (option_and_then (told schema blank) row) BadMetadata ≡ ok_or (option_and_then (said schema) row) BadMetadata
    each None = refl
    each (Some fs) = rw (gathered_all fs) refl

pub after_ends : (schema : List Kind) (v : Table) → are_within schema v ≡ true → after schema v [] ≡ Ok v
unfolding after has_kinds fields_of fields_up_to
after_ends schema v e = rw e refl

pub after_passes : (schema : List Kind) (v : Table) → are_within schema v ≡ false → after schema v [] ≡ Err BadMetadata
unfolding after has_kinds fields_of fields_up_to
after_passes schema v e = rw e refl

pub after_stops : (schema : List Kind) (v : Table) (bytes : List ℕ) → 0 < length bytes → field_at bytes ≡ None → after schema v bytes ≡ Err BadMetadata
unfolding after
after_stops schema v bytes some e = rw (fields_stop bytes some e) refl

pub after_wrong : (schema : List Kind) (v : Table) (bytes : List ℕ) (x : Field × List ℕ) → 0 < length bytes → field_at bytes ≡ Some x → is_of_kind (kind_at schema x.0.tag) x.0.payload ≡ false → after schema v bytes ≡ Err BadMetadata
unfolding after has_kinds
after_wrong schema v bytes x some e wrong = rw (fields_go_on bytes x some e) (each (fields_of x.1))
  where
    each : (row : Option (List Field)) → ok_or (option_and_then (told schema v) (option_map (before x.0) row)) BadMetadata ≡ Err BadMetadata
    each None = refl
    each (Some fs) = rw wrong refl

pub after_next : (schema : List Kind) (v : Table) (bytes : List ℕ) (x : Field × List ℕ) → 0 < length bytes → field_at bytes ≡ Some x → is_of_kind (kind_at schema x.0.tag) x.0.payload ≡ true → after schema (set v x.0.tag (Some x.0.payload)) x.1 ≡ after schema v bytes
unfolding after has_kinds
after_next schema v bytes x some e right = rw (fields_go_on bytes x some e) (each (fields_of x.1))
  where
    each : (row : Option (List Field)) → ok_or (option_and_then (told schema (set v x.0.tag (Some x.0.payload))) row) BadMetadata ≡ ok_or (option_and_then (told schema v) (option_map (before x.0) row)) BadMetadata
    each None = refl
    each (Some fs) = rw right refl

-- ---- limits, tag by tag

pub one_over : (p : ℕ → Bool) (a n k : ℕ) → a ≤ k → k < a + n → p k ≡ false → list_all p (range_with_len a n) ≡ false
one_over p a zero k le lt over = absurd (omega arith)
one_over p a (suc n) k le lt over =
    elim (cases_eq k a) [
      | inl is ↦ rw (← is, over) refl
      | inr ne ↦ rw (one_over p (a + 1) n k (omega arith) (omega arith) over) (none (p a))
    ]
  where
    none : (b : Bool) → (b && false) ≡ false
    none true = refl
    none false = refl

pub none_over : (p : ℕ → Bool) (a n : ℕ) → ((k : ℕ) → k < a + n → p k ≡ true) → list_all p (range_with_len a n) ≡ true
none_over p a zero under = refl
none_over p a (suc n) under = rw (under a (omega arith), none_over p (a + 1) n (λ k lt. under k (omega arith))) refl

-- ---- what keeps its limits

not_false : (b : Bool) → (b ≡ false → ⊥) → b ≡ true
not_false true h = refl
not_false false h = absurd (h refl)

each_under : (p : ℕ → Bool) (n k : ℕ) → list_all p (range_with_len 0 n) ≡ true → k < n → p k ≡ true
each_under p n k all lt = not_false (p k) (λ over. let some : list_all p (range_with_len 0 n) ≡ false = one_over p 0 n k (omega arith) (omega arith) over in cc)

under_limit : (o : Option Payload) (limit : ℕ) → is_within (kinds.Number limit) o ≡ true → unwrap_or (number_held o) 0 ≤ limit
under_limit None limit e = omega arith
under_limit (Some (Number n)) limit e = grind (arith, nat_tests)
under_limit (Some (Eight held)) limit e = omega arith
under_limit (Some (Bytes held)) limit e = omega arith
under_limit (Some (Four held)) limit e = omega arith

pub keeps_limits : (schema : List Kind) (v : Table) → length v ≡ 7 → are_within schema v ≡ true → KeepsLimits schema v
unfolding are_within number_at optional_number_at
keeps_limits schema v seven all tag limit kind =
    elim (cases_lt tag 7) [
      | inl lt ↦
          let here : is_within (kind_at schema tag) (get_or v tag None) ≡ true = each_under (λ k. is_within (kind_at schema k) (get_or v k None)) 7 tag all lt in
          under_limit (get_or v tag None) limit (subst (λ (k : Kind). is_within k (get_or v tag None) ≡ true) kind here)
      | inr past ↦ under_limit (get_or v tag None) limit (rw (get_or_past v tag None (omega arith)) refl)
    ]
