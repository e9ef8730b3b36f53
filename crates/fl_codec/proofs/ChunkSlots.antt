-- The slots of chunks, each less its reference, chunk by chunk.
use Rattle.std.proofs.Common.{◌≡◌, ℕ, ℤ, pos, zero, suc, ◌+◌, ◌-◌, ◌*◌, ◌/◌, ◌<◌, ◌≤◌, ◌-ℤ◌, ◌⊎◌, true, List, [], ◌∷◌, ◌++◌, length, map, drop, get_or, min, Option, Some, None, refl, ap, sym, ◌∙◌, arith, inl, inr, length-take, length-drop}
use Rattle.std.specs.List.{list_all}
use Rattle.std.specs.Prelude.{Ok, Result}
use Rattle.fl_types.specs.declared.error.FastLanesError.{FastLanesError}
use Rattle.std.specs.Ordering.{int_eq}
use Rattle.std.proofs.lemmas.Bool.{cases_Bool}
use Rattle.std.proofs.lemmas.Bool.Decides.{Decides-int_eq}
use Rattle.std.proofs.lemmas.List.{drop-map, get_or-drop, get_or-map, get_or-take, length-map, take-map}
use Rattle.fl_types.specs.declared.dtype.PType.{PType}
use Rattle.fl_types.specs.declared.validity.Validity.{Validity}
use Rattle.fl_types.specs.declared.validity.Validity.TheVariants as valid
use Rattle.fl_types.specs.Bits.{tabulate}
use Rattle.fl_types.specs.Integers.{wrap}
use Rattle.fl_types.specs.Validities.{items_of}
use Rattle.fl_types.proofs.BitLists.{same_tables}
use Rattle.fl_column.proofs.ListLaws.{all_at}
use Rattle.fl_codec.specs.Chunks.{chunk, chunks_of}
use Rattle.fl_codec.specs.FoRColumns.{chunk_leasts, chunk_references, chunked_slots, common_reference, minus_reference, reading, reference_of_chunk}
use Rattle.fl_codec.specs.Parts.{ByChunk, OneReference, Whole, less_chunk_leasts, less_references, non_nullable, reference_scalar, subtract_reference, under_validity_of}
use Rattle.fl_codec.specs.declared.for_.ItemOrder.{ItemOrder}
use Rattle.fl_column.specs.Columns.{PrimitiveParts}
use Rattle.fl_codec.proofs.ReferenceLaws.{get_or-table, length-table, length_of_values, references_of_plain}
use Rattle.fl_codec.proofs.WithoutNulls.{full_items, table_of_items, tables_join}

-- ---- a chunk more
item_of_full : (v : Validity) (zs : List ℤ) (i : ℕ) → (v ≡ valid.NonNullable) ⊎ (v ≡ valid.AllValid) → i < length zs → get_or (items_of v zs) i None ≡ Some (get_or zs i (pos 0))
item_of_full v zs i full h = ap (λ items. get_or items i None) (full_items v zs full) ∙ get_or-map (λ z. Some z) zs i (pos 0) None h

chunk_read : {X : Type 0} (value : X → ℤ) (xs : List X) (k j : ℕ) → j < 1024 → get_or (map value (chunk k xs)) j (pos 0) ≡ get_or (map value xs) (1024 * k + j) (pos 0)
chunk_read value xs k j h =
    rw (← take-map, ← drop-map) (get_or-take (1024 * (k + 1) - 1024 * k) (drop (1024 * k) (map value xs)) j (pos 0) (omega arith) ∙ get_or-drop (1024 * k) (map value xs) j (pos 0))

-- the slots of a chunk without nulls
pub full_chunk : {X : Type 0} (value : X → ℤ) (t : PType) (r : ℤ) (v : Validity) (xs part : List X) (k : ℕ) (slot : ℕ → ℤ) (old new : List ℤ) → (v ≡ valid.NonNullable) ⊎ (v ≡ valid.AllValid) → k < chunks_of (length xs) → part ≡ chunk k xs
    → ((i : ℕ) → 1024 * k ≤ i → i < min (1024 * (k + 1)) (length xs) → slot i ≡ minus_reference t r (get_or (items_of v (map value xs)) i None))
    → old ≡ tabulate slot (1024 * k) → new ≡ old ++ map (λ z. wrap t (z -ℤ r)) (map value part) → new ≡ tabulate slot (min (1024 * (k + 1)) (length xs))
full_chunk value t r v xs part k slot old new full h part_is same before added =
    let less : ℤ → ℤ = λ z. wrap t (z -ℤ r) in
    let start = 1024 * k in
    let end = min (1024 * (k + 1)) (length xs) in
    let n = length (map value part) in
    let size : n ≡ end - start = length-map part value ∙ (ap length part_is ∙ (omega (arith, length-take (1024 * (k + 1) - 1024 * k) (drop start xs), length-drop start xs))) in
    let table : tabulate (λ j. less (get_or (map value part) j (pos 0))) n ≡ map less (map value part) = table_of_items less (map value part) n (pos 0) refl in
    tables_join slot (λ j. less (get_or (map value part) j (pos 0))) start end n old new (omega arith) size (λ i above below.
    let place : start + (i - start) ≡ i = omega arith in
    let item : get_or (items_of v (map value xs)) i None ≡ Some (get_or (map value xs) i (pos 0)) = item_of_full v (map value xs) i full (omega (arith, length-map xs value)) in
    let read : get_or (map value part) (i - start) (pos 0) ≡ get_or (map value xs) i (pos 0) = ap (λ xs'. get_or (map value xs') (i - start) (pos 0)) part_is ∙ (chunk_read value xs k (i - start) (omega arith) ∙ ap (λ m. get_or (map value xs) m (pos 0)) place) in
    same i above below ∙ (ap (minus_reference t r) item ∙ ap less (sym read))) before (added ∙ ap (λ ys. old ++ ys) (sym table))

-- ---- all chunks
-- item i less the reference of its chunk
abbrev pub chunk_slot : (read : ℤ → ℤ) (t : PType) → List (Option ℤ) → ℕ → ℤ
chunk_slot read t items i = minus_reference t (reference_of_chunk (chunk_leasts read items) (i / 1024)) (get_or items i None)

pub slots_of_chunks : (read : ℤ → ℤ) (t : PType) (items : List (Option ℤ)) → tabulate (chunk_slot read t items) (length items) ≡ chunked_slots t (chunk_references read items) items
slots_of_chunks read t items =
    same_tables (chunk_slot read t items) (λ i. minus_reference t (get_or (chunk_references read items) (i / 1024) (pos 0)) (get_or items i None)) (length items) (λ i h.
    let reference : get_or (chunk_references read items) (i / 1024) (pos 0) ≡ reference_of_chunk (chunk_leasts read items) (i / 1024) = get_or-table (reference_of_chunk (chunk_leasts read items)) (chunks_of (length items)) (i / 1024) (pos 0) (omega arith) in
    ap (λ r. minus_reference t r (get_or items i None)) (sym reference))

-- ---- one reference
common_at : (references : List ℤ) (r : ℤ) (k : ℕ) → common_reference references ≡ Some r → k < length references → get_or references k (pos 0) ≡ r
common_at [] r k e h = absurd (omega arith)
common_at (first ∷ others) r k e h = elim (cases_Bool (list_all (int_eq first) others)) [
  | inl all ↦
      (let same : first ≡ r = (let some : Some first ≡ Some r = (rw all at e) in cc) in
      at_place first others r k same all h)
  | inr some ↦ absurd (let none : (let n : Option ℤ = None in n) ≡ Some r = (rw some at e) in cc)
]
  where
    at_place : (first : ℤ) (others : List ℤ) (r : ℤ) (k : ℕ) → first ≡ r → list_all (int_eq first) others ≡ true → k < length (first ∷ others) → get_or (first ∷ others) k (pos 0) ≡ r
    at_place first others r zero same all h = same
    at_place first others r (suc j) same all h = sym ((Decides-int_eq first (get_or others j (pos 0))).0 (all_at (int_eq first) others j (pos 0) all (omega arith))) ∙ same

pub slots_of_one : (t : PType) (references : List ℤ) (r : ℤ) (items : List (Option ℤ)) → chunks_of (length items) ≤ length references → common_reference references ≡ Some r → chunked_slots t references items ≡ map (minus_reference t r) items
slots_of_one t references r items enough common =
    same_tables (λ i. minus_reference t (get_or references (i / 1024) (pos 0)) (get_or items i None)) (λ i. minus_reference t r (get_or items i None)) (length items) (λ i h. ap (λ s. minus_reference t s (get_or items i None)) (common_at references r (i / 1024) common (omega arith)))
    ∙ table_of_items (minus_reference t r) items (length items) None refl

-- ---- the parts
pub slots_long : {X : Type 0} (value : X → ℤ) (t : PType) (references : List ℤ) (items : List (Option ℤ)) (new : List X) → map value new ≡ chunked_slots t references items → length new ≡ length items
slots_long value t references items new made =
    length_of_values value new (chunked_slots t references items) made ∙ length-table (λ i. minus_reference t (get_or references (i / 1024) (pos 0)) (get_or items i None)) (length items)

pub ok_child : (child made : PrimitiveParts) → (let answer : Result PrimitiveParts FastLanesError = Ok made in answer) ≡ Ok child → child ≡ made
ok_child child made e = cc

-- a column whose chunks have one reference
pub made_one : {X : Type 0} (order : ItemOrder) (t : PType) (value : X → ℤ) (p : PrimitiveParts) (v : Validity) (xs : List X) (references slots : List ℤ) (r : ℤ) (child : PrimitiveParts) (whole : OneReference) → p.ptype ≡ t → v ≡ p.validity → map value xs ≡ p.slots
    → references ≡ chunk_references (reading order t) (items_of v (map value xs)) → slots ≡ chunked_slots t (chunk_references (reading order t) (items_of v (map value xs))) (items_of v (map value xs)) → Some r ≡ common_reference references
    → child ≡ under_validity_of p t slots → whole ≡ record { child = child; reference = reference_scalar t r } → less_chunk_leasts order p ≡ Whole whole
made_one order t value p v xs references slots r child whole typed valid same is made common child_is whole_is =
    let items : List (Option ℤ) = items_of v (map value xs) in
    let enough : length references ≡ chunks_of (length items) = ap length is ∙ length-table (reference_of_chunk (chunk_leasts (reading order t) items)) (chunks_of (length items)) in
    let one : slots ≡ map (minus_reference t r) items = made ∙ (rw (← is) (slots_of_one t references r items (omega arith) (sym common))) in
    let all : subtract_reference p r ≡ whole = rw (whole_is, child_is, one, ← typed, valid, same) refl in
    sym (references_of_plain order t value p v xs references (Some r) typed valid same is common) ∙ ap Whole all

-- a column with a reference for each chunk
pub made_each : {X : Type 0} (order : ItemOrder) (t : PType) (value : X → ℤ) (p : PrimitiveParts) (v : Validity) (xs : List X) (references slots : List ℤ) (child others : PrimitiveParts) → p.ptype ≡ t → v ≡ p.validity → map value xs ≡ p.slots
    → references ≡ chunk_references (reading order t) (items_of v (map value xs)) → slots ≡ chunked_slots t (chunk_references (reading order t) (items_of v (map value xs))) (items_of v (map value xs)) → None ≡ common_reference references
    → child ≡ under_validity_of p t slots → others ≡ non_nullable t references → less_chunk_leasts order p ≡ ByChunk child others
made_each order t value p v xs references slots child others typed valid same is made common child_is others_is =
    let all : less_references p references ≡ ByChunk child others = rw (others_is, child_is, made, ← is, ← typed, valid, same) refl in
    sym (references_of_plain order t value p v xs references None typed valid same is common) ∙ all
