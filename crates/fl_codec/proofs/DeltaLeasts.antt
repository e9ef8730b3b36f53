-- The least deltas, chunk by chunk.
use Rattle.std.proofs.Common.{◌≡◌, ℕ, ℤ, pos, ◌+◌, ◌-◌, ◌*◌, ◌/◌, ◌%◌, ◌<◌, ◌+ℤ◌, Bool, true, false, List, [], ◌∷◌, ◌++◌, length, map, take, drop, get_or, Option, Some, None, option_map, unwrap_or, refl, ap, sym, subst, ◌∙◌, arith}
use Rattle.std.specs.List.{list_all}
use Rattle.std.proofs.Math.Seq.{take-add}
use Rattle.std.proofs.lemmas.Int.{ints}
use Rattle.std.proofs.lemmas.List.{length-drop, length-map, length-take, map-append, take_all}
use Rattle.std.specs.Prelude.{if◌then◌else◌}
use Rattle.std.proofs.lemmas.List.Elements.{filter_map-append}
use Rattle.std.proofs.lemmas.Bool.Decides.{Decides-int_eq}
use Rattle.fl_types.specs.declared.dtype.PType.{PType}
use Rattle.fl_types.specs.declared.validity.Validity.TheVariants as valid
use Rattle.fl_types.specs.Bits.{between, tabulate}
use Rattle.fl_types.specs.Integers.{fits, wrap}
use Rattle.fl_types.proofs.BitLists.{same_tables}
use Rattle.fl_column.specs.Columns.{PrimitiveParts}
use Rattle.fl_column.proofs.ListLaws.{all_from}
use Rattle.fl_codec.specs.Chunks.{chunk, chunks_of}
use Rattle.fl_codec.specs.Deltas.{delta_of}
use Rattle.fl_codec.specs.ForwardFill.{Carry, either, fill_forward, first_some, last_some}
use Rattle.fl_codec.specs.FoRColumns.{chunk_leasts, chunk_references, least_by, least_valid, min_valid, origin_of, reading, reference_of_chunk, turned, valid_items}
use Rattle.fl_codec.specs.declared.for_.ItemOrder.{ItemOrder}
use Rattle.fl_codec.specs.Parts.{compress_deltas, items_of_primitive}
use Rattle.fl_codec.proofs.DeltaRoundTrips.{zero_fits}
use Rattle.fl_codec.proofs.FoRLaws.{IsLeast, find-least}
use Rattle.fl_codec.proofs.FoRRoundTrips.{wrap-wrap_left}
use Rattle.fl_codec.proofs.OrderLaws.{least_of_order}
use Rattle.fl_codec.proofs.ReferenceLaws.{last_more, table_more}
use Rattle.fl_codec.proofs.JoinedLeasts.{leasts_joined}
use Rattle.fl_codec.proofs.Tables.{get_or-table, length-table, map-between}
use Rattle.fl_codec.proofs.WithNulls.{least_is}
use Rattle.fl_codec.proofs.WithoutNulls.{all_turned, all_valid}

-- ---- deltas
-- the deltas of an array, none of which is null
abbrev deltas_of : PrimitiveParts → List (Option ℤ)
deltas_of p = items_of_primitive (compress_deltas p).1

pub length-deltas : (p : PrimitiveParts) → length (compress_deltas p).1.slots ≡ 1024 * chunks_of (length (items_of_primitive p))
length-deltas p = length-table (λ k. delta_of p.ptype (fill_forward Carry (items_of_primitive p)) (k / 1024) (k % 1024)) (1024 * chunks_of (length (items_of_primitive p)))

wrapped_fits : (t : PType) (z : ℤ) → fits t (wrap t z) ≡ true
wrapped_fits t z =
    let none : (y : ℤ) → y +ℤ pos 0 ≡ y = λ y. omega (arith, ints) in
    (Decides-int_eq (wrap t (wrap t z)) (wrap t z)).1 (ap (wrap t) (sym (none (wrap t z))) ∙ (wrap-wrap_left t z (pos 0) ∙ ap (wrap t) (none z)))

delta_fits : (t : PType) (item : ℕ → ℤ) (j q : ℕ) → fits t (delta_of t item j q) ≡ true
unfolding delta_of
delta_fits t item j q = by_row _ _
  where
    by_row : (first : Bool) (z : ℤ) → fits t (if first then pos 0 else wrap t z) ≡ true
    by_row true z = zero_fits t
    by_row false z = wrapped_fits t z

-- they are integers of the type
pub deltas_fit : (p : PrimitiveParts) → list_all (fits p.ptype) (compress_deltas p).1.slots ≡ true
deltas_fit p =
    let entry : ℕ → ℤ = λ k. delta_of p.ptype (fill_forward Carry (items_of_primitive p)) (k / 1024) (k % 1024) in
    let n = 1024 * chunks_of (length (items_of_primitive p)) in
    all_from (fits p.ptype) (compress_deltas p).1.slots (pos 0)
    (λ i h. ap (fits p.ptype) (get_or-table entry n i (pos 0) (rw (length-table entry n) at h)) ∙ delta_fits p.ptype (fill_forward Carry (items_of_primitive p)) (i / 1024) (i % 1024))

-- a chunk of them, as it was written
pub written_chunk : {X : Type 0} (p : PrimitiveParts) (k : ℕ) (value : X → ℤ) (xs : List X) → map value xs ≡ chunk k (compress_deltas p).1.slots → all_valid (map value xs) ≡ chunk k (deltas_of p)
written_chunk p k value xs e = ap all_valid e ∙ map-between (λ z. Some z) (compress_deltas p).1.slots (1024 * k) (1024 * (k + 1))

-- the same, each less an origin
turned_chunk : {X : Type 0} (p : PrimitiveParts) (k : ℕ) (value : X → ℤ) (f : ℤ → ℤ) (xs : List X) → map value xs ≡ chunk k (compress_deltas p).1.slots → all_valid (map (λ x. f (value x)) xs) ≡ map (option_map f) (chunk k (deltas_of p))
turned_chunk p k value f xs e = all_turned value f xs ∙ ap (map (option_map f)) (written_chunk p k value xs e)

-- the least before a chunk and that of the chunk
pub least_after : {X : Type 0} (p : PrimitiveParts) (k : ℕ) (value : X → ℤ) (f : ℤ → ℤ) (xs : List X) (before after : Option ℤ) → map value xs ≡ chunk k (compress_deltas p).1.slots
    → IsLeast before (valid_items (map (option_map f) (between 0 (1024 * k) (deltas_of p)))) → after ≡ min_valid before (least_valid (all_valid (map (λ x. f (value x)) xs)))
    → IsLeast after (valid_items (map (option_map f) (between 0 (1024 * (k + 1)) (deltas_of p))))
least_after p k value f xs before after e so is =
    let items = deltas_of p in
    let here = turned_chunk p k value f xs e in
    let zs = valid_items (map (option_map f) (chunk k items)) in
    let next : IsLeast (min_valid before (least_valid (map (option_map f) (chunk k items)))) (valid_items (map (option_map f) (between 0 (1024 * k) items)) ++ zs) = leasts_joined before (least_valid (map (option_map f) (chunk k items))) (valid_items (map (option_map f) (between 0 (1024 * k) items))) zs so (least_is zs) in
    let size : 1024 * (k + 1) ≡ 1024 * k + (1024 * (k + 1) - 1024 * k) = omega arith in
    let none : 1024 * k - 0 ≡ 1024 * k = omega arith in
    let all : 1024 * (k + 1) - 0 ≡ 1024 * (k + 1) = omega arith in
    let parts : between 0 (1024 * (k + 1)) items ≡ between 0 (1024 * k) items ++ chunk k items = ap (λ n. take n items) (all ∙ size) ∙ (take-add (1024 * k) (1024 * (k + 1) - 1024 * k) items ∙ ap (λ n. take n items ++ chunk k items) (sym none)) in
    let whole : valid_items (map (option_map f) (between 0 (1024 * (k + 1)) items)) ≡ valid_items (map (option_map f) (between 0 (1024 * k) items)) ++ zs =
    ap (λ ys. valid_items (map (option_map f) ys)) parts ∙ (ap valid_items (map-append (option_map f) (between 0 (1024 * k) items) (chunk k items)) ∙ filter_map-append (λ (item : Option ℤ). item) (map (option_map f) (between 0 (1024 * k) items)) (map (option_map f) (chunk k items))) in
    subst (λ ys. IsLeast after ys) (sym whole) (subst (λ b. IsLeast b (valid_items (map (option_map f) (between 0 (1024 * k) items)) ++ zs)) (sym (is ∙ ap (λ ys. min_valid before (least_valid ys)) here)) next)

-- ---- the least of a chunk
valid_mapped : (f : ℤ → ℤ) (ys : List ℤ) → valid_items (map (option_map f) (all_valid ys)) ≡ map f ys
valid_mapped f [] = refl
valid_mapped f (y ∷ ys) = ap (λ zs. f y ∷ zs) (valid_mapped f ys)

some_least : (best : Option ℤ) (zs : List ℤ) → IsLeast best zs → 0 < length zs → (m : ℤ) × (best ≡ Some m)
some_least None zs e h = absurd (let none : length zs ≡ 0 = ap length e in omega arith)
some_least (Some m) zs e h = (m, refl)

-- as it is found in what is turned
pub chunk_least : (order : ItemOrder) (p : PrimitiveParts) (k : ℕ) (found : Option ℤ) → found ≡ least_valid (map (option_map (turned p.ptype (origin_of order p.ptype))) (chunk k (deltas_of p)))
    → option_map (turned p.ptype (origin_of order p.ptype)) found ≡ least_by (reading order p.ptype) (chunk k (deltas_of p))
chunk_least order p k found is = least_of_order order p.ptype valid.NonNullable (compress_deltas p).1.slots (1024 * k) (1024 * (k + 1)) found (deltas_fit p) is

length-chunk : (p : PrimitiveParts) (k : ℕ) → k < chunks_of (length (items_of_primitive p)) → length (chunk k (compress_deltas p).1.slots) ≡ 1024
length-chunk p k h = omega (arith, length-deltas p, length-take (1024 * (k + 1) - 1024 * k) (drop (1024 * k) (compress_deltas p).1.slots), length-drop (1024 * k) (compress_deltas p).1.slots)

there_is_a_least : (order : ItemOrder) (p : PrimitiveParts) (k : ℕ) → k < chunks_of (length (items_of_primitive p)) → (m : ℤ) × (least_by (reading order p.ptype) (chunk k (deltas_of p)) ≡ Some m)
there_is_a_least order p k h =
    let f : ℤ → ℤ = turned p.ptype (origin_of order p.ptype) in
    let ys = chunk k (compress_deltas p).1.slots in
    let items : all_valid ys ≡ chunk k (deltas_of p) = map-between (λ z. Some z) (compress_deltas p).1.slots (1024 * k) (1024 * (k + 1)) in
    let zs = valid_items (map (option_map f) (chunk k (deltas_of p))) in
    let long : length zs ≡ 1024 = ap (λ xs. length (valid_items (map (option_map f) xs))) (sym items) ∙ (ap length (valid_mapped f ys) ∙ (length-map ys f ∙ length-chunk p k h)) in
    let best = some_least (least_valid (map (option_map f) (chunk k (deltas_of p)))) zs (least_is zs) (omega arith) in
    (f best.0, sym (chunk_least order p k (least_valid (map (option_map f) (chunk k (deltas_of p)))) refl) ∙ ap (option_map f) best.1)

-- ---- the references
-- the least delta of a chunk
abbrev pub chunk_reference : ItemOrder → PrimitiveParts → ℕ → ℤ
chunk_reference order p k = unwrap_or (least_by (reading order p.ptype) (chunk k (deltas_of p))) (pos 0)

-- one more
pub reference_after : {X : Type 0} (order : ItemOrder) (p : PrimitiveParts) (t : PType) (origin : ℤ) (k : ℕ) (value : X → ℤ) (xs : List X) (before after : List ℤ) → p.ptype ≡ t → origin ≡ origin_of order t → map value xs ≡ chunk k (compress_deltas p).1.slots
    → before ≡ tabulate (chunk_reference order p) k → after ≡ before ++ unwrap_or (option_map (turned t origin) (least_valid (all_valid (map (λ x. turned t origin (value x)) xs)))) (pos 0) ∷ [] → after ≡ tabulate (chunk_reference order p) (k + 1)
reference_after order p t origin k value xs before after typed turn e so is =
    let f : ℤ → ℤ = turned t origin in
    let same : turned p.ptype (origin_of order p.ptype) ≡ f = rw (typed, turn) refl in
    let found = least_valid (all_valid (map (λ x. f (value x)) xs)) in
    let is_least : option_map f found ≡ least_by (reading order p.ptype) (chunk k (deltas_of p)) =
    ap (λ h. option_map h found) (sym same) ∙ chunk_least order p k found (ap least_valid (turned_chunk p k value f xs e) ∙ ap (λ h. least_valid (map (option_map h) (chunk k (deltas_of p)))) (sym same)) in
    let here : unwrap_or (option_map f found) (pos 0) ≡ chunk_reference order p k = ap (λ o. unwrap_or o (pos 0)) is_least in
    is ∙ (ap (λ ys. ys ++ unwrap_or (option_map f found) (pos 0) ∷ []) so ∙ (ap (λ z. tabulate (chunk_reference order p) k ++ z ∷ []) here ∙ sym (table_more (chunk_reference order p) k)))

length-items : (p : PrimitiveParts) → length (deltas_of p) ≡ 1024 * chunks_of (length (items_of_primitive p))
length-items p = length-map (compress_deltas p).1.slots (λ z. Some z) ∙ length-deltas p

reference_is : (order : ItemOrder) (p : PrimitiveParts) (k : ℕ) → k < chunks_of (length (items_of_primitive p)) → chunk_reference order p k ≡ reference_of_chunk (chunk_leasts (reading order p.ptype) (deltas_of p)) k
reference_is order p k h =
    let read = reading order p.ptype in
    let leasts = chunk_leasts read (deltas_of p) in
    let many : chunks_of (length (deltas_of p)) ≡ chunks_of (length (items_of_primitive p)) = omega (arith, length-items p) in
    let one = there_is_a_least order p k h in
    let entry : get_or leasts k None ≡ Some one.0 = get_or-table (λ j. least_by read (chunk j (deltas_of p))) (chunks_of (length (deltas_of p))) k None (omega arith) ∙ one.1 in
    let long : length leasts ≡ chunks_of (length (deltas_of p)) = length-table (λ j. least_by read (chunk j (deltas_of p))) (chunks_of (length (deltas_of p))) in
    let last = last_more leasts k (omega arith) in
    ap (λ o. unwrap_or o (pos 0)) one.1 ∙ sym (ap (λ o. unwrap_or o (unwrap_or (first_some leasts) (pos 0))) (last ∙ ap (λ o. either o (last_some (take k leasts))) entry))

-- all of them
pub references_are : (order : ItemOrder) (p : PrimitiveParts) (k : ℕ) (made : List ℤ) → k ≡ chunks_of (length (items_of_primitive p)) → made ≡ tabulate (chunk_reference order p) k → made ≡ chunk_references (reading order p.ptype) (deltas_of p)
references_are order p k made all is =
    let many : k ≡ chunks_of (length (deltas_of p)) = omega (arith, length-items p) in
    is ∙ (same_tables (chunk_reference order p) (reference_of_chunk (chunk_leasts (reading order p.ptype) (deltas_of p))) k (λ j h. reference_is order p j (omega arith)) ∙ ap (tabulate (reference_of_chunk (chunk_leasts (reading order p.ptype) (deltas_of p)))) many)

-- the least of all
pub least_is_of_all : (order : ItemOrder) (p : PrimitiveParts) (t : PType) (origin : ℤ) (k : ℕ) (found : Option ℤ) → p.ptype ≡ t → origin ≡ origin_of order t → k ≡ chunks_of (length (items_of_primitive p)) → IsLeast found (valid_items (map (option_map (turned t origin)) (between 0 (1024 * k) (deltas_of p))))
    → option_map (turned t origin) found ≡ least_by (reading order p.ptype) (deltas_of p)
least_is_of_all order p t origin k found typed turn all least =
    let f : ℤ → ℤ = turned t origin in
    let same : turned p.ptype (origin_of order p.ptype) ≡ f = rw (typed, turn) refl in
    let items = deltas_of p in
    let none : 1024 * k - 0 ≡ 1024 * k = omega arith in
    let whole : between 0 (1024 * k) items ≡ items = rw none (take_all (1024 * k) items (omega (arith, length-items p))) in
    let is : found ≡ least_valid (map (option_map f) (between 0 (1024 * k) items)) = sym (find-least found (valid_items (map (option_map f) (between 0 (1024 * k) items))) least) in
    ap (λ h. option_map h found) (sym same)
    ∙ (least_of_order order p.ptype valid.NonNullable (compress_deltas p).1.slots 0 (1024 * k) found (deltas_fit p) (is ∙ ap (λ h. least_valid (map (option_map h) (between 0 (1024 * k) items))) (sym same)) ∙ ap (least_by (reading order p.ptype)) whole)
