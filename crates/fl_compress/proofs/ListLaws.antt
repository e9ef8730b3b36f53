-- The cheapest of each list of schemes, by the cheapest of the lists for its children.
use Rattle.std.proofs.Common.{◌≡◌, ℕ, ◌+◌, ◌-◌, ◌<◌, Bool, true, false, List, [], ◌∷◌, ◌++◌, length, map, Option, Some, None, Ok, Err, refl, ap, sym, ◌∙◌, arith, zero, suc}
use Rattle.std.specs.Prelude.{◌&&◌, Result, flat_map, nat_lt}
use Rattle.std.proofs.lemmas.Bool.Decides.{nat_tests}
use Rattle.std.proofs.lemmas.List.{append-nil, map-append}
use Rattle.fl_types.specs.declared.error.FastLanesError.{FastLanesError}
use Rattle.fl_column.specs.Columns.{ConstantParts, PrimitiveParts, column_of_primitive}
use Rattle.fl_column.specs.Queries.{are_constant}
use Rattle.fl_types.specs.Values.{ScalarParts}
use Rattle.fl_codec.specs.declared.for_.ItemOrder.{ItemOrder}
use Rattle.fl_codec.specs.declared.for_.ItemOrder.TheVariants.{Natural, Signed}
use Rattle.fl_codec.specs.Parts.{ByChunk, FoRParts, Nulls, OneReference, Whole, compress_deltas, encode_chunked_by, encode_global_by}
use Rattle.fl_encode.specs.declared.scheme.Packing.TheVariants.{BestWidth, BestWidths}
use Rattle.fl_encode.specs.Encodings.{runs_by}
use Rattle.fl_encode.specs.Shapes.{BitPacked, Constant, Delta, Dictionary, FoR, FoRChunked, Primitive, RLE, Runs, RunValues, Shape}
use Rattle.fl_serde.specs.ByteCounts.{primitive_bytes, validity_bytes}
use Rattle.fl_compress.specs.declared.limits.Limits.{Limits}
use Rattle.fl_compress.specs.Candidates.{candidates, delta_schemes, framed_schemes, has_level, over_chunk_references, over_deltas, over_frames, over_one_reference, over_runs, packed_schemes, run_schemes, where_allowed}
use Rattle.fl_compress.specs.Cheapest.{both, cheaper, cheapest, combined}
use Rattle.fl_compress.specs.Choices.{or_frames, runs_of, two, with_bytes}
use Rattle.fl_compress.specs.EncodedBytes.{encoded_bytes, over_reference, over_references}
use Rattle.fl_compress.proofs.CheapestLaws.{beside, cheaper_assoc, cheaper_none, cheapest_append, cheapest_beside, cheapest_free, cheapest_map, cheapest_none, cheapest_pairs, cheapest_row, cheapest_rows, cheapest_three, wrapped}

-- ---- allowed lists
pub level : (allowed : Bool) (depth : ℕ) → allowed ≡ true → 0 < depth → has_level allowed depth ≡ true
level allowed depth e h = grind (arith, nat_tests)

pub no_level : (allowed : Bool) → has_level allowed 0 ≡ false
no_level true = refl
no_level false = refl

pub not_allowed : (allowed : Bool) (depth : ℕ) → allowed ≡ false → has_level allowed depth ≡ false
not_allowed allowed depth e = ap (λ b. b && nat_lt 0 depth) e

-- ---- packed
pub packed_list : (limits : Limits) (depth : ℕ) (p : PrimitiveParts) → cheapest (encoded_bytes p) (packed_schemes limits depth)
    ≡ cheaper (cheaper (Some (Primitive, primitive_bytes p)) (cheapest (encoded_bytes p) (where_allowed limits.constant (Constant ∷ [])))) (cheapest (encoded_bytes p) (where_allowed (has_level limits.bitpacked depth) (BitPacked BestWidth ∷ BitPacked BestWidths ∷ [])))
unfolding cheapest encoded_bytes packed_schemes
packed_list limits depth p =
    let constant = where_allowed limits.constant (Constant ∷ []) in
    let packed = where_allowed (has_level limits.bitpacked depth) (BitPacked BestWidth ∷ BitPacked BestWidths ∷ []) in
    ap (cheaper (Some (Primitive, primitive_bytes p))) (cheapest_append (encoded_bytes p) constant packed)
    ∙ sym (cheaper_assoc (Some (Primitive, primitive_bytes p)) (cheapest (encoded_bytes p) constant) (cheapest (encoded_bytes p) packed))

pub no_list : (p : PrimitiveParts) (allowed : Bool) (schemes : List Shape) → allowed ≡ false → cheapest (encoded_bytes p) (where_allowed allowed schemes) ≡ None
unfolding cheapest
no_list p allowed schemes e = ap (λ b. cheapest (encoded_bytes p) (where_allowed b schemes)) e

pub constant_there : (p : PrimitiveParts) (allowed : Bool) → allowed ≡ true → are_constant (column_of_primitive p).items ≡ true → cheapest (encoded_bytes p) (where_allowed allowed (Constant ∷ [])) ≡ Some (Constant, 0)
unfolding cheapest encoded_bytes
constant_there p allowed e h = rw (e, h) refl

pub constant_differs : (p : PrimitiveParts) (allowed : Bool) → are_constant (column_of_primitive p).items ≡ false → cheapest (encoded_bytes p) (where_allowed allowed (Constant ∷ [])) ≡ None
unfolding cheapest encoded_bytes
constant_differs p true h = rw h refl
constant_differs p false h = refl

pub packings_there : (p : PrimitiveParts) (allowed : Bool) → allowed ≡ true → cheapest (encoded_bytes p) (where_allowed allowed (BitPacked BestWidth ∷ BitPacked BestWidths ∷ []))
    ≡ cheaper (with_bytes (BitPacked BestWidth) (encoded_bytes p (BitPacked BestWidth))) (with_bytes (BitPacked BestWidths) (encoded_bytes p (BitPacked BestWidths)))
unfolding cheapest
packings_there p allowed e =
    ap (λ b. cheapest (encoded_bytes p) (where_allowed b (BitPacked BestWidth ∷ BitPacked BestWidths ∷ []))) e
    ∙ ap (cheaper (with_bytes (BitPacked BestWidth) (encoded_bytes p (BitPacked BestWidth)))) (cheaper_none (with_bytes (BitPacked BestWidths) (encoded_bytes p (BitPacked BestWidths))))

-- ---- frames of reference
one_bytes : (order : ItemOrder) (p : PrimitiveParts) (o : Result OneReference FastLanesError) (child : Shape) → encode_global_by order p ≡ o → encoded_bytes p (FoR order child) ≡ over_reference (λ q. encoded_bytes q child) o
unfolding encoded_bytes
one_bytes order p o child e = ap (over_reference (λ q. encoded_bytes q child)) e

pub one_list : (order : ItemOrder) (p : PrimitiveParts) (parts : OneReference) (schemes : List Shape) → encode_global_by order p ≡ Ok parts → cheapest (encoded_bytes p) (over_one_reference order schemes) ≡ wrapped (FoR order) (cheapest (encoded_bytes parts.child) schemes)
one_list order p parts schemes e = cheapest_map (encoded_bytes p) (encoded_bytes parts.child) (FoR order) (λ child. one_bytes order p (Ok parts) child e) schemes

pub no_reference_list : (order : ItemOrder) (p : PrimitiveParts) (refusal : FastLanesError) (schemes : List Shape) → encode_global_by order p ≡ Err refusal → cheapest (encoded_bytes p) (over_one_reference order schemes) ≡ None
no_reference_list order p refusal schemes e = cheapest_none (encoded_bytes p) (FoR order) (λ child. one_bytes order p (Err refusal) child e) schemes

chunk_bytes : (order : ItemOrder) (p : PrimitiveParts) (o : FoRParts) (child others : Shape) → encode_chunked_by order p ≡ o → encoded_bytes p (FoRChunked order child others) ≡ over_references (λ q. encoded_bytes q child) (λ q. encoded_bytes q others) o
unfolding encoded_bytes
chunk_bytes order p o child others e = ap (over_references (λ q. encoded_bytes q child) (λ q. encoded_bytes q others)) e

nothing_more : (o : Option ℕ) → o ≡ both o (Some 0)
nothing_more None = refl
nothing_more (Some n) = let same : n ≡ n + 0 = omega arith in ap (λ m. let o : Option ℕ = Some m in o) same

-- where all of them cost nothing, a plain one is first
free_packed : (limits : Limits) (depth : ℕ) → cheapest (λ s. Some 0) (packed_schemes limits depth) ≡ Some (Primitive, 0)
unfolding packed_schemes
free_packed limits depth = cheapest_free (λ s. Some 0) (λ s. refl) Primitive (where_allowed limits.constant (Constant ∷ []) ++ where_allowed (has_level limits.bitpacked depth) (BitPacked BestWidth ∷ BitPacked BestWidths ∷ []))

pub whole_list : (order : ItemOrder) (p : PrimitiveParts) (parts : OneReference) (limits : Limits) (depth : ℕ) → encode_chunked_by order p ≡ Whole parts
    → cheapest (encoded_bytes p) (over_chunk_references order (packed_schemes limits depth)) ≡ combined (FoRChunked order) (cheapest (encoded_bytes parts.child) (packed_schemes limits depth)) (Some (Primitive, 0))
whole_list order p parts limits depth e =
    let schemes = packed_schemes limits depth in
    cheapest_pairs (encoded_bytes p) (encoded_bytes parts.child) (λ s. Some 0) (FoRChunked order) (λ child others. chunk_bytes order p (Whole parts) child others e ∙ nothing_more (encoded_bytes parts.child child)) schemes schemes
    ∙ ap (combined (FoRChunked order) (cheapest (encoded_bytes parts.child) schemes)) (free_packed limits depth)

pub chunk_list : (order : ItemOrder) (p child others : PrimitiveParts) (schemes : List Shape) → encode_chunked_by order p ≡ ByChunk child others
    → cheapest (encoded_bytes p) (over_chunk_references order schemes) ≡ combined (FoRChunked order) (cheapest (encoded_bytes child) schemes) (cheapest (encoded_bytes others) schemes)
chunk_list order p child others schemes e = cheapest_pairs (encoded_bytes p) (encoded_bytes child) (encoded_bytes others) (FoRChunked order) (λ s r. chunk_bytes order p (ByChunk child others) s r e) schemes schemes

pub nulls_list : (order : ItemOrder) (p : PrimitiveParts) (constant : ConstantParts) (reference : ScalarParts) (limits : Limits) (depth : ℕ) → encode_chunked_by order p ≡ Nulls constant reference
    → cheapest (encoded_bytes p) (over_chunk_references order (packed_schemes limits depth)) ≡ combined (FoRChunked order) (Some (Primitive, 0)) (Some (Primitive, 0))
nulls_list order p constant reference limits depth e =
    let schemes = packed_schemes limits depth in
    cheapest_pairs (encoded_bytes p) (λ s. Some 0) (λ s. Some 0) (FoRChunked order) (λ s r. chunk_bytes order p (Nulls constant reference) s r e) schemes schemes
    ∙ (ap (λ first. combined (FoRChunked order) first (cheapest (λ s. Some 0) schemes)) (free_packed limits depth) ∙ ap (combined (FoRChunked order) (Some (Primitive, 0))) (free_packed limits depth))

pub framed_list : (limits : Limits) (depth : ℕ) (p : PrimitiveParts) → has_level limits.for_ depth ≡ true → cheapest (encoded_bytes p) (framed_schemes limits depth)
    ≡ or_frames Signed p (packed_schemes limits (depth - 1)) (or_frames Natural p (packed_schemes limits (depth - 1)) (cheapest (encoded_bytes p) (packed_schemes limits depth)))
unfolding framed_schemes
framed_list limits depth p e =
    let packed = packed_schemes limits depth in
    let children = packed_schemes limits (depth - 1) in
    let cost = encoded_bytes p in
    let one = cheapest cost (over_one_reference Natural children) in
    let many = cheapest cost (over_chunk_references Natural children) in
    let one_more = cheapest cost (over_one_reference Signed children) in
    let many_more = cheapest cost (over_chunk_references Signed children) in
    ap (λ b. cheapest cost (packed ++ where_allowed b (over_frames children))) e
    ∙ (cheapest_three cost packed (over_one_reference Natural children) (over_chunk_references Natural children ++ (over_one_reference Signed children ++ over_chunk_references Signed children))
    ∙ (ap (cheaper (cheaper (cheapest cost packed) one)) (cheapest_three cost (over_chunk_references Natural children) (over_one_reference Signed children) (over_chunk_references Signed children))
    ∙ five (cheaper (cheapest cost packed) one) many one_more many_more))
  where
    five : {A : Type 0} (a b c d : Option (A × ℕ)) → cheaper a (cheaper (cheaper b c) d) ≡ cheaper (cheaper (cheaper a b) c) d
    five a b c d = sym (cheaper_assoc a (cheaper b c) d) ∙ ap (λ x. cheaper x d) (sym (cheaper_assoc a b c))

pub not_framed_list : (limits : Limits) (depth : ℕ) (p : PrimitiveParts) → has_level limits.for_ depth ≡ false → cheapest (encoded_bytes p) (framed_schemes limits depth) ≡ cheapest (encoded_bytes p) (packed_schemes limits depth)
unfolding framed_schemes
not_framed_list limits depth p e =
    ap (λ b. cheapest (encoded_bytes p) (packed_schemes limits depth ++ where_allowed b (over_frames (packed_schemes limits (depth - 1))))) e ∙ ap (cheapest (encoded_bytes p)) (append-nil (packed_schemes limits depth))

-- ---- deltas
delta_bytes : (p : PrimitiveParts) (bases deltas : Shape) → encoded_bytes p (Delta bases deltas) ≡ both (encoded_bytes (compress_deltas p).0 bases) (both (encoded_bytes (compress_deltas p).1 deltas) (Some (validity_bytes (length p.slots) p.validity)))
unfolding encoded_bytes
delta_bytes p bases deltas = refl

pub deltas_list : (p : PrimitiveParts) (bases deltas : List Shape) → cheapest (encoded_bytes p) (over_deltas bases deltas)
    ≡ combined Delta (cheapest (encoded_bytes (compress_deltas p).0) bases) (beside (validity_bytes (length p.slots) p.validity) (cheapest (encoded_bytes (compress_deltas p).1) deltas))
deltas_list p bases deltas =
    let own = validity_bytes (length p.slots) p.validity in
    cheapest_pairs (encoded_bytes p) (encoded_bytes (compress_deltas p).0) (λ d. both (encoded_bytes (compress_deltas p).1 d) (Some own)) Delta (delta_bytes p) bases deltas
    ∙ ap (combined Delta (cheapest (encoded_bytes (compress_deltas p).0) bases)) (cheapest_beside (encoded_bytes (compress_deltas p).1) own deltas)

pub delta_list : (nested : ℕ) (limits : Limits) (depth : ℕ) (p : PrimitiveParts) → 0 < nested → has_level limits.delta depth ≡ true → cheapest (encoded_bytes p) (delta_schemes nested limits depth)
    ≡ cheaper (cheapest (encoded_bytes p) (framed_schemes limits depth)) (cheapest (encoded_bytes p) (over_deltas (delta_schemes (nested - 1) limits (depth - 1)) (framed_schemes limits (depth - 1))))
unfolding delta_schemes
delta_list zero limits depth p some e = absurd (omega arith)
delta_list (suc nested) limits depth p some e =
    let deltas : ℕ → List Shape = λ n. over_deltas (delta_schemes n limits (depth - 1)) (framed_schemes limits (depth - 1)) in
    let one_less : nested ≡ suc nested - 1 = omega arith in
    ap (λ b. cheapest (encoded_bytes p) (framed_schemes limits depth ++ where_allowed b (deltas nested))) e
    ∙ (cheapest_append (encoded_bytes p) (framed_schemes limits depth) (deltas nested) ∙ ap (λ n. cheaper (cheapest (encoded_bytes p) (framed_schemes limits depth)) (cheapest (encoded_bytes p) (deltas n))) one_less)

pub no_delta_list : (nested : ℕ) (limits : Limits) (depth : ℕ) (p : PrimitiveParts) → has_level limits.delta depth ≡ false → cheapest (encoded_bytes p) (delta_schemes nested limits depth) ≡ cheapest (encoded_bytes p) (framed_schemes limits depth)
unfolding delta_schemes
no_delta_list zero limits depth p e = refl
no_delta_list (suc nested) limits depth p e =
    let deltas = over_deltas (delta_schemes nested limits (depth - 1)) (framed_schemes limits (depth - 1)) in
    ap (λ b. cheapest (encoded_bytes p) (framed_schemes limits depth ++ where_allowed b deltas)) e ∙ ap (cheapest (encoded_bytes p)) (append-nil (framed_schemes limits depth))

-- ---- runs
made_of_pairs : (which : RunValues) (values : Shape) (indices offsets : List Shape) → flat_map (λ i. map (RLE which values i) offsets) indices ≡ map (runs_of which values) (flat_map (λ i. map (two i) offsets) indices)
made_of_pairs which values [] offsets = refl
made_of_pairs which values (i ∷ indices) offsets =
    ap (λ rest. map (RLE which values i) offsets ++ rest) (made_of_pairs which values indices offsets)
    ∙ (ap (λ first. first ++ map (runs_of which values) (flat_map (λ j. map (two j) offsets) indices)) (each values i offsets)
    ∙ sym (map-append (runs_of which values) (map (two i) offsets) (flat_map (λ j. map (two j) offsets) indices)))
  where
    each : (v i : Shape) (ss : List Shape) → map (RLE which v i) ss ≡ map (runs_of which v) (map (two i) ss)
    each v i [] = refl
    each v i (s ∷ ss) = ap (λ rest. RLE which v i s ∷ rest) (each v i ss)

run_bytes : (which : RunValues) (p : PrimitiveParts) (values : Shape) (others : Shape × Shape) → encoded_bytes p (runs_of which values others)
    ≡ both (encoded_bytes (runs_by which p).values values) (both (encoded_bytes (runs_by which p).indices others.0) (encoded_bytes (runs_by which p).offsets others.1))
unfolding encoded_bytes
run_bytes which p values others = refl

pub runs_list : (which : RunValues) (p : PrimitiveParts) (values indices offsets : List Shape) → cheapest (encoded_bytes p) (over_runs which values indices offsets)
    ≡ combined (runs_of which) (cheapest (encoded_bytes (runs_by which p).values) values) (combined two (cheapest (encoded_bytes (runs_by which p).indices) indices) (cheapest (encoded_bytes (runs_by which p).offsets) offsets))
runs_list which p values indices offsets =
    let runs = runs_by which p in
    let each_other : Shape × Shape → Option ℕ = λ s. both (encoded_bytes runs.indices s.0) (encoded_bytes runs.offsets s.1) in
    let beside_values = combined two (cheapest (encoded_bytes runs.indices) indices) (cheapest (encoded_bytes runs.offsets) offsets) in
    let two_by_two : cheapest each_other (flat_map (λ i. map (two i) offsets) indices) ≡ beside_values = cheapest_pairs each_other (encoded_bytes runs.indices) (encoded_bytes runs.offsets) two (λ i o. refl) indices offsets in
    cheapest_rows (encoded_bytes p) (encoded_bytes runs.values) (runs_of which) beside_values (λ v. flat_map (λ i. map (RLE which v i) offsets) indices)
    (λ v. ap (cheapest (encoded_bytes p)) (made_of_pairs which v indices offsets)
    ∙ (cheapest_row (encoded_bytes p) (encoded_bytes runs.values v) each_other (runs_of which) v (run_bytes which p v) (flat_map (λ i. map (two i) offsets) indices)
    ∙ ap (combined (runs_of which) (with_bytes v (encoded_bytes runs.values v))) two_by_two))
    values

pub run_list : (which : RunValues) (allowed : Bool) (limits : Limits) (depth : ℕ) (p : PrimitiveParts) → has_level allowed depth ≡ true → cheapest (encoded_bytes p) (run_schemes which allowed limits depth)
    ≡ cheapest (encoded_bytes p) (over_runs which (delta_schemes 2 limits (depth - 1)) (delta_schemes 2 limits (depth - 1)) (framed_schemes limits (depth - 1)))
unfolding run_schemes
run_list which allowed limits depth p e =
    ap (λ b. cheapest (encoded_bytes p) (where_allowed b (over_runs which (delta_schemes 2 limits (depth - 1)) (delta_schemes 2 limits (depth - 1)) (framed_schemes limits (depth - 1))))) e

pub no_run_list : (which : RunValues) (allowed : Bool) (limits : Limits) (depth : ℕ) (p : PrimitiveParts) → has_level allowed depth ≡ false → cheapest (encoded_bytes p) (run_schemes which allowed limits depth) ≡ None
unfolding run_schemes
no_run_list which allowed limits depth p e = no_list p (has_level allowed depth) (over_runs which (delta_schemes 2 limits (depth - 1)) (delta_schemes 2 limits (depth - 1)) (framed_schemes limits (depth - 1))) e

pub candidate_list : (limits : Limits) (p : PrimitiveParts) → cheapest (encoded_bytes p) (candidates limits)
    ≡ cheaper (cheaper (cheapest (encoded_bytes p) (delta_schemes 2 limits limits.depth)) (cheapest (encoded_bytes p) (run_schemes Runs limits.rle limits limits.depth))) (cheapest (encoded_bytes p) (run_schemes Dictionary limits.dict limits limits.depth))
unfolding candidates
candidate_list limits p = cheapest_three (encoded_bytes p) (delta_schemes 2 limits limits.depth) (run_schemes Runs limits.rle limits limits.depth) (run_schemes Dictionary limits.dict limits limits.depth)
