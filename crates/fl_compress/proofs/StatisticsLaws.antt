-- What an array's statistics say of each candidate.
use Rattle.std.proofs.Common.{◌≡◌, ℕ, ◌-◌, ◌^◌, ◌&&◌, Bool, true, false, length, min, Option, Some, None, Ok, Err, IsTrue, refl, ap, sym, ◌∙◌}
use Rattle.std.specs.Prelude.{Result, if◌then◌else◌}
use Rattle.fl_types.specs.declared.error.FastLanesError.{FastLanesError}
use Rattle.fl_types.specs.declared.error.FastLanesError.TheVariants.{CastOutOfRange}
use Rattle.fl_types.specs.declared.validity.Validity.{Validity}
use Rattle.fl_column.specs.Columns.{PrimitiveParts, column_of_primitive}
use Rattle.fl_column.specs.Queries.{are_constant}
use Rattle.fl_array.specs.Trees.{Tree}
use Rattle.fl_codec.specs.declared.for_.ItemOrder.TheVariants.{Natural, Signed}
use Rattle.fl_codec.specs.Dictionaries.{encode_dictionaries}
use Rattle.fl_codec.specs.Parts.{ByChunk, FoRParts, Nulls, OneReference, RunParts, Whole, compress_deltas, encode_chunked_by, encode_global_by, encode_runs}
use Rattle.fl_encode.specs.declared.scheme.Packing.TheVariants.{BestWidth, BestWidths, Width}
use Rattle.fl_encode.specs.Encodings.{IsEncodedAs, encode_refusal}
use Rattle.fl_encode.specs.Shapes.{BitPacked, Constant, Delta, Dictionary, FoR, FoRChunked, Plain, Primitive, RLE, Runs, Shape}
use Rattle.fl_serde.specs.ByteCounts.{primitive_bytes, tree_bytes, validity_bytes}
use Rattle.fl_compress.specs.declared.statistics.BaseSizes.{BaseSizes}
use Rattle.fl_compress.specs.declared.statistics.DeltaSizes.{DeltaSizes}
use Rattle.fl_compress.specs.declared.statistics.FramedSizes.{FramedSizes}
use Rattle.fl_compress.specs.declared.statistics.RunSizes.{RunSizes}
use Rattle.fl_compress.specs.declared.statistics.Statistics.{Statistics}
use Rattle.fl_compress.specs.Cheapest.{both}
use Rattle.fl_compress.specs.EncodedBytes.{encoded_bytes, over_reference, over_references, unless}
use Rattle.fl_compress.specs.Statistics.{base_size, base_sizes, capped, chunk_size, chunk_sizes, delta_size, delta_sizes, framed_size, framed_sizes, is_base, is_candidate, is_delta, is_framed, is_packed, packed_size, packed_sizes, reference_size, reference_sizes, run_size, run_sizes, size_in, statistics_of}
use Rattle.fl_compress.proofs.AnswerLaws.{Gives, gives}
use Rattle.fl_compress.proofs.MadeBytes.{free_of_refusal, made_bytes}

-- ---- what is computed
pub packed_sizes_are : (p : PrimitiveParts) (plain : ℕ) (same : Bool) (one each : Option ℕ) → plain ≡ primitive_bytes p → same ≡ are_constant (column_of_primitive p).items → one ≡ encoded_bytes p (BitPacked BestWidth) → each ≡ encoded_bytes p (BitPacked BestWidths)
    → record { plain = plain; is_constant = same; best_width = one; best_widths = each } ≡ packed_sizes p
packed_sizes_are p plain same one each e f g h = rw (e, f, g, h) refl

pub base_sizes_are : (p bases : PrimitiveParts) (framed b d : FramedSizes) (v : Validity) (own len : ℕ) → framed_sizes p ≡ framed → (compress_deltas p).0 ≡ bases → framed_sizes bases ≡ b → framed_sizes (compress_deltas p).1 ≡ d → own ≡ validity_bytes len v → len ≡ length p.slots → v ≡ p.validity
    → Gives (base_sizes p) (record { framed = framed; bases = b; deltas = d; validity = own })
base_sizes_are p bases framed b d v own len e f g h o l w =
    let all : FramedSizes → FramedSizes → FramedSizes → ℕ → BaseSizes = λ first second third n. record { framed = first; bases = second; deltas = third; validity = n } in
    let bytes : own ≡ validity_bytes (length p.slots) p.validity = o ∙ (ap (λ n. validity_bytes n v) l ∙ ap (validity_bytes (length p.slots)) w) in
    gives _ _ (ap (λ x. all x (framed_sizes (compress_deltas p).0) (framed_sizes (compress_deltas p).1) (validity_bytes (length p.slots) p.validity)) e
    ∙ (ap (λ x. all framed (framed_sizes x) (framed_sizes (compress_deltas p).1) (validity_bytes (length p.slots) p.validity)) f
    ∙ (ap (λ x. all framed x (framed_sizes (compress_deltas p).1) (validity_bytes (length p.slots) p.validity)) g
    ∙ (ap (λ x. all framed b x (validity_bytes (length p.slots) p.validity)) h ∙ ap (all framed b d) (sym bytes)))))

pub delta_sizes_are : (p bases : PrimitiveParts) (framed d : FramedSizes) (b : BaseSizes) (v : Validity) (own len : ℕ) → framed_sizes p ≡ framed → (compress_deltas p).0 ≡ bases → base_sizes bases ≡ b → framed_sizes (compress_deltas p).1 ≡ d → own ≡ validity_bytes len v → len ≡ length p.slots → v ≡ p.validity
    → Gives (delta_sizes p) (record { framed = framed; bases = b; deltas = d; validity = own })
delta_sizes_are p bases framed d b v own len e f g h o l w =
    let all : FramedSizes → BaseSizes → FramedSizes → ℕ → DeltaSizes = λ first second third n. record { framed = first; bases = second; deltas = third; validity = n } in
    let bytes : own ≡ validity_bytes (length p.slots) p.validity = o ∙ (ap (λ n. validity_bytes n v) l ∙ ap (validity_bytes (length p.slots)) w) in
    gives _ _ (ap (λ x. all x (base_sizes (compress_deltas p).0) (framed_sizes (compress_deltas p).1) (validity_bytes (length p.slots) p.validity)) e
    ∙ (ap (λ x. all framed (base_sizes x) (framed_sizes (compress_deltas p).1) (validity_bytes (length p.slots) p.validity)) f
    ∙ (ap (λ x. all framed x (framed_sizes (compress_deltas p).1) (validity_bytes (length p.slots) p.validity)) g
    ∙ (ap (λ x. all framed b x (validity_bytes (length p.slots) p.validity)) h ∙ ap (all framed b d) (sym bytes)))))

pub run_sizes_are : (runs : RunParts) (values indices : DeltaSizes) (offsets : FramedSizes) → delta_sizes runs.values ≡ values → delta_sizes runs.indices ≡ indices → framed_sizes runs.offsets ≡ offsets
    → Gives (run_sizes runs) (record { values = values; indices = indices; offsets = offsets })
run_sizes_are runs values indices offsets e f g =
    let all : DeltaSizes → DeltaSizes → FramedSizes → RunSizes = λ first second last. record { values = first; indices = second; offsets = last } in
    gives _ _ (ap (λ x. all x (delta_sizes runs.indices) (framed_sizes runs.offsets)) e ∙ (ap (λ x. all values x (framed_sizes runs.offsets)) f ∙ ap (all values indices) g))

pub statistics_are : (p : PrimitiveParts) (items : DeltaSizes) (runs dictionaries : RunParts) (r d : RunSizes) → delta_sizes p ≡ items → encode_runs p ≡ runs → run_sizes runs ≡ r → encode_dictionaries p ≡ dictionaries → run_sizes dictionaries ≡ d
    → Gives (statistics_of p) (record { items = items; runs = r; dictionaries = d })
unfolding statistics_of
statistics_are p items runs dictionaries r d e f g h k =
    let all : DeltaSizes → RunSizes → RunSizes → Statistics = λ first second last. record { items = first; runs = second; dictionaries = last } in
    gives _ _ (ap (λ x. all x (run_sizes (encode_runs p)) (run_sizes (encode_dictionaries p))) e
    ∙ (ap (λ (x : RunParts). all items (run_sizes x) (run_sizes (encode_dictionaries p))) f ∙ (ap (λ x. all items x (run_sizes (encode_dictionaries p))) g
    ∙ (ap (λ (x : RunParts). all items r (run_sizes x)) h ∙ ap (all items r) k))))

-- ---- what is foreseen
first_of : (a b : Bool) → (a && b) ≡ true → a ≡ true
first_of true b e = refl
first_of false b e = cc

other_of : (a b : Bool) → (a && b) ≡ true → b ≡ true
other_of true b e = e
other_of false b e = cc

constant_size : (same : Bool) → (if same then Some 0 else (let o : Option ℕ = None in o)) ≡ unless (if same then None else Some CastOutOfRange) 0
constant_size true = refl
constant_size false = refl

packed_exact : (p : PrimitiveParts) (s : Shape) → is_packed s ≡ true → packed_size (packed_sizes p) s ≡ encoded_bytes p s
unfolding encoded_bytes
packed_exact p Plain e = refl
packed_exact p Primitive e = refl
packed_exact p Constant e = constant_size (are_constant (column_of_primitive p).items)
packed_exact p (BitPacked BestWidth) e = refl
packed_exact p (BitPacked (Width width)) e = cc
packed_exact p (BitPacked BestWidths) e = refl
packed_exact p (FoR order encoded) e = cc
packed_exact p (FoRChunked order encoded references) e = cc
packed_exact p (Delta bases deltas) e = cc
packed_exact p (RLE run_values values indices offsets) e = cc

reference_exact : (o : Result OneReference FastLanesError) (s : Shape) → is_packed s ≡ true → reference_size (reference_sizes o) s ≡ over_reference (λ q. encoded_bytes q s) o
reference_exact (Ok parts) s e = packed_exact parts.child s e
reference_exact (Err refusal) s e = refl

both_same : (a b c d : Option ℕ) → a ≡ b → c ≡ d → both a c ≡ both b d
both_same a b c d e f = ap (λ x. both x c) e ∙ ap (both b) f

chunks_exact : (o : FoRParts) (s r : Shape) → (is_packed s && is_packed r) ≡ true → chunk_size (chunk_sizes o) s r ≡ over_references (λ q. encoded_bytes q s) (λ q. encoded_bytes q r) o
chunks_exact (Whole parts) s r e = packed_exact parts.child s (first_of (is_packed s) (is_packed r) e)
chunks_exact (ByChunk child others) s r e = both_same _ _ _ _ (packed_exact child s (first_of (is_packed s) (is_packed r) e)) (packed_exact others r (other_of (is_packed s) (is_packed r) e))
chunks_exact (Nulls child reference) s r e = refl

framed_exact : (p : PrimitiveParts) (s : Shape) → is_framed s ≡ true → framed_size (framed_sizes p) s ≡ encoded_bytes p s
unfolding encoded_bytes
framed_exact p Plain e = packed_exact p Plain e
framed_exact p Primitive e = packed_exact p Primitive e
framed_exact p Constant e = packed_exact p Constant e
framed_exact p (BitPacked packing) e = packed_exact p (BitPacked packing) e
framed_exact p (FoR Natural encoded) e = reference_exact (encode_global_by Natural p) encoded e
framed_exact p (FoRChunked Natural encoded references) e = chunks_exact (encode_chunked_by Natural p) encoded references e
framed_exact p (FoR Signed encoded) e = reference_exact (encode_global_by Signed p) encoded e
framed_exact p (FoRChunked Signed encoded references) e = chunks_exact (encode_chunked_by Signed p) encoded references e
framed_exact p (Delta bases deltas) e = cc
framed_exact p (RLE run_values values indices offsets) e = cc

base_exact : (p : PrimitiveParts) (s : Shape) → is_base s ≡ true → base_size (base_sizes p) s ≡ encoded_bytes p s
unfolding encoded_bytes
base_exact p Plain e = framed_exact p Plain e
base_exact p Primitive e = framed_exact p Primitive e
base_exact p Constant e = framed_exact p Constant e
base_exact p (BitPacked packing) e = framed_exact p (BitPacked packing) e
base_exact p (FoR order encoded) e = framed_exact p (FoR order encoded) e
base_exact p (FoRChunked order encoded references) e = framed_exact p (FoRChunked order encoded references) e
base_exact p (Delta bases deltas) e =
    both_same _ _ _ _ (framed_exact (compress_deltas p).0 bases (first_of (is_framed bases) (is_framed deltas) e))
    (both_same _ _ (Some (validity_bytes (length p.slots) p.validity)) _ (framed_exact (compress_deltas p).1 deltas (other_of (is_framed bases) (is_framed deltas) e)) refl)
base_exact p (RLE run_values values indices offsets) e = cc

delta_exact : (p : PrimitiveParts) (s : Shape) → is_delta s ≡ true → delta_size (delta_sizes p) s ≡ encoded_bytes p s
unfolding encoded_bytes
delta_exact p Plain e = framed_exact p Plain e
delta_exact p Primitive e = framed_exact p Primitive e
delta_exact p Constant e = framed_exact p Constant e
delta_exact p (BitPacked packing) e = framed_exact p (BitPacked packing) e
delta_exact p (FoR order encoded) e = framed_exact p (FoR order encoded) e
delta_exact p (FoRChunked order encoded references) e = framed_exact p (FoRChunked order encoded references) e
delta_exact p (Delta bases deltas) e =
    both_same _ _ _ _ (base_exact (compress_deltas p).0 bases (first_of (is_base bases) (is_framed deltas) e))
    (both_same _ _ (Some (validity_bytes (length p.slots) p.validity)) _ (framed_exact (compress_deltas p).1 deltas (other_of (is_base bases) (is_framed deltas) e)) refl)
delta_exact p (RLE run_values values indices offsets) e = cc

runs_exact : (runs : RunParts) (values indices offsets : Shape) → (is_delta values && (is_delta indices && is_framed offsets)) ≡ true
    → run_size (run_sizes runs) values indices offsets ≡ both (encoded_bytes runs.values values) (both (encoded_bytes runs.indices indices) (encoded_bytes runs.offsets offsets))
runs_exact runs values indices offsets e =
    let rest = other_of (is_delta values) (is_delta indices && is_framed offsets) e in
    both_same _ _ _ _ (delta_exact runs.values values (first_of (is_delta values) (is_delta indices && is_framed offsets) e))
    (both_same _ _ _ _ (delta_exact runs.indices indices (first_of (is_delta indices) (is_framed offsets) rest)) (framed_exact runs.offsets offsets (other_of (is_delta indices) (is_framed offsets) rest)))

pub candidate_exact : (p : PrimitiveParts) (s : Shape) → is_candidate s ≡ true → size_in (statistics_of p) s ≡ encoded_bytes p s
unfolding encoded_bytes is_candidate statistics_of
candidate_exact p Plain e = delta_exact p Plain e
candidate_exact p Primitive e = delta_exact p Primitive e
candidate_exact p Constant e = delta_exact p Constant e
candidate_exact p (BitPacked packing) e = delta_exact p (BitPacked packing) e
candidate_exact p (FoR order encoded) e = delta_exact p (FoR order encoded) e
candidate_exact p (FoRChunked order encoded references) e = delta_exact p (FoRChunked order encoded references) e
candidate_exact p (Delta bases deltas) e = delta_exact p (Delta bases deltas) e
candidate_exact p (RLE Dictionary values indices offsets) e = runs_exact (encode_dictionaries p) values indices offsets e
candidate_exact p (RLE Runs values indices offsets) e = runs_exact (encode_runs p) values indices offsets e

-- ---- a size that is there, of any scheme
packed_some : (p : PrimitiveParts) (s : Shape) (n : ℕ) → packed_size (packed_sizes p) s ≡ Some n → encoded_bytes p s ≡ Some n
unfolding encoded_bytes
packed_some p Plain n e = e
packed_some p Primitive n e = e
packed_some p Constant n e = sym (constant_size (are_constant (column_of_primitive p).items)) ∙ e
packed_some p (BitPacked BestWidth) n e = e
packed_some p (BitPacked (Width width)) n e = cc
packed_some p (BitPacked BestWidths) n e = e
packed_some p (FoR order encoded) n e = cc
packed_some p (FoRChunked order encoded references) n e = cc
packed_some p (Delta bases deltas) n e = cc
packed_some p (RLE run_values values indices offsets) n e = cc

reference_some : (o : Result OneReference FastLanesError) (s : Shape) (n : ℕ) → reference_size (reference_sizes o) s ≡ Some n → over_reference (λ q. encoded_bytes q s) o ≡ Some n
reference_some (Ok parts) s n e = packed_some parts.child s n e
reference_some (Err refusal) s n e = cc

both_some : (a b c d : Option ℕ) (n : ℕ) → ((m : ℕ) → a ≡ Some m → c ≡ Some m) → ((m : ℕ) → b ≡ Some m → d ≡ Some m) → both a b ≡ Some n → both c d ≡ Some n
both_some (Some a) (Some b) c d n f g e = rw (f a refl, g b refl) e
both_some (Some a) None c d n f g e = cc
both_some None b c d n f g e = cc

chunks_some : (o : FoRParts) (s r : Shape) (n : ℕ) → chunk_size (chunk_sizes o) s r ≡ Some n → over_references (λ q. encoded_bytes q s) (λ q. encoded_bytes q r) o ≡ Some n
chunks_some (Whole parts) s r n e = packed_some parts.child s n e
chunks_some (ByChunk child others) s r n e = both_some _ _ _ _ n (λ m f. packed_some child s m f) (λ m f. packed_some others r m f) e
chunks_some (Nulls child reference) s r n e = e

framed_some : (p : PrimitiveParts) (s : Shape) (n : ℕ) → framed_size (framed_sizes p) s ≡ Some n → encoded_bytes p s ≡ Some n
unfolding encoded_bytes
framed_some p Plain n e = packed_some p Plain n e
framed_some p Primitive n e = packed_some p Primitive n e
framed_some p Constant n e = packed_some p Constant n e
framed_some p (BitPacked packing) n e = packed_some p (BitPacked packing) n e
framed_some p (FoR Natural encoded) n e = reference_some (encode_global_by Natural p) encoded n e
framed_some p (FoRChunked Natural encoded references) n e = chunks_some (encode_chunked_by Natural p) encoded references n e
framed_some p (FoR Signed encoded) n e = reference_some (encode_global_by Signed p) encoded n e
framed_some p (FoRChunked Signed encoded references) n e = chunks_some (encode_chunked_by Signed p) encoded references n e
framed_some p (Delta bases deltas) n e = cc
framed_some p (RLE run_values values indices offsets) n e = cc

base_some : (p : PrimitiveParts) (s : Shape) (n : ℕ) → base_size (base_sizes p) s ≡ Some n → encoded_bytes p s ≡ Some n
unfolding encoded_bytes
base_some p Plain n e = framed_some p Plain n e
base_some p Primitive n e = framed_some p Primitive n e
base_some p Constant n e = framed_some p Constant n e
base_some p (BitPacked packing) n e = framed_some p (BitPacked packing) n e
base_some p (FoR order encoded) n e = framed_some p (FoR order encoded) n e
base_some p (FoRChunked order encoded references) n e = framed_some p (FoRChunked order encoded references) n e
base_some p (Delta bases deltas) n e =
    both_some _ _ _ _ n (λ m f. framed_some (compress_deltas p).0 bases m f)
    (λ m f. both_some _ (Some (validity_bytes (length p.slots) p.validity)) _ _ m (λ k g. framed_some (compress_deltas p).1 deltas k g) (λ k g. g) f) e
base_some p (RLE run_values values indices offsets) n e = cc

delta_some : (p : PrimitiveParts) (s : Shape) (n : ℕ) → delta_size (delta_sizes p) s ≡ Some n → encoded_bytes p s ≡ Some n
unfolding encoded_bytes
delta_some p Plain n e = framed_some p Plain n e
delta_some p Primitive n e = framed_some p Primitive n e
delta_some p Constant n e = framed_some p Constant n e
delta_some p (BitPacked packing) n e = framed_some p (BitPacked packing) n e
delta_some p (FoR order encoded) n e = framed_some p (FoR order encoded) n e
delta_some p (FoRChunked order encoded references) n e = framed_some p (FoRChunked order encoded references) n e
delta_some p (Delta bases deltas) n e =
    both_some _ _ _ _ n (λ m f. base_some (compress_deltas p).0 bases m f)
    (λ m f. both_some _ (Some (validity_bytes (length p.slots) p.validity)) _ _ m (λ k g. framed_some (compress_deltas p).1 deltas k g) (λ k g. g) f) e
delta_some p (RLE run_values values indices offsets) n e = cc

runs_some : (runs : RunParts) (values indices offsets : Shape) (n : ℕ) → run_size (run_sizes runs) values indices offsets ≡ Some n → both (encoded_bytes runs.values values) (both (encoded_bytes runs.indices indices) (encoded_bytes runs.offsets offsets)) ≡ Some n
runs_some runs values indices offsets n e =
    both_some _ _ _ _ n (λ m f. delta_some runs.values values m f) (λ m f. both_some _ _ _ _ m (λ k g. delta_some runs.indices indices k g) (λ k g. framed_some runs.offsets offsets k g) f) e

size_some : (p : PrimitiveParts) (s : Shape) (n : ℕ) → size_in (statistics_of p) s ≡ Some n → encoded_bytes p s ≡ Some n
unfolding encoded_bytes statistics_of
size_some p Plain n e = delta_some p Plain n e
size_some p Primitive n e = delta_some p Primitive n e
size_some p Constant n e = delta_some p Constant n e
size_some p (BitPacked packing) n e = delta_some p (BitPacked packing) n e
size_some p (FoR order encoded) n e = delta_some p (FoR order encoded) n e
size_some p (FoRChunked order encoded references) n e = delta_some p (FoRChunked order encoded references) n e
size_some p (Delta bases deltas) n e = delta_some p (Delta bases deltas) n e
size_some p (RLE Dictionary values indices offsets) n e = runs_some (encode_dictionaries p) values indices offsets n e
size_some p (RLE Runs values indices offsets) n e = runs_some (encode_runs p) values indices offsets n e

none_capped : (o : Option ℕ) → ((n : ℕ) → o ≡ Some n → ⊥) → capped o ≡ None
none_capped None never = refl
none_capped (Some n) never = absurd (never n refl)

-- a scheme that is refused has no size
pub size_is_refused : (p : PrimitiveParts) (statistics : Statistics) (scheme : Shape) (o : Option ℕ) → o ≡ capped (size_in statistics scheme) → statistics ≡ statistics_of p → (encode_refusal scheme p ≡ None → ⊥) → o ≡ None
size_is_refused p statistics scheme o size is refused =
    size ∙ (ap (λ x. capped (size_in x scheme)) is ∙ none_capped (size_in (statistics_of p) scheme) (λ n e. refused (free_of_refusal scheme p n (size_some p scheme n e))))

-- ---- the answer
pub size_is_exact : (p : PrimitiveParts) (statistics : Statistics) (s : Shape) (o : Option ℕ) → o ≡ capped (size_in statistics s) → statistics ≡ statistics_of p → IsTrue (is_candidate s) → o ≡ capped (encoded_bytes p s)
size_is_exact p statistics s o size is in_set = size ∙ (ap (λ x. capped (size_in x s)) is ∙ ap capped (candidate_exact p s in_set))

pub size_is_encoded : (p : PrimitiveParts) (statistics : Statistics) (scheme : Shape) (t : Tree) (o : Option ℕ) → o ≡ capped (size_in statistics scheme) → statistics ≡ statistics_of p → IsTrue (is_candidate scheme) → encode_refusal scheme p ≡ None → IsEncodedAs scheme p t
    → o ≡ Some (min (tree_bytes t) (2 ^ 64 - 1))
size_is_encoded p statistics scheme t o size is in_set none made = size_is_exact p statistics scheme o size is in_set ∙ ap capped (made_bytes scheme p t none made)
