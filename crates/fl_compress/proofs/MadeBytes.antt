-- What is encoded by a scheme has the bytes that are foreseen, and is encoded exactly where they are.
use Rattle.std.proofs.Common.{◌≡◌, ℕ, ◌+◌, length, Option, Some, None, Ok, Err, refl, ap, sym, ◌∙◌, arith}
use Rattle.std.specs.Prelude.{Result}
use Rattle.fl_types.specs.declared.error.FastLanesError.{FastLanesError}
use Rattle.fl_column.specs.Columns.{PrimitiveParts}
use Rattle.fl_codec.specs.Parts.{ByChunk, FoRParts, Nulls, OneReference, RunParts, Whole, compress_deltas, encode_chunked_by, encode_global_by}
use Rattle.fl_bitpacking.specs.Encoders.{best_width_of, best_widths_of}
use Rattle.fl_bitpacking.specs.Blocks.{boundary_array}
use Rattle.fl_bitpacking.specs.Refusals.{otherwise}
use Rattle.fl_array.specs.Trees.{DeltaParts, OffsetLen, Tree}
use Rattle.fl_array.specs.Trees as tree
use Rattle.fl_encode.specs.declared.scheme.Packing.{Packing}
use Rattle.fl_encode.specs.declared.scheme.Packing.TheVariants.{BestWidth, BestWidths, Width}
use Rattle.fl_encode.specs.Encodings.{HasDeltas, HasReference, HasReferences, HasRuns, IsEncodedAs, encode_refusal, one_reference_refusal, references_refusal, runs_by, whole_delta, whole_window}
use Rattle.fl_encode.specs.Packings.{IsPackedAs, constant_refusal, packing_refusal}
use Rattle.fl_encode.specs.Shapes.{BitPacked, Constant, Delta, FoR, FoRChunked, Plain, Primitive, RLE, Shape}
use Rattle.fl_serde.specs.ByteCounts.{primitive_bytes, tree_bytes, validity_bytes}
use Rattle.fl_compress.specs.Cheapest.{both}
use Rattle.fl_compress.specs.EncodedBytes.{bytes_packed, encoded_bytes, over_reference, over_references, unless}
use Rattle.fl_compress.proofs.PackedBytes.{bytes_at_width, bytes_at_widths}

-- ---- costs
first_none : (first other : Option FastLanesError) → otherwise first other ≡ None → first ≡ None
first_none None other h = refl
first_none (Some f) other h = cc

other_none : (first other : Option FastLanesError) → otherwise first other ≡ None → other ≡ None
other_none None other h = h
other_none (Some f) other h = cc

neither : (first other : Option FastLanesError) → first ≡ None → other ≡ None → otherwise first other ≡ None
neither None other e f = f
neither (Some g) other e f = cc

both_are : (a b : Option ℕ) (m n : ℕ) → a ≡ Some m → b ≡ Some n → both a b ≡ Some (m + n)
both_are a b m n e f = ap (λ x. both x b) e ∙ ap (both (Some m)) f

-- each of two that together have a cost has one
pub record AreCosts (a b : Option ℕ) : Type 0 where
  pub first : ℕ
  pub other : ℕ
  pub is_first : a ≡ Some first
  pub is_other : b ≡ Some other

costs_of : (a b : Option ℕ) (n : ℕ) → both a b ≡ Some n → AreCosts a b
costs_of (Some a) (Some b) n e = record { first = a; other = b; is_first = refl; is_other = refl }
costs_of (Some a) None n e = cc
costs_of None b n e = cc

not_refused : (refusal : Option FastLanesError) (bytes n : ℕ) → unless refusal bytes ≡ Some n → refusal ≡ None
not_refused None bytes n e = refl
not_refused (Some f) bytes n e = cc

-- an array's bytes, if it is this one
bytes_as : (t u : Tree) (n : ℕ) → t ≡ u → n ≡ tree_bytes u → (let o : Option ℕ = Some n in o) ≡ Some (tree_bytes t)
bytes_as t u n is e = ap (λ m. let o : Option ℕ = Some m in o) (e ∙ ap tree_bytes (sym is))

-- ---- packing
packing_bytes : (packing : Packing) (p : PrimitiveParts) (t : Tree) → packing_refusal packing p ≡ None → IsPackedAs packing p t → unless (packing_refusal packing p) (bytes_packed packing p) ≡ Some (tree_bytes t)
packing_bytes BestWidth p t none (parts, is, e) = ap (λ r. unless r (bytes_packed BestWidth p)) none ∙ bytes_as t (tree.BitPackedGlobal parts (best_width_of p)) (bytes_packed BestWidth p) e (sym (bytes_at_width p (best_width_of p) parts is))
packing_bytes (Width width) p t none (parts, is, e) = ap (λ r. unless r (bytes_packed (Width width) p)) none ∙ bytes_as t (tree.BitPackedGlobal parts width) (bytes_packed (Width width) p) e (sym (bytes_at_width p width parts is))
packing_bytes BestWidths p t none (parts, is, e) =
    let packed = bytes_at_widths p (best_widths_of p) parts none is in
    ap (λ r. unless r (bytes_packed BestWidths p)) none ∙ bytes_as t (tree.BitPackedBlocked parts (tree.Primitive (boundary_array (best_widths_of p)))) (bytes_packed BestWidths p) e (omega (arith, packed))

-- ---- nestings
-- a child has the bytes that are foreseen
abbrev HasItsBytes : Shape → Type 0
HasItsBytes child = (q : PrimitiveParts) (u : Tree) → encode_refusal child q ≡ None → IsEncodedAs child q u → encoded_bytes q child ≡ Some (tree_bytes u)

reference_bytes : (child : Shape) (o : Result OneReference FastLanesError) (t : Tree) → HasItsBytes child → one_reference_refusal (encode_refusal child) o ≡ None → HasReference (IsEncodedAs child) o t
    → over_reference (λ q. encoded_bytes q child) o ≡ Some (tree_bytes t)
reference_bytes child (Ok parts) t bytes none (encoded, is, e) = bytes parts.child encoded none is ∙ bytes_as t (tree.FoRGlobal encoded parts.reference) (tree_bytes encoded) e refl
reference_bytes child (Err refusal) t bytes none is = absurd is

references_bytes : (child others : Shape) (o : FoRParts) (t : Tree) → HasItsBytes child → HasItsBytes others → references_refusal (encode_refusal child) (encode_refusal others) o ≡ None → HasReferences (IsEncodedAs child) (IsEncodedAs others) o t
    → over_references (λ q. encoded_bytes q child) (λ q. encoded_bytes q others) o ≡ Some (tree_bytes t)
references_bytes child others (Whole parts) t bytes other_bytes none (encoded, is, e) = bytes parts.child encoded none is ∙ bytes_as t (tree.FoRGlobal encoded parts.reference) (tree_bytes encoded) e refl
references_bytes child others (ByChunk p q) t bytes other_bytes none (encoded, references, is, are, e) =
    both_are (encoded_bytes p child) (encoded_bytes q others) (tree_bytes encoded) (tree_bytes references)
    (bytes p encoded (first_none (encode_refusal child p) (encode_refusal others q) none) is)
    (other_bytes q references (other_none (encode_refusal child p) (encode_refusal others q) none) are)
    ∙ bytes_as t (tree.FoRChunked encoded references 0) (tree_bytes encoded + tree_bytes references) e refl
references_bytes child others (Nulls constant reference) t bytes other_bytes none is = bytes_as t (tree.FoRGlobal (tree.Constant constant) reference) 0 is refl

deltas_bytes : (bases deltas : Shape) (p q : PrimitiveParts) (parts : DeltaParts) (t : Tree) → HasItsBytes bases → HasItsBytes deltas → otherwise (encode_refusal bases p) (encode_refusal deltas q) ≡ None → HasDeltas (IsEncodedAs bases) (IsEncodedAs deltas) (p, q) parts t
    → both (encoded_bytes p bases) (both (encoded_bytes q deltas) (Some (validity_bytes parts.len parts.validity))) ≡ Some (tree_bytes t)
deltas_bytes bases deltas p q parts t bytes other_bytes none (first, other, is, are, e) =
    let own = validity_bytes parts.len parts.validity in
    both_are (encoded_bytes p bases) (both (encoded_bytes q deltas) (Some own)) (tree_bytes first) (tree_bytes other + own)
    (bytes p first (first_none (encode_refusal bases p) (encode_refusal deltas q) none) is)
    (both_are (encoded_bytes q deltas) (Some own) (tree_bytes other) own (other_bytes q other (other_none (encode_refusal bases p) (encode_refusal deltas q) none) are) refl)
    ∙ bytes_as t (tree.Delta first other parts) (tree_bytes first + (tree_bytes other + own)) e (omega arith)

runs_bytes : (values indices offsets : Shape) (runs : RunParts) (window : OffsetLen) (t : Tree) → HasItsBytes values → HasItsBytes indices → HasItsBytes offsets
    → otherwise (encode_refusal values runs.values) (otherwise (encode_refusal indices runs.indices) (encode_refusal offsets runs.offsets)) ≡ None → HasRuns (IsEncodedAs values) (IsEncodedAs indices) (IsEncodedAs offsets) runs window t
    → both (encoded_bytes runs.values values) (both (encoded_bytes runs.indices indices) (encoded_bytes runs.offsets offsets)) ≡ Some (tree_bytes t)
runs_bytes values indices offsets runs window t bytes index_bytes offset_bytes none (v, i, o, is, are, last, e) =
    let others = otherwise (encode_refusal indices runs.indices) (encode_refusal offsets runs.offsets) in
    let rest = other_none (encode_refusal values runs.values) others none in
    both_are (encoded_bytes runs.values values) (both (encoded_bytes runs.indices indices) (encoded_bytes runs.offsets offsets)) (tree_bytes v) (tree_bytes i + tree_bytes o)
    (bytes runs.values v (first_none (encode_refusal values runs.values) others none) is)
    (both_are (encoded_bytes runs.indices indices) (encoded_bytes runs.offsets offsets) (tree_bytes i) (tree_bytes o)
    (index_bytes runs.indices i (first_none (encode_refusal indices runs.indices) (encode_refusal offsets runs.offsets) rest) are)
    (offset_bytes runs.offsets o (other_none (encode_refusal indices runs.indices) (encode_refusal offsets runs.offsets) rest) last))
    ∙ bytes_as t (tree.RLE v i o window) (tree_bytes v + (tree_bytes i + tree_bytes o)) e (omega arith)

-- ---- schemes
pub made_bytes : (scheme : Shape) (p : PrimitiveParts) (t : Tree) → encode_refusal scheme p ≡ None → IsEncodedAs scheme p t → encoded_bytes p scheme ≡ Some (tree_bytes t)
unfolding encoded_bytes
made_bytes Plain p t none is = bytes_as t (tree.Primitive p) (primitive_bytes p) is refl
made_bytes Primitive p t none is = bytes_as t (tree.Primitive p) (primitive_bytes p) is refl
made_bytes Constant p t none is = ap (λ r. unless r 0) none ∙ bytes_as t _ 0 is refl
made_bytes (BitPacked packing) p t none is = packing_bytes packing p t none is
made_bytes (FoR order encoded) p t none is = reference_bytes encoded (encode_global_by order p) t (λ q u n m. made_bytes encoded q u n m) none is
made_bytes (FoRChunked order encoded references) p t none is = references_bytes encoded references (encode_chunked_by order p) t (λ q u n m. made_bytes encoded q u n m) (λ q u n m. made_bytes references q u n m) none is
made_bytes (Delta bases deltas) p t none is = deltas_bytes bases deltas (compress_deltas p).0 (compress_deltas p).1 (whole_delta p) t (λ q u n m. made_bytes bases q u n m) (λ q u n m. made_bytes deltas q u n m) none is
made_bytes (RLE run_values values indices offsets) p t none is = runs_bytes values indices offsets (runs_by run_values p) (whole_window p) t (λ q u n m. made_bytes values q u n m) (λ q u n m. made_bytes indices q u n m) (λ q u n m. made_bytes offsets q u n m) none is

-- a child that has bytes is not refused
abbrev IsFree : Shape → Type 0
IsFree child = (q : PrimitiveParts) (n : ℕ) → encoded_bytes q child ≡ Some n → encode_refusal child q ≡ None

reference_free : (child : Shape) (o : Result OneReference FastLanesError) (n : ℕ) → IsFree child → over_reference (λ q. encoded_bytes q child) o ≡ Some n → one_reference_refusal (encode_refusal child) o ≡ None
reference_free child (Ok parts) n free e = free parts.child n e
reference_free child (Err refusal) n free e = cc

references_free : (child others : Shape) (o : FoRParts) (n : ℕ) → IsFree child → IsFree others → over_references (λ q. encoded_bytes q child) (λ q. encoded_bytes q others) o ≡ Some n
    → references_refusal (encode_refusal child) (encode_refusal others) o ≡ None
references_free child others (Whole parts) n free other_free e = free parts.child n e
references_free child others (ByChunk p q) n free other_free e =
    let costs = costs_of (encoded_bytes p child) (encoded_bytes q others) n e in
    neither (encode_refusal child p) (encode_refusal others q) (free p costs.first costs.is_first) (other_free q costs.other costs.is_other)
references_free child others (Nulls constant reference) n free other_free e = refl

pub free_of_refusal : (scheme : Shape) (p : PrimitiveParts) (n : ℕ) → encoded_bytes p scheme ≡ Some n → encode_refusal scheme p ≡ None
unfolding encoded_bytes
free_of_refusal Plain p n e = refl
free_of_refusal Primitive p n e = refl
free_of_refusal Constant p n e = not_refused (constant_refusal p) 0 n e
free_of_refusal (BitPacked packing) p n e = not_refused (packing_refusal packing p) (bytes_packed packing p) n e
free_of_refusal (FoR order encoded) p n e = reference_free encoded (encode_global_by order p) n (λ q m f. free_of_refusal encoded q m f) e
free_of_refusal (FoRChunked order encoded references) p n e = references_free encoded references (encode_chunked_by order p) n (λ q m f. free_of_refusal encoded q m f) (λ q m f. free_of_refusal references q m f) e
free_of_refusal (Delta bases deltas) p n e =
    let first = encoded_bytes (compress_deltas p).0 bases in
    let other = encoded_bytes (compress_deltas p).1 deltas in
    let own : Option ℕ = Some (validity_bytes (length p.slots) p.validity) in
    let costs = costs_of first (both other own) n e in
    let rest = costs_of other own costs.other costs.is_other in
    neither (encode_refusal bases (compress_deltas p).0) (encode_refusal deltas (compress_deltas p).1) (free_of_refusal bases (compress_deltas p).0 costs.first costs.is_first) (free_of_refusal deltas (compress_deltas p).1 rest.first rest.is_first)
free_of_refusal (RLE run_values values indices offsets) p n e =
    let runs = runs_by run_values p in
    let others = both (encoded_bytes runs.indices indices) (encoded_bytes runs.offsets offsets) in
    let costs = costs_of (encoded_bytes runs.values values) others n e in
    let rest = costs_of (encoded_bytes runs.indices indices) (encoded_bytes runs.offsets offsets) costs.other costs.is_other in
    neither (encode_refusal values runs.values) (otherwise (encode_refusal indices runs.indices) (encode_refusal offsets runs.offsets)) (free_of_refusal values runs.values costs.first costs.is_first)
    (neither (encode_refusal indices runs.indices) (encode_refusal offsets runs.offsets) (free_of_refusal indices runs.indices rest.first rest.is_first) (free_of_refusal offsets runs.offsets rest.other rest.is_other))
