-- Arrays that are made arrays of a width for each block keep their columns.
use Rattle.std.proofs.Common.{◌≡◌, ◌∙◌, ℕ, pos, None, true, false, refl, ap}
use Rattle.std.specs.Prelude.{◌||◌, is_none, Ok, Result, unwrap_or}
use Rattle.fl_types.specs.declared.error.FastLanesError.{FastLanesError}
use Rattle.fl_types.specs.declared.validity.Validity.{Validity}
use Rattle.fl_types.specs.Refusals.{Answers}
use Rattle.fl_types.proofs.RefusalLaws.{Answers_view}
use Rattle.fl_column.specs.Columns.{PrimitiveParts, integers_in, numbers_of}
use Rattle.fl_codec.specs.FoRColumns.{chunked_for, global_for}
use Rattle.fl_codec.specs.RunRefusals.{rle_refusal}
use Rattle.fl_bitpacking.specs.BlockedWidths.{width_per_block}
use Rattle.fl_bitpacking.specs.Blocks.{boundary_array, boundary_blocks}
use Rattle.fl_bitpacking.specs.Columns.{column_of_packed}
use Rattle.fl_bitpacking.specs.Refusals.{blocked_refusal}
use Rattle.fl_bitpacking.proofs.OneWidth.{blocked_accepted, blocked_column}
use Rattle.fl_array.specs.BitPackedArrays.{BitPackedArrayParts, BitWidthsParts, BlockBoundaries, GlobalWidth, bit_widths_refusal, bitpacked_tree, refusal_of_bitpacked, tree_of_bitpacked}
use Rattle.fl_array.specs.DeltaArrays.{DeltaArrayParts, new_delta, refusal_of_delta, tree_of_delta}
use Rattle.fl_array.specs.FoRArrays.{ChunkReferences, FoRArrayParts, for_refusal, has_no_constant, offset_of_references, refusal_of_for}
use Rattle.fl_array.specs.Reads.{constant_in}
use Rattle.fl_array.specs.RLEArrays.{RLEArrayParts, refusal_of_rle}
use Rattle.fl_array.specs.Kinds.{kind}
use Rattle.fl_array.specs.ToBlocked.{blocked_widths, has_global_bitpacked, to_blocked_shallow, to_blocked_tree}
use Rattle.fl_array.specs.Trees.{Tree, column, column_of_delta, column_of_rle}
use Rattle.fl_array.proofs.Refused.{accepted_is}
use Rattle.fl_array.proofs.SliceLaws.{two_parts, three_parts}
use Rattle.fl_array.specs.Trees as tree

-- ---- whole arrays
pub to_blocked_keeps_column : (t : Tree) → column (to_blocked_tree t) ≡ column t
to_blocked_keeps_column (tree.Primitive p) = refl
to_blocked_keeps_column (tree.Constant c) = refl
to_blocked_keeps_column (tree.Bool b) = refl
to_blocked_keeps_column (tree.BitPackedGlobal parts w) = blocked_column parts w
to_blocked_keeps_column (tree.BitPackedBlocked parts boundaries) = ap (λ c. column_of_packed parts (boundary_blocks (numbers_of c))) (to_blocked_keeps_column boundaries)
to_blocked_keeps_column (tree.FoRGlobal encoded reference) = ap (global_for (unwrap_or reference.value (pos 0))) (to_blocked_keeps_column encoded)
to_blocked_keeps_column (tree.FoRChunked encoded references offset) = two_parts (λ e r. chunked_for (integers_in r) offset e) (to_blocked_keeps_column encoded) (to_blocked_keeps_column references)
to_blocked_keeps_column (tree.Delta bases deltas parts) = two_parts (λ b d. column_of_delta b d parts) (to_blocked_keeps_column bases) (to_blocked_keeps_column deltas)
to_blocked_keeps_column (tree.RLE values indices offsets window) =
    three_parts (λ v i o. column_of_rle v i o window) (to_blocked_keeps_column values) (to_blocked_keeps_column indices) (to_blocked_keeps_column offsets)

-- ---- the same parts over children made so
pub blocked_child : (t blocked : Tree) → blocked ≡ to_blocked_tree t → column blocked ≡ column t
blocked_child t blocked e = ap column e ∙ to_blocked_keeps_column t

pub between_boundaries : (a : BitPackedArrayParts) (w : ℕ) (boundaries : PrimitiveParts) (t : Tree) → refusal_of_bitpacked a ≡ None → GlobalWidth w ≡ a.widths → boundaries ≡ boundary_array (width_per_block a.parts w) → t ≡ tree.Primitive boundaries
    → blocked_refusal a.parts (column t) ≡ None
between_boundaries a w boundaries t h same e f = rw (f, e) (blocked_accepted a.parts w (ap (bit_widths_refusal a.parts) same ∙ h))

pub over_boundaries : (a : BitPackedArrayParts) (boundaries blocked : Tree) → refusal_of_bitpacked a ≡ None → BlockBoundaries boundaries ≡ a.widths → blocked ≡ to_blocked_tree boundaries → blocked_refusal a.parts (column blocked) ≡ None
over_boundaries a boundaries blocked h same e = ap (blocked_refusal a.parts) (blocked_child boundaries blocked e) ∙ (ap (bit_widths_refusal a.parts) same ∙ h)

-- what is no constant array stays none
pub no_constant_blocked : (t : Tree) → is_none (constant_in t) ≡ true → is_none (constant_in (to_blocked_tree t)) ≡ true
no_constant_blocked (tree.Primitive p) h = refl
no_constant_blocked (tree.Constant c) h = cc
no_constant_blocked (tree.Bool b) h = refl
no_constant_blocked (tree.BitPackedGlobal parts width) h = refl
no_constant_blocked (tree.BitPackedBlocked parts boundaries) h = refl
no_constant_blocked (tree.FoRGlobal encoded reference) h = refl
no_constant_blocked (tree.FoRChunked encoded references o) h = refl
no_constant_blocked (tree.Delta bases deltas parts) h = refl
no_constant_blocked (tree.RLE values indices offsets window) h = refl

pub over_references : (a : FoRArrayParts) (references encoded blocked : Tree) → refusal_of_for a ≡ None → ChunkReferences references (offset_of_references a.references) ≡ a.references → encoded ≡ to_blocked_tree a.encoded → blocked ≡ to_blocked_tree references
    → for_refusal (column encoded) (ChunkReferences blocked (offset_of_references a.references)) ≡ None
over_references a references encoded blocked h same e f =
    let o = offset_of_references a.references in
    let refusal : for_refusal (column a.encoded) (ChunkReferences references o) ≡ None = ap (for_refusal (column a.encoded)) same ∙ h in
    rw (blocked_child a.encoded encoded e, blocked_child references blocked f) refusal

pub still_no_constant : (a : FoRArrayParts) (references blocked : Tree) (o : ℕ) → has_no_constant a.references ≡ true → ChunkReferences references o ≡ a.references → blocked ≡ to_blocked_tree references → has_no_constant (ChunkReferences blocked o) ≡ true
still_no_constant a references blocked o h same e = rw e (no_constant_blocked references (ap has_no_constant same ∙ h))

pub over_runs : (a : RLEArrayParts) (values indices offsets : Tree) → refusal_of_rle a ≡ None → values ≡ to_blocked_tree a.values → indices ≡ to_blocked_tree a.indices → offsets ≡ to_blocked_tree a.offsets
    → rle_refusal (column values) (column indices) (column offsets) a.window.offset a.window.len ≡ None
over_runs a values indices offsets h e f g = rw (blocked_child a.values values e, blocked_child a.indices indices f, blocked_child a.offsets offsets g) h

pub over_deltas : (a : DeltaArrayParts) (bases deltas : Tree) (v : Validity) (o n : ℕ) (r : Result DeltaArrayParts FastLanesError) → refusal_of_delta a ≡ None → bases ≡ to_blocked_tree a.bases → deltas ≡ to_blocked_tree a.deltas
    → v ≡ a.parts.validity → o ≡ a.parts.offset → n ≡ a.parts.len → Answers (λ d. d) r (new_delta bases deltas (record { validity = v; offset = o; len = n })) → Answers tree_of_delta r (Ok (to_blocked_tree (tree_of_delta a)))
over_deltas a bases deltas v o n r h e f g i j answer =
    let made : DeltaArrayParts = record { bases = bases; deltas = deltas; parts = record { validity = v; offset = o; len = n } } in
    let sound : refusal_of_delta made ≡ None = rw (g, i, j, blocked_child a.bases bases e, blocked_child a.deltas deltas f) h in
    Answers_view tree_of_delta r made (to_blocked_tree (tree_of_delta a)) (rw (e, f, g, i, j) refl) (rw (accepted_is made (refusal_of_delta made) sound) at answer)

-- ---- kinds
-- no bit-packed array of one width is left
pub no_global_bitpacked : (t : Tree) → has_global_bitpacked (kind (to_blocked_tree t)) ≡ false
no_global_bitpacked (tree.Primitive p) = refl
no_global_bitpacked (tree.Constant c) = refl
no_global_bitpacked (tree.Bool b) = refl
no_global_bitpacked (tree.BitPackedGlobal parts width) = refl
no_global_bitpacked (tree.BitPackedBlocked parts boundaries) = no_global_bitpacked boundaries
no_global_bitpacked (tree.FoRGlobal encoded reference) = no_global_bitpacked encoded
no_global_bitpacked (tree.FoRChunked encoded references offset) = two_parts ◌||◌ (no_global_bitpacked encoded) (no_global_bitpacked references)
no_global_bitpacked (tree.Delta bases deltas parts) = two_parts ◌||◌ (no_global_bitpacked bases) (no_global_bitpacked deltas)
no_global_bitpacked (tree.RLE values indices offsets window) = three_parts (λ a b c. a || b || c) (no_global_bitpacked values) (no_global_bitpacked indices) (no_global_bitpacked offsets)

-- once is enough
pub to_blocked_twice : (t : Tree) → to_blocked_tree (to_blocked_tree t) ≡ to_blocked_tree t
to_blocked_twice (tree.Primitive p) = refl
to_blocked_twice (tree.Constant c) = refl
to_blocked_twice (tree.Bool b) = refl
to_blocked_twice (tree.BitPackedGlobal parts width) = refl
to_blocked_twice (tree.BitPackedBlocked parts boundaries) = ap (λ t. tree.BitPackedBlocked parts t) (to_blocked_twice boundaries)
to_blocked_twice (tree.FoRGlobal encoded reference) = ap (λ t. tree.FoRGlobal t reference) (to_blocked_twice encoded)
to_blocked_twice (tree.FoRChunked encoded references offset) = two_parts (λ t u. tree.FoRChunked t u offset) (to_blocked_twice encoded) (to_blocked_twice references)
to_blocked_twice (tree.Delta bases deltas parts) = two_parts (λ t u. tree.Delta t u parts) (to_blocked_twice bases) (to_blocked_twice deltas)
to_blocked_twice (tree.RLE values indices offsets window) = three_parts (λ t u v. tree.RLE t u v window) (to_blocked_twice values) (to_blocked_twice indices) (to_blocked_twice offsets)

-- ---- the array alone, and not those in it
shallow_widths : (a : BitPackedArrayParts) (widths : BitWidthsParts) → a.widths ≡ widths → column (bitpacked_tree a.parts (blocked_widths a.parts widths)) ≡ column (bitpacked_tree a.parts widths)
shallow_widths a (GlobalWidth width) e = blocked_column a.parts width
shallow_widths a (BlockBoundaries boundaries) e = refl

pub shallow_answers : (a : BitPackedArrayParts) (r : Result BitPackedArrayParts FastLanesError) → Answers (λ b. b) r (Ok (to_blocked_shallow a)) → Answers (λ b. column (tree_of_bitpacked b)) r (Ok (column (tree_of_bitpacked a)))
shallow_answers a r h = Answers_view (λ b. column (tree_of_bitpacked b)) r (to_blocked_shallow a) (column (tree_of_bitpacked a)) (shallow_widths a a.widths refl) h
