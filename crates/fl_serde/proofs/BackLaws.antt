-- Arrays by their parts are read as they were written, once the arrays in them are.
use Rattle.std.proofs.Common.{◌≡◌, ℕ, ℤ, ◌<◌, ◌^◌, true, Option, Some, None, Ok, refl, subst, arith}
use Rattle.std.specs.Prelude.{IfSome, is_none, option_map}
use Rattle.fl_types.specs.declared.dtype.PType.{PType}
use Rattle.fl_types.specs.Integers.{FitsIn}
use Rattle.fl_types.specs.Values.{ScalarParts}
use Rattle.fl_bitpacking.specs.Columns.{BitPackedParts}
use Rattle.fl_metadata.specs.Fits.{BitPackedBlockedFits, BitPackedFits, DeltaFits, FoRChunkedFits, PatchesFit, RLEFits}
use Rattle.fl_metadata.specs.Messages.{bit_packed_blocked_of, bit_packed_blocked_slots, bit_packed_of, bit_packed_slots, delta_metadata_of, delta_slots, for_chunked_of, for_chunked_slots, rle_of, rle_slots}
use Rattle.fl_metadata.specs.Scalars.{scalar_of, scalar_slots}
use Rattle.fl_metadata.specs.WrittenText.{message_text}
use Rattle.fl_metadata.specs.declared.bit_packed.BitPackedBlockedMetadata.{BitPackedBlockedMetadata}
use Rattle.fl_metadata.specs.declared.bit_packed.BitPackedMetadata.{BitPackedMetadata}
use Rattle.fl_metadata.specs.declared.delta.DeltaMetadata.{DeltaMetadata}
use Rattle.fl_metadata.specs.declared.for_chunked.FoRChunkedMetadata.{FoRChunkedMetadata}
use Rattle.fl_metadata.specs.declared.rle.RLEMetadata.{RLEMetadata}
use Rattle.fl_array.specs.Trees.{Tree, column}
use Rattle.fl_array.specs.BitPackedArrays.{BitWidthsParts, BlockBoundaries, GlobalWidth, bit_widths_refusal, bitpacked_tree}
use Rattle.fl_array.specs.DeltaArrays.{DeltaArrayParts, refusal_of_delta, tree_of_delta}
use Rattle.fl_array.specs.FoRArrays.{ChunkReferences, FoRReferencesParts, GlobalReference, for_refusal, for_tree, has_no_constant}
use Rattle.fl_array.specs.RLEArrays.{RLEArrayParts, refusal_of_rle, tree_of_rle}
use Rattle.fl_array.specs.Reads.{constant_in}
use Rattle.fl_serde.specs.RoundTrip.{ArePatchesOfTypes, HasFittingInteger, IsReadBack}
use Rattle.fl_serde.specs.Writing.{item_count, patches_message}
use Rattle.fl_serde.proofs.ChildrenAgain.{delta_back, for_chunked_back, rle_back}
use Rattle.fl_serde.proofs.NestedAgain.{for_back}
use Rattle.fl_serde.proofs.PackedAgain.{blocked_back, global_back}

none_is : {A : Type 0} (o : Option A) → is_none o ≡ true → o ≡ None
none_is None h = refl
none_is (Some x) h = absurd cc

pub for_is_back : (encoded : Tree) (references : FoRReferencesParts) (reference : ScalarParts) → GlobalReference reference ≡ references → for_refusal (column encoded) references ≡ None → IsReadBack encoded → HasFittingInteger reference
    → ((p : PType) (value : Option ℤ) → IfSome value (FitsIn p) → scalar_of p (message_text (scalar_slots p value)) ≡ Ok value) → IsReadBack (for_tree encoded references)
for_is_back encoded references reference same none inner fits scalar =
    subst (λ x. for_refusal (column encoded) x ≡ None → IsReadBack (for_tree encoded x)) same (λ n. record { reads = for_back encoded reference n fits scalar inner.reads }) none

pub for_chunked_is_back : (encoded : Tree) (references : FoRReferencesParts) (r : Tree) (offset : ℕ) → ChunkReferences r offset ≡ references → for_refusal (column encoded) references ≡ None → has_no_constant references ≡ true → IsReadBack encoded → IsReadBack r
    → ((m : FoRChunkedMetadata) → FoRChunkedFits m → for_chunked_of (message_text (for_chunked_slots m)) ≡ Ok m) → IsReadBack (for_tree encoded references)
for_chunked_is_back encoded references r offset same none varied first second message =
    subst (λ x. for_refusal (column encoded) x ≡ None → has_no_constant x ≡ true → IsReadBack (for_tree encoded x)) same
    (λ n v. record { reads = for_chunked_back encoded r offset n (none_is (constant_in r) v) (λ lt. message (record { offset = offset }) (record { offset = lt })) first.reads second.reads }) none varied

pub delta_is_back : (a : DeltaArrayParts) → refusal_of_delta a ≡ None → IsReadBack a.bases → IsReadBack a.deltas → item_count a.deltas < 2 ^ 64 → ((m : DeltaMetadata) → DeltaFits m → delta_metadata_of (message_text (delta_slots m)) ≡ Ok m) → IsReadBack (tree_of_delta a)
delta_is_back a none first second few message = record {
  reads = delta_back a.bases a.deltas a.parts none (λ lt. message (record { deltas_len = item_count a.deltas; offset = a.parts.offset }) (record { deltas_len = few; offset = lt })) first.reads second.reads;
}

pub rle_is_back : (a : RLEArrayParts) → refusal_of_rle a ≡ None → IsReadBack a.values → IsReadBack a.indices → IsReadBack a.offsets → item_count a.values < 2 ^ 64 → item_count a.indices < 2 ^ 64 → item_count a.offsets < 2 ^ 64
    → ((m : RLEMetadata) → RLEFits m → rle_of (message_text (rle_slots m)) ≡ Ok m) → IsReadBack (tree_of_rle a)
rle_is_back a none first second third few_values few_indices few_offsets message = record {
  reads = rle_back a.values a.indices a.offsets a.window none
      (λ i o lt.
      let far : a.window.offset < 2 ^ 64 = omega (arith, lt) in
      message (record { values_len = item_count a.values; indices_len = item_count a.indices; indices = i; values_idx_offsets_len = item_count a.offsets; values_idx_offsets = o; offset = a.window.offset })
      (record { values_len = few_values; indices_len = few_indices; values_idx_offsets_len = few_offsets; offset = far })) first.reads second.reads third.reads;
}

pub global_is_back : (parts : BitPackedParts) (widths : BitWidthsParts) (width : ℕ) → GlobalWidth width ≡ widths → bit_widths_refusal parts widths ≡ None → width < 2 ^ 32 → parts.offset < 2 ^ 32 → IfSome parts.patches ArePatchesOfTypes
    → IfSome (option_map patches_message parts.patches) PatchesFit → ((m : BitPackedMetadata) → BitPackedFits m → bit_packed_of (message_text (bit_packed_slots m)) ≡ Ok m) → IsReadBack (bitpacked_tree parts widths)
global_is_back parts widths width same none narrow near fitting small message =
    subst (λ x. bit_widths_refusal parts x ≡ None → IsReadBack (bitpacked_tree parts x)) same
    (λ n. record { reads = global_back parts width n fitting (message (record { bit_width = width; offset = parts.offset; patches = option_map patches_message parts.patches }) (record { bit_width = narrow; offset = near; patches = small })) }) none

pub blocked_is_back : (parts : BitPackedParts) (widths : BitWidthsParts) (boundaries : Tree) → BlockBoundaries boundaries ≡ widths → bit_widths_refusal parts widths ≡ None → IsReadBack boundaries → parts.offset < 2 ^ 32 → IfSome parts.patches ArePatchesOfTypes
    → IfSome (option_map patches_message parts.patches) PatchesFit → ((m : BitPackedBlockedMetadata) → BitPackedBlockedFits m → bit_packed_blocked_of (message_text (bit_packed_blocked_slots m)) ≡ Ok m) → IsReadBack (bitpacked_tree parts widths)
blocked_is_back parts widths boundaries same none inner near fitting small message =
    subst (λ x. bit_widths_refusal parts x ≡ None → IsReadBack (bitpacked_tree parts x)) same
    (λ n. record {
      reads = blocked_back parts boundaries n fitting (λ o. message (record { offset = parts.offset; block_offsets = o; patches = option_map patches_message parts.patches }) (record { offset = near; patches = small })) inner.reads;
    }) none
