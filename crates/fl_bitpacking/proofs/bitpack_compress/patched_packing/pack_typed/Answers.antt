use Rattle.std.proofs.Common.{◌≡◌, ◌∙◌, ap, sym, refl, length}
use Rattle.std.proofs.lemmas.List.{length-map}
use Rattle.fl_types.specs.Integers.{bits_of_type, lanes_of_type}
use Rattle.fl_bitpacking.proofs.Natives.{word_width}
use Rattle.fl_bitpacking.specs.Blocks.{blocks_of}
use Rattle.fl_bitpacking.proofs.ColumnLaws.{packed_column}
use Rattle.fl_patches.proofs.ExceptionPatches.{all_chunked}
use Rattle.fl_patches.proofs.Gathers.{covered_slice}
use Rattle.fl_patches.proofs.Parts.{ok_same}
use Rattle.fl_bitpacking.proofs.RefusedNegatives.{answers_unless, refused_unless}
use Rattle.fl_patches.specs.Widths.{width_at}
use Rattle.fl_bitpacking.proofs.bitpack_compress.patched_packing.pack_typed.Goals as goal

pub returns-clause-packed : goal.returns-clause-packed
returns-clause-packed g c =
    let typed = c.requires.typed in
    rw typed (packed_column g.T.Number.value g.T.NativePType.PTYPE (bits_of_type g.T.NativePType.PTYPE) (lanes_of_type g.T.NativePType.PTYPE) (blocks_of c.args.widths) c.as_slice-items.result.now c.args.array.now.slots c.in_ok-bytes.bytes.items (word_width g.T.NativePType.PTYPE) refl c.as_slice-items.ensures
    (c.in_ok-bytes.ensures.long ∙ sym c.requires.joined.last) c.in_ok-bytes.ensures.each)

pub pack_blocks-requires-clause-names : goal.pack_blocks-requires-clause-names
pack_blocks-requires-clause-names g c j h =
    let same : length c.as_slice-items.result.now ≡ length c.args.array.now.slots = sym (length-map c.as_slice-items.result.now g.T.Number.value) ∙ ap length c.as_slice-items.ensures in
    c.requires.names j (rw same at h)

pub pack_blocks-requires-clause-within : goal.pack_blocks-requires-clause-within
pack_blocks-requires-clause-within g c =
    let same : length c.as_slice-items.result.now ≡ length c.args.array.now.slots = sym (length-map c.as_slice-items.result.now g.T.Number.value) ∙ ap length c.as_slice-items.ensures in
    rw (same, ← c.requires.typed) c.requires.within

pub pack_blocks-requires-clause-joined : goal.pack_blocks-requires-clause-joined
pack_blocks-requires-clause-joined g c =
    let same : length c.as_slice-items.result.now ≡ length c.args.array.now.slots = sym (length-map c.as_slice-items.result.now g.T.Number.value) ∙ ap length c.as_slice-items.ensures in
    rw same c.requires.joined

pub pack_blocks-requires-clause-covers : goal.pack_blocks-requires-clause-covers
pack_blocks-requires-clause-covers g c = covered_slice g.T.Number.value c.args.array.now.validity c.validity-validity.result.now c.as_slice-items.result.now c.args.array.now.slots c.as_slice-items.ensures c.validity-validity.ensures.value c.validity-validity.ensures.covers

pub into_patches-requires-clause-chunked : goal.into_patches-requires-clause-chunked
into_patches-requires-clause-chunked g c =
    all_chunked g.T.NativePType.PTYPE c.args.array.now.validity c.args.array.now.slots (width_at c.args.widths) _ _ _ c.validity-validity.ensures.covers
    (rw (← c.as_slice-items.ensures, ← c.validity-validity.ensures.value, length-map) c.in_ok-bytes.ensures.exceptions)

pub returns-clause-refusal : goal.returns-clause-refusal
returns-clause-refusal g c = rw (← c.as_slice-items.ensures, ← c.validity-validity.ensures.value) (answers_unless _ _ _ c.in_ok-bytes.ensures.refusal)

pub returns-clause-patches : goal.returns-clause-patches
returns-clause-patches g c = ok_same _ _ (c.in_ok-patches.ensures.parts (width_at c.args.widths) (rw (← c.as_slice-items.ensures, ← c.validity-validity.ensures.value, length-map) c.in_ok-bytes.ensures.exceptions))

pub returns-in_err-bytes-clause-refusal : goal.returns-in_err-bytes-clause-refusal
returns-in_err-bytes-clause-refusal g c = rw (← c.as_slice-items.ensures, ← c.validity-validity.ensures.value) (refused_unless _ _ _ c.from_residual.result c.in_err-bytes.ensures.refusal c.from_residual.ensures.1)
