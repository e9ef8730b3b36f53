use Rattle.std.proofs.Common.{◌≡◌, ◌∙◌, ap, sym, refl, length}
use Rattle.std.proofs.lemmas.List.{length-map}
use Rattle.fl_types.specs.Integers.{bits_of_type, lanes_of_type}
use Rattle.fl_bitpacking.proofs.Natives.{word_width}
use Rattle.fl_bitpacking.specs.Blocks.{blocks_of}
use Rattle.fl_bitpacking.proofs.ColumnLaws.{packed_column}
use Rattle.fl_bitpacking.proofs.bitpack_compress.pack_typed.Goals as goal

pub returns : goal.returns
returns g c =
    let typed = c.requires.typed in
    rw typed (packed_column g.T.Number.value g.T.NativePType.PTYPE (bits_of_type g.T.NativePType.PTYPE) (lanes_of_type g.T.NativePType.PTYPE) (blocks_of c.args.widths) c.as_slice-items.result.now c.args.array.now.slots c.in_ok-bytes.bytes.items (word_width g.T.NativePType.PTYPE) refl c.as_slice-items.ensures
    (c.in_ok-bytes.ensures.long ∙ sym c.requires.joined.last) c.in_ok-bytes.ensures.each)

pub pack_blocks-requires-clause-names : goal.pack_blocks-requires-clause-names
pack_blocks-requires-clause-names g c j h =
    let same : length c.as_slice-items.result.now ≡ length c.args.array.now.slots = sym (length-map c.as_slice-items.result.now g.T.Number.value) ∙ ap length c.as_slice-items.ensures in
    c.requires.names j (rw same at h)

pub pack_blocks-requires-clause-within : goal.pack_blocks-requires-clause-within
pack_blocks-requires-clause-within g c =
    let same : length c.as_slice-items.result.now ≡ length c.args.array.now.slots = sym (length-map c.as_slice-items.result.now g.T.Number.value) ∙ ap length c.as_slice-items.ensures in
    rw (same, ← c.requires.typed) c.requires.within

pub pack_blocks-requires-clause-joined : goal.pack_blocks-requires-clause-joined
pack_blocks-requires-clause-joined g c =
    let same : length c.as_slice-items.result.now ≡ length c.args.array.now.slots = sym (length-map c.as_slice-items.result.now g.T.Number.value) ∙ ap length c.as_slice-items.ensures in
    rw same c.requires.joined
