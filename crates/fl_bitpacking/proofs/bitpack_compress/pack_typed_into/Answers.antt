use Rattle.std.proofs.Common.{◌∙◌, refl}
use Rattle.fl_types.specs.Integers.{bits_of_type, lanes_of_type}
use Rattle.fl_bitpacking.proofs.Natives.{word_width}
use Rattle.fl_bitpacking.specs.Blocks.{global_blocks}
use Rattle.fl_bitpacking.proofs.ColumnLaws.{packed_column}
use Rattle.fl_bitpacking.proofs.bitpack_compress.pack_typed_into.Goals as goal

pub returns : goal.returns
returns g c =
    let typed = c.requires.typed in
    rw typed (packed_column g.T.Number.value g.T.NativePType.PTYPE (bits_of_type g.T.NativePType.PTYPE) (lanes_of_type g.T.NativePType.PTYPE) (global_blocks c.args.width) c.as_slice-items.result.now c.args.array.now.slots c.pack_blocks_into.new.bytes (word_width g.T.NativePType.PTYPE) refl c.as_slice-items.ensures
    (c.pack_blocks_into.auto.bytes ∙ c.requires.room) c.pack_blocks_into.ensures.each)
