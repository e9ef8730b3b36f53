use Rattle.std.proofs.Common.{arith, refl}
use Rattle.fl_types.specs.Integers.{bits_of_type, lanes_of_type}
use Rattle.fl_bitpacking.proofs.Readings.{words_counted}
use Rattle.fl_bitpacking.proofs.packed_reader.PackedReader.item.Goals as goal

pub returns-clause-counted : goal.returns-clause-counted
returns-clause-counted g c =
    let ptype = g.T.NativePType.PTYPE in
    let seen = c.self.view_is in
    let read = c.words-words.ensures in
    let words = words_counted (bits_of_type ptype) (lanes_of_type ptype) c.args.extent.width c.args.index c.self.inside.work.words c.unpack_block_item.new.work.words (omega arith) c.unpack_block_item.ensures.no_word c.unpack_block_item.ensures.words in
    rw (← seen, c.unpack_block_item.ensures.blocks, words) refl
