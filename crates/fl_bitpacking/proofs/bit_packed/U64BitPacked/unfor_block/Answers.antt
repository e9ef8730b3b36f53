use Rattle.std.proofs.Common.{refl}
use Rattle.fastlanes.specs.Layout.{bits_64}
use Rattle.fl_types.specs.declared.dtype.PType.TheVariants.{U64}
use Rattle.fl_bitpacking.proofs.BlockSums.{unsigned_sums}
use Rattle.fl_bitpacking.proofs.bit_packed.U64BitPacked.unfor_block.Goals as goal

pub returns-clause-items : goal.returns-clause-items
returns-clause-items c = unsigned_sums U64 64 16 c.args.width c.args.reference c.unfor_pack_bytes.new.items c.args.block.now bits_64 refl refl c.requires.width c.word_is_in_range.ensures c.unfor_pack_bytes.array_long c.unfor_pack_bytes.ensures.items
