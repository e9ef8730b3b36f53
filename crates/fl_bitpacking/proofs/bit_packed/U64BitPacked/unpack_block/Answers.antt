use Rattle.std.proofs.Common.{refl}
use Rattle.fastlanes.specs.Layout.{bits_64}
use Rattle.fl_types.specs.declared.dtype.PType.TheVariants.{U64}
use Rattle.fl_bitpacking.proofs.Natives.{unsigned_unpacked}
use Rattle.fl_bitpacking.proofs.bit_packed.U64BitPacked.unpack_block.Goals as goal

pub returns-clause-items : goal.returns-clause-items
returns-clause-items c = unsigned_unpacked U64 64 16 c.args.width c.unpack_bytes.new.items c.args.block.now bits_64 refl refl c.requires.width c.unpack_bytes.array_long c.unpack_bytes.ensures.items
