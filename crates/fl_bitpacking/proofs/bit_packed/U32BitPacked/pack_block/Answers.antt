use Rattle.std.proofs.Common.{refl}
use Rattle.fastlanes.specs.Layout.{bits_32}
use Rattle.fl_types.specs.declared.dtype.PType.TheVariants.{U32}
use Rattle.fl_bitpacking.proofs.Natives.{unsigned_packed}
use Rattle.fl_bitpacking.proofs.bit_packed.U32BitPacked.pack_block.Goals as goal

pub returns-in-Some : goal.returns-in-Some
returns-in-Some c = unsigned_packed U32 32 32 c.args.width c.args.items.now c.in-Some.whole.now _ bits_32 refl refl c.in-Some.ensures.cases.enough c.in-Some.ensures.cases.same (λ i. (c.type_inv.items i).fits) c.pack_bytes.ensures
