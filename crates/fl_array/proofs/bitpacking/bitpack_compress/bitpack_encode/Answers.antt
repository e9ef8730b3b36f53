use Rattle.std.proofs.Common.{Ok, Err, refl}
use Rattle.fl_bitpacking.specs.Encoders.{width_refusal}
use Rattle.fl_array.proofs.BitPackedEncoding.{also_answered, passed_on}
use Rattle.fl_array.proofs.bitpacking.bitpack_compress.bitpack_encode.Goals as goal

pub returns-in_err-packed-clause-refusal : goal.returns-in_err-packed-clause-refusal
returns-in_err-packed-clause-refusal c = passed_on (width_refusal c.args.array.now c.args.bit_width) (Err c.in_err-packed.field-0.0) _ _ refl c.in_err-packed.ensures.refusal c.from_residual.ensures.1

pub returns-clause-refusal : goal.returns-clause-refusal
returns-clause-refusal c = also_answered (width_refusal c.args.array.now c.args.bit_width) (Ok c.in_ok-packed.packed) _ _ _ refl c.in_ok-packed.ensures.refusal refl
