use Rattle.std.proofs.Common.{ap, pos, sym}
use Rattle.std.proofs.Math.Nat.{mod-eq_of_lt}
use Rattle.fl_types.specs.declared.dtype.PType.TheVariants.{U32}
use Rattle.fl_column.proofs.PatternLaws.{values_read}
use Rattle.fl_column.proofs.physical.U32PhysicalPType.values_of.Goals as goal

pub returns : goal.returns
returns c = values_read 32 U32 c.args.patterns.now (λ p small. sym (ap pos (mod-eq_of_lt small))) (λ k. (c.type_inv.patterns k).fits)
