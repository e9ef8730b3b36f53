use Rattle.std.proofs.Common.{ap, pos, sym}
use Rattle.std.proofs.Math.Nat.{mod-eq_of_lt}
use Rattle.fl_types.specs.declared.dtype.PType.TheVariants.{U8}
use Rattle.fl_column.proofs.PatternLaws.{values_read}
use Rattle.fl_column.proofs.physical.U8PhysicalPType.values_of.Goals as goal

pub returns : goal.returns
returns c = values_read 8 U8 c.args.patterns.now (λ p small. sym (ap pos (mod-eq_of_lt small))) (λ k. (c.type_inv.patterns k).fits)
