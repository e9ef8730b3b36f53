use Rattle.std.proofs.Common.{sym}
use Rattle.std.proofs.Math.Nat.{mod-eq_of_lt}
use Rattle.fl_types.specs.declared.dtype.PType.TheVariants.{U32}
use Rattle.fl_column.proofs.PatternLaws.{patterns_kept}
use Rattle.fl_column.proofs.physical.U32PhysicalPType.patterns_of.Goals as goal

pub returns : goal.returns
returns c = patterns_kept 32 U32 c.args.values.now (λ p small. sym (mod-eq_of_lt small)) (λ k. (c.type_inv.values k).fits)
