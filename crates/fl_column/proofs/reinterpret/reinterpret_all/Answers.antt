use Rattle.fl_types.specs.Integers.{pattern_of, read_as}
use Rattle.std.proofs.Common.{map, ap, ◌∙◌}
use Rattle.fl_column.proofs.GatherLaws.{read_more, read_all}
use Rattle.fl_types.proofs.Refused.{no_value}
use Rattle.fl_column.proofs.reinterpret.reinterpret_all.Goals as goal

pub loop-item-preserved : goal.loop-item-preserved
loop-item-preserved g c = read_more g.T.Number.value (λ z. read_as g.T.NativePType.PTYPE (pattern_of g.S.NativePType.PTYPE z)) g.S.Number.value c.loop-item.read.items c.push.new.self.items c.from_physical.result c.args.items.now c.loop-item.item-index c.item-item.result c.in_ok-push.ensures.items c.loop-item.invariant (c.from_physical.ensures ∙ ap (read_as g.T.NativePType.PTYPE) c.to_physical.ensures) c.item-item.is c.loop-item-test.true

pub returns : goal.returns
returns g c = read_all (λ z. read_as g.T.NativePType.PTYPE (pattern_of g.S.NativePType.PTYPE z)) g.S.Number.value (map g.T.Number.value c.loop-item.read.items) c.args.items.now c.loop-item.item-index c.loop-item.invariant c.loop-item-test.false

pub returns-in_err-read : goal.returns-in_err-read
returns-in_err-read g c = no_value _ _ c.from_residual.result c.from_residual.ensures.1

pub returns-in_err-push : goal.returns-in_err-push
returns-in_err-push g c = no_value _ _ c.from_residual-in_err-push.result c.from_residual-in_err-push.ensures.1

pub loop-item-init : goal.loop-item-init
loop-item-init g c = ap (map g.T.Number.value) c.in_ok-read.ensures.items
