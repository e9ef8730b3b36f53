use Rattle.std.proofs.Common.{◌≡◌, ◌+◌, arith, ap, length, rules}
use Rattle.flcol_engine.proofs.LengthLemmas.{more_lines, no_lines}
use Rattle.flcol_engine.proofs.printing.items_len.Goals as goal

pub loop-i-preserved : goal.loop-i-preserved
loop-i-preserved g c =
    let sum : c.in_ok-total.total ≡ c.loop-i.total + c.item_len.result = search rules in
    let more = more_lines g.T.Number.value g.T.NativePType.PTYPE c.args.validity.now c.args.slots.now c.loop-i.i c.requires c.loop-i-test.true in
    omega (arith, more, c.item_len.ensures, c.loop-i.invariant, sum)

pub returns-clause-len : goal.returns-clause-len
returns-clause-len g c =
    let none = ap length (no_lines g.T.Number.value g.T.NativePType.PTYPE c.args.validity.now c.args.slots.now c.loop-i.i c.requires (omega (arith, c.loop-i-test.false))) in
    omega (arith, none, c.loop-i.invariant)
