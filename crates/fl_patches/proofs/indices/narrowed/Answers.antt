use Rattle.std.proofs.Common.{◌∙◌, ◌+◌, ◌-◌, ◌/◌, sym, arith}
use Rattle.fl_patches.proofs.Narrowed.{place_before, place_behind}
use Rattle.fl_patches.proofs.indices.narrowed.Goals as goal

pub loop-high-preserved-then-is_below : goal.loop-high-preserved-then-is_below
loop-high-preserved-then-is_below g c =
    let test = c.loop-high-test.true in
    let room = c.loop-high.invariant.within in
    let behind = place_behind g.I.Number.value c.args.indices.now c.args.limit (c.loop-high.low + (c.loop-high.high - c.loop-high.low) / 2) c.index-indices-middle.result c.requires.rising (omega arith) c.index-indices-middle.is (sym c.is_below.ensures ∙ c.if-is_below.true) in
    record { low = behind; high = c.loop-high.invariant.high; within = room }

pub loop-high-preserved : goal.loop-high-preserved
loop-high-preserved g c =
    let test = c.loop-high-test.true in
    let room = c.loop-high.invariant.within in
    let before = place_before g.I.Number.value c.args.indices.now c.args.limit (c.loop-high.low + (c.loop-high.high - c.loop-high.low) / 2) c.index-indices-middle.result c.requires.rising (omega arith) c.index-indices-middle.is (sym c.is_below.ensures ∙ c.if-is_below.false) in
    record { low = c.loop-high.invariant.low; high = before; within = omega arith }
