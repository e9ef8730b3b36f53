use Rattle.std.proofs.Common.{◌<◌, ℕ, arith, length, refl}
use Rattle.fl_bitpacking.proofs.Natives.{value_filled}
use Rattle.fl_array.proofs.reader.leaves.fill.Goals as goal

pub loop-i-preserved : goal.loop-i-preserved
loop-i-preserved g c =
    let kept = c.loop-i.auto.items in
    let more = c.loop-i-test.true in
    let inside : c.loop-i.i < length c.loop-i.items = omega arith in
    value_filled g.T.Number.value (λ (k : ℕ). g.T.Number.value c.args.value) c.loop-i.items c.loop-i.i c.args.value inside c.loop-i.invariant refl
