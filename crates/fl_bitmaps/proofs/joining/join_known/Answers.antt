use Rattle.std.proofs.Common.{◌≢◌, ◌<◌, length, get_or, get_or-set_other, arith, ◌∙◌}
use Rattle.fl_bitmaps.proofs.LogicLaws.{joined_known, known_more}
use Rattle.fl_bitmaps.proofs.joining.join_known.Goals as goal

pub loop-k-preserved : goal.loop-k-preserved
loop-k-preserved g c =
    let k = c.loop-k.k in
    let bits = c.loop-k.bits in
    let within : k < length bits = omega arith in
    let join = g.O.Operator.of in
    let made = joined_known join g.met.O.Operator.known (get_or bits k 0) (get_or c.args.other.now k 0) c.join.result c.join.ensures in
    record {
      joined = known_more join c.args.bits.now bits c.args.other.now k c.join.result.bits within c.loop-k.invariant.before made c.loop-k.invariant.joined;
      before = λ i h. let ne : i ≢ k = omega arith in get_or-set_other bits k i c.join.result.bits 0 ne ∙ c.loop-k.invariant.before i (omega arith);
    }
