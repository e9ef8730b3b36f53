use Rattle.std.proofs.Common.{◌<◌, length, arith}
use Rattle.fl_bitmaps.proofs.TurnLaws.{turned_more, unturned_more}
use Rattle.fl_bitmaps.proofs.turning.turn.Goals as goal

pub loop-k-preserved : goal.loop-k-preserved
loop-k-preserved c =
    let k = c.loop-k.k in
    let bits = c.loop-k.bits in
    let within : k < length bits = omega arith in
    record {
      turned = turned_more c.args.bits.now bits k c.turned.result within c.turned.ensures c.loop-k.invariant.before c.loop-k.invariant.turned;
      before = unturned_more c.args.bits.now bits k c.turned.result c.loop-k.invariant.before;
    }
