use Rattle.std.proofs.Common.{◌+◌, arith, refl}
use Rattle.fl_ops.proofs.PositionLaws.{pushed_more}
use Rattle.fl_ops.proofs.takes.push_positions.Goals as goal

pub loop-k-preserved : goal.loop-k-preserved
loop-k-preserved c =
    let so_far = c.loop-k.invariant.long in
    let added = c.push_reserved.ensures.len in
    let room = c.loop-k.invariant.room in
    let kept = c.push_reserved.ensures.capacity in record {
      long = omega arith;
      room = omega arith;
      items = pushed_more c.args.positions.now.items c.loop-k.positions.items c.push_reserved.new.self.items c.args.start c.loop-k.k (c.args.start + c.loop-k.k) c.push_reserved.ensures.items c.loop-k.invariant.items refl;
    }
