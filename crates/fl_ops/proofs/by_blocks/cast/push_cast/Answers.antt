use Rattle.std.proofs.Common.{rules, arith, map, FitsSigned}
use Rattle.std.specs.Int.{w128}
use Rattle.std.proofs.lemmas.Int.{to_z-of_z}
use Rattle.fl_ops.proofs.CastReads.{slots_more}
use Rattle.fl_ops.proofs.by_blocks.cast.push_cast.Goals as goal

pub loop-item-preserved : goal.loop-item-preserved
loop-item-preserved g c =
    let z = c.as_i128.result in
    let fit : FitsSigned w128 z = search rules in
    let more = slots_more g.T.Number.value g.S.Number.value g.T.NativePType.PTYPE (map g.T.Number.value c.args.cast.now.items) c.loop-item.cast.items c.push_reserved.new.self.items c.cast_value-value.result c.zero.result z c.loop-item.fit c.args.items.now c.loop-item.item-index c.item-item.result c.loop-item-test.true c.item-item.is c.as_i128.ensures c.zero.ensures (simp to_z-of_z at c.cast_value-value.ensures) (rw c.unwrap_or.ensures at c.push_reserved.ensures.items) c.loop-item.invariant.slots c.loop-item.invariant.fit in
    let so_far = c.loop-item.invariant.long in
    let added = c.push_reserved.ensures.len in
    let room = c.loop-item.invariant.room in
    let kept = c.push_reserved.ensures.capacity in record {
      long = omega arith;
      room = omega arith;
      slots = more.0;
      fit = rw c.is_some-fit.ensures more.1;
    }
