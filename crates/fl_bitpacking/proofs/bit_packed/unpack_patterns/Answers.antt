use Rattle.std.proofs.Common.{◌<◌, ◌∙◌, ap, sym, length, length-set, arith}
use Rattle.fl_types.specs.Integers.{read_as}
use Rattle.fl_bitpacking.specs.Blocks.{block_item}
use Rattle.fl_bitpacking.proofs.Natives.{block_item_read, value_filled}
use Rattle.fl_bitpacking.proofs.bit_packed.unpack_patterns.Goals as goal

pub loop-i-preserved : goal.loop-i-preserved
loop-i-preserved g c =
    let whole = c.loop-i.invariant.whole in
    let more = c.loop-i-test.true in
    let inside : c.loop-i.i < length c.loop-i.items = omega arith in
    record {
      done = value_filled g.T.Number.value (block_item g.T.NativePType.PTYPE c.args.width c.args.block.now) c.loop-i.items c.loop-i.i c.from_physical.result inside c.loop-i.invariant.done
          (block_item_read g.T.Physical.FastLanes.pattern g.T.NativePType.PTYPE g.T.Physical.FastLanes.T g.T.Physical.FastLanes.LANES c.args.width c.unpack_bytes.new.items c.args.block.now c.loop-i.i _ _ g.met.T.Physical.FastLanes.shape g.met.T.PhysicalPType.width_law
          (omega arith) c.index-patterns-i.is c.unpack_bytes.ensures.items c.unpack_bytes.ensures.whole (c.from_physical.ensures ∙ ap (λ w. read_as g.T.NativePType.PTYPE (g.T.Physical.FastLanes.pattern w)) (sym c.index-patterns-i.is)));
      whole = rw length-set whole;
    }
