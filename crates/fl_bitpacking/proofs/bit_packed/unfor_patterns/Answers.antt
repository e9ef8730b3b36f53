use Rattle.std.proofs.Common.{ℕ, ◌<◌, ◌+ℤ◌, ◌∙◌, ap, sym, length, length-set, arith}
use Rattle.fl_types.specs.Integers.{read_as, wrap}
use Rattle.fl_bitpacking.specs.Blocks.{block_item}
use Rattle.fl_bitpacking.proofs.BlockSums.{sum_of_word}
use Rattle.fl_bitpacking.proofs.Natives.{value_filled}
use Rattle.fl_bitpacking.proofs.bit_packed.unfor_patterns.Goals as goal

pub loop-i-preserved : goal.loop-i-preserved
loop-i-preserved g c =
    let value = g.T.Number.value in
    let ptype = g.T.NativePType.PTYPE in
    let pattern = g.T.Physical.FastLanes.pattern in
    let reference = value c.args.reference in
    let whole = c.loop-i.invariant.whole in
    let more = c.loop-i-test.true in
    let inside : c.loop-i.i < length c.loop-i.items = omega arith in
    let word = c.index-patterns-i in
    record {
      done = value_filled value (λ (k : ℕ). wrap ptype (block_item ptype c.args.width c.args.block.now k +ℤ reference)) c.loop-i.items c.loop-i.i c.from_physical.result inside c.loop-i.invariant.done
          (sum_of_word pattern ptype g.T.Physical.FastLanes.T g.T.Physical.FastLanes.LANES c.args.width c.unfor_pack_bytes.new.items c.args.block.now _ reference c.loop-i.i _ _ g.met.T.Physical.FastLanes.shape g.met.T.PhysicalPType.width_law c.requires.width
          (omega arith) word.is c.unfor_pack_bytes.ensures.items c.unfor_pack_bytes.ensures.whole c.to_physical.ensures (c.from_physical.ensures ∙ ap (λ w. read_as ptype (pattern w)) (sym word.is)));
      whole = rw length-set whole;
    }
