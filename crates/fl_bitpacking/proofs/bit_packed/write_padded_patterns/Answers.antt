use Rattle.std.proofs.Common.{◌<◌, ◌∙◌, sym, length, length-set, map, arith}
use Rattle.fastlanes.proofs.Patterns.{pattern_filled}
use Rattle.fl_bitpacking.specs.Blocks.{pattern_in}
use Rattle.fl_bitpacking.proofs.Natives.{pattern_in_past}
use Rattle.fl_bitpacking.proofs.bit_packed.write_padded_patterns.Goals as goal

pub loop-j-init : goal.loop-j-init
unfolding pattern_in
loop-j-init g c = record { done = c.write_patterns.ensures.block; whole = c.write_patterns.ensures.whole }

pub loop-j-preserved : goal.loop-j-preserved
loop-j-preserved g c =
    let few = c.requires in
    let whole = c.loop-j.invariant.whole in
    let more = c.loop-j-test.true in
    let inside : c.loop-j.j < length c.loop-j.patterns = omega arith in
    record {
      done = pattern_filled g.T.Physical.FastLanes.pattern (pattern_in g.T.NativePType.PTYPE (map g.T.Number.value c.args.items.now)) c.loop-j.patterns c.loop-j.j c.zero.result inside c.loop-j.invariant.done
          (c.zero.ensures ∙ sym (pattern_in_past g.T.Number.value g.T.NativePType.PTYPE c.args.items.now c.loop-j.j (omega arith)));
      whole = rw length-set whole;
    }
