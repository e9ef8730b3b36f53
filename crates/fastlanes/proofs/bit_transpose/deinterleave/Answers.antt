use Rattle.std.proofs.Common.{arith}
use Rattle.fastlanes.proofs.Deinterleaved.{deinterleaved_more, part_size}
use Rattle.fastlanes.proofs.bit_transpose.deinterleave.Goals as goal

pub loop-k-preserved : goal.loop-k-preserved
loop-k-preserved c = record {
  moved = λ n h.
      let put = c.deinterleave_bytes.ensures in
      deinterleaved_more c.args.source.now c.loop-k.bytes c.deinterleave_bytes.new.bytes c.args.size c.loop-k.k n (part_size c.args.size c.requires) (omega arith) h c.loop-k.invariant.moved put.evens put.odds put.others;
  whole = omega arith;
}
