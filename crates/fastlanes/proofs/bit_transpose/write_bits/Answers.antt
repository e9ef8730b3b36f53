use Rattle.std.proofs.Common.{◌∙◌, arith, length-set}
use Rattle.fastlanes.proofs.TransposedBits.{doubled_none, doubled_more, doubled_top, words_more}
use Rattle.fastlanes.proofs.bit_transpose.write_bits.Goals as goal

pub loop-s-init : goal.loop-s-init
loop-s-init c = record {
  low = doubled_none c.args.bytes.now 0 (omega arith) (λ k. (c.type_inv.bytes k).fits);
  high = doubled_none c.args.bytes.now 64 (omega arith) (λ k. (c.type_inv.bytes k).fits);
  done = λ j m h p q. absurd (omega arith);
  whole = c.told-output;
}

pub loop-s-preserved : goal.loop-s-preserved
loop-s-preserved c = record {
  low = doubled_more c.args.bytes.now c.loop-s.low 0 c.loop-s.s c.loop-s.invariant.low;
  high = doubled_more c.args.bytes.now c.loop-s.high 64 c.loop-s.s c.loop-s.invariant.high;
  done = λ j m h p q.
      let before = c.loop-s.invariant in
      words_more c.args.bytes.now c.loop-s.output c.loop-s.s c.top_bits.result c.top_bits-in-loop-s.result j m (omega arith) before.whole h p q
      (c.top_bits.ensures m q ∙ doubled_top c.args.bytes.now c.loop-s.low 0 c.loop-s.s m before.low (omega arith) q)
      (c.top_bits-in-loop-s.ensures m q ∙ doubled_top c.args.bytes.now c.loop-s.high 64 c.loop-s.s m before.high (omega arith) q) (λ r. before.done j m h r q);
  whole = rw (length-set, length-set) c.loop-s.invariant.whole;
}
