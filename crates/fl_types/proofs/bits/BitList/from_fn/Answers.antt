use Rattle.std.proofs.Common.{◌*◌, ◌-◌, ◌%◌, ◌<◌, arith}
use Rattle.std.proofs.lemmas.List.{length_push}
use Rattle.fl_types.proofs.BitLists.{words_more, each_first_bit, length_first_bits}
use Rattle.fl_types.proofs.bits.BitList.from_fn.Goals as goal

pub loop-k-preserved : goal.loop-k-preserved
loop-k-preserved g c = record {
  count = rw c.in_ok-push.ensures.items (omega (arith, length_push c.loop-k.words.items c.word_of.result));
  bits = λ i h. rw c.in_ok-push.ensures.items (words_more (λ i b. goal.F-post g c.args.bit i b) _ c.word_of.result c.loop-k.k (64 * c.loop-k.k) 64 c.loop-k.invariant.count (omega arith) (omega arith) c.loop-k.invariant.bits c.word_of.ensures i (omega arith));
}

pub returns-in-0-clause-len : goal.returns-in-0-clause-len
returns-in-0-clause-len g c = length_first_bits _ _

pub returns-in-0-clause-bits : goal.returns-in-0-clause-bits
returns-in-0-clause-bits g c = each_first_bit (λ i b. goal.F-post g c.args.bit i b) _ _ (λ i h. c.loop-k.invariant.bits i (omega arith))

pub returns-clause-len : goal.returns-clause-len
returns-clause-len g c = length_first_bits _ _

pub returns-clause-bits : goal.returns-clause-bits
returns-clause-bits g c = each_first_bit (λ i b. goal.F-post g c.args.bit i b) _ _ (λ i h.
    let below : i < c.args.len = h in
    rw c.in_ok-push-in_default.ensures.items (words_more (λ i b. goal.F-post g c.args.bit i b) _ c.word_of-in_default.result c.loop-k.k (c.args.len - c.args.len % 64) (c.args.len % 64) c.loop-k.invariant.count (omega arith) (omega arith) c.loop-k.invariant.bits c.word_of-in_default.ensures i (omega arith)))
