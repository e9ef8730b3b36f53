use Rattle.std.proofs.Common.{◌≡◌, [], ap, ◌*◌, ◌+◌, arith, bit_and, length, min}
use Rattle.fl_scan.proofs.MarkLaws.{both_more, length_more}
use Rattle.fl_scan.proofs.marks.both_true.Goals as goal

pub loop-k-init : goal.loop-k-init
loop-k-init c =
    let empty : c.in_ok-both.both ≡ [] = cc (c.in_ok-both.ensures) in
    let none : length c.in_ok-both.both ≡ 0 = ap length empty in
    record { long = omega arith; bits = λ i h. absurd (omega arith) }

pub loop-k-preserved : goal.loop-k-preserved
loop-k-preserved c =
    let first = c.args.first.now in
    let second = c.args.second.now in
    let k = c.loop-k.k in
    let count = c.min-count.result in
    let more = c.loop-k-test.true in
    let words = c.div_ceil-k-end.ensures in
    let len = c.len-len.ensures in
    let here = c.min-count.ensures in
    let now : min (64 * k) (length first) ≡ 64 * k = omega arith in
    let next : min (64 * (k + 1)) (length first) ≡ 64 * k + count = omega arith in
    let long : length c.loop-k.both ≡ 64 * k = (let so_far = c.loop-k.invariant.long in omega arith) in
    let grown = length_more c.loop-k.both c.push_word.new.self (bit_and c.word-left.result c.word-right.result) count c.in_ok-push_word.ensures.ok in
    record {
      long = omega arith;
      bits = λ i h. both_more first second c.loop-k.both c.push_word.new.self k count c.word-left.result c.word-right.result (omega arith) long c.word-left.ensures c.word-right.ensures c.in_ok-push_word.ensures.ok
          (λ n below. c.loop-k.invariant.bits n (omega arith)) i (omega arith);
    }
