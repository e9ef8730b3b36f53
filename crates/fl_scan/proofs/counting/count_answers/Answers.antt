use Rattle.std.proofs.Common.{◌≡◌, ℕ, ◌+◌, ◌*◌, arith, count_ones, bit_and, min}
use Rattle.std.proofs.Math.Path.{subst}
use Rattle.fl_scan.specs.Counts.{answered_from, both, count_below, marked_from}
use Rattle.fl_scan.proofs.CountingLaws.{answered_more, few_below, reaches_fewer}
use Rattle.fl_scan.proofs.counting.count_answers.Goals as goal

pub overflow_add-start : goal.overflow_add-start
overflow_add-start c =
    let more = c.loop-k-test.true in
    let words = c.div_ceil-k-end.ensures in
    let few = c.requires.few in
    omega arith

pub marks_from-word-requires-clause-within : goal.marks_from-word-requires-clause-within
marks_from-word-requires-clause-within c =
    let more = c.loop-k-test.true in
    let words = c.div_ceil-k-end.ensures in
    let part = c.min-part.ensures in
    reaches_fewer c.args.marks.now (c.args.start + c.args.count) _ (omega arith) c.requires.within

pub loop-k-preserved : goal.loop-k-preserved
loop-k-preserved c =
    let k = c.loop-k.k in
    let part = c.min-part.result in
    let part_is = c.min-part.ensures in
    let more = c.loop-k-test.true in
    let words = c.div_ceil-k-end.ensures in
    let room = c.requires.inside in
    let f = both (marked_from c.args.marks.now c.args.start) (answered_from c.args.answers.now c.args.at) in
    let now : min (64 * k) c.args.count ≡ 64 * k = omega arith in
    let next : 64 * k + part ≡ min (64 * (k + 1)) c.args.count = omega arith in
    let step = answered_more c.args.marks.now c.args.start c.args.answers.now c.args.at k part c.loop-k.total c.marks_from-word.result c.answers_from.result c.marks_from-word.ensures.bits c.marks_from-word.ensures.clear c.answers_from.ensures (omega arith) (omega arith)
    (subst (λ (n : ℕ). c.loop-k.total ≡ count_below f n) now c.loop-k.invariant.0) in
    let few = few_below f (64 * k + part) in
    (subst (λ (n : ℕ). c.loop-k.total + count_ones (bit_and c.marks_from-word.result c.answers_from.result) ≡ count_below f n) next step, omega arith)

pub returns : goal.returns
returns c =
    let ended = c.loop-k-test.false in
    let words = c.div_ceil-k-end.ensures in
    let f = both (marked_from c.args.marks.now c.args.start) (answered_from c.args.answers.now c.args.at) in
    let all : min (64 * c.loop-k.k) c.args.count ≡ c.args.count = omega arith in
    subst (λ (n : ℕ). c.loop-k.total ≡ count_below f n) all c.loop-k.invariant.0
