use Rattle.std.proofs.Common.{◌≡◌, ℕ, ◌+◌, ◌*◌, ◌++◌, arith, bit_and, min}
use Rattle.std.proofs.Math.Path.{subst}
use Rattle.fl_types.specs.Bits.{bit_of_word, tabulate}
use Rattle.fl_scan.specs.Counts.{answered_from, both, marked_from}
use Rattle.fl_scan.proofs.CountingLaws.{reaches_fewer}
use Rattle.fl_scan.proofs.PassingLaws.{pushed_more, word_answered}
use Rattle.fl_scan.proofs.passing.push_answers.Goals as goal

pub marks_from-word-requires-clause-within : goal.marks_from-word-requires-clause-within
marks_from-word-requires-clause-within c =
    let more = c.loop-k-test.true in
    let words = c.div_ceil-k-end.ensures in
    let count = c.min-count.ensures in
    reaches_fewer c.args.marks.now (c.args.part.start + c.args.part.count) _ (omega arith) c.requires.within

pub loop-k-preserved : goal.loop-k-preserved
loop-k-preserved c =
    let k = c.loop-k.k in
    let count = c.min-count.result in
    let count_is = c.min-count.ensures in
    let more = c.loop-k-test.true in
    let words = c.div_ceil-k-end.ensures in
    let room = c.requires.inside in
    let part = c.args.part in
    let old = c.args.bits.now in
    let w = c.marks_from-word.result in
    let a = c.answers_from.result in
    let f = both (marked_from c.args.marks.now part.start) (answered_from c.args.answers.now part.at) in
    let now : min (64 * k) part.count ≡ 64 * k = omega arith in
    let next : 64 * k + count ≡ min (64 * (k + 1)) part.count = omega arith in
    subst (λ (n : ℕ). c.push_word.new.self ≡ old ++ tabulate f n) next
    (pushed_more f (bit_of_word (bit_and w a)) old c.loop-k.bits c.push_word.new.self (64 * k) count (subst (λ (n : ℕ). c.loop-k.bits ≡ old ++ tabulate f n) now c.loop-k.invariant) c.in_ok-push_word.ensures.ok
    (word_answered c.args.marks.now part.start c.args.answers.now part.at k count w a c.marks_from-word.ensures.bits c.answers_from.ensures (omega arith) (omega arith)))

pub returns-clause-pushed : goal.returns-clause-pushed
returns-clause-pushed c =
    let ended = c.loop-k-test.false in
    let words = c.div_ceil-k-end.ensures in
    let f = both (marked_from c.args.marks.now c.args.part.start) (answered_from c.args.answers.now c.args.part.at) in
    let all : min (64 * c.loop-k.k) c.args.part.count ≡ c.args.part.count = omega arith in
    subst (λ (n : ℕ). c.loop-k.bits ≡ c.args.bits.now ++ tabulate f n) all c.loop-k.invariant
