use Rattle.std.proofs.Common.{◌≡◌, ℕ, [], ◌+◌, ◌*◌, arith, bit_and, length, map, min, subst, rules}
use Rattle.fl_types.specs.Bits.{bit_of_word, tabulate}
use Rattle.fl_scan.specs.Counts.{both, marked_from, passed_in}
use Rattle.fl_scan.proofs.CountingLaws.{reaches_fewer}
use Rattle.fl_scan.proofs.PassingLaws.{marks_none, pushed_more, word_passed}
use Rattle.fl_scan.proofs.filtering.passing_items.Goals as goal

pub marks_from-word-requires-clause-within : goal.marks_from-word-requires-clause-within
marks_from-word-requires-clause-within g c =
    let more = c.loop-k-test.true in
    let words = c.div_ceil-k-end.ensures in
    let count = c.min-count.ensures in
    reaches_fewer c.args.marks.now (length c.args.items.now) _ (omega arith) c.requires

pub loop-k-init : goal.loop-k-init
loop-k-init g c =
    let empty : c.in_ok-bits.bits ≡ [] = cc (c.in_ok-bits.ensures) in
    marks_none (both (marked_from c.args.marks.now 0) (passed_in (g.P.ItemTest.passing c.args.test) (map g.T.Number.value c.args.items.now))) c.in_ok-bits.bits (min (64 * 0) (length c.args.items.now)) empty (omega arith)

pub loop-k-preserved : goal.loop-k-preserved
loop-k-preserved g c =
    let k = c.loop-k.k in
    let xs = c.args.items.now in
    let count = c.min-count.result in
    let count_is = c.min-count.ensures in
    let more = c.loop-k-test.true in
    let words = c.div_ceil-k-end.ensures in
    let w = c.marks_from-word.result in
    let a = c.word_of.result in
    let passed = passed_in (g.P.ItemTest.passing c.args.test) (map g.T.Number.value xs) in
    let f = both (marked_from c.args.marks.now 0) passed in
    let now : min (64 * k) (length xs) ≡ 64 * k = omega arith in
    let next : 64 * k + count ≡ min (64 * (k + 1)) (length xs) = omega arith in
    subst (λ (n : ℕ). c.push_word.new.self ≡ tabulate f n) next
    (pushed_more f (bit_of_word (bit_and w a)) [] c.loop-k.bits c.push_word.new.self (64 * k) count (subst (λ (n : ℕ). c.loop-k.bits ≡ tabulate f n) now c.loop-k.invariant) c.in_ok-push_word.ensures.ok
    (word_passed c.args.marks.now passed k count w a c.marks_from-word.ensures.bits (λ j h. let e = c.word_of.ensures j h in search rules)))

pub returns-clause-marks : goal.returns-clause-marks
returns-clause-marks g c =
    let ended = c.loop-k-test.false in
    let words = c.div_ceil-k-end.ensures in
    let xs = c.args.items.now in
    let f = both (marked_from c.args.marks.now 0) (passed_in (g.P.ItemTest.passing c.args.test) (map g.T.Number.value xs)) in
    let all : min (64 * c.loop-k.k) (length xs) ≡ length xs = omega arith in
    subst (λ (n : ℕ). c.loop-k.bits ≡ tabulate f n) all c.loop-k.invariant
