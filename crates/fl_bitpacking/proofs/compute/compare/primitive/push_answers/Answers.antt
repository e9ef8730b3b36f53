use Rattle.std.proofs.Common.{◌≡◌, ◌+◌, ◌*◌, length, map, min, arith, rules}
use Rattle.std.proofs.lemmas.List.{length-map}
use Rattle.fl_bitpacking.specs.RangeTests.{passes}
use Rattle.fl_bitpacking.proofs.AnswerWords.{all_answered, none_answered, word_answered}
use Rattle.fl_bitpacking.proofs.compute.compare.primitive.push_answers.Goals as goal

pub loop-k-init : goal.loop-k-init
loop-k-init g c = none_answered (passes c.args.range) (map g.T.Number.value c.args.items.now) c.args.answers.now (min (64 * 0) (length c.args.items.now)) (omega arith)

pub loop-k-preserved : goal.loop-k-preserved
loop-k-preserved g c =
    let value = g.T.Number.value in
    let items = c.args.items.now in
    let zs = map value items in
    let long = length-map items value in
    let at = 64 * c.loop-k.k in
    let count = c.min-count.result in
    let here = c.min-count.ensures in
    let more = c.loop-k-test.true in
    let ended = c.div_ceil-k-end.ensures in
    let now : min (64 * c.loop-k.k) (length items) ≡ at = omega arith in
    let next : min (64 * (c.loop-k.k + 1)) (length items) ≡ at + count = omega arith in
    rw next (word_answered (passes c.args.range) zs c.args.answers.now c.loop-k.answers c.push_word.new.self c.word_of.result at count (omega arith) (λ j h. let e = c.word_of.ensures j h in search rules)
    (rw now at c.loop-k.invariant) c.in_ok-push_word.ensures.ok)

pub returns-clause-answers : goal.returns-clause-answers
returns-clause-answers g c =
    let value = g.T.Number.value in
    let items = c.args.items.now in
    let long = length-map items value in
    let past = c.loop-k-test.false in
    let ended = c.div_ceil-k-end.ensures in
    all_answered (passes c.args.range) (map value items) c.args.answers.now c.loop-k.answers (min (64 * c.loop-k.k) (length items)) (omega arith) c.loop-k.invariant
