use Rattle.std.proofs.Common.{◌≡◌, ◌+◌, ◌*◌, ◌≤◌, ◌∙◌, count_ones, min, ap, sym, arith}
use Rattle.fl_types.specs.Bits.{between, true_count}
use Rattle.fl_bitpacking.proofs.MaskWords.{count_fits, count_of_word}
use Rattle.fl_bitpacking.proofs.compute.filter.kept_items.count_between.Goals as goal

pub overflow_add-set : goal.overflow_add-set
overflow_add-set c =
    let bits = c.args.bits.now in
    let from = c.args.from in
    let at = 64 * c.loop-k.k in
    let here = c.min.ensures in
    let more = c.loop-k-test.true in
    let ended = c.div_ceil-k-end.ensures in
    let inside = c.requires in
    let now : min (64 * c.loop-k.k) c.args.count ≡ at = omega arith in
    let most : c.loop-k.set + count_ones c.word_from-word.result ≤ at + c.min.result =
    count_fits bits from at c.min.result c.word_from-word.result c.loop-k.set (omega arith) c.word_from-word.ensures.bits c.word_from-word.ensures.clear (c.loop-k.invariant ∙ ap (λ m. true_count (between from (from + m) bits)) now) in
    omega arith

pub loop-k-preserved : goal.loop-k-preserved
loop-k-preserved c =
    let bits = c.args.bits.now in
    let from = c.args.from in
    let at = 64 * c.loop-k.k in
    let here = c.min.ensures in
    let more = c.loop-k-test.true in
    let ended = c.div_ceil-k-end.ensures in
    let inside = c.requires in
    let now : min (64 * c.loop-k.k) c.args.count ≡ at = omega arith in
    let next : min (64 * (c.loop-k.k + 1)) c.args.count ≡ at + c.min.result = omega arith in
    count_of_word bits from at c.min.result c.word_from-word.result c.loop-k.set (omega arith) c.word_from-word.ensures.bits c.word_from-word.ensures.clear (c.loop-k.invariant ∙ ap (λ m. true_count (between from (from + m) bits)) now)
    ∙ ap (λ m. true_count (between from (from + m) bits)) (sym next)

pub returns : goal.returns
returns c =
    let past = c.loop-k-test.false in
    let ended = c.div_ceil-k-end.ensures in
    let all : min (64 * c.loop-k.k) c.args.count ≡ c.args.count = omega arith in
    c.loop-k.invariant ∙ ap (λ m. true_count (between c.args.from (c.args.from + m) c.args.bits.now)) all
