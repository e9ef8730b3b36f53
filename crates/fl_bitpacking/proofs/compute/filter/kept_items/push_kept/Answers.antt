use Rattle.std.proofs.Common.{◌≡◌, ◌+◌, ◌-◌, ◌*◌, ◌++◌, length, drop, min, arith, length-take, length-drop}
use Rattle.fl_column.specs.Operations.{kept}
use Rattle.fl_bitpacking.proofs.FilteredLaws.{bit_below, nothing_after, word_pushed}
use Rattle.fl_bitpacking.proofs.compute.filter.kept_items.push_kept.Goals as goal

pub push_word-requires-clause-items : goal.push_word-requires-clause-items
push_word-requires-clause-items g c j set =
    let xs = c.args.items.now in
    let at = 64 * c.loop-k.k in
    let inside = bit_below c.word_from-word.result c.min-count.result j c.word_from-word.ensures.clear set in
    let here = c.min-count.ensures in
    let part = length-take c.min-count.result (drop at xs) in
    let rest = length-drop at xs in
    omega arith

pub loop-k-preserved : goal.loop-k-preserved
loop-k-preserved g c =
    let bits = c.args.bits.now in
    let xs = c.args.items.now in
    let from = c.args.from in
    let at = 64 * c.loop-k.k in
    let count = c.min-count.result in
    let here = c.min-count.ensures in
    let more = c.loop-k-test.true in
    let ended = c.div_ceil-k-end.ensures in
    let now : min (64 * c.loop-k.k) (length xs) ≡ at = omega arith in
    let next : min (64 * (c.loop-k.k + 1)) (length xs) ≡ at + count = omega arith in
    let size : at + count - at ≡ count = omega arith in
    rw next (word_pushed bits xs c.loop-k.taken.items c.loop-k.taken.items c.push_word.new.taken.items (c.args.taken.now.items ++ kept (drop from bits) xs) from at count c.word_from-word.result (omega arith) (omega arith) c.requires c.word_from-word.ensures.bits
    (rw size at c.in_ok-push_word.ensures) (rw now at c.loop-k.invariant))

pub returns : goal.returns
returns g c =
    let xs = c.args.items.now in
    let past = c.loop-k-test.false in
    let ended = c.div_ceil-k-end.ensures in
    nothing_after c.args.bits.now xs c.loop-k.taken.items (c.args.taken.now.items ++ kept (drop c.args.from c.args.bits.now) xs) (c.args.from + min (64 * c.loop-k.k) (length xs)) (min (64 * c.loop-k.k) (length xs)) (omega arith) c.loop-k.invariant
