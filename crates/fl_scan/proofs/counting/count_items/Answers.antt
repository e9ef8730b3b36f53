use Rattle.std.proofs.Common.{◌≡◌, ℕ, ◌+◌, ◌-◌, ◌*◌, ap, arith, drop, length, map, min, take}
use Rattle.std.proofs.lemmas.List.{length-drop, length-take}
use Rattle.std.proofs.Math.Path.{subst}
use Rattle.fl_types.specs.Bits.{bit_of_word}
use Rattle.fl_scan.specs.Counts.{both, count_below, marked_from, passed_in}
use Rattle.fl_scan.proofs.CountingLaws.{few_below, items_more, reaches_fewer}
use Rattle.fl_scan.proofs.counting.count_items.Goals as goal

pub overflow_add-start : goal.overflow_add-start
overflow_add-start g c =
    let more = c.loop-k-test.true in
    let words = c.div_ceil-k-end.ensures in
    let few = c.requires.few in
    omega arith

pub marks_from-word-requires-clause-within : goal.marks_from-word-requires-clause-within
marks_from-word-requires-clause-within g c =
    let more = c.loop-k-test.true in
    let words = c.div_ceil-k-end.ensures in
    let part = c.min-part.ensures in
    reaches_fewer c.args.marks.now (c.args.start + length c.args.items.now) _ (omega arith) c.requires.within

pub overflow_add-total : goal.overflow_add-total
overflow_add-total g c =
    let value = g.T.Number.value in
    let xs = c.args.items.now in
    let k = c.loop-k.k in
    let n = c.min-part.result in
    let n_is = c.min-part.ensures in
    let more = c.loop-k-test.true in
    let words = c.div_ceil-k-end.ensures in
    let few = c.requires.few in
    let so_far = c.loop-k.invariant.1 in
    let part = take (64 * k + n - 64 * k) (drop (64 * k) xs) in
    let left = length-drop (64 * k) xs in
    let long = length-take (64 * k + n - 64 * k) (drop (64 * k) xs) in
    let most = few_below (both (bit_of_word c.marks_from-word.result) (passed_in (g.P.ItemTest.passing c.args.test) (map value part))) (length part) in
    let counted = c.count_word-total.ensures in
    omega arith

pub loop-k-preserved : goal.loop-k-preserved
loop-k-preserved g c =
    let value = g.T.Number.value in
    let xs = c.args.items.now in
    let k = c.loop-k.k in
    let n = c.min-part.result in
    let n_is = c.min-part.ensures in
    let more = c.loop-k-test.true in
    let words = c.div_ceil-k-end.ensures in
    let part = take (64 * k + n - 64 * k) (drop (64 * k) xs) in
    let f = both (marked_from c.args.marks.now c.args.start) (passed_in (g.P.ItemTest.passing c.args.test) (map value xs)) in
    let size : 64 * k + n - 64 * k ≡ n = omega arith in
    let now : min (64 * k) (length xs) ≡ 64 * k = omega arith in
    let next : 64 * k + n ≡ min (64 * (k + 1)) (length xs) = omega arith in
    let step = items_more value (g.P.ItemTest.passing c.args.test) xs part c.args.marks.now c.args.start k n c.loop-k.total c.marks_from-word.result c.count_word-total.result (omega arith) n_is (ap (λ m. take m (drop (64 * k) xs)) size) c.marks_from-word.ensures.bits c.count_word-total.ensures
    (subst (λ (m : ℕ). c.loop-k.total ≡ count_below f m) now c.loop-k.invariant.0) in
    let few = few_below f (64 * k + n) in
    (subst (λ (m : ℕ). c.loop-k.total + c.count_word-total.result ≡ count_below f m) next step, omega arith)

pub returns : goal.returns
returns g c =
    let xs = c.args.items.now in
    let ended = c.loop-k-test.false in
    let words = c.div_ceil-k-end.ensures in
    let f = both (marked_from c.args.marks.now c.args.start) (passed_in (g.P.ItemTest.passing c.args.test) (map g.T.Number.value xs)) in
    let all : min (64 * c.loop-k.k) (length xs) ≡ length xs = omega arith in
    subst (λ (m : ℕ). c.loop-k.total ≡ count_below f m) all c.loop-k.invariant.0
