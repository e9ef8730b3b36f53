use Rattle.std.proofs.Common.{◌≡◌, ◌∙◌, ◌+◌, ◌-◌, ◌*◌, ◌<◌, ◌≤◌, ◌^◌, ap, arith, drop, length, map, rules, take, SFits}
use Rattle.std.proofs.lemmas.List.{length-map, take_all}
use Rattle.std.specs.Int.{int_wrap, w128}
use Rattle.fl_scan.specs.Totals.{total}
use Rattle.fl_scan.proofs.StepLaws.{block_total, sum_of_bits}
use Rattle.fl_scan.proofs.folds.total.total_of.Goals as goal

pub loop-k-preserved : goal.loop-k-preserved
loop-k-preserved g c =
    let value = g.T.Number.value in
    let xs = c.args.items.now in
    let k = c.loop-k.k in
    let count = c.min-count.result in
    let size : 1024 * k + count - 1024 * k ≡ count = omega arith in
    let part = take (1024 * k + count - 1024 * k) (drop (1024 * k) xs) in
    let fits : SFits w128 c.total_of_block-total.result = search rules in
    let small : c.loop-k.total-bits < 2 ^ 128 = search rules in
    sum_of_bits c.loop-k.total-bits c.total_of_block-total.result (total (take (1024 * k) (map value xs))) (total (map value part)) small fits (let so_far = c.loop-k.invariant in let is = c.loop-k.total-is in cc) (ap (int_wrap w128) c.total_of_block-total.ensures)
    ∙ ap (int_wrap w128) (block_total value xs part k count c.min-count.ensures (ap (λ n. take n (drop (1024 * k) xs)) size))

pub returns : goal.returns
returns g c =
    let value = g.T.Number.value in
    let xs = c.args.items.now in
    let ended = c.loop-k-test.false in
    let blocks = c.div_ceil-k-end.ensures in
    let long = length-map xs value in
    let past : length (map value xs) ≤ 1024 * c.loop-k.k = omega arith in
    c.loop-k.invariant ∙ ap (λ ys. int_wrap w128 (total ys)) (take_all (1024 * c.loop-k.k) (map value xs) past)
