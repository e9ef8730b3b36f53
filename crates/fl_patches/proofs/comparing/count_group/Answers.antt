use Rattle.std.proofs.Common.{◌≤◌, ◌-◌, ◌∙◌, Some, length, map, take, drop, get_or, ap, sym, arith, length-take}
use Rattle.fl_patches.specs.Exceptions.{count_with_bits}
use Rattle.fl_patches.proofs.Comparisons.{counted_part, group_items}
use Rattle.fl_patches.proofs.Histograms.{counts_fit, length-histogram}
use Rattle.fl_patches.proofs.comparing.count_group.Goals as goal

pub count_bits-requires-clause-few : goal.count_bits-requires-clause-few
count_bits-requires-clause-few g c = omega (arith, length-take (c.args.to - c.args.from) (drop c.args.from c.args.items.now), c.requires.few)

pub count_bits-requires-clause-long : goal.count_bits-requires-clause-long
count_bits-requires-clause-long g c = ap length c.requires.counted ∙ length-histogram g.T.NativePType.PTYPE _

pub count_bits-requires-clause-room : goal.count_bits-requires-clause-room
count_bits-requires-clause-room g c = λ b.
    let t = g.T.NativePType.PTYPE in
    let items = map (λ z. Some z) (map g.T.Number.value c.args.items.now) in
    let few : get_or c.args.entries.now b 0 ≤ c.args.from - c.args._start = counts_fit t items c.args._start c.args.from b c.args.entries.now c.requires.counted in
    omega (arith, length-take (c.args.to - c.args.from) (drop c.args.from c.args.items.now))

pub returns : goal.returns
returns g c =
    let t = g.T.NativePType.PTYPE in
    let value = g.T.Number.value in
    let items = map (λ z. Some z) (map value c.args.items.now) in
    counted_part t items c.args._start c.args.from c.args.to (count_with_bits t (map (λ z. Some z) (map value (take (c.args.to - c.args.from) (drop c.args.from c.args.items.now))))) c.args.entries.now c.count_bits.new.entries c.requires.start c.requires.order c.count_bits.ensures.long c.requires.counted
    (λ b. ap (λ xs. count_with_bits t xs b) (sym (group_items value c.args.items.now c.args.from c.args.to))) c.count_bits.ensures.counts
