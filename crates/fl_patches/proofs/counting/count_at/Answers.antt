use Rattle.std.proofs.Common.{◌≡◌, ◌≤◌, ◌<◌, ◌-◌, ◌+◌, length, get_or, arith, refl, ap, ◌∙◌}
use Rattle.fl_types.specs.Integers.{bits_of_type}
use Rattle.fl_patches.proofs.BitCounts.{type_most}
use Rattle.fl_patches.proofs.Histograms.{counts_fit, counts_next, counts_room, length-histogram}
use Rattle.fl_patches.proofs.counting.count_at.Goals as goal

pub offset_bounds-entries-bits : goal.offset_bounds-entries-bits
offset_bounds-entries-bits g c =
    let room : c.bits_at-bits.result < length c.args.entries.now = counts_room g.S.CountedItems.PTYPE _ _ c.bits_at-bits.result c.args.entries.now c.bits_at-bits.ensures c.requires.counted in
    let long : length c.args.entries.now ≡ bits_of_type g.S.CountedItems.PTYPE + 1 = ap length c.requires.counted ∙ length-histogram g.S.CountedItems.PTYPE _ in
    omega (arith, type_most g.S.CountedItems.PTYPE)

pub bounds-entries-bits : goal.bounds-entries-bits
bounds-entries-bits g c = counts_room g.S.CountedItems.PTYPE _ _ c.bits_at-bits.result c.args.entries.now c.bits_at-bits.ensures c.requires.counted

pub overflow_add-entries : goal.overflow_add-entries
overflow_add-entries g c =
    let few : get_or c.args.entries.now c.bits_at-bits.result 0 ≤ c.args.i - c.args._start = counts_fit g.S.CountedItems.PTYPE (g.S.CountedItems.items c.args.items.now) c.args._start c.args.i c.bits_at-bits.result c.args.entries.now c.requires.counted in
    omega (arith, c.prove_few.ensures, c.requires.range)

pub bounds-entries-bits-2 : goal.bounds-entries-bits-2
bounds-entries-bits-2 g c = counts_room g.S.CountedItems.PTYPE _ _ c.bits_at-bits.result c.args.entries.now c.bits_at-bits.ensures c.requires.counted

pub returns : goal.returns
returns g c =
    counts_next g.S.CountedItems.PTYPE (g.S.CountedItems.items c.args.items.now) c.args._start c.args.i c.bits_at-bits.result _ c.args.entries.now c.requires.order c.requires.range c.bits_at-bits.ensures refl c.requires.counted
