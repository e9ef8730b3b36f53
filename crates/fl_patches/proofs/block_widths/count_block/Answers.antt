use Rattle.std.proofs.Common.{◌≡◌, ◌≤◌, ◌+◌, ◌-◌, length, get_or, map, ap, ◌∙◌, arith, refl}
use Rattle.fl_types.specs.Integers.{bits_of_type}
use Rattle.fl_types.specs.Validities.{items_of}
use Rattle.fl_patches.proofs.Histograms.{counts_fit, length-histogram}
use Rattle.fl_patches.proofs.LeastTotals.{block_counted}
use Rattle.fl_patches.proofs.block_widths.count_block.Goals as goal

pub overflow_add-entries : goal.overflow_add-entries
overflow_add-entries g c =
    let few : get_or c.count_items.new.entries 0 0 ≤ c.chunk_bounds-start.result.1 - c.chunk_bounds-start.result.0 = counts_fit g.T.NativePType.PTYPE (items_of c.args.validity.now (map g.T.Number.value c.args.items.now)) c.chunk_bounds-start.result.0 c.chunk_bounds-start.result.1 0 c.count_items.new.entries c.count_items.ensures in
    let start = c.chunk_bounds-start.ensures.start in
    let end = c.chunk_bounds-start.ensures.end in
    omega arith

pub returns : goal.returns
returns g c = block_counted g.T.NativePType.PTYPE g.T.Number.value c.args.validity.now c.args.items.now c.args.block c.chunk_bounds-start.result.0 c.chunk_bounds-start.result.1 _ c.count_items.new.entries c.requires.covers c.requires.begun c.chunk_bounds-start.ensures.start c.chunk_bounds-start.ensures.end c.count_items.ensures refl

pub bounds-entries-0 : goal.bounds-entries-0
bounds-entries-0 g c =
    let long : length c.count_items.new.entries ≡ bits_of_type g.T.NativePType.PTYPE + 1 = ap length c.count_items.ensures ∙ length-histogram g.T.NativePType.PTYPE _ in
    omega arith

pub bounds-entries-0-2 : goal.bounds-entries-0-2
bounds-entries-0-2 g c =
    let long : length c.count_items.new.entries ≡ bits_of_type g.T.NativePType.PTYPE + 1 = ap length c.count_items.ensures ∙ length-histogram g.T.NativePType.PTYPE _ in
    omega arith
