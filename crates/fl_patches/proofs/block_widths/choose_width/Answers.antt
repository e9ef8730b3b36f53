use Rattle.std.proofs.Common.{◌≡◌, ◌≤◌, ◌+◌, ap, ◌∙◌, arith, length, map}
use Rattle.fl_types.specs.Integers.{bits_of_type}
use Rattle.fl_types.specs.Validities.{items_of}
use Rattle.fl_patches.specs.Costs.{count_above}
use Rattle.fl_patches.proofs.BitCounts.{type_most}
use Rattle.fl_patches.proofs.LeastTotals.{above_few, length-block_histogram}
use Rattle.fl_patches.proofs.block_widths.choose_width.Goals as goal

pub best_of-requires-clause-entries : goal.best_of-requires-clause-entries
best_of-requires-clause-entries g c =
    let t = g.T.NativePType.PTYPE in
    let long : length c.count_block.new.entries ≡ bits_of_type t + 1 = ap length c.count_block.ensures ∙ length-block_histogram t (items_of c.args.validity.now (map g.T.Number.value c.args.items.now)) c.args.block in
    omega (arith, type_most t)

pub best_of-requires-clause-few : goal.best_of-requires-clause-few
best_of-requires-clause-few g c = λ width.
    let few : count_above width c.count_block.new.entries ≤ 1024 = above_few g.T.NativePType.PTYPE width (items_of c.args.validity.now (map g.T.Number.value c.args.items.now)) c.args.block c.count_block.new.entries c.count_block.ensures in
    omega arith
