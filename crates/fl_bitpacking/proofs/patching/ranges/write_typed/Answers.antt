use Rattle.std.proofs.Common.{◌∙◌, ◌+◌, ◌/◌, ap, length, map, option_map, unwrap_or}
use Rattle.fl_bitpacking.specs.Blocks.{value_at}
use Rattle.fl_bitpacking.specs.BlockSums.{plus_block_reference}
use Rattle.fl_bitpacking.proofs.patching.ranges.write_typed.Goals as goal

pub write_values-requires-clause-placed : goal.write_values-requires-clause-placed
write_values-requires-clause-placed g c = c.patches_between-placed.ensures.placed (length c.args.items.now) c.count_typed-after.ensures.count

pub returns : goal.returns
returns g c i h =
    c.write_values.ensures i h
    ∙ ap (λ o. unwrap_or (option_map (plus_block_reference g.T.NativePType.PTYPE (map g.T.Number.value c.args.references.now) ((c.args.first + i) / 1024)) o) (value_at g.T.Number.value c.args.items.now i))
    (c.patches_between-placed.ensures.values (length c.args.items.now) i c.count_typed-after.ensures.count h)
