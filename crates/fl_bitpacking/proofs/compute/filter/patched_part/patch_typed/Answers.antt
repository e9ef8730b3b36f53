use Rattle.std.proofs.Common.{◌+◌, ◌/◌, ◌∙◌, length, map, [], arith, option_map, unwrap_or, ap}
use Rattle.fl_patches.specs.PatchMaps.{patched}
use Rattle.fl_patches.proofs.Slices.{before_within}
use Rattle.fl_bitpacking.specs.Blocks.{value_at}
use Rattle.fl_bitpacking.specs.BlockSums.{plus_block_reference}
use Rattle.fl_bitpacking.proofs.BlockSums.{patch_plus_none}
use Rattle.fl_bitpacking.proofs.compute.filter.patched_part.patch_typed.Goals as goal

pub patches_between-placed-requires-clause-within : goal.patches_between-placed-requires-clause-within
patches_between-placed-requires-clause-within g c =
    let most = before_within c.args.patches.now (c.args.from + length c.args.items.now) in
    let last = c.requires.after in
    omega arith

pub write_values-requires-clause-placed : goal.write_values-requires-clause-placed
write_values-requires-clause-placed g c = c.patches_between-placed.ensures.placed (length c.args.items.now) c.requires.after

pub returns : goal.returns
returns g c i h =
    let was = value_at g.T.Number.value c.args.items.now i in
    let item = plus_block_reference g.T.NativePType.PTYPE (map g.T.Number.value []) ((0 + i) / 1024) in
    c.write_values.ensures i h
    ∙ (ap (λ o. unwrap_or (option_map item o) was) (c.patches_between-placed.ensures.values (length c.args.items.now) i c.requires.after h)
    ∙ ap (λ o. unwrap_or o was) (patch_plus_none g.T.NativePType.PTYPE ((0 + i) / 1024) (patched c.args.patches.now (c.args.from + i))))
