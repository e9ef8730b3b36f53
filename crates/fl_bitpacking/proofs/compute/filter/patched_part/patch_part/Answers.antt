use Rattle.std.proofs.Common.{ap, length}
use Rattle.std.specs.Option.{option_copied}
use Rattle.fl_bitpacking.proofs.PartPatches.{part_order}
use Rattle.fl_bitpacking.proofs.compute.filter.patched_part.patch_part.Goals as goal

pub match_each_integer_ptype-patch_typed-requires-clause-order : goal.match_each_integer_ptype-patch_typed-requires-clause-order
match_each_integer_ptype-patch_typed-requires-clause-order g c =
    part_order (option_copied c.args.patches) c.in-Some.patches.now c.args.from (length c.args.items.now) c.args.before c.args.after (ap option_copied c.in-Some.is) c.indices.ensures.accepted c.requires.before c.requires.after

pub match_each_integer_ptype-patch_typed-requires-2-clause-order : goal.match_each_integer_ptype-patch_typed-requires-2-clause-order
match_each_integer_ptype-patch_typed-requires-2-clause-order g c =
    part_order (option_copied c.args.patches) c.in-Some.patches.now c.args.from (length c.args.items.now) c.args.before c.args.after (ap option_copied c.in-Some.is) c.indices.ensures.accepted c.requires.before c.requires.after

pub match_each_integer_ptype-patch_typed-requires-3-clause-order : goal.match_each_integer_ptype-patch_typed-requires-3-clause-order
match_each_integer_ptype-patch_typed-requires-3-clause-order g c =
    part_order (option_copied c.args.patches) c.in-Some.patches.now c.args.from (length c.args.items.now) c.args.before c.args.after (ap option_copied c.in-Some.is) c.indices.ensures.accepted c.requires.before c.requires.after

pub match_each_integer_ptype-patch_typed-requires-4-clause-order : goal.match_each_integer_ptype-patch_typed-requires-4-clause-order
match_each_integer_ptype-patch_typed-requires-4-clause-order g c =
    part_order (option_copied c.args.patches) c.in-Some.patches.now c.args.from (length c.args.items.now) c.args.before c.args.after (ap option_copied c.in-Some.is) c.indices.ensures.accepted c.requires.before c.requires.after
