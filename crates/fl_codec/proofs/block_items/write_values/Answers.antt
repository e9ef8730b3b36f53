use Rattle.std.proofs.Common.{ap, map, arith, ◌∙◌}
use Rattle.fl_types.specs.Integers.{read_as}
use Rattle.fl_codec.proofs.SliceParts.{integer_of_pattern}
use Rattle.fl_codec.proofs.block_items.write_values.Goals as goal

pub returns-in-Some : goal.returns-in-Some
returns-in-Some g c i h =
    let same = c.requires in
    integer_of_pattern g.T.Number.value (read_as g.T.NativePType.PTYPE) g.T.Physical.FastLanes.pattern c.copy_from_slice.new.self c.args.patterns.now (ap (map g.T.Number.value) c.copy_from_slice.ensures.after ∙ c.in-Some.ensures) i (omega arith)
