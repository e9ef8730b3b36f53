use Rattle.std.proofs.Common.{length, ◌∙◌}
use Rattle.fastlanes.proofs.Patterns.{pattern_at_take}
use Rattle.fl_types.specs.Integers.{pattern_of}
use Rattle.fl_codec.proofs.SliceParts.{pattern_of_integer}
use Rattle.fl_codec.proofs.block_items.patterns_of.Goals as goal

pub returns-in-Some-clause-patterns : goal.returns-in-Some-clause-patterns
returns-in-Some-clause-patterns g c i h =
    pattern_of_integer g.T.Number.value (pattern_of g.T.NativePType.PTYPE) g.T.Physical.FastLanes.pattern c.args.values.now c.in-Some.patterns.now c.in-Some.ensures i h

pub returns-in-None-clause-patterns : goal.returns-in-None-clause-patterns
returns-in-None-clause-patterns g c i h =
    pattern_at_take g.T.Physical.FastLanes.pattern c.write_patterns.new.block (length c.args.values.now) i h ∙ c.write_patterns.ensures.block i h
