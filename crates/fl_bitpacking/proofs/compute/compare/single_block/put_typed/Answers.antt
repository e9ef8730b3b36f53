use Rattle.std.proofs.Common.{◌∙◌, ◌+◌, ap, option_map, unwrap_or}
use Rattle.fastlanes.specs.Compared.{has_bit}
use Rattle.fl_bitpacking.specs.RangeTests.{passes}
use Rattle.fl_bitpacking.proofs.compute.compare.single_block.put_typed.Goals as goal

pub put_answers-requires-clause-placed : goal.put_answers-requires-clause-placed
put_answers-requires-clause-placed g c = c.patches_between-placed.ensures.placed c.args.part.len c.count_typed-after.ensures.count

pub returns-clause-bits : goal.returns-clause-bits
returns-clause-bits g c i h =
    c.put_answers.ensures.bits i h
    ∙ ap (λ o. unwrap_or (option_map (passes c.args.test.range) o) (has_bit c.args.bits.now (c.args.part.low + i))) (c.patches_between-placed.ensures.values c.args.part.len i c.count_typed-after.ensures.count h)
