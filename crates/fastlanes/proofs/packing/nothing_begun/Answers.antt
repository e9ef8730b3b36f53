use Rattle.std.proofs.Common.{◌+◌, ◌*◌, arith, ◌∙◌}
use Rattle.fastlanes.specs.Layout.{pattern_at}
use Rattle.fastlanes.proofs.Packings.{begun_none}
use Rattle.fastlanes.proofs.packing.nothing_begun.Goals as goal

pub returns : goal.returns
returns g c = record { begun = λ j h. begun_none g.W.FastLanes.T c.args.width (pattern_at g.W.FastLanes.pattern c.args.items.now) (16 * c.args.g + j) (0 * c.args.width) _ (omega arith) (c.splat.ensures.lanes j h ∙ c.zero.ensures) }
