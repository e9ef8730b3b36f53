use Rattle.std.proofs.Common.{ap, ◌∙◌}
use Rattle.fl_statistics.specs.Differences.{difference}
use Rattle.fl_statistics.proofs.Slots.{word_written}
use Rattle.fl_statistics.proofs.sources.word_of_difference.Goals as goal

pub returns : goal.returns
returns g c =
    let t = g.T.NativePType.PTYPE in
    word_written t (g.T.Number.value c.args.reference) _ _ _ c.to_physical.ensures (c.minus.ensures ∙ ap (difference t (g.T.Number.value c.args.reference)) c.from_physical.ensures)
