use Rattle.std.proofs.Common.{map, ◌∙◌}
use Rattle.fl_codec.proofs.delta.push_chunk.Goals as goal

pub returns-clause-deltas : goal.returns-clause-deltas
returns-clause-deltas g c =
    c.in_ok-push_values.ensures.values ∙ c.in_ok-last.ensures.deltas (map g.T.Number.value c.args.deltas.now.items) c.requires.deltas
