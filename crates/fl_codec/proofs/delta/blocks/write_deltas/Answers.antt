use Rattle.std.proofs.Common.{◌++◌, map, ap, ◌∙◌}
use Rattle.fl_types.specs.Integers.{read_as}
use Rattle.fl_codec.proofs.delta.blocks.write_deltas.Goals as goal

pub returns-clause-deltas : goal.returns-clause-deltas
returns-clause-deltas g c =
    c.in_ok-push_values.ensures.values
    ∙ (ap (λ xs. map g.T.Number.value xs ++ map (λ w. read_as g.T.NativePType.PTYPE (g.T.Physical.FastLanes.pattern w)) c.write_delta_words-last.new.block) c.clear.ensures.items
    ∙ c.write_delta_words-last.ensures.deltas)
