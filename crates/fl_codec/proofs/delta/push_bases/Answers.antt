use Rattle.std.proofs.Common.{◌++◌, map, ap, ◌∙◌}
use Rattle.std.proofs.lemmas.Result.{err_from_is_err_and}
use Rattle.fl_types.specs.Integers.{read_as}
use Rattle.fl_codec.proofs.delta.push_bases.Goals as goal

pub returns-clause-bases : goal.returns-clause-bases
returns-clause-bases g c =
    let value = g.T.Number.value in
    let ptype = g.T.NativePType.PTYPE in
    let pattern = g.T.Physical.FastLanes.pattern in
    c.in_ok-push_values.ensures.values ∙ (ap (λ ws. map value c.args.bases.now.items ++ map (λ w. read_as ptype (pattern w)) ws) c.first_row.ensures.row
    ∙ c.encode_chunk-last.ensures.bases (map value c.args.bases.now.items) c.requires.bases)

pub returns-in_err-push_values-clause-last : goal.returns-in_err-push_values-clause-last
returns-in_err-push_values-clause-last g c = let failed = err_from_is_err_and c.from_residual.result c.from_residual.ensures.1 in rw failed.1 tt

pub returns-in_err-push_values-clause-bases : goal.returns-in_err-push_values-clause-bases
returns-in_err-push_values-clause-bases g c = let failed = err_from_is_err_and c.from_residual.result c.from_residual.ensures.1 in rw failed.1 tt

pub returns-in_err-push_values-clause-deltas : goal.returns-in_err-push_values-clause-deltas
returns-in_err-push_values-clause-deltas g c = let failed = err_from_is_err_and c.from_residual.result c.from_residual.ensures.1 in rw failed.1 tt
