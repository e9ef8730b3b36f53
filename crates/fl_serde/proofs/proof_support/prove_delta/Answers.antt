use Rattle.std.proofs.Common.{◌<◌, ◌^◌, subst}
use Rattle.fl_serde.specs.Writing.{item_count}
use Rattle.fl_serde.proofs.BackLaws.{delta_is_back}
use Rattle.fl_serde.proofs.proof_support.prove_delta.Goals as goal

pub returns : goal.returns
returns c =
    let few = subst (λ t. item_count t < 2 ^ 64) c.deltas.ensures c.prove_few.ensures in
    delta_is_back c.args.array.now c.delta_is_well_formed.ensures c.requires.bases c.requires.deltas few c.written_is_read.ensures.delta
