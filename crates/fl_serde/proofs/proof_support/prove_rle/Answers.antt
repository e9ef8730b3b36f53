use Rattle.std.proofs.Common.{◌<◌, ◌^◌, subst}
use Rattle.fl_serde.specs.Writing.{item_count}
use Rattle.fl_serde.proofs.BackLaws.{rle_is_back}
use Rattle.fl_serde.proofs.proof_support.prove_rle.Goals as goal

pub returns : goal.returns
returns c =
    let few_values = subst (λ t. item_count t < 2 ^ 64) c.values-values.ensures c.prove_few.ensures in
    let few_indices = subst (λ t. item_count t < 2 ^ 64) c.indices-indices.ensures c.prove_few-2.ensures in
    let few_offsets = subst (λ t. item_count t < 2 ^ 64) c.offsets-offsets.ensures c.prove_few-3.ensures in
    rle_is_back c.args.array.now c.rle_is_well_formed.ensures c.requires.values c.requires.indices c.requires.offsets few_values few_indices few_offsets c.written_is_read.ensures.rle
