use Rattle.std.proofs.Common.{Some, arith, ◌∙◌}
use Rattle.std.proofs.lemmas.List.{length-map}
use Rattle.fl_codec.specs.Parts.{compress_deltas}
use Rattle.fl_codec.proofs.DeltaLeasts.{length-deltas}
use Rattle.fl_statistics.proofs.deltas.DeltasBlockSource.len.Goals as goal

pub returns-clause-count : goal.returns-clause-count
returns-clause-count g c = c.delta_count.ensures ∙ length-map (compress_deltas c.args.self.now.array.now).1.slots (λ z. Some z)

pub returns-clause-few : goal.returns-clause-few
returns-clause-few g c =
    let size = length-deltas c.args.self.now.array.now in
    omega (arith, c.prove_few.ensures, c.len-len.ensures.items, c.len-len.ensures.slots)
