use Rattle.std.proofs.Common.{map, sym, subst, ◌∙◌}
use Rattle.fl_compress.proofs.SingleRuns.{AllDiffer, single_values}
use Rattle.std.proofs.lemmas.List.{length-map}
use Rattle.fl_compress.proofs.single_runs.are_single_typed.Goals as goal

pub returns-in-NonNullable : goal.returns-in-NonNullable
returns-in-NonNullable g c = λ all.
    let value = g.T.Number.value in
    let items = c.as_slice.result.now in
    let differ : AllDiffer (map value items) = λ i h. c.differ.ensures all i (rw length-map at h) in
    single_values c.args.array.now (sym c.validity.ensures.value ∙ c.in-NonNullable.is) (subst AllDiffer c.as_slice.ensures differ)
