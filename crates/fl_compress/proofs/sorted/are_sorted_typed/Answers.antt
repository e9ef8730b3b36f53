use Rattle.std.proofs.Common.{map, sym, subst, ◌∙◌}
use Rattle.std.proofs.lemmas.List.{length-map}
use Rattle.fl_compress.proofs.SortedChunks.{AreSorted, sorted_runs}
use Rattle.fl_compress.proofs.sorted.are_sorted_typed.Goals as goal

pub returns-in-NonNullable : goal.returns-in-NonNullable
returns-in-NonNullable g c = λ all.
    let value = g.T.Number.value in
    let items = c.as_slice.result.now in
    let sorted : AreSorted (map value items) = λ i h. c.rise.ensures all i (rw length-map at h) in
    sorted_runs c.args.array.now (sym c.validity.ensures.value ∙ c.in-NonNullable.is) (subst AreSorted c.as_slice.ensures sorted)
