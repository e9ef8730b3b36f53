use Rattle.std.proofs.Common.{◌≡◌, ◌∙◌, ◌+◌, ap, arith, length, map, sym}
use Rattle.std.proofs.lemmas.List.{length-map}
use Rattle.std.proofs.Math.Path.{subst}
use Rattle.fl_scan.specs.Counts.{Reaches}
use Rattle.fl_scan.proofs.CountedColumns.{counted_plain, reaches_part}
use Rattle.fl_scan.proofs.counts.count_plain.Goals as goal

pub count_items-requires-clause-within : goal.count_items-requires-clause-within
count_items-requires-clause-within g c =
    let p = c.args.plain.now in
    let xs = c.as_slice.result.now in
    let size : length xs ≡ length p.slots = sym (length-map xs g.T.Number.value) ∙ ap length c.as_slice.ensures in
    subst (λ v. Reaches v (0 + length xs)) (sym c.validity.ensures.value) (reaches_part p.validity (length p.slots) (0 + length xs) c.validity.ensures.covers (omega arith))

pub returns : goal.returns
returns g c =
    let p = c.args.plain.now in
    let xs = c.as_slice.result.now in
    counted_plain (g.P.ItemTest.passing c.args.test) p c.validity.result.now (map g.T.Number.value xs) c.count_items.result (length xs) c.validity.ensures.value c.as_slice.ensures c.validity.ensures.covers (sym (length-map xs g.T.Number.value)) c.count_items.ensures
