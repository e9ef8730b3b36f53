use Rattle.std.proofs.Common.{◌≡◌, ◌+◌, ◌∙◌, ap, arith, length, map, sym, subst}
use Rattle.std.proofs.lemmas.List.{length-map}
use Rattle.std.proofs.lemmas.List.FromFn.{length-map-range_with_len}
use Rattle.fl_scan.specs.Counts.{Reaches, both, marked_from, passed_in}
use Rattle.fl_scan.proofs.CountedColumns.{reaches_part}
use Rattle.fl_scan.proofs.PassingLaws.{plain_taken}
use Rattle.fl_scan.proofs.filtering.filter_plain.Goals as goal

pub passing_items-requires : goal.passing_items-requires
passing_items-requires g c =
    let p = c.args.plain.now in
    let xs = c.as_slice-items.result.now in
    let size : length xs ≡ length p.slots = sym (length-map xs g.T.Number.value) ∙ ap length c.as_slice-items.ensures in
    subst (λ v. Reaches v (length xs)) (sym c.validity.ensures.value) (reaches_part p.validity (length p.slots) (length xs) c.validity.ensures.covers (omega arith))

pub push_kept-requires : goal.push_kept-requires
push_kept-requires g c =
    let xs = c.as_slice-items.result.now in
    let long = length-map-range_with_len (both (marked_from c.validity.result.now 0) (passed_in (g.P.ItemTest.passing c.args.test) (map g.T.Number.value xs))) 0 (length xs) in
    let same = ap length c.in_ok-bits.ensures.marks in
    omega arith

pub returns-clause-items : goal.returns-clause-items
returns-clause-items g c =
    plain_taken g.T.Number.value (g.P.ItemTest.passing c.args.test) c.args.plain.now c.validity.result.now c.as_slice-items.result.now c.in_ok-bits.bits c.in_ok-taken.taken.items c.push_kept.new.taken.items c.validity.ensures.value c.as_slice-items.ensures c.validity.ensures.covers c.in_ok-bits.ensures.marks c.in_ok-taken.ensures.items c.in_ok-push_kept.ensures
