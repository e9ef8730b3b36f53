use Rattle.std.proofs.Common.{◌≡◌, ◌+◌, Ok, map, ap, sym, ◌∙◌}
use Rattle.std.specs.List.{flat_map}
use Rattle.fl_types.specs.Bits.{between}
use Rattle.fl_column.proofs.RangeLaws.{ranges_map}
use Rattle.fl_column.proofs.selection.without_nulls.ranges_typed.Goals as goal

pub returns-clause-slots : goal.returns-clause-slots
returns-clause-slots g c =
    let items = c.as_slice.result.now in
    let value = g.T.Number.value in
    let ranges = c.args.ranges.now in
    let taken : flat_map (λ r. between r.0 (r.0 + r.1) items) ranges ≡ c.in_ok-taken.taken.items = cc (c.in_ok-taken.ensures) in
    ap Ok (ap (λ xs. flat_map (λ r. between r.0 (r.0 + r.1) xs) ranges) (sym c.as_slice.ensures) ∙ ranges_map value items ranges ∙ ap (λ xs. map value xs) taken ∙ sym c.into_buffer.ensures.slots)
