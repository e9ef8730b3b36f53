use Rattle.std.proofs.Common.{◌≡◌, Ok, map, ap, sym, ◌∙◌}
use Rattle.fl_column.specs.Operations.{kept}
use Rattle.fl_column.proofs.FilterLaws.{kept_map}
use Rattle.fl_column.proofs.selection.filtered.filter_typed.Goals as goal

pub returns-clause-slots : goal.returns-clause-slots
returns-clause-slots g c =
    let bits = c.args.bits.now in
    let items = c.as_slice.result.now in
    let value = g.T.Number.value in
    let taken : kept bits items ≡ c.in_ok-taken.taken.items = cc (c.in_ok-taken.ensures) in
    ap Ok (ap (λ xs. kept bits xs) (sym c.as_slice.ensures) ∙ kept_map value bits items ∙ ap (λ xs. map value xs) taken ∙ sym c.into_buffer.ensures.slots)
