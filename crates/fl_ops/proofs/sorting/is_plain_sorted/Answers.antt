use Rattle.std.proofs.Common.{◌≡◌, ◌∙◌, pos, true, Ok, Bool, ap, rules, sym}
use Rattle.std.specs.Prelude.{unwrap_or}
use Rattle.std.specs.List.{list_all}
use Rattle.fl_types.specs.Values.{integer_of, scalar_parts}
use Rattle.fl_ops.specs.Sums.{sum_fits}
use Rattle.fl_ops.proofs.SortedLaws.{rises_over_plain}
use Rattle.fl_ops.proofs.sorting.is_plain_sorted.Goals as goal

pub returns-then-sums_fit : goal.returns-then-sums_fit
returns-then-sums_fit c =
    let p = c.args.plain.now in
    let named : unwrap_or (scalar_parts c.args.reference).value (pos 0) ≡ integer_of c.in_ok-value.value = search rules in
    let fit : list_all (sum_fits p.ptype (unwrap_or (scalar_parts c.args.reference).value (pos 0))) p.slots ≡ true = rw named (sym c.sums_fit.ensures ∙ c.if-sums_fit.true) in
    rises_over_plain c.args.strict c.args.array.now (scalar_parts c.args.reference) p c.requires.same c.requires.encoded fit ∙ ap (λ (b : Bool). Ok b) (sym c.is_sorted.ensures)
