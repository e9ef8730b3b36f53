use Rattle.std.proofs.Common.{◌∙◌, ap, map}
use Rattle.std.specs.Int.{int_wrap, w128}
use Rattle.std.specs.Prelude.{◌+ℤ◌}
use Rattle.fl_types.specs.Bits.{bits_of_word}
use Rattle.fl_scan.specs.Selected.{selected}
use Rattle.fl_scan.specs.Totals.{total}
use Rattle.fl_scan.proofs.SelectLaws.{total_selected}
use Rattle.fl_scan.proofs.folds.total.TotalFold.stand_in.Goals as goal

pub returns : goal.returns
returns g c = λ a b h.
    let bits = bits_of_word c.args._word in
    let zs = map g.T.Number.value c.args._items.now in
    h ∙ ap (λ t. int_wrap w128 (a.total +ℤ t)) (ap (λ z. total (selected bits zs z)) c.zero.ensures ∙ total_selected bits zs)
