use Rattle.std.proofs.Common.{◌∙◌, ap, refl}
use Rattle.fl_array.specs.Trees.{column}
use Rattle.flcol_c.specs.Bitmaps.{null_total}
use Rattle.flcol_c.proofs.NullLaws.{nulls_of_validity}
use Rattle.flcol_c.proofs.looks.nulls.Goals as goal

pub returns : goal.returns
returns c =
    let validity = c.in_ok-validity.validity in
    (refl, c.null_count.ensures ∙ (ap (null_total validity) c.len.ensures ∙ nulls_of_validity validity (column c.args.array.now) c.in_ok-validity.ensures.validity))
