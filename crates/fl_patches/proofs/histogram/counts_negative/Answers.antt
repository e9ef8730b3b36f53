use Rattle.std.proofs.Common.{◌+◌, ◌∙◌, ap, length, sym, IsTrue}
use Rattle.std.specs.List.{list_all}
use Rattle.fl_types.specs.Integers.{bits_of_type, fits}
use Rattle.fl_types.specs.Validities.{items_of}
use Rattle.fl_column.specs.Columns.{option_all}
use Rattle.fl_column.proofs.ListLaws.{and_first}
use Rattle.fl_patches.proofs.Histograms.{length-histogram}
use Rattle.fl_patches.proofs.Signs.{signs_counted}
use Rattle.fl_patches.proofs.histogram.counts_negative.Goals as goal

pub counts_signs-requires : goal.counts_signs-requires
counts_signs-requires c =
    let p = c.args.array.now in
    ap length c.requires ∙ (length-histogram p.ptype (items_of p.validity p.slots) ∙ ap (λ t. bits_of_type t + 1) (sym c.ptype.ensures))

pub returns : goal.returns
returns c =
    let p = c.args.array.now in
    let fit : IsTrue (list_all (option_all (fits p.ptype)) (items_of p.validity p.slots)) = and_first _ _ c.stored_integers_are_in_range.ensures.column in
    (rw c.ptype.ensures at c.counts_signs.ensures) ∙ signs_counted p.ptype (items_of p.validity p.slots) c.args.histogram.now c.requires fit
