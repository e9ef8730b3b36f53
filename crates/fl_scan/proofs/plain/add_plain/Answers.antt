use Rattle.std.proofs.Common.{◌∙◌, ap, map, sym}
use Rattle.std.proofs.Math.Path.{subst}
use Rattle.std.specs.Prelude.{OnOk}
use Rattle.fl_types.specs.Bits.{kept}
use Rattle.fl_scan.proofs.ValidLaws.{each_item_valid, no_item_valid, set_items_valid, whole_mask}
use Rattle.fl_scan.proofs.plain.add_plain.Goals as goal

pub returns-in-AllInvalid-clause-gathered : goal.returns-in-AllInvalid-clause-gathered
returns-in-AllInvalid-clause-gathered g c = subst (λ ys. g.F.Fold.Leads c.args.fold.now ys c.args.fold.now) (sym (no_item_valid c.args.plain.now c.validity.result.now c.in-AllInvalid.is c.validity.ensures.value)) (g.met.F.Fold.stays c.args.fold.now)

pub returns-in-Array-clause-gathered : goal.returns-in-Array-clause-gathered
returns-in-Array-clause-gathered g c =
    let zs = map g.T.Number.value c.as_slice.result.now in
    let whole = whole_mask g.T.Number.value c.args.plain.now c.validity.result.now c.in-Array.bits c.as_slice.result.now c.in-Array.is c.validity.ensures.value c.validity.ensures.covers c.as_slice.ensures in
    let items = set_items_valid c.args.plain.now c.validity.result.now c.in-Array.bits zs c.in-Array.is c.validity.ensures.value c.as_slice.ensures in
    subst (λ ys. OnOk c.add_valid.result (g.F.Fold.Leads c.args.fold.now ys c.add_valid.new.fold)) (ap (λ bs. kept bs zs) whole ∙ sym items) c.add_valid.ensures.gathered

pub returns-in-NonNullable-clause-gathered : goal.returns-in-NonNullable-clause-gathered
returns-in-NonNullable-clause-gathered g c =
    subst (λ ys. OnOk c.add_all.result (g.F.Fold.Leads c.args.fold.now ys c.add_all.new.self))
    (sym (each_item_valid c.args.plain.now c.validity.result.now (map g.T.Number.value c.as_slice-in-NonNullable.result.now) c.in-NonNullable.is c.validity.ensures.value c.as_slice-in-NonNullable.ensures)) c.add_all.ensures.gathered
