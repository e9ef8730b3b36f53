use Rattle.std.proofs.Math.Path.{subst}
use Rattle.std.specs.Prelude.{OnOk}
use Rattle.fl_types.specs.declared.validity.Validity.{Validity}
use Rattle.fl_scan.specs.Blocks.{Marks}
use Rattle.fl_scan.proofs.BlockLaws.{each_marked, each_marks, none_marked, set_marked}
use Rattle.fl_scan.proofs.blocks.add_marked.Goals as goal

pub add_each-requires-clause-marks : goal.add_each-requires-clause-marks
add_each-requires-clause-marks g c = each_marks c.args.validity.now c.args.reader.now.column c.in-NonNullable.is c.requires.marks

pub returns-in-NonNullable-clause-gathered : goal.returns-in-NonNullable-clause-gathered
returns-in-NonNullable-clause-gathered g c =
    subst (λ ys. OnOk c.add_each.result (g.F.Fold.Leads c.args.fold.now ys c.add_each.new.fold)) (each_marked c.args.validity.now c.args.reader.now.column c.in-NonNullable.is) c.add_each.ensures.gathered

pub returns-in-AllInvalid-clause-gathered : goal.returns-in-AllInvalid-clause-gathered
returns-in-AllInvalid-clause-gathered g c = subst (λ ys. g.F.Fold.Leads c.args.fold.now ys c.args.fold.now) (none_marked c.args.validity.now c.args.reader.now.column c.in-AllInvalid.is) (g.met.F.Fold.stays c.args.fold.now)

pub add_set-requires-clause-marks : goal.add_set-requires-clause-marks
add_set-requires-clause-marks g c = subst (λ (v : Validity). Marks v c.args.reader.now.column) c.in-Array.is c.requires.marks

pub returns-in-Array-clause-gathered : goal.returns-in-Array-clause-gathered
returns-in-Array-clause-gathered g c =
    subst (λ ys. OnOk c.add_set.result (g.F.Fold.Leads c.args.fold.now ys c.add_set.new.fold)) (set_marked c.args.validity.now c.in-Array.bits c.args.reader.now.column c.in-Array.is) c.add_set.ensures.gathered
