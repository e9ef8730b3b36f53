use Rattle.std.proofs.Common.{◌∙◌, ap}
use Rattle.std.proofs.Math.Path.{subst}
use Rattle.std.specs.Prelude.{OnOk}
use Rattle.fl_scan.specs.Totals.{valid_items}
use Rattle.fl_scan.proofs.BlockLaws.{valid_marked, valid_marks}
use Rattle.fl_scan.proofs.prepared.Blocks.add_valid.Goals as goal

pub add_marked-requires-clause-marks : goal.add_marked-requires-clause-marks
add_marked-requires-clause-marks g c = valid_marks c.self.inside.validity c.self.inside.reader.column c.self.invariant

pub returns-clause-gathered : goal.returns-clause-gathered
returns-clause-gathered g c =
    subst (λ ys. OnOk c.add_marked.result (g.F.Fold.Leads c.args.fold.now ys c.add_marked.new.fold)) (valid_marked c.self.inside.validity c.self.inside.reader.column c.self.invariant ∙ ap valid_items c.self.view_is) c.add_marked.ensures.gathered
