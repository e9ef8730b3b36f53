use Rattle.std.proofs.Common.{◌∙◌, IsTrue, ap, sym}
use Rattle.std.proofs.Math.Path.{subst}
use Rattle.std.specs.Prelude.{OnOk}
use Rattle.fl_types.specs.Types.{has_ptype}
use Rattle.fl_column.specs.Columns.{Column}
use Rattle.fl_scan.specs.Blocks.{marked_items}
use Rattle.fl_scan.specs.Totals.{valid_items}
use Rattle.fl_scan.proofs.ValidLaws.{valid_all}
use Rattle.fl_scan.proofs.kept.Kept.add.Goals as goal

pub add_marked-requires-clause-typed : goal.add_marked-requires-clause-typed
add_marked-requires-clause-typed g c = subst (λ (d : Column). IsTrue (has_ptype g.T.NativePType.PTYPE d.dtype)) (sym c.self.view_is) c.requires

pub returns-clause-gathered : goal.returns-clause-gathered
returns-clause-gathered g c =
    subst (λ ys. OnOk c.add_marked.result (g.F.Fold.Leads c.args.fold.now ys c.add_marked.new.fold)) (sym (valid_all (marked_items c.self.inside.marks c.self.inside.reader.column)) ∙ ap valid_items c.self.view_is) c.add_marked.ensures.gathered
