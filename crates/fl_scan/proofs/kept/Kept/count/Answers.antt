use Rattle.std.proofs.Common.{◌∙◌, IsTrue, ap, sym}
use Rattle.std.proofs.Math.Path.{subst}
use Rattle.std.specs.Prelude.{count_by}
use Rattle.fl_types.specs.Types.{has_ptype}
use Rattle.fl_column.specs.Columns.{Column}
use Rattle.fl_scan.specs.Blocks.{marked_items}
use Rattle.fl_bitpacking.specs.RangeTests.{passes}
use Rattle.fl_scan.specs.Totals.{valid_items}
use Rattle.fl_scan.proofs.ValidLaws.{valid_all}
use Rattle.fl_scan.proofs.kept.Kept.count.Goals as goal

pub count_marked-requires-clause-typed : goal.count_marked-requires-clause-typed
count_marked-requires-clause-typed g c = subst (λ (d : Column). IsTrue (has_ptype g.T.NativePType.PTYPE d.dtype)) (sym c.self.view_is) c.requires.typed

pub returns : goal.returns
returns g c =
    c.count_marked.ensures ∙ ap (count_by (passes c.args.range)) (sym (valid_all (marked_items c.self.inside.marks c.self.inside.reader.column)) ∙ ap valid_items c.self.view_is)
