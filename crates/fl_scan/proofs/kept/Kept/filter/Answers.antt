use Rattle.std.proofs.Common.{◌≡◌, ◌∙◌, IsTrue, ap, map, sym}
use Rattle.std.proofs.Math.Path.{subst}
use Rattle.std.specs.Prelude.{IfOk, filter}
use Rattle.fl_types.specs.Types.{has_ptype}
use Rattle.fl_column.specs.Columns.{Column}
use Rattle.fl_scan.specs.Blocks.{marked_items}
use Rattle.fl_bitpacking.specs.RangeTests.{passes}
use Rattle.fl_scan.specs.Totals.{valid_items}
use Rattle.fl_scan.proofs.ValidLaws.{valid_all}
use Rattle.fl_scan.proofs.kept.Kept.filter.Goals as goal

pub filter_marked-requires-clause-typed : goal.filter_marked-requires-clause-typed
filter_marked-requires-clause-typed g c = subst (λ (d : Column). IsTrue (has_ptype g.T.NativePType.PTYPE d.dtype)) (sym c.self.view_is) c.requires.typed

pub returns-clause-items : goal.returns-clause-items
returns-clause-items g c =
    subst (λ ys. IfOk c.filter_marked.result (λ taken. map g.T.Number.value taken.items ≡ filter (passes c.args.range) ys)) (sym (valid_all (marked_items c.self.inside.marks c.self.inside.reader.column)) ∙ ap valid_items c.self.view_is) c.filter_marked.ensures.items
