use Rattle.std.proofs.Common.{◌≡◌, ◌∙◌, ap, map}
use Rattle.std.proofs.Math.Path.{subst}
use Rattle.std.specs.Prelude.{IfOk, filter}
use Rattle.fl_bitpacking.specs.RangeTests.{passes}
use Rattle.fl_scan.specs.Totals.{valid_items}
use Rattle.fl_scan.proofs.BlockLaws.{valid_marked, valid_marks}
use Rattle.fl_scan.proofs.prepared.Blocks.filter.Goals as goal

pub filter_marked-requires-clause-marks : goal.filter_marked-requires-clause-marks
filter_marked-requires-clause-marks g c = valid_marks c.self.inside.validity c.self.inside.reader.column c.self.invariant

pub returns-clause-items : goal.returns-clause-items
returns-clause-items g c =
    subst (λ ys. IfOk c.filter_marked.result (λ taken. map g.T.Number.value taken.items ≡ filter (passes c.args.range) ys)) (valid_marked c.self.inside.validity c.self.inside.reader.column c.self.invariant ∙ ap valid_items c.self.view_is) c.filter_marked.ensures.items
