use Rattle.std.proofs.Common.{◌∙◌, ap}
use Rattle.std.specs.Prelude.{count_by}
use Rattle.fl_bitpacking.specs.RangeTests.{passes}
use Rattle.fl_scan.specs.Totals.{valid_items}
use Rattle.fl_scan.proofs.BlockLaws.{valid_marked, valid_marks}
use Rattle.fl_scan.proofs.prepared.Blocks.count.Goals as goal

pub count_marked-requires-clause-marks : goal.count_marked-requires-clause-marks
count_marked-requires-clause-marks g c = valid_marks c.self.inside.validity c.self.inside.reader.column c.self.invariant

pub returns : goal.returns
returns g c =
    c.count_marked.ensures ∙ ap (count_by (passes c.args.range)) (valid_marked c.self.inside.validity c.self.inside.reader.column c.self.invariant ∙ ap valid_items c.self.view_is)
