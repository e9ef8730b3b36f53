use Rattle.std.proofs.Common.{◌∙◌, ap, sym}
use Rattle.fl_bitpacking.specs.RangeTests.{passes}
use Rattle.fl_scan.specs.Sources.{column_of_source}
use Rattle.fl_scan.specs.Totals.{count_of, valid_items}
use Rattle.fl_scan.specs.declared.source.Source.{Source}
use Rattle.fl_scan.proofs.CountedColumns.{counted_alike}
use Rattle.fl_scan.proofs.totals.count_passing.Goals as goal

pub returns-in-Blocks : goal.returns-in-Blocks
returns-in-Blocks g c =
    let passing = g.P.ItemTest.passing c.args.test in
    c.count.ensures ∙ (counted_alike (passes c.args.range) passing (valid_items c.in-Blocks.blocks) c.requires.ranged.same ∙ ap (λ (s : Source). count_of passing (column_of_source s)) (sym c.in-Blocks.is))

pub returns-in-Kept : goal.returns-in-Kept
returns-in-Kept g c =
    let passing = g.P.ItemTest.passing c.args.test in
    c.count-in-Kept.ensures ∙ (counted_alike (passes c.args.range) passing (valid_items c.in-Kept.kept) c.requires.ranged.same ∙ ap (λ (s : Source). count_of passing (column_of_source s)) (sym c.in-Kept.is))
