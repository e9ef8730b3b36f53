use Rattle.std.proofs.Common.{◌≡◌, ◌∙◌, ap, map, sym}
use Rattle.std.proofs.Math.Path.{subst}
use Rattle.std.specs.Prelude.{IfOk, filter}
use Rattle.fl_bitpacking.specs.RangeTests.{passes}
use Rattle.fl_scan.specs.Sources.{column_of_source}
use Rattle.fl_scan.specs.Totals.{valid_items}
use Rattle.fl_scan.specs.declared.source.Source.{Source}
use Rattle.fl_scan.proofs.PassingLaws.{filtered_alike}
use Rattle.fl_scan.proofs.totals.items_passing.Goals as goal

pub returns-in-Blocks-clause-items : goal.returns-in-Blocks-clause-items
returns-in-Blocks-clause-items g c =
    let passing = g.P.ItemTest.passing c.args.test in
    subst (λ ys. IfOk c.filter.result (λ taken. map g.T.Number.value taken.items ≡ ys)) (filtered_alike (passes c.args.range) passing (valid_items c.in-Blocks.blocks) c.requires.ranged.same ∙ ap (λ (s : Source). filter passing (valid_items (column_of_source s))) (sym c.in-Blocks.is)) c.filter.ensures.items

pub returns-in-Kept-clause-items : goal.returns-in-Kept-clause-items
returns-in-Kept-clause-items g c =
    let passing = g.P.ItemTest.passing c.args.test in
    subst (λ ys. IfOk c.filter-in-Kept.result (λ taken. map g.T.Number.value taken.items ≡ ys)) (filtered_alike (passes c.args.range) passing (valid_items c.in-Kept.kept) c.requires.ranged.same ∙ ap (λ (s : Source). filter passing (valid_items (column_of_source s))) (sym c.in-Kept.is)) c.filter-in-Kept.ensures.items
