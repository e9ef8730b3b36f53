use Rattle.std.proofs.Common.{◌≡◌, ◌∙◌, ap, false, map, rules, sym, true}
use Rattle.fl_scan.proofs.PassingLaws.{none_repeated, repeated_taken}
use Rattle.fl_scan.proofs.filtering.repeated.Goals as goal

pub returns-then-not-passes-clause-items : goal.returns-then-not-passes-clause-items
returns-then-not-passes-clause-items g c =
    let fails : g.P.ItemTest.passing c.args.test (g.T.Number.value c.args.item) ≡ false = search rules in
    ap (map g.T.Number.value) c.new-taken.ensures.items ∙ sym (none_repeated (g.P.ItemTest.passing c.args.test) (g.T.Number.value c.args.item) c.args.times fails)

pub returns-clause-items : goal.returns-clause-items
returns-clause-items g c =
    let holds : g.P.ItemTest.passing c.args.test (g.T.Number.value c.args.item) ≡ true = search rules in
    repeated_taken g.T.Number.value (g.P.ItemTest.passing c.args.test) c.new-taken.result.items c.resize.new.self.items c.args.item c.new-taken.result.len c.args.times c.new-taken.ensures.items c.new-taken.ensures.len c.in_ok-resize.ensures.items holds
