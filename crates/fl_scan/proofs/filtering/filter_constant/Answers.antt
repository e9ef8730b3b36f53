use Rattle.std.proofs.Common.{◌≡◌, ◌∙◌, Some, ap, map, rules, sym}
use Rattle.std.specs.Prelude.{IfOk, filter}
use Rattle.std.proofs.Math.Path.{subst}
use Rattle.fl_types.specs.Values.{integer_of}
use Rattle.fl_scan.proofs.ValidLaws.{constant_null, constant_valid}
use Rattle.fl_scan.proofs.filtering.filter_constant.Goals as goal

pub returns-in-Some-clause-items : goal.returns-in-Some-clause-items
returns-in-Some-clause-items g c =
    let same : g.T.Number.value c.unwrap.result ≡ integer_of c.in-Some.value = search rules in
    let value : Some (g.T.Number.value c.unwrap.result) ≡ c.args.constant.now.scalar.value = ap (λ z. Some z) same ∙ c.in-Some.ensures.value in
    subst (λ ys. IfOk c.repeated.result (λ taken. map g.T.Number.value taken.items ≡ filter (g.P.ItemTest.passing c.args.test) ys)) (sym (constant_valid c.args.constant.now (g.T.Number.value c.unwrap.result) c.len.result value c.len.ensures.constant_items)) c.repeated.ensures.items

pub returns-in-None-clause-items : goal.returns-in-None-clause-items
returns-in-None-clause-items g c = ap (map g.T.Number.value) c.new.ensures.items ∙ ap (filter (g.P.ItemTest.passing c.args.test)) (sym (constant_null c.args.constant.now c.in-None.ensures.value))
