use Rattle.std.proofs.Common.{◌≡◌, ◌∙◌, ap, rules, sym}
use Rattle.std.proofs.Math.Path.{subst}
use Rattle.std.specs.Prelude.{OnOk, Some}
use Rattle.fl_types.specs.Values.{integer_of}
use Rattle.fl_scan.proofs.ValidLaws.{constant_null, constant_valid}
use Rattle.fl_scan.proofs.plain.add_constant.Goals as goal

pub returns-in-Some-clause-gathered : goal.returns-in-Some-clause-gathered
returns-in-Some-clause-gathered g c =
    let same : g.T.Number.value c.unwrap.result ≡ integer_of c.in-Some.value = search rules in
    let value : Some (g.T.Number.value c.unwrap.result) ≡ c.args.constant.now.scalar.value = ap (λ z. Some z) same ∙ c.in-Some.ensures.value in
    subst (λ ys. OnOk c.add_repeated.result (g.F.Fold.Leads c.args.fold.now ys c.add_repeated.new.self)) (sym (constant_valid c.args.constant.now (g.T.Number.value c.unwrap.result) c.len.result value c.len.ensures.constant_items)) c.add_repeated.ensures.gathered

pub returns-in-None-clause-gathered : goal.returns-in-None-clause-gathered
returns-in-None-clause-gathered g c = subst (λ ys. g.F.Fold.Leads c.args.fold.now ys c.args.fold.now) (sym (constant_null c.args.constant.now c.in-None.ensures.value)) (g.met.F.Fold.stays c.args.fold.now)
