use Rattle.std.proofs.Common.{◌≡◌, ◌∙◌, None, Some, ap, rules, sym}
use Rattle.fl_types.specs.Values.{integer_of}
use Rattle.fl_scan.proofs.CountedColumns.{constant_counted, constant_uncounted, null_uncounted}
use Rattle.fl_scan.proofs.counts.count_constant.Goals as goal

pub returns-in_default : goal.returns-in_default
returns-in_default g c =
    let null : None ≡ c.args.constant.now.scalar.value = search rules in
    null_uncounted (g.P.ItemTest.passing c.args.test) c.args.constant.now null

pub returns-then-passes : goal.returns-then-passes
returns-then-passes g c =
    let same : g.T.Number.value c.unwrap-item.result ≡ integer_of c.in-Some.value = search rules in
    let value : Some (g.T.Number.value c.unwrap-item.result) ≡ c.args.constant.now.scalar.value = ap (λ z. Some z) same ∙ c.in-Some.ensures.value in
    constant_counted (g.P.ItemTest.passing c.args.test) c.args.constant.now (g.T.Number.value c.unwrap-item.result) c.len-len.result value c.len-len.ensures.constant_items (sym c.passes.ensures ∙ c.if-passes.true)

pub returns-else-passes : goal.returns-else-passes
returns-else-passes g c =
    let same : g.T.Number.value c.unwrap-item.result ≡ integer_of c.in-Some.value = search rules in
    let value : Some (g.T.Number.value c.unwrap-item.result) ≡ c.args.constant.now.scalar.value = ap (λ z. Some z) same ∙ c.in-Some.ensures.value in
    constant_uncounted (g.P.ItemTest.passing c.args.test) c.args.constant.now (g.T.Number.value c.unwrap-item.result) c.len-len.result value c.len-len.ensures.constant_items (sym c.passes.ensures ∙ c.if-passes.false)
