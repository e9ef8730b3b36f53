use Rattle.std.proofs.Common.{◌≡◌, ◌+ℤ◌, ap, ◌∙◌}
use Rattle.fl_types.specs.Integers.{wrap}
use Rattle.fl_types.specs.Values.{integer_of}
use Rattle.fl_codec.proofs.for_.single_items.sum_typed.Goals as goal

pub returns-clause-sum : goal.returns-clause-sum
returns-clause-sum g c =
    let ptype = g.T.NativePType.PTYPE in
    let left : g.T.Number.value c.unwrap-value.result ≡ integer_of c.args.value = rw c.unwrap-value.ensures at c.from_pvalue.ensures.value in
    let right : g.T.Number.value c.unwrap-reference.result ≡ integer_of c.args.reference = rw c.unwrap-reference.ensures at c.from_pvalue-2.ensures.value in
    c.into_pvalue.ensures.value
    ∙ (g.met.T.WrappingAdd.wrapping_add_law _ _ _ c.wrapping_add.ensures
    ∙ (g.met.T.NativePType.wraps_law _ ∙ (ap (λ z. wrap ptype (z +ℤ g.T.Number.value c.unwrap-reference.result)) left ∙ ap (λ z. wrap ptype (integer_of c.args.value +ℤ z)) right)))

pub returns-clause-typed : goal.returns-clause-typed
returns-clause-typed g c = c.into_pvalue.ensures.typed
