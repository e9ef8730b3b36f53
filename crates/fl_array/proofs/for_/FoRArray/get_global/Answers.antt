use Rattle.std.proofs.Common.{◌≡◌, ◌∙◌, ℤ, Some, ap, sym}
use Rattle.fl_types.specs.Values.{integer_of, scalar_parts}
use Rattle.fl_array.proofs.TypedItems.{global_value}
use Rattle.fl_array.proofs.for_.FoRArray.get_global.Goals as goal

pub returns : goal.returns
returns g c =
    let value = g.T.Number.value in
    let is : value c.unwrap.result ≡ integer_of c.in-Some.reference = rw c.unwrap.ensures at c.from_pvalue.ensures.value in
    c.plus_reference.ensures ∙ global_value c.args.self.now (scalar_parts c.args.reference.now) _ c.args.i _ _ c.requires.same c.requires.typed c.requires.range (c.in-Some.ensures.value ∙ ap (λ (z : ℤ). Some z) (sym is)) c.requires.item
