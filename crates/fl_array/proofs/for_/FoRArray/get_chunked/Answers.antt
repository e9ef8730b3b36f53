use Rattle.std.proofs.Common.{◌∙◌, ℤ, pos, Option, ap}
use Rattle.std.specs.Prelude.{unwrap_or}
use Rattle.fl_array.specs.FoRArrays.{offset_of_references}
use Rattle.fl_array.proofs.TypedItems.{chunked_value, value_or}
use Rattle.fl_array.proofs.for_.FoRArray.get_chunked.Goals as goal

pub returns : goal.returns
returns g c =
    let value = g.T.Number.value in
    c.plus_reference.ensures ∙ chunked_value c.args.self.now c.args.references.now (offset_of_references c.args.self.now.references) _ c.args.i _ _ c.requires.same c.prove_well_formed.ensures c.requires.typed c.requires.range (ap value c.unwrap_or.ensures ∙ (value_or value c.args.reference c.zero.result (pos 0) c.zero.ensures ∙ ap (λ (o : Option ℤ). unwrap_or o (pos 0)) c.requires.reference)) c.requires.item
