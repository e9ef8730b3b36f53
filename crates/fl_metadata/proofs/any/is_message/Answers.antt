use Rattle.std.proofs.Common.{◌∙◌, sym, subst, []}
use Rattle.std.specs.Prelude.{IsTrue}
use Rattle.fl_metadata.specs.Schemas.{values_of, seen_values}
use Rattle.fl_metadata.proofs.AnyMessages.{any_found, any_only, given_ok}
use Rattle.fl_metadata.proofs.any.is_message.Goals as goal

pub returns : goal.returns
returns c =
    let same = c.is_ok.ensures.value ∙ given_ok seen_values c.read.result (values_of [] c.args.bytes.now) c.read.ensures.is in
    (λ ok. any_found c.args.bytes.now (subst IsTrue same ok), λ message. subst IsTrue (sym same) (any_only c.args.bytes.now message))
