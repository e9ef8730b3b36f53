use Rattle.fl_codec.proofs.ReferenceLaws.{covered_read, fit_read}
use Rattle.fl_codec.proofs.for_.encode_typed.Goals as goal

pub guess_least-requires-clause-covers : goal.guess_least-requires-clause-covers
guess_least-requires-clause-covers g c = covered_read g.T.Number.value c.args.array.now c.validity.result.now c.as_slice.result.now c.validity.ensures.value c.validity.ensures.covers c.as_slice.ensures

pub guess_least-requires-clause-fit : goal.guess_least-requires-clause-fit
guess_least-requires-clause-fit g c = fit_read g.T.Number.value c.args.array.now g.T.NativePType.PTYPE c.as_slice.result.now c.requires c.stored_integers_are_in_range.ensures.slots c.as_slice.ensures
