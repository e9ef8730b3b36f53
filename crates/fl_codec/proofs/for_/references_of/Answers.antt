use Rattle.std.proofs.Common.{map}
use Rattle.fl_codec.proofs.ReferenceLaws.{covered_read, fit_read, made_of_plain}
use Rattle.fl_codec.proofs.for_.references_of.Goals as goal

pub chunk_references-requires-clause-covers : goal.chunk_references-requires-clause-covers
chunk_references-requires-clause-covers g c = covered_read g.T.Number.value c.args.array.now c.validity.result.now c.as_slice.result.now c.validity.ensures.value c.validity.ensures.covers c.as_slice.ensures

pub chunk_references-requires-clause-fit : goal.chunk_references-requires-clause-fit
chunk_references-requires-clause-fit g c = fit_read g.T.Number.value c.args.array.now g.T.NativePType.PTYPE c.as_slice.result.now c.requires c.stored_integers_are_in_range.ensures.slots c.as_slice.ensures

pub returns : goal.returns
returns g c = made_of_plain c.args.order g.T.NativePType.PTYPE g.T.Number.value c.args.array.now c.validity.result.now c.as_slice.result.now (λ v. map g.T.Number.value v.items) c.chunk_references.result c.requires c.validity.ensures.value c.as_slice.ensures c.chunk_references.ensures.references
