use Rattle.std.proofs.lemmas.List.{length-map}
use Rattle.fl_patches.proofs.ExceptionPatches.{all_chunked}
use Rattle.fl_patches.proofs.Gathers.{covered_slice, named_slice}
use Rattle.fl_patches.specs.Widths.{width_at}
use Rattle.fl_types.proofs.Refused.{no_value, no_memory}
use Rattle.fl_patches.proofs.gathering.gather_typed.Goals as goal

pub find-requires-clause-covers : goal.find-requires-clause-covers
find-requires-clause-covers g c = covered_slice g.T.Number.value c.args.array.now.validity c.validity.result.now c.as_slice-items.result.now c.args.array.now.slots c.as_slice-items.ensures c.validity.ensures.value c.validity.ensures.covers

pub find-requires-clause-names : goal.find-requires-clause-names
find-requires-clause-names g c = named_slice g.T.Number.value c.args.widths c.as_slice-items.result.now c.args.array.now.slots c.as_slice-items.ensures c.requires.names

pub into_patches-requires-clause-chunked : goal.into_patches-requires-clause-chunked
into_patches-requires-clause-chunked g c =
    all_chunked g.T.NativePType.PTYPE c.args.array.now.validity c.args.array.now.slots (width_at c.args.widths) _ _ _ c.validity.ensures.covers
    (rw (← c.as_slice-items.ensures, ← c.validity.ensures.value, length-map) c.in_ok-found.ensures)

pub returns-clause-parts : goal.returns-clause-parts
returns-clause-parts g c = c.into_patches.ensures.parts (width_at c.args.widths) (rw (← c.as_slice-items.ensures, ← c.validity.ensures.value, length-map) c.in_ok-found.ensures)

pub returns-clause-map : goal.returns-clause-map
returns-clause-map g c = c.into_patches.ensures.map (width_at c.args.widths) (rw (← c.as_slice-items.ensures, ← c.validity.ensures.value, length-map) c.in_ok-found.ensures)

pub returns-in_err-found-clause-parts : goal.returns-in_err-found-clause-parts
returns-in_err-found-clause-parts g c = no_memory _ c.from_residual.result _ c.from_residual.ensures.1

pub returns-in_err-found-clause-map : goal.returns-in_err-found-clause-map
returns-in_err-found-clause-map g c = no_value _ _ c.from_residual.result c.from_residual.ensures.1
