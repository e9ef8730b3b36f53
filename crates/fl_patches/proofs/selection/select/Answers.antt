use Rattle.std.proofs.Common.{Option, Ok, pos, get_or, length, map, refl, subst, sym}
use Rattle.fl_types.specs.Refusals.{Answers}
use Rattle.fl_types.specs.Validities.{nullability_of}
use Rattle.fl_column.specs.Columns.{PrimitiveParts}
use Rattle.fl_patches.specs.PatchMaps.{AreOrdered, PatchesParts, patches_at}
use Rattle.fl_patches.proofs.Parts.{sound}
use Rattle.fl_patches.proofs.Selected.{found_in_order, found_selected}
use Rattle.fl_types.proofs.Refused.{no_memory_there}
use Rattle.fl_patches.proofs.selection.select.Goals as goal

pub finish-requires : goal.finish-requires
finish-requires c =
    let p = c.args.patches.now in
    let f = c.in_ok-found.found in
    let found = rw (c.offset.ensures, c.indices.ensures.indices) at c.in_ok-found.ensures.found in
    let of_values : PrimitiveParts → Type 0 = λ v. AreOrdered f.places.items f.ranks.items (length c.args.positions.now) (length v.slots) in
    subst of_values (sym c.values.ensures) (found_in_order p c.args.positions.now f.places.items f.ranks.items (length c.args.positions.now) (sound p c.indices.ensures.accepted) found refl)

pub returns : goal.returns
returns c =
    let p = c.args.patches.now in
    let f = c.in_ok-found.found in
    let positions = c.args.positions.now in
    let found = rw (c.offset.ensures, c.indices.ensures.indices) at c.in_ok-found.ensures.found in
    let of_values : PrimitiveParts → Type 0 = λ v. Answers (λ o. o) c.finish.result (Ok (patches_at (length positions) v.ptype (nullability_of v.validity) f.places.items (map (λ rank. get_or v.slots rank (pos 0)) f.ranks.items))) in
    let of_patches : Option PatchesParts → Type 0 = λ o. Answers (λ o'. o') c.finish.result (Ok o) in
    subst of_patches (found_selected p positions f.places.items f.ranks.items (length positions) found refl) (subst of_values c.values.ensures c.finish.ensures)

pub returns-in_err-found : goal.returns-in_err-found
returns-in_err-found c = no_memory_there _ c.from_residual.result _ _ c.from_residual.ensures.1 c.in_err-found.ensures.memory
