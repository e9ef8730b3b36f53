use Rattle.std.proofs.Common.{◌≡◌, Option, Some, Ok, pos, get_or, length, map, subst, sym, ◌∙◌}
use Rattle.std.proofs.lemmas.List.{length-map}
use Rattle.fl_types.specs.Refusals.{Answers}
use Rattle.fl_types.specs.Validities.{nullability_of}
use Rattle.fl_column.specs.Columns.{PrimitiveParts}
use Rattle.fl_column.specs.Numbers.{numbers}
use Rattle.fl_patches.specs.PatchMaps.{AreFound, AreOrdered, ArePatches, PatchesParts, filter_patches, kept_positions, patched_in_filter, patches_at, ranks_at}
use Rattle.fl_patches.proofs.Parts.{all_before, none_before, sound}
use Rattle.fl_patches.proofs.Selected.{answered, filter_are, found_in_order, found_selected}
use Rattle.fl_types.proofs.Refused.{no_value, no_memory_there}
use Rattle.fl_patches.proofs.patches.Patches.filter.Goals as goal

pub find_by_mask-requires-clause-first : goal.find_by_mask-requires-clause-first
find_by_mask-requires-clause-first c = let p = c.args.self.now in rw (c.offset.ensures, c.indices.ensures.indices) (none_before p (sound p c.indices.ensures.accepted))

pub find_by_mask-requires-clause-last : goal.find_by_mask-requires-clause-last
find_by_mask-requires-clause-last c = let p = c.args.self.now in rw (c.offset.ensures, c.indices.ensures.indices, c.requires) (all_before p (sound p c.indices.ensures.accepted))

pub finish-requires : goal.finish-requires
finish-requires c =
    let p = c.args.self.now in
    let f = c.in_ok-found.found in
    let positions = kept_positions c.args.mask.now p.array_len in
    let found : AreFound f.places.items f.ranks.items (ranks_at p.offset (numbers p.indices) (map (λ i. Some i) positions)) = rw (c.offset.ensures, c.indices.ensures.indices, c.requires) at c.in_ok-found.ensures.found in
    let len : c.in_ok-found.len ≡ length (map (λ i. Some i) positions) = (rw c.requires at c.in_ok-found.ensures.len) ∙ sym (length-map positions _) in
    let of_values : PrimitiveParts → Type 0 = λ v. AreOrdered f.places.items f.ranks.items c.in_ok-found.len (length v.slots) in
    subst of_values (sym c.values.ensures) (found_in_order p (map (λ i. Some i) positions) f.places.items f.ranks.items c.in_ok-found.len (sound p c.indices.ensures.accepted) found len)

pub returns-clause-parts : goal.returns-clause-parts
returns-clause-parts c =
    let p = c.args.self.now in
    let f = c.in_ok-found.found in
    let positions = kept_positions c.args.mask.now p.array_len in
    let found : AreFound f.places.items f.ranks.items (ranks_at p.offset (numbers p.indices) (map (λ i. Some i) positions)) = rw (c.offset.ensures, c.indices.ensures.indices, c.requires) at c.in_ok-found.ensures.found in
    let len : c.in_ok-found.len ≡ length (map (λ i. Some i) positions) = (rw c.requires at c.in_ok-found.ensures.len) ∙ sym (length-map positions _) in
    let of_values : PrimitiveParts → Type 0 = λ v. Answers (λ o. o) c.finish.result (Ok (patches_at c.in_ok-found.len v.ptype (nullability_of v.validity) f.places.items (map (λ rank. get_or v.slots rank (pos 0)) f.ranks.items))) in
    let of_patches : Option PatchesParts → Type 0 = λ o. Answers (λ o'. o') c.finish.result (Ok o) in
    subst of_patches (found_selected p (map (λ i. Some i) positions) f.places.items f.ranks.items c.in_ok-found.len found len) (subst of_values c.values.ensures c.finish.ensures)

pub returns-clause-map : goal.returns-clause-map
returns-clause-map c =
    let p = c.args.self.now in
    let positions = kept_positions c.args.mask.now p.array_len in
    let are : Option PatchesParts → Type 0 = λ o. ArePatches o (length positions) (patched_in_filter c.args.mask.now p) in
    answered c.finish.result (Ok (filter_patches c.args.mask.now p)) are (filter_are p positions) (returns-clause-parts c)

pub returns-in_err-found-clause-parts : goal.returns-in_err-found-clause-parts
returns-in_err-found-clause-parts c = no_memory_there _ c.from_residual.result _ _ c.from_residual.ensures.1 c.in_err-found.ensures.memory

pub returns-in_err-found-clause-map : goal.returns-in_err-found-clause-map
returns-in_err-found-clause-map c = no_value _ _ c.from_residual.result c.from_residual.ensures.1
