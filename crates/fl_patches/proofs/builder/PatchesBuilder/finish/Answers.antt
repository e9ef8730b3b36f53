use Rattle.std.proofs.Common.{◌≡◌, ℕ, ℤ, pos, Some, None, Ok, get_or, length, map, ap, subst, sym, ◌∙◌, arith}
use Rattle.fl_types.specs.Validities.{full_validity, nullability_of}
use Rattle.fl_column.proofs.NumberLaws.{below_bound}
use Rattle.fl_patches.specs.PatchMaps.{PatchesParts, refusal_of}
use Rattle.fl_patches.proofs.Parts.{ok_same}
use Rattle.fl_patches.proofs.Selected.{picked_accepted, picked_at, picked_is}
use Rattle.fl_types.proofs.Refused.{no_memory_there, only_memory}
use Rattle.fl_patches.proofs.builder.PatchesBuilder.finish.Goals as goal

pub index_array-requires : goal.index_array-requires
index_array-requires c = below_bound c.args.self.places.items c.args.len c.requires.below

pub new_unchecked-requires : goal.new_unchecked-requires
new_unchecked-requires c =
    let v = c.args.values.now in
    let places = c.args.self.places.items in
    let ranks = c.args.self.ranks.items in
    let value : ℕ → ℤ = λ rank. get_or v.slots rank (pos 0) in
    let indices = ok_same _ _ c.in_ok-indices.ensures in
    let values : c.in_ok-values.values ≡ record { ptype = v.ptype; slots = map value ranks; validity = full_validity (nullability_of v.validity) } = rw (← c.deref.ensures.value) (ok_same _ _ c.in_ok-values.ensures) in
    let same = picked_is c.args.len v.ptype (nullability_of v.validity) places (map value ranks) c.in_ok-indices.indices c.in_ok-values.values indices values in
    let holds : PatchesParts → Type 0 = λ p. refusal_of p ≡ None in
    subst holds same (picked_accepted c.args.len (length v.slots) v.ptype (nullability_of v.validity) places ranks value c.requires (omega arith))

pub returns : goal.returns
returns c =
    let v = c.args.values.now in
    let places = c.args.self.places.items in
    let ranks = c.args.self.ranks.items in
    let value : ℕ → ℤ = λ rank. get_or v.slots rank (pos 0) in
    let indices = ok_same _ _ c.in_ok-indices.ensures in
    let values : c.in_ok-values.values ≡ record { ptype = v.ptype; slots = map value ranks; validity = full_validity (nullability_of v.validity) } = rw (← c.deref.ensures.value) (ok_same _ _ c.in_ok-values.ensures) in
    let same = picked_is c.args.len v.ptype (nullability_of v.validity) places (map value ranks) c.in_ok-indices.indices c.in_ok-values.values indices values in
    let at = picked_at c.args.len v.ptype (nullability_of v.validity) places (map value ranks) (omega arith) in
    ap (λ o. Ok o) (at ∙ ap (λ p. Some p) (same ∙ sym c.new_unchecked.ensures))

pub returns-in_err-values : goal.returns-in_err-values
returns-in_err-values c = no_memory_there _ c.from_residual.result _ _ c.from_residual.ensures.1 (only_memory _ _ c.in_err-values.ensures)

pub returns-in_err-indices : goal.returns-in_err-indices
returns-in_err-indices c = no_memory_there _ c.from_residual-in_err-indices.result _ _ c.from_residual-in_err-indices.ensures.1 (only_memory _ _ c.in_err-indices.ensures)
