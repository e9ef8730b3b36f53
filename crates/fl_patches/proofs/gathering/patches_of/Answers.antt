use Rattle.std.proofs.Common.{◌<◌, ◌∙◌, Ok, Some, ap, map, sym, length, arith}
use Rattle.fl_types.specs.Integers.{smallest_type}
use Rattle.fl_types.specs.Validities.{nullability_of}
use Rattle.fl_patches.proofs.Parts.{ok_same}
use Rattle.fl_patches.specs.PatchMaps.{refusal_of}
use Rattle.fl_patches.proofs.ExceptionPatches.{below_more, parts_are, patches_some_of, unrefused}
use Rattle.fl_column.proofs.NumberLaws.{smallest_unsigned}
use Rattle.fl_types.proofs.Refused.{no_memory_there, only_memory}
use Rattle.fl_patches.proofs.gathering.patches_of.Goals as goal

pub index_array-requires : goal.index_array-requires
index_array-requires g c = below_more c.args.exceptions.found.places.items (length c.args.array.now.slots) c.args.holds c.requires.holds c.requires.chunked.below

pub new_unchecked-patches-requires : goal.new_unchecked-patches-requires
new_unchecked-patches-requires g c =
    let p = c.args.array.now in
    let places = c.args.exceptions.found.places.items in
    let values = map g.T.Number.value c.args.exceptions.found.values.items in
    let some : 0 < length places = omega (arith, c.len.ensures, c.if-len-eq0.false) in
    let made = parts_are c.args.holds (length p.slots) c.len-2.result p.ptype g.T.NativePType.PTYPE (nullability_of p.validity) c.nullability.result places values c.args.exceptions.offsets.items c.in_ok-indices.indices c.without_nulls-values.result c.non_nullable.result
    c.requires.same c.len-2.ensures.slots c.nullability.ensures c.requires.chunked.counted (ok_same _ _ c.in_ok-indices.ensures) c.without_nulls-values.ensures c.non_nullable.ensures in
    ap refusal_of made ∙ unrefused (smallest_type c.args.holds) (length p.slots) p.ptype (nullability_of p.validity) places values (smallest_unsigned c.args.holds) c.requires.chunked.rising c.requires.chunked.below c.requires.chunked.even some

pub returns : goal.returns
returns g c =
    let p = c.args.array.now in
    let places = c.args.exceptions.found.places.items in
    let values = map g.T.Number.value c.args.exceptions.found.values.items in
    let some : 0 < length places = omega (arith, c.len.ensures, c.if-len-eq0.false) in
    let made = parts_are c.args.holds (length p.slots) c.len-2.result p.ptype g.T.NativePType.PTYPE (nullability_of p.validity) c.nullability.result places values c.args.exceptions.offsets.items c.in_ok-indices.indices c.without_nulls-values.result c.non_nullable.result
    c.requires.same c.len-2.ensures.slots c.nullability.ensures c.requires.chunked.counted (ok_same _ _ c.in_ok-indices.ensures) c.without_nulls-values.ensures c.non_nullable.ensures in
    ap (λ o. Ok o) (patches_some_of (smallest_type c.args.holds) (length p.slots) p.ptype (nullability_of p.validity) places values some ∙ ap (λ q. Some q) (sym (c.new_unchecked-patches.ensures ∙ made)))

pub returns-in_err-indices : goal.returns-in_err-indices
returns-in_err-indices g c = no_memory_there _ c.from_residual.result _ _ c.from_residual.ensures.1 (only_memory _ _ c.in_err-indices.ensures)
