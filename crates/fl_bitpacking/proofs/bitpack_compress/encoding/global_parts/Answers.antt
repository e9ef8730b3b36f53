use Rattle.std.proofs.Common.{◌≡◌, None, length, sym, subst, ap, ◌∙◌}
use Rattle.fl_patches.proofs.Parts.{ok_same}
use Rattle.fl_patches.specs.PatchParts.{global_patches}
use Rattle.fl_bitpacking.specs.Columns.{BitPackedParts}
use Rattle.fl_bitpacking.specs.Refusals.{AreConsistent, global_refusal, positions_refusal}
use Rattle.fl_bitpacking.proofs.EncodedParts.{consistent_at, packed_global, same_parts}
use Rattle.fl_bitpacking.proofs.bitpack_compress.encoding.global_parts.Goals as goal

pub new-data-requires : goal.new-data-requires
new-data-requires c =
    let p = c.args.array.now in
    let bytes = c.in_ok-packed.packed in
    let same = same_parts p (global_patches c.args.width p) _ bytes _ _ _ c.ptype.ensures (ok_same _ _ c.in_ok-validity.ensures ∙ c.validity.ensures.value) c.in_ok-packed.ensures.patches c.len-len.ensures.slots in
    let few : positions_refusal 0 (length p.slots) ≡ None = ap (positions_refusal 0) (sym c.len-len.ensures.slots) ∙ (sym c.positions_refusal.ensures ∙ c.in_default.is) in
    subst AreConsistent (sym same) (consistent_at p c.args.width bytes c.validity.ensures.covers few)

pub returns-clause-global : goal.returns-clause-global
returns-clause-global c =
    let p = c.args.array.now in
    let bytes = c.in_ok-packed.packed in
    let same = same_parts p (global_patches c.args.width p) _ bytes _ _ _ c.ptype.ensures (ok_same _ _ c.in_ok-validity.ensures ∙ c.validity.ensures.value) c.in_ok-packed.ensures.patches c.len-len.ensures.slots in
    let few : positions_refusal 0 (length p.slots) ≡ None = ap (positions_refusal 0) (sym c.len-len.ensures.slots) ∙ (sym c.positions_refusal.ensures ∙ c.in_default.is) in
    let holds : BitPackedParts → Type 0 = λ q. global_refusal q c.args.width ≡ None in
    rw c.new-data.ensures (subst holds (sym same) (packed_global p (global_patches c.args.width p) c.args.width bytes (consistent_at p c.args.width bytes c.validity.ensures.covers few) c.requires c.in_ok-packed.ensures.packed))
