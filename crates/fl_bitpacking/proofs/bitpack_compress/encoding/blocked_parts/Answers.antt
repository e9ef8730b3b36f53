use Rattle.std.proofs.Common.{◌≡◌, None, length, sym, subst, ap, ◌∙◌}
use Rattle.fl_column.specs.Columns.{PrimitiveParts, column_of_primitive}
use Rattle.fl_patches.proofs.Parts.{ok_same}
use Rattle.fl_patches.specs.PatchParts.{blocked_patches}
use Rattle.fl_bitpacking.specs.Blocks.{boundary_array}
use Rattle.fl_bitpacking.specs.Columns.{BitPackedParts}
use Rattle.fl_bitpacking.specs.Refusals.{AreConsistent, blocked_refusal, positions_refusal}
use Rattle.fl_bitpacking.proofs.EncodedParts.{consistent_in_blocks, packed_blocked, same_parts}
use Rattle.fl_bitpacking.proofs.RefusedNegatives.{answers_unless}
use Rattle.fl_bitpacking.proofs.bitpack_compress.encoding.blocked_parts.Goals as goal

pub new-data-requires : goal.new-data-requires
new-data-requires c =
    let p = c.args.array.now in
    let widths = c.args.widths.now in
    let bytes = c.in_ok-packed.packed in
    let same = same_parts p (blocked_patches widths p) _ bytes _ _ _ c.ptype.ensures (ok_same _ _ c.in_ok-validity.ensures ∙ c.validity.ensures.value) c.in_ok-packed.ensures.patches c.len-len.ensures.slots in
    let few : positions_refusal 0 (length p.slots) ≡ None = ap (positions_refusal 0) (sym c.len-len.ensures.slots) ∙ (sym c.positions_refusal.ensures ∙ c.in_default.is) in
    subst AreConsistent (sym same) (consistent_in_blocks p widths bytes c.validity.ensures.covers few)

pub returns-clause-blocked : goal.returns-clause-blocked
returns-clause-blocked c =
    let p = c.args.array.now in
    let widths = c.args.widths.now in
    let bytes = c.in_ok-packed.packed in
    let same = same_parts p (blocked_patches widths p) _ bytes _ _ _ c.ptype.ensures (ok_same _ _ c.in_ok-validity.ensures ∙ c.validity.ensures.value) c.in_ok-packed.ensures.patches c.len-len.ensures.slots in
    let few : positions_refusal 0 (length p.slots) ≡ None = ap (positions_refusal 0) (sym c.len-len.ensures.slots) ∙ (sym c.positions_refusal.ensures ∙ c.in_default.is) in
    let holds : BitPackedParts → Type 0 = λ q. blocked_refusal q (column_of_primitive (boundary_array widths)) ≡ None in
    let by : PrimitiveParts → Type 0 = λ b. blocked_refusal c.new-data.result (column_of_primitive b) ≡ None in
    subst by (sym c.in_ok-packed.ensures.boundaries) (rw c.new-data.ensures (subst holds (sym same) (packed_blocked p (blocked_patches widths p) widths bytes (consistent_in_blocks p widths bytes c.validity.ensures.covers few) c.requires.count c.requires.narrow c.in_ok-packed.ensures.packed)))

pub returns-clause-refusal : goal.returns-clause-refusal
returns-clause-refusal c = answers_unless _ _ _ c.in_ok-packed.ensures.refusal
