use Rattle.std.proofs.Common.{◌≡◌, None, sym, subst, refl, ◌∙◌}
use Rattle.fl_column.specs.Columns.{column_of_primitive}
use Rattle.fl_patches.proofs.Parts.{ok_same}
use Rattle.fl_patches.specs.PatchParts.{global_patches}
use Rattle.fl_bitpacking.specs.Blocks.{global_blocks}
use Rattle.fl_bitpacking.specs.Columns.{BitPackedParts, column_of_packed}
use Rattle.fl_bitpacking.specs.Encoders.{IsPackedAt}
use Rattle.fl_bitpacking.proofs.EncodedParts.{same_parts}
use Rattle.fl_bitpacking.proofs.OneWidth.{no_patches}
use Rattle.fl_bitpacking.proofs.bitpack_compress.encoding.pack_unpatched.Goals as goal

pub returns-clause-parts : goal.returns-clause-parts
returns-clause-parts c =
    let p = c.args.array.now in
    let none = no_patches p c.args.width (c.patches_are_counted.ensures c.args.width ∙ c.requires.narrow) in
    let same = same_parts p (global_patches c.args.width p) None c.in_ok-packed.packed _ _ _ c.ptype.ensures (ok_same _ _ c.in_ok-validity.ensures ∙ c.validity.ensures.value) (sym none) c.len-len.ensures.slots in
    let by : BitPackedParts → Type 0 = λ d. IsPackedAt p c.args.width d in
    subst by (sym (c.new-data.ensures ∙ same)) (record { packed = c.in_ok-packed.ensures.packed; whole = refl })

pub returns-clause-column : goal.returns-clause-column
returns-clause-column c =
    let p = c.args.array.now in
    let none = no_patches p c.args.width (c.patches_are_counted.ensures c.args.width ∙ c.requires.narrow) in
    let same = same_parts p (global_patches c.args.width p) None c.in_ok-packed.packed _ _ _ c.ptype.ensures (ok_same _ _ c.in_ok-validity.ensures ∙ c.validity.ensures.value) (sym none) c.len-len.ensures.slots in
    let by : BitPackedParts → Type 0 = λ d. column_of_packed d (global_blocks c.args.width) ≡ column_of_primitive p in
    subst by (sym (c.new-data.ensures ∙ same)) (c.packed_with_patches_and_back.ensures.even c.args.width c.in_ok-packed.packed c.in_ok-packed.ensures.packed)
