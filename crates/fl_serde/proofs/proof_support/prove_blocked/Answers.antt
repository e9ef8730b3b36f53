use Rattle.std.proofs.Common.{◌∙◌, ◌<◌, ◌^◌, ap, arith, subst}
use Rattle.std.specs.Prelude.{IfSome, option_map}
use Rattle.fl_metadata.specs.Fits.{PatchesFit}
use Rattle.fl_bitpacking.specs.Columns.{BitPackedParts}
use Rattle.fl_serde.specs.RoundTrip.{ArePatchesOfTypes}
use Rattle.fl_serde.specs.Writing.{patches_message}
use Rattle.fl_serde.proofs.BackLaws.{blocked_is_back}
use Rattle.fl_serde.proofs.proof_support.prove_blocked.Goals as goal

pub returns : goal.returns
returns c =
    let parts = c.args.array.now.parts in
    let offset = subst (λ (d : BitPackedParts). d.offset < 1024) c.packed_data.ensures c.parts_are_consistent.ensures.fit.offset in
    let near : parts.offset < 2 ^ 32 = omega (arith, offset) in
    let held = c.patches.ensures ∙ ap (λ (d : BitPackedParts). d.patches) c.packed_data-2.ensures in
    blocked_is_back parts c.args.array.now.widths c.args.boundaries.now c.requires.same c.bitpacked_is_well_formed.ensures c.requires.boundaries near (subst (λ o. IfSome o ArePatchesOfTypes) held c.prove_patches.ensures.patches) (subst (λ o. IfSome (option_map patches_message o) PatchesFit) held c.prove_patches.ensures.message) c.written_is_read.ensures.bit_packed_blocked
