use Rattle.fl_bitpacking.specs.Blocks.{boundary_blocks, boundaries_of, global_blocks}
use Rattle.fl_patches.specs.PatchParts.{blocked_patches, global_patches}
use Rattle.fl_bitpacking.proofs.GatheredPatches.{blocked_kept, global_kept}
use Rattle.fl_bitpacking.proofs.Restores.{column_restored}
use Rattle.fl_bitpacking.proofs.laws.packed_with_patches_and_back.Goals as goal

pub returns-clause-even : goal.returns-clause-even
returns-clause-even c width bytes packed =
    let p = c.args.array.now in
    let covered = c.validity-validity.ensures.covers in
    column_restored p (global_patches width p) (global_blocks width) bytes covered c.stored_integers_are_in_range.ensures.slots packed (global_kept p width covered)

pub returns-clause-bounded : goal.returns-clause-bounded
returns-clause-bounded c widths bytes count packed =
    let p = c.args.array.now in
    let covered = c.validity-validity.ensures.covers in
    column_restored p (blocked_patches widths p) (boundary_blocks (boundaries_of widths)) bytes covered c.stored_integers_are_in_range.ensures.slots packed (blocked_kept p widths covered count)
