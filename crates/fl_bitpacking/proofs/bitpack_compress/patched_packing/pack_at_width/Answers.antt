use Rattle.std.proofs.Common.{◌≡◌, ◌+◌, ◌∙◌, IfOk, ap, arith, subst}
use Rattle.fl_types.specs.declared.dtype.PType.{PType}
use Rattle.fl_types.specs.Integers.{smallest_type}
use Rattle.fl_patches.specs.Exceptions.{one_width}
use Rattle.fl_patches.specs.PatchParts.{exception_patches}
use Rattle.fl_patches.proofs.ExceptionPatches.{one_more_type}
use Rattle.fl_bitpacking.proofs.bitpack_compress.patched_packing.pack_at_width.Goals as goal

pub returns-in-Some-clause-patches : goal.returns-in-Some-clause-patches
returns-in-Some-clause-patches c =
    let same = ap smallest_type c.saturating_add-holds.ensures ∙ (one_more_type c.len-len.result (omega arith) ∙ ap (λ n. smallest_type (n + 1)) c.len-len.ensures.slots) in
    let by : PType → Type 0 = λ t. IfOk c.pack_with_patches.result (λ r. r.1 ≡ exception_patches t (one_width c.args.width) c.args.array.now) in
    subst by same (rw c.from-width.ensures at c.pack_with_patches.ensures.patches)
