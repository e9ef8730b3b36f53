-- Gathered patches keep the integers of packed blocks.
use Rattle.std.proofs.Common.{◌≡◌, ℕ, ℤ, pos, ◌+◌, ◌/◌, ◌^◌, ◌<◌, ◌≤◌, ◌⊎◌, true, List, length, get_or, Some, None, IsTrue, cond, nat_lt, refl, ap, ◌∙◌, arith, lit≤, inl, inr}
use Rattle.std.proofs.Math.Nat.{pow-le-pow_right}
use Rattle.std.proofs.lemmas.Bool.{cases_Bool, ltb-false}
use Rattle.fl_types.specs.declared.dtype.PType.{PType}
use Rattle.fl_types.specs.Integers.{bits_of_type, is_unsigned, pattern_of, smallest_type}
use Rattle.fl_types.specs.Validities.{covers, items_of}
use Rattle.fl_column.specs.Columns.{PrimitiveParts}
use Rattle.fl_column.proofs.ItemLaws.{get_or-items_of}
use Rattle.fl_column.specs.Chunks.{chunk_count}
use Rattle.fl_patches.specs.PatchMaps.{patched_in}
use Rattle.fl_column.proofs.NumberLaws.{smallest_unsigned}
use Rattle.fl_patches.specs.Exceptions.{bit_count, exception, one_width, width_of_block}
use Rattle.fl_patches.specs.PatchParts.{blocked_patches, exception_patches, global_patches}
use Rattle.fl_patches.proofs.BitCounts.{bit_count_holds, pattern_below, type_most}
use Rattle.fl_patches.proofs.ExceptionPatches.{exceptions_are}
use Rattle.fl_bitpacking.specs.Blocks.{Blocks, boundary_blocks, boundaries_of, global_blocks}
use Rattle.fl_bitpacking.specs.Restored.{AreKept}
use Rattle.fl_bitpacking.proofs.Bounds.{width_between}

-- an integer of no more bits than a width lies below the width's power
pattern_narrow : (ptype : PType) (z : ℤ) (width : ℕ) → bit_count (pattern_of ptype z) ≤ width → pattern_of ptype z < 2 ^ width
pattern_narrow ptype z width few =
    let below = pattern_below ptype z in
    let type_room : 2 ^ bits_of_type ptype ≤ 2 ^ 64 = pow-le-pow_right (lit≤ tt) (type_most ptype) in
    let holds = bit_count_holds (pattern_of ptype z) (omega arith) in
    let power : 2 ^ bit_count (pattern_of ptype z) ≤ 2 ^ width = pow-le-pow_right (lit≤ tt) few in
    omega (arith, holds.0)

-- an integer is its own exception, or none and has no more bits than the width
exception_or_narrow : (ptype : PType) (z : ℤ) (width : ℕ) → (exception ptype width (Some z) ≡ Some z) ⊎ ((exception ptype width (Some z) ≡ None) × (pattern_of ptype z < 2 ^ width))
exception_or_narrow ptype z width = elim (cases_Bool (nat_lt width (bit_count (pattern_of ptype z)))) [
  | inl wide ↦ inl (rw wide refl)
  | inr narrow ↦ inr (rw narrow refl, pattern_narrow ptype z width (ltb-false width (bit_count (pattern_of ptype z)) narrow))
]

-- the patches of the exceptions at the widths of the blocks
exceptions_kept : (index_type : PType) (width_of : ℕ → ℕ) (blocks : Blocks) (p : PrimitiveParts) → is_unsigned index_type ≡ true → IsTrue (covers p.validity (length p.slots)) → ((i : ℕ) → i < length p.slots → width_of i ≡ blocks.width (i / 1024))
    → AreKept p (exception_patches index_type width_of p) blocks
exceptions_kept index_type width_of blocks p unsigned covered same = record {
  each = λ i h valid.
      let value : ℤ = get_or p.slots i (pos 0) in
      let width : ℕ = blocks.width (i / 1024) in
      let are = exceptions_are index_type width_of p unsigned covered in
      let item : get_or (items_of p.validity p.slots) i None ≡ Some value = get_or-items_of p.validity p.slots i (pos 0) covered h ∙ ap (λ b. cond b (Some value) None) valid in
      let patch : patched_in (exception_patches index_type width_of p) i ≡ exception p.ptype width (Some value) = are.values i h ∙ (ap (λ n. exception p.ptype n (get_or (items_of p.validity p.slots) i None)) (same i h) ∙ ap (exception p.ptype width) item) in
      elim (exception_or_narrow p.ptype value width) [
        | inl wide ↦ inl (patch ∙ wide)
        | inr narrow ↦ inr (patch ∙ narrow.0, narrow.1)
      ];
}

-- at one width
pub global_kept : (p : PrimitiveParts) (width : ℕ) → IsTrue (covers p.validity (length p.slots)) → AreKept p (global_patches width p) (global_blocks width)
global_kept p width covered = exceptions_kept (smallest_type (length p.slots + 1)) (one_width width) (global_blocks width) p (smallest_unsigned (length p.slots + 1)) covered (λ i h. refl)

-- at a width for each block
pub blocked_kept : (p : PrimitiveParts) (widths : List ℕ) → IsTrue (covers p.validity (length p.slots)) → length widths ≡ chunk_count (length p.slots) → AreKept p (blocked_patches widths p) (boundary_blocks (boundaries_of widths))
blocked_kept p widths covered count = exceptions_kept (smallest_type (length p.slots)) (width_of_block widths) (boundary_blocks (boundaries_of widths)) p (smallest_unsigned (length p.slots)) covered (λ i h.
    let width = width_between widths (i / 1024) (omega arith) in
    omega arith)
