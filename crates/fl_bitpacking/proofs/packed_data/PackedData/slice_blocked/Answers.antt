use Rattle.std.proofs.Common.{◌≡◌, ◌-◌, ◌+◌, ℕ, sym, ap, subst, None, length, ◌∙◌, arith, refl}
use Rattle.fl_types.specs.Integers.{bits_of_type}
use Rattle.fl_column.specs.Columns.{Column, numbers_of}
use Rattle.fl_patches.proofs.Parts.{ok_same}
use Rattle.fl_patches.specs.PatchMaps.{patched_in}
use Rattle.fl_bitpacking.specs.Blocks.{boundary_blocks}
use Rattle.fl_bitpacking.specs.Columns.{BitPackedParts, column_of_packed}
use Rattle.fl_bitpacking.specs.Refusals.{AreConsistent, blocked_refusal}
use Rattle.fl_bitpacking.specs.SlicedParts.{HasEnds, end_block, first_block, sliced_boundaries, sliced_parts}
use Rattle.fl_bitpacking.proofs.PackedSlices.{packed_slice}
use Rattle.fl_bitpacking.proofs.BoundaryLaws.{later_boundary_blocks, length-numbers_of, numbers_of-slice}
use Rattle.fl_bitpacking.proofs.SoundParts.{are_blocked, no_blocked_refusal}
use Rattle.fl_bitpacking.proofs.SoundSlices.{blocked_slice, kept_within}
use Rattle.fl_bitpacking.proofs.packed_data.PackedData.slice_blocked.Goals as goal

-- the bytes that are cut out lie between the boundaries
same_bytes : (c : Column) (p : BitPackedParts) (start end first from to : ℕ) → HasEnds c p.offset start end first from to
    → sliced_parts (from - first) (to - first) start end p ≡ sliced_parts ((boundary_blocks (numbers_of c)).start (first_block p.offset start)) ((boundary_blocks (numbers_of c)).start (end_block p.offset end)) start end p
same_bytes c p start end first from to h = rw (← h.first_is, ← h.from_is, ← h.to_is) refl

pub returns-clause-blocked : goal.returns-clause-blocked
returns-clause-blocked r c at h =
    let p = r.args.self.now in
    let start = r.args.start in
    let end = r.args.end in
    let same = ok_same _ _ r.in_ok-sliced.ensures.parts ∙ same_bytes c p start end r.args.first r.args.from r.args.to at in
    let s = are_blocked p c h in
    let blocks = s.blocks in
    let count = s.count in
    let long = length-numbers_of c in
    let within = kept_within p.offset end p.len r.requires.range in
    let fit = subst AreConsistent same r.parts_are_consistent.ensures in
    let sound = no_blocked_refusal _ (sliced_boundaries p.offset start end c) (blocked_slice p c start end s r.requires.order r.requires.range fit) in
    let holds : BitPackedParts → Type 0 = λ q. blocked_refusal q (sliced_boundaries p.offset start end c) ≡ None in
    let part = boundary_blocks (numbers_of (sliced_boundaries p.offset start end c)) in
    let column = packed_slice p (boundary_blocks (numbers_of c)) part start end r.requires.order r.requires.range
    (λ j l. rw (numbers_of-slice c (first_block p.offset start) (end_block p.offset end + 1)) (later_boundary_blocks (bits_of_type p.ptype) (length p.packed) (numbers_of c) (first_block p.offset start) (end_block p.offset end) j blocks (omega arith) l))
    (λ i l. ap (λ (q : BitPackedParts). patched_in q.patches i) (sym same) ∙ r.in_ok-sliced.ensures.patches i l) in
    let to_column : BitPackedParts → Column = λ q. column_of_packed q part in
    record {
      sound = subst holds (sym same) sound;
      column = ap to_column same ∙ column;
    }
