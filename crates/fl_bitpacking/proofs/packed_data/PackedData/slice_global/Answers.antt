use Rattle.std.proofs.Common.{◌≡◌, ◌*◌, Ok, sym, ap, subst, None, length, ◌∙◌, arith}
use Rattle.std.specs.Prelude.{Result}
use Rattle.fl_types.specs.declared.error.FastLanesError.{FastLanesError}
use Rattle.fl_column.specs.Columns.{Column}
use Rattle.fl_patches.proofs.Parts.{ok_same}
use Rattle.fl_patches.specs.PatchMaps.{patched_in}
use Rattle.fl_bitpacking.specs.Blocks.{global_blocks}
use Rattle.fl_bitpacking.specs.Columns.{BitPackedParts, column_of_packed}
use Rattle.fl_bitpacking.specs.Refusals.{AreConsistent, global_refusal}
use Rattle.fl_bitpacking.specs.SlicedParts.{end_block, first_block, sliced_parts}
use Rattle.fl_bitpacking.proofs.PackedSlices.{later_global_blocks, packed_slice}
use Rattle.fl_bitpacking.proofs.SoundParts.{are_global, no_global_refusal}
use Rattle.fl_bitpacking.proofs.SoundSlices.{global_bytes, global_slice, global_within, kept_order, kept_within}
use Rattle.fl_bitpacking.proofs.packed_data.PackedData.slice_global.Goals as goal

pub overflow_mul-from-2 : goal.overflow_mul-from-2
overflow_mul-from-2 c =
    let p = c.args.self.now in
    let s = are_global p c.args.width c.requires.global in
    let order = kept_order p.offset c.args.start c.args.end c.requires.order in
    let within = kept_within p.offset c.args.end p.len c.requires.range in
    let first = c.first_block.ensures in
    let room = global_within p c.args.width c.first_block.result s (omega arith) in
    let seen = ap (λ (q : BitPackedParts). length q.packed) c.self.view_is in
    let few = c.len-size.ensures.bound in
    let is = c.len-size.ensures.value in
    omega arith

pub overflow_mul-to-2 : goal.overflow_mul-to-2
overflow_mul-to-2 c =
    let p = c.args.self.now in
    let s = are_global p c.args.width c.requires.global in
    let within = kept_within p.offset c.args.end p.len c.requires.range in
    let last = c.end_block.ensures in
    let room = global_within p c.args.width c.end_block.result s (omega arith) in
    let seen = ap (λ (q : BitPackedParts). length q.packed) c.self.view_is in
    let few = c.len-size.ensures.bound in
    let is = c.len-size.ensures.value in
    omega arith

pub returns-clause-global : goal.returns-clause-global
returns-clause-global c =
    let p = c.args.self.now in
    let same : c.in_ok-sliced.sliced ≡ sliced_parts (128 * c.args.width * first_block p.offset c.args.start) (128 * c.args.width * end_block p.offset c.args.end) c.args.start c.args.end p =
    ok_same _ _ c.in_ok-sliced.ensures.parts ∙ global_bytes p c.args.width c.args.start c.args.end _ _ c.first_block.ensures c.end_block.ensures in
    let fit = subst AreConsistent same c.parts_are_consistent.ensures in
    let holds : BitPackedParts → Type 0 = λ q. global_refusal q c.args.width ≡ None in
    subst holds (sym same) (no_global_refusal _ c.args.width (global_slice p c.args.width c.args.start c.args.end (are_global p c.args.width c.requires.global) c.requires.order c.requires.range fit))

pub returns-clause-column : goal.returns-clause-column
returns-clause-column c =
    let p = c.args.self.now in
    let same : c.in_ok-sliced.sliced ≡ sliced_parts (128 * c.args.width * first_block p.offset c.args.start) (128 * c.args.width * end_block p.offset c.args.end) c.args.start c.args.end p =
    ok_same _ _ c.in_ok-sliced.ensures.parts ∙ global_bytes p c.args.width c.args.start c.args.end _ _ c.first_block.ensures c.end_block.ensures in
    let column = packed_slice p (global_blocks c.args.width) (global_blocks c.args.width) c.args.start c.args.end c.requires.order c.requires.range
    (λ j h. later_global_blocks c.args.width (first_block p.offset c.args.start) (end_block p.offset c.args.end) j h)
    (λ i h. ap (λ (q : BitPackedParts). patched_in q.patches i) (sym same) ∙ c.in_ok-sliced.ensures.patches i h) in
    let to_column : BitPackedParts → Column = λ q. column_of_packed q (global_blocks c.args.width) in
    let ok : Column → Result Column FastLanesError = λ x. Ok x in
    ap ok (sym column ∙ ap to_column (sym same))
