use Rattle.std.proofs.Common.{◌<◌, length, arith, sym, ◌∙◌}
use Rattle.fl_bitpacking.specs.Parts.{parts_of}
use Rattle.fl_bitpacking.proofs.EqualBoundaries.{judged_without_bytes, refused_bytes}
use Rattle.fl_bitpacking.proofs.IndexNumbers.{same_count}
use Rattle.fl_bitpacking.proofs.refusals.constant_boundaries_refusal.Goals as goal

pub returns-then-column-ne0 : goal.returns-then-column-ne0
returns-then-column-ne0 c =
    let some : 0 < length (parts_of c.args.column.now).packed = omega (arith, c.if-column-ne0.true) in
    refused_bytes (parts_of c.args.column.now) c.args.boundaries.now (sym c.positions_refusal.ensures ∙ c.in_default.is)
    (same_count _ _ _ _ _ _ c.chunk_count-blocks.ensures c.dtype.ensures c.len.ensures.items (sym c.block_offsets_refusal.ensures ∙ c.in_default-block_offsets_refusal.is))
    some

pub returns : goal.returns
returns c =
    c.validity_and_patches_refusal.ensures
    ∙ judged_without_bytes (parts_of c.args.column.now) c.args.boundaries.now (sym c.positions_refusal.ensures ∙ c.in_default.is)
    (same_count _ _ _ _ _ _ c.chunk_count-blocks.ensures c.dtype.ensures c.len.ensures.items (sym c.block_offsets_refusal.ensures ∙ c.in_default-block_offsets_refusal.is))
    c.if-column-ne0.false
