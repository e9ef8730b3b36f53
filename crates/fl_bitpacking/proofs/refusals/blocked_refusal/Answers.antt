use Rattle.std.proofs.Common.{sym, ◌∙◌}
use Rattle.fl_bitpacking.specs.Parts.{parts_of}
use Rattle.fl_bitpacking.proofs.IndexNumbers.{against_boundaries, against_contents, same_count}
use Rattle.fl_bitpacking.proofs.refusals.blocked_refusal.Goals as goal

pub returns-in-Some-boundaries_refusal : goal.returns-in-Some-boundaries_refusal
returns-in-Some-boundaries_refusal c =
    against_boundaries (parts_of c.args.column.now) c.args.boundaries.now _ (sym c.positions_refusal.ensures ∙ c.in_default.is)
    (same_count _ _ _ _ _ _ c.chunk_count-blocks.ensures c.dtype.ensures c.len.ensures.items (sym c.block_offsets_refusal.ensures ∙ c.in_default-block_offsets_refusal.is))
    (sym c.in-Some-boundaries_refusal.is ∙ c.boundaries_refusal.ensures)

pub returns : goal.returns
returns c =
    c.validity_and_patches_refusal.ensures
    ∙ against_contents (parts_of c.args.column.now) c.args.boundaries.now (sym c.positions_refusal.ensures ∙ c.in_default.is)
    (same_count _ _ _ _ _ _ c.chunk_count-blocks.ensures c.dtype.ensures c.len.ensures.items (sym c.block_offsets_refusal.ensures ∙ c.in_default-block_offsets_refusal.is))
    (sym c.boundaries_refusal.ensures ∙ c.in_default-boundaries_refusal.is)
