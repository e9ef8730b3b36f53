use Rattle.std.proofs.Common.{◌*◌, ap, refl, sym, ◌∙◌}
use Rattle.fl_types.specs.Integers.{smallest_type}
use Rattle.fl_bitpacking.specs.Encoders.{best_widths_of}
use Rattle.fl_serde.specs.ByteCounts.{validity_bytes}
use Rattle.fl_compress.specs.Choices.{part_of, with_slots}
use Rattle.fl_compress.specs.EncodedBytes.{bytes_of_count}
use Rattle.fl_compress.proofs.PackedBytes.{at_widths_is, block_exceptions_are, blocked_patch_bytes, boundaries_are, count_bytes_alike, items_alike, sum_is}
use Rattle.fl_compress.proofs.PartLaws.{part_covers}
use Rattle.fl_compress.proofs.packing.bytes_of_blocks.Goals as goal

pub returns : goal.returns
returns c = λ slots long counted.
    let p = part_of c.args.part c.args.array.now in
    let q = with_slots p slots in
    let s = c.args.statistics.now in
    let widths = best_widths_of q in
    let len = c.len_of-len.ensures ∙ sym long in
    let index = c.min_unsigned_ptype_for_value-index_type.ensures ∙ ap smallest_type len in
    let total = sum_is q s counted in
    sym (at_widths_is q widths (128 * s.block_widths) c.bytes_of_count-patches.result c.validity_bytes_of-validity.result c.boundaries_bytes.result refl
    (ap (λ n. 128 * n) total)
    (c.bytes_of_count-patches.ensures.value ∙ (count_bytes_alike p slots c.min_unsigned_ptype_for_value-index_type.result s.block_exceptions long ∙ (ap (λ t. bytes_of_count q t s.block_exceptions) index ∙ blocked_patch_bytes q widths s.block_exceptions (block_exceptions_are q s counted))))
    (c.validity_bytes_of-validity.ensures.value ∙ ap (λ n. validity_bytes n p.validity) (sym long))
    (boundaries_are q s.block_widths c.chunk_count.result c.len_of-len.result c.boundaries_bytes.result len (len ∙ sym (items_alike p slots (part_covers c.args.part c.args.array.now c.validity-validity.ensures.covers) long)) c.chunk_count.ensures total c.boundaries_bytes.ensures.value))
