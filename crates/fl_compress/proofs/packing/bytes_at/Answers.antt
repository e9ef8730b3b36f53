use Rattle.std.proofs.Common.{◌+◌, ap, sym, ◌∙◌}
use Rattle.fl_column.specs.Chunks.{chunk_count}
use Rattle.fl_types.specs.Integers.{smallest_type}
use Rattle.fl_serde.specs.ByteCounts.{validity_bytes}
use Rattle.fl_compress.specs.Choices.{part_of, with_slots}
use Rattle.fl_compress.specs.EncodedBytes.{bytes_of_count}
use Rattle.fl_compress.proofs.PackedBytes.{at_width_is, capped_type, count_bytes_alike, global_patch_bytes}
use Rattle.fl_compress.proofs.packing.bytes_at.Goals as goal

pub returns-clause-value : goal.returns-clause-value
returns-clause-value c = λ slots long counted.
    let p = part_of c.args.part c.args.array.now in
    let q = with_slots p slots in
    let len = c.len_of-len.ensures ∙ sym long in
    let index = c.min_unsigned_ptype_for_value-index_type.ensures ∙ (ap smallest_type c.saturating_add.ensures ∙ (capped_type (c.len_of-len.result + 1) ∙ ap (λ n. smallest_type (n + 1)) len)) in
    at_width_is q c.args.width c.chunk_count.result c.bytes_of_count-patches.result c.validity_bytes_of.result
    (c.chunk_count.ensures ∙ ap chunk_count len)
    (c.bytes_of_count-patches.ensures.value ∙ (count_bytes_alike p slots c.min_unsigned_ptype_for_value-index_type.result c.args.count long ∙ (ap (λ t. bytes_of_count q t c.args.count) index ∙ global_patch_bytes q c.args.width c.args.count counted)))
    (c.validity_bytes_of.ensures.value ∙ ap (λ n. validity_bytes n p.validity) (sym long))
