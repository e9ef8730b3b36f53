use Rattle.std.proofs.Common.{◌≡◌, Some, None, length, map, get_or, ap, sym, ◌∙◌, arith}
use Rattle.fl_column.proofs.ItemLaws.{length-items_of}
use Rattle.fl_codec.specs.Chunks.{chunk}
use Rattle.fl_codec.specs.Parts.{items_of_primitive}
use Rattle.fl_patches.proofs.Histograms.{word_value}
use Rattle.fl_statistics.specs.Differences.{less_references}
use Rattle.fl_statistics.proofs.Differences.{length-chunk, length-less, null_read}
use Rattle.fl_statistics.proofs.Slots.{block_length, item_slot, null_item}
use Rattle.fl_statistics.proofs.constants.item_in.Goals as goal

pub overflow_mul-block : goal.overflow_mul-block
overflow_mul-block g c =
    let t = g.T.NativePType.PTYPE in
    let value = g.T.Number.value in
    let read = word_value g.T.Physical.FastLanes.pattern t in
    let p = g.S.BlockSource.parts c.args.source.now in
    let items = less_references t (value c.args.references.now.one) (map value c.args.references.now.list.now) (items_of_primitive p) in
    let long : length items ≡ length p.slots = length-less t (value c.args.references.now.one) (map value c.args.references.now.list.now) (items_of_primitive p) ∙ length-items_of p.validity p.slots c.len-len.ensures.covered in
    let even = block_length read c.args.words.now (chunk c.args.block items) c.requires.written in
    let size = length-chunk items c.args.block in
    omega (arith, c.requires.position, c.len-len.ensures.few)

pub overflow_add-block : goal.overflow_add-block
overflow_add-block g c =
    let t = g.T.NativePType.PTYPE in
    let value = g.T.Number.value in
    let read = word_value g.T.Physical.FastLanes.pattern t in
    let p = g.S.BlockSource.parts c.args.source.now in
    let items = less_references t (value c.args.references.now.one) (map value c.args.references.now.list.now) (items_of_primitive p) in
    let long : length items ≡ length p.slots = length-less t (value c.args.references.now.one) (map value c.args.references.now.list.now) (items_of_primitive p) ∙ length-items_of p.validity p.slots c.len-len.ensures.covered in
    let even = block_length read c.args.words.now (chunk c.args.block items) c.requires.written in
    let size = length-chunk items c.args.block in
    omega (arith, c.requires.position, c.len-len.ensures.few)

pub is_null-requires : goal.is_null-requires
is_null-requires g c =
    let t = g.T.NativePType.PTYPE in
    let value = g.T.Number.value in
    let read = word_value g.T.Physical.FastLanes.pattern t in
    let p = g.S.BlockSource.parts c.args.source.now in
    let items = less_references t (value c.args.references.now.one) (map value c.args.references.now.list.now) (items_of_primitive p) in
    let long : length items ≡ length p.slots = length-less t (value c.args.references.now.one) (map value c.args.references.now.list.now) (items_of_primitive p) ∙ length-items_of p.validity p.slots c.len-len.ensures.covered in
    let even = block_length read c.args.words.now (chunk c.args.block items) c.requires.written in
    let size = length-chunk items c.args.block in
    record { typed = c.requires.typed; range = omega (arith, c.requires.position) }

pub returns-then-is_null : goal.returns-then-is_null
returns-then-is_null g c =
    let t = g.T.NativePType.PTYPE in
    let value = g.T.Number.value in
    let read = word_value g.T.Physical.FastLanes.pattern t in
    let p = g.S.BlockSource.parts c.args.source.now in
    let one = value c.args.references.now.one in
    let references = map value c.args.references.now.list.now in
    let items = less_references t one references (items_of_primitive p) in
    let long : length items ≡ length p.slots = length-less t one references (items_of_primitive p) ∙ length-items_of p.validity p.slots c.len-len.ensures.covered in
    let even = block_length read c.args.words.now (chunk c.args.block items) c.requires.written in
    let size = length-chunk items c.args.block in
    let position = c.requires.position in
    sym (null_item (get_or (chunk c.args.block items) c.args.q None) (null_read t one references p.validity p.slots c.args.block c.args.q c.len-len.ensures.covered (omega arith) (omega arith) ∙ sym c.if-is_null.ensures))

pub returns-else-is_null : goal.returns-else-is_null
returns-else-is_null g c =
    let t = g.T.NativePType.PTYPE in
    let value = g.T.Number.value in
    let read = word_value g.T.Physical.FastLanes.pattern t in
    let p = g.S.BlockSource.parts c.args.source.now in
    let one = value c.args.references.now.one in
    let references = map value c.args.references.now.list.now in
    let items = less_references t one references (items_of_primitive p) in
    let long : length items ≡ length p.slots = length-less t one references (items_of_primitive p) ∙ length-items_of p.validity p.slots c.len-len.ensures.covered in
    let even = block_length read c.args.words.now (chunk c.args.block items) c.requires.written in
    let size = length-chunk items c.args.block in
    let position = c.requires.position in
    ap (λ z. Some z) c.from_physical.ensures
    ∙ item_slot read c.args.words.now (chunk c.args.block items) c.args.q c.index-words-q.result position c.requires.written c.index-words-q.is
    (null_read t one references p.validity p.slots c.args.block c.args.q c.len-len.ensures.covered (omega arith) (omega arith) ∙ sym c.if-is_null.ensures)
