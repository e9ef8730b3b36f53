use Rattle.std.proofs.Common.{◌≡◌, ◌+◌, ◌*◌, None, get_or, length, map, ap, ◌∙◌, arith}
use Rattle.fl_column.proofs.ItemLaws.{length-items_of}
use Rattle.fl_codec.specs.Chunks.{chunk}
use Rattle.fl_codec.specs.Parts.{items_of_primitive}
use Rattle.fl_patches.proofs.Histograms.{word_value}
use Rattle.fl_statistics.specs.Differences.{less_references}
use Rattle.fl_statistics.proofs.Differences.{chunk_read, length-chunk, length-less}
use Rattle.fl_statistics.proofs.Slots.{block_length}
use Rattle.fl_statistics.proofs.constants.first_of.Goals as goal

pub item_in-requires-clause-position : goal.item_in-requires-clause-position
item_in-requires-clause-position g c =
    let t = g.T.NativePType.PTYPE in
    let value = g.T.Number.value in
    let p = g.S.BlockSource.parts c.args.source.now in
    let one = value c.args.references.now.one in
    let references = map value c.args.references.now.list.now in
    let items = less_references t one references (items_of_primitive p) in
    let long : length items ≡ length p.slots = length-less t one references (items_of_primitive p) ∙ length-items_of p.validity p.slots c.len-len.ensures.covered in
    let read = word_value g.T.Physical.FastLanes.pattern t in
    let even = block_length read c.args.words.now (chunk c.args.block items) c.requires.written in
    let size = length-chunk items c.args.block in
    omega (arith, c.requires.begun)

pub returns-then-block-eq0 : goal.returns-then-block-eq0
returns-then-block-eq0 g c =
    let t = g.T.NativePType.PTYPE in
    let value = g.T.Number.value in
    let p = g.S.BlockSource.parts c.args.source.now in
    let one = value c.args.references.now.one in
    let references = map value c.args.references.now.list.now in
    let items = less_references t one references (items_of_primitive p) in
    let long : length items ≡ length p.slots = length-less t one references (items_of_primitive p) ∙ length-items_of p.validity p.slots c.len-len.ensures.covered in
    let none : 1024 * c.args.block + 0 ≡ 0 = omega (arith, c.if-block-eq0.true) in
    c.item_in.ensures ∙ (chunk_read items c.args.block 0 (omega arith) ∙ ap (λ n. get_or items n None) none)
