use Rattle.std.proofs.Common.{◌≡◌, ◌+◌, ◌/◌, ◌<◌, ◌∙◌, get_or, refl, sym, arith}
use Rattle.fl_bitpacking.specs.Blocks.{blocks_of, bytes_of_block}
use Rattle.fl_bitpacking.specs.Parts.{blocks_in}
use Rattle.fl_bitpacking.specs.Readings.{bytes_at}
use Rattle.fl_bitpacking.proofs.Bounds.{width_named}
use Rattle.fl_bitpacking.proofs.TakenLaws.{block_bytes, item_of_run}
use Rattle.fl_bitpacking.proofs.compute.take.runs.run_from.Goals as goal

pub returns-clause-run : goal.returns-clause-run
returns-clause-run c =
    let blocks = blocks_of c.args.blocks.widths in
    let packed = c.args.reader.now.bytes in
    let positions = c.args.positions.now in
    let offset = c.args.blocks.offset in
    let j = (offset + get_or positions c.args.from 0) / 1024 in
    let below = c.requires.below c.args.from c.requires.some in
    let inside : j < blocks_in c.args.blocks = omega arith in
    let width : c.of_block-width.result ≡ blocks.width j = c.of_block-width.ensures ∙ sym (width_named c.args.blocks.widths j (c.requires.readable.names j inside)) in
    let start = c.block_start-start.ensures in
    let room = c.requires.readable.within.room j inside in
    let block = bytes_at (record { start = c.block_start-start.result; width = c.of_block-width.result }) packed in
    let bytes : block ≡ bytes_of_block blocks packed j = block_bytes blocks packed block j c.block_start-start.result c.of_block-width.result start width refl in
    record {
      order = c.run_end.ensures.later;
      within = c.run_end.ensures.within;
      narrow = rw width (c.requires.readable.within.narrow j inside);
      room = omega arith;
      each = λ ptype i low high. item_of_run ptype blocks packed block c.of_block-width.result j (offset + get_or positions i 0) width bytes (c.run_end.ensures.same i low high);
    }
