use Rattle.std.proofs.Common.{◌+◌, ◌*◌, ◌∙◌, ap, sym, refl}
use Rattle.fl_bitpacking.specs.Blocks.{blocks_of}
use Rattle.fl_bitpacking.specs.RangeTests.{passes}
use Rattle.fl_bitpacking.specs.Readings.{Reading, bytes_at}
use Rattle.fl_bitpacking.proofs.Bounds.{width_named}
use Rattle.fl_bitpacking.proofs.Joined.{item_read}
use Rattle.fl_bitpacking.proofs.compute.compare.single_block.test_stored.Goals as goal

pub returns-clause-bits : goal.returns-clause-bits
returns-clause-bits g c q h =
    let width = c.of_block.ensures ∙ sym (width_named c.args.widths c.args.j (c.requires.readable.names c.args.j c.requires.block)) in
    let bytes = ap (λ (r : Reading). bytes_at (record { start = c.block_start.result; width = c.of_block.result }) r.bytes) c.over-reader.ensures in
    c.test_block.ensures.bits q h
    ∙ ap (passes c.args.test.range) (item_read c.args.test.ptype (blocks_of c.args.widths) c.args.column.now.packed.now _ c.args.j c.block_start.result c.of_block.result q (1024 * c.args.j + q) _ c.block_start.ensures width bytes h refl refl)
