use Rattle.std.proofs.Common.{◌*◌, length, arith, refl, ◌∙◌}
use Rattle.fl_types.specs.Integers.{bits_of_type, lanes_of_type}
use Rattle.fl_bitpacking.proofs.Natives.{word_width}
use Rattle.fl_column.specs.Chunks.{chunk_count}
use Rattle.fl_bitpacking.specs.Blocks.{global_blocks}
use Rattle.fl_column.proofs.ChunkLaws.{chunk_is_next}
use Rattle.fl_bitpacking.proofs.Joined.{global_joined, packed_more}
use Rattle.fl_bitpacking.proofs.bitpack_compress.pack_blocks_into.Goals as goal

pub loop-j-preserved : goal.loop-j-preserved
loop-j-preserved g c =
    let more = c.loop-j-test.true in
    let ended = c.chunk_count-blocks.ensures in
    let count = chunk_count (length c.args.items.now) in
    record {
      whole = c.pack_at.auto.bytes ∙ c.loop-j.invariant.whole;
      each = packed_more g.T.Number.value g.T.NativePType.PTYPE (bits_of_type g.T.NativePType.PTYPE) (lanes_of_type g.T.NativePType.PTYPE) (global_blocks c.args.width) c.args.items.now c.chunk_of.result.now c.loop-j.bytes c.pack_at.new.bytes c.loop-j.j (128 * c.args.width * c.loop-j.j) c.args.width count (128 * c.args.width * count) (word_width g.T.NativePType.PTYPE) (global_joined c.args.width count) (omega arith)
          refl refl (c.chunk_of.ensures.items ∙ chunk_is_next c.loop-j.j c.args.items.now) c.pack_at.ensures.before c.pack_at.ensures.packed c.loop-j.invariant.each;
    }

pub returns : goal.returns
returns g c =
    let ended = c.chunk_count-blocks.ensures in
    record { each = λ j h. c.loop-j.invariant.each j (omega arith) }
