use Rattle.std.proofs.Common.{◌+◌, ◌∙◌, length, refl, ap, if◌then◌else◌}
use Rattle.fl_column.specs.Chunks.{chunk_count}
use Rattle.fl_bitpacking.specs.Readers.{Reader, lends_last, whole_blocks}
use Rattle.fl_bitpacking.proofs.Lent.{all_left}
use Rattle.fl_bitpacking.proofs.Natives.{fewer_blocks}
use Rattle.fl_bitpacking.proofs.unpack_iter.bit_unpacked_chunks.BitUnpackedChunks.full_chunks.Goals as goal

pub returns : goal.returns
returns g c =
    let offset = c.self.inside.offset in
    let len = c.self.inside.len in
    let packed = c.self.inside.packed.now in
    let width = c.self.inside.bit_width in
    let within = fewer_blocks width (chunk_count (offset + len)) (if lends_last offset len then 1 else 0) (length packed) c.self.invariant.whole in (
      (refl, λ w. ap (λ (r : Reader). record r { work = w }) c.self.view_is),
      record {
        after = tt;
        blocks = rw (c.new.ensures, c.first_whole_block.ensures, c.end_of_whole_blocks.ensures) (all_left packed width _ _ c.self.inside.work within ∙ ap whole_blocks c.self.view_is);
      },
    )
