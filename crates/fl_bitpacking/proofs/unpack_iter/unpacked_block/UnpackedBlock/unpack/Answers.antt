use Rattle.std.proofs.Common.{◌≡◌, ◌+◌, ◌*◌, ℕ, ◌∙◌, ap}
use Rattle.fl_bitpacking.specs.Blocks.{global_blocks, item_of_blocks}
use Rattle.fl_bitpacking.specs.UnpackedBlocks.{BlockItems}
use Rattle.fl_bitpacking.specs.WholeBlocks.{block_items_at}
use Rattle.fl_bitpacking.proofs.Slices.{integers_all}
use Rattle.fl_bitpacking.proofs.unpack_iter.unpacked_block.UnpackedBlock.unpack.Goals as goal

pub returns : goal.returns
returns g c =
    let ptype = g.T.NativePType.PTYPE in
    let width = c.self.inside.bit_width in
    let packed = c.args.packed.now in
    let j = c.args.j in
    let width_is : width ≡ c.args.self.now.bit_width = ap (λ (b : BlockItems g.row.T.Denot). b.bit_width) c.self.view_is in
    let moved : block_items_at ptype width packed (1024 * j) 1024 ≡ block_items_at ptype c.args.self.now.bit_width packed (1024 * j) 1024 = ap (λ (w : ℕ). block_items_at ptype w packed (1024 * j) 1024) width_is in
    let read = integers_all g.T.Number.value (λ k. item_of_blocks ptype (global_blocks width) packed (1024 * j + k)) c.unpack_at.new.items 1024 c.unpack_at.ensures.whole c.unpack_at.ensures.items in
    record {
      items = read ∙ moved;
      width = width_is;
      blocks = c.unpack_at.ensures.blocks;
      words = c.unpack_at.ensures.words;
    }
