-- The array of a range of another one's items: it is cut, and not decoded.
use Rattle.std.specs.Prelude.{◌+◌, ◌-◌, ◌*◌, ◌%◌, ℕ, List, length}
use Rattle.fl_types.specs.Validities.{validity_between}
use Rattle.fl_column.specs.Columns.{numbers_of, slice_bools, slice_primitive}
use Rattle.fl_codec.specs.ChunkSlices.{end_chunk, first_chunk}
use Rattle.fl_codec.specs.DeltaRefusals.{lanes_of_dtype}
use Rattle.fl_codec.specs.RunRefusals.{kept_values_end, kept_values_start}
use Rattle.fl_bitpacking.specs.Blocks.{Blocks, boundary_blocks, global_blocks}
use Rattle.fl_bitpacking.specs.Columns.{BitPackedParts}
use Rattle.fl_bitpacking.specs.SlicedParts.{end_block, first_block, sliced_parts}
use Rattle.fl_array.specs.Trees.{BitPackedBlocked, BitPackedGlobal, Constant, Delta, FoRChunked, FoRGlobal, Primitive, RLE, Tree, column}
use Rattle.fl_array.specs.Trees as tree

-- the packed parts of the items from start to below end: the bytes of the blocks that hold such an item
abbrev pub slice_packed : ℕ → ℕ → Blocks → BitPackedParts → BitPackedParts
slice_packed start end blocks parts = sliced_parts (blocks.start (first_block parts.offset start)) (blocks.start (end_block parts.offset end)) start end parts

-- the array of the items from start to below end: all kinds stay, and of blocks and chunks those are kept, whole and with their numbers unchanged, that hold such an item or the place of an empty range
abbrev pub slice_tree : ℕ → ℕ → Tree → Tree
slice_tree start end (Primitive p) = Primitive (slice_primitive start end p)
slice_tree start end (Constant c) = Constant (record { scalar = c.scalar; len = end - start })
slice_tree start end (tree.Bool b) = tree.Bool (slice_bools start end b)
slice_tree start end (BitPackedGlobal parts width) = BitPackedGlobal (slice_packed start end (global_blocks width) parts) width
slice_tree start end (BitPackedBlocked parts boundaries) =
    BitPackedBlocked (slice_packed start end (boundary_blocks (numbers_of (column boundaries))) parts) (slice_tree (first_block parts.offset start) (end_block parts.offset end + 1) boundaries)
slice_tree start end (FoRGlobal encoded reference) = FoRGlobal (slice_tree start end encoded) reference
slice_tree start end (FoRChunked encoded references offset) =
    FoRChunked (slice_tree start end encoded) (slice_tree (first_chunk offset start) (end_chunk offset end) references) ((offset + start) % 1024)
slice_tree start end (Delta bases deltas parts) =
    let lanes : ℕ = lanes_of_dtype (column bases).dtype in
    let first : ℕ = first_chunk parts.offset start in
    let last : ℕ = end_chunk parts.offset end in
    Delta (slice_tree (lanes * first) (lanes * last) bases) (slice_tree (1024 * first) (1024 * last) deltas) (record { validity = validity_between start end parts.validity; offset = (parts.offset + start) % 1024; len = end - start })
slice_tree start end (RLE values indices offsets window) =
    let first : ℕ = first_chunk window.offset start in
    let last : ℕ = end_chunk window.offset end in
    let starts : List ℕ = numbers_of (column offsets) in
    let from : ℕ = kept_values_start starts first last in
    let to : ℕ = kept_values_end starts (length (column values).items) first last in
    RLE (slice_tree from to values) (slice_tree (1024 * first) (1024 * last) indices) (slice_tree first last offsets) (record { offset = (window.offset + start) % 1024; len = end - start })
