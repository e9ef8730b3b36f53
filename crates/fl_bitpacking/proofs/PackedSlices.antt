-- The blocks from floor to ceiling stand for the slice of a bit-packed column.
use Rattle.std.proofs.Common.{◌≡◌, ℕ, ◌+◌, ◌-◌, ◌*◌, ◌/◌, ◌%◌, ◌<◌, ◌≤◌, List, None, false, refl, ap, ◌∙◌, arith}
use Rattle.fl_types.specs.Bits.{between, tabulate}
use Rattle.fl_types.specs.declared.validity.Validity.{Validity}
use Rattle.fl_types.specs.declared.validity.Validity.TheVariants as valid
use Rattle.fl_types.specs.Validities.{is_valid_at, validity_between}
use Rattle.fl_types.proofs.BitLists.{same_tables}
use Rattle.fl_column.specs.Operations.{slice_of}
use Rattle.fl_column.proofs.ItemLaws.{nullability_of-between}
use Rattle.fl_patches.specs.PatchMaps.{patched_in}
use Rattle.fl_patches.proofs.Slices.{get_or-between}
use Rattle.fl_bitpacking.specs.Blocks.{Blocks, global_blocks, item_of_blocks, bytes_of_block}
use Rattle.fl_bitpacking.specs.Columns.{BitPackedParts, stored, packed_item, column_of_packed}
use Rattle.fl_bitpacking.specs.SlicedParts.{end_block, first_block, sliced_parts}
use Rattle.fl_bitpacking.proofs.Tables.{between-table, between-between}

-- the items of a part of the validity
pub valid-between : (v : Validity) (start end i : ℕ) → i < end - start → is_valid_at (validity_between start end v) i ≡ is_valid_at v (start + i)
valid-between valid.NonNullable start end i h = refl
valid-between valid.AllValid start end i h = refl
valid-between valid.AllInvalid start end i h = refl
valid-between (valid.Array bits) start end i h = get_or-between bits start end i false h

-- the blocks from one of them on, whose bytes are cut out
pub record AreLaterBlocks (blocks later : Blocks) (first last j : ℕ) : Type 0 where
  pub start : later.start j ≡ blocks.start (first + j) - blocks.start first
  pub width : later.width j ≡ blocks.width (first + j)
  pub order : blocks.start first ≤ blocks.start (first + j)
  pub within : blocks.start (first + j) + 128 * blocks.width (first + j) ≤ blocks.start last

same_bytes : (packed : List ℕ) (blocks later : Blocks) (first last j : ℕ) → AreLaterBlocks blocks later first last j → bytes_of_block later (between (blocks.start first) (blocks.start last) packed) j ≡ bytes_of_block blocks packed (first + j)
same_bytes packed blocks later first last j h =
    let at : blocks.start first + later.start j ≡ blocks.start (first + j) = rw h.start (let o : blocks.start first ≤ blocks.start (first + j) = h.order in omega arith) in
    let room : later.start j + 128 * later.width j ≤ blocks.start last - blocks.start first = rw (h.start, h.width) (let o : blocks.start first ≤ blocks.start (first + j) = h.order in let w : blocks.start (first + j) + 128 * blocks.width (first + j) ≤ blocks.start last = h.within in omega arith) in
    between-between packed (blocks.start first) (blocks.start last) (later.start j) (128 * later.width j) room ∙ (rw (at, h.width) refl)

stored_slice : (old : BitPackedParts) (blocks later : Blocks) (last start end i : ℕ) → AreLaterBlocks blocks later (first_block old.offset start) last (((old.offset + start) % 1024 + i) / 1024)
    → stored (sliced_parts (blocks.start (first_block old.offset start)) (blocks.start last) start end old) later i ≡ stored old blocks (start + i)
unfolding item_of_blocks
stored_slice old blocks later last start end i h =
    let block : (old.offset + start) / 1024 + ((old.offset + start) % 1024 + i) / 1024 ≡ (old.offset + (start + i)) / 1024 = omega arith in
    let place : ((old.offset + start) % 1024 + i) % 1024 ≡ (old.offset + (start + i)) % 1024 = omega arith in
    let same = same_bytes old.packed blocks later (first_block old.offset start) last (((old.offset + start) % 1024 + i) / 1024) h in
    rw (same, h.width, block, place) refl

item_slice : (old : BitPackedParts) (blocks later : Blocks) (last start end i : ℕ) → AreLaterBlocks blocks later (first_block old.offset start) last (((old.offset + start) % 1024 + i) / 1024)
    → i < end - start → patched_in (sliced_parts (blocks.start (first_block old.offset start)) (blocks.start last) start end old).patches i ≡ patched_in old.patches (start + i)
    → packed_item old blocks (start + i) ≡ packed_item (sliced_parts (blocks.start (first_block old.offset start)) (blocks.start last) start end old) later i
unfolding packed_item
item_slice old blocks later last start end i h room patches =
    rw (valid-between old.validity start end i room, patches, stored_slice old blocks later last start end i h) refl

-- the column of the parts that a slice keeps
pub packed_slice : (old : BitPackedParts) (blocks later : Blocks) (start end : ℕ) → start ≤ end → end ≤ old.len
    → ((j : ℕ) → first_block old.offset start + j < end_block old.offset end → AreLaterBlocks blocks later (first_block old.offset start) (end_block old.offset end) j)
    → ((i : ℕ) → i < end - start → patched_in (sliced_parts (blocks.start (first_block old.offset start)) (blocks.start (end_block old.offset end)) start end old).patches i ≡ patched_in old.patches (start + i))
    → column_of_packed (sliced_parts (blocks.start (first_block old.offset start)) (blocks.start (end_block old.offset end)) start end old) later ≡ slice_of start end (column_of_packed old blocks)
packed_slice old blocks later start end order range laters patches =
    let last = end_block old.offset end in
    let new = sliced_parts (blocks.start (first_block old.offset start)) (blocks.start last) start end old in
    let part = between-table (packed_item old blocks) old.len start end None order range in
    let same = same_tables (λ i. packed_item old blocks (start + i)) (packed_item new later) (end - start) (λ i h. item_slice old blocks later last start end i (laters (((old.offset + start) % 1024 + i) / 1024) (omega arith)) h (patches i h)) in
    let items : between start end (tabulate (packed_item old blocks) old.len) ≡ tabulate (packed_item new later) (end - start) = part ∙ same in
    rw (nullability_of-between, items) refl

-- one width: any whole number of blocks
pub later_global_blocks : (width first last j : ℕ) → first + j < last → AreLaterBlocks (global_blocks width) (global_blocks width) first last j
later_global_blocks width first last j l = record {
  start = (let e : 128 * width * (first + j) ≡ 128 * width * first + 128 * width * j = grind arith in omega arith);
  width = refl;
  order = (let e : 128 * width * (first + j) ≡ 128 * width * first + 128 * width * j = grind arith in omega arith);
  within = (let more : ℕ = last - (first + j + 1) in
      let whole : last ≡ first + j + 1 + more = omega arith in
      let sum : 128 * width * (first + j + 1 + more) ≡ 128 * width * (first + j) + 128 * width + 128 * width * more = grind arith in
      let at : 128 * width * last ≡ 128 * width * (first + j) + 128 * width + 128 * width * more = ap (λ m. 128 * width * m) whole ∙ sum in
      omega arith);
}
