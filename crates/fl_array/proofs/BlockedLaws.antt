-- Bit-packed arrays whose blocks lie between boundaries.
use Rattle.std.proofs.Common.{◌≡◌, ℕ, pos, ◌+◌, ◌-◌, ◌/◌, ◌<◌, ◌≤◌, length, get_or, refl, ap, subst, sym, ◌∙◌, true, None, Ok, arith}
use Rattle.std.specs.Prelude.{Result, unsigned_abs, unwrap_or}
use Rattle.std.proofs.lemmas.List.{get_or-map, length-map}
use Rattle.fl_types.specs.declared.error.FastLanesError.{FastLanesError}
use Rattle.fl_types.specs.declared.dtype.DType.{DType}
use Rattle.fl_types.specs.declared.dtype.DType.TheVariants as dtypes
use Rattle.fl_types.specs.Integers.{bits_of_type}
use Rattle.fl_types.specs.Types.{is_index_type, is_integer}
use Rattle.fl_types.specs.Values.{ScalarParts}
use Rattle.fl_column.specs.Columns.{Column, PrimitiveParts, column_of_primitive, integers_in, numbers_of}
use Rattle.fl_column.specs.Queries.{scalar_in}
use Rattle.fl_column.specs.Numbers.{numbers}
use Rattle.fl_bitpacking.specs.Blocks.{are_blocks, boundary_blocks}
use Rattle.fl_bitpacking.specs.Columns.{BitPackedParts, block_count, column_of_packed}
use Rattle.fl_bitpacking.specs.Refusals.{positions_refusal}
use Rattle.fl_bitpacking.specs.SingleItems.{IsBlockOf}
use Rattle.fl_bitpacking.specs.declared.packed_data.single_items.BlockExtent.{BlockExtent}
use Rattle.fl_bitpacking.specs.SlicedParts.{HasEnds, end_block, first_block}
use Rattle.fl_bitpacking.proofs.BoundaryLaws.{above_first, ends_at, length-numbers_of, rising, within_bytes}
use Rattle.fl_bitpacking.proofs.IndexNumbers.{counted, numbers_of_index}
use Rattle.fl_bitpacking.proofs.SoundParts.{AreBlocked, are_blocked, neither}
use Rattle.fl_array.specs.BitPackedArrays.{BitPackedArrayParts, BitWidthsParts, BlockBoundaries, bit_widths_refusal, bitpacked_tree, blocks_of_widths, refusal_before_boundaries, refusal_of_bitpacked, tree_of_bitpacked}
use Rattle.fl_array.specs.Reads.{integer_column}
use Rattle.fl_array.specs.Trees.{Tree, column}

-- the boundaries of an array are well-formed
pub blocked_by : (a : BitPackedArrayParts) (b : Tree) → refusal_of_bitpacked a ≡ None → BlockBoundaries b ≡ a.widths → AreBlocked a.parts (column b)
blocked_by a b h same = are_blocked a.parts (column b) (ap (bit_widths_refusal a.parts) same ∙ h)

-- the column, by the boundaries
pub blocked_column : (a : BitPackedArrayParts) (b : Tree) → BlockBoundaries b ≡ a.widths → column (tree_of_bitpacked a) ≡ column_of_packed a.parts (boundary_blocks (numbers_of (column b)))
blocked_column a b same = ap (λ (w : BitWidthsParts). column (bitpacked_tree a.parts w)) (sym same)

index_is_integer : (dtype : DType) → is_index_type dtype ≡ true → is_integer dtype ≡ true
index_is_integer (dtypes.Primitive ptype nullability) h = refl
index_is_integer (dtypes.Bool nullability) h = cc

-- boundaries are integers
pub boundaries_are_integers : (a : BitPackedArrayParts) (b : Tree) → refusal_of_bitpacked a ≡ None → BlockBoundaries b ≡ a.widths → is_integer (column b).dtype ≡ true
boundaries_are_integers a b h same = index_is_integer (column b).dtype (blocked_by a b h same).typed

pub boundaries_integers : (a : BitPackedArrayParts) (b : Tree) → refusal_of_bitpacked a ≡ None → BlockBoundaries b ≡ a.widths → integer_column (column b) ≡ Ok (column b)
boundaries_integers a b h same = rw (boundaries_are_integers a b h same) refl

-- boundaries that were read are those of the column
pub numbers_read : (a : BitPackedArrayParts) (b : Tree) (p : PrimitiveParts) → refusal_of_bitpacked a ≡ None → BlockBoundaries b ≡ a.widths → column_of_primitive p ≡ column b → numbers p ≡ numbers_of (column b)
numbers_read a b p h same e =
    let typed : is_index_type (column_of_primitive p).dtype ≡ true = ap (λ (c : Column). is_index_type c.dtype) e ∙ (blocked_by a b h same).typed in
    sym (numbers_of_index p typed) ∙ ap numbers_of e

pub blocks_read : (a : BitPackedArrayParts) (b : Tree) (p : PrimitiveParts) → refusal_of_bitpacked a ≡ None → BlockBoundaries b ≡ a.widths → column_of_primitive p ≡ column b → are_blocks (bits_of_type a.parts.ptype) (length a.parts.packed) (numbers p) ≡ true
blocks_read a b p h same e = rw (numbers_read a b p h same e) (blocked_by a b h same).blocks

-- a number that was read of an item
pub number_read : (c : Column) (k : ℕ) (scalar : ScalarParts) (n : ℕ) → k < length c.items → scalar ≡ scalar_in c k → n ≡ unsigned_abs (unwrap_or scalar.value (pos 0)) → n ≡ get_or (numbers_of c) k 0
number_read c k scalar n h e is =
    let long = length-map c.items (λ item. unwrap_or item (pos 0)) in
    let at : get_or (numbers_of c) k 0 ≡ unsigned_abs (unwrap_or (get_or c.items k None) (pos 0)) = get_or-map unsigned_abs (integers_in c) k (pos 0) 0 (omega arith) ∙ ap unsigned_abs (get_or-map (λ item. unwrap_or item (pos 0)) c.items k None (pos 0) h) in
    is ∙ ap (λ (x : ScalarParts). unsigned_abs (unwrap_or x.value (pos 0))) e ∙ sym at

-- the boundaries of a block, as they were read
pub record ReadBlock (a : BitPackedArrayParts) (i first start end : ℕ) : Type 0 where
  pub low : first ≤ start
  pub order : start ≤ end
  pub extent : IsBlockOf a.parts (blocks_of_widths a.widths) i (record { start = start - first; width = (end - start) / 128 })

-- the boundaries of a block, as they stand in the column of the boundaries
pub block_by_numbers : (a : BitPackedArrayParts) (b : Tree) (i first start end : ℕ) → refusal_of_bitpacked a ≡ None → BlockBoundaries b ≡ a.widths → i < a.parts.len
    → first ≡ get_or (numbers_of (column b)) 0 0 → start ≡ get_or (numbers_of (column b)) ((a.parts.offset + i) / 1024) 0 → end ≡ get_or (numbers_of (column b)) ((a.parts.offset + i) / 1024 + 1) 0 → ReadBlock a i first start end
block_by_numbers a b i first start end h same r x y z =
    let c = column b in
    let j = (a.parts.offset + i) / 1024 in
    let s = blocked_by a b h same in
    let count = s.count in
    let long = length-numbers_of c in
    let above = above_first (bits_of_type a.parts.ptype) (length a.parts.packed) (numbers_of c) j s.blocks (omega arith) in
    let at = ends_at (bits_of_type a.parts.ptype) (length a.parts.packed) (numbers_of c) j s.blocks (omega arith) in
    let low : first ≤ start = rw (x, y) above in
    let order : start ≤ end = rw (y, z) at.order in
    let room : end - first ≤ length a.parts.packed = rw (x, z) at.room in
    let extent : BlockExtent = record { start = start - first; width = (end - start) / 128 } in
    let there : IsBlockOf a.parts (boundary_blocks (numbers_of c)) i extent = record {
      within = record { narrow = rw (y, z) at.narrow; room = omega arith };
      start = rw (x, y) refl;
      width = rw (y, z) refl;
    } in
    record { low = low; order = order; extent = subst (λ (w : BitWidthsParts). IsBlockOf a.parts (blocks_of_widths w) i extent) same there }

-- the boundaries of a block, as they were read one by one
pub block_read : (a : BitPackedArrayParts) (b : Tree) (i : ℕ) (first start end : ScalarParts) (n0 n1 n2 : ℕ) → refusal_of_bitpacked a ≡ None → BlockBoundaries b ≡ a.widths → i < a.parts.len
    → first ≡ scalar_in (column b) 0 → start ≡ scalar_in (column b) ((a.parts.offset + i) / 1024) → end ≡ scalar_in (column b) ((a.parts.offset + i) / 1024 + 1)
    → n0 ≡ unsigned_abs (unwrap_or first.value (pos 0)) → n1 ≡ unsigned_abs (unwrap_or start.value (pos 0)) → n2 ≡ unsigned_abs (unwrap_or end.value (pos 0)) → ReadBlock a i n0 n1 n2
block_read a b i first start end n0 n1 n2 h same r e0 e1 e2 is0 is1 is2 =
    let c = column b in
    let j = (a.parts.offset + i) / 1024 in
    let count = (blocked_by a b h same).count in
    block_by_numbers a b i n0 n1 n2 h same r (number_read c 0 first n0 (omega arith) e0 is0) (number_read c j start n1 (omega arith) e1 is1) (number_read c (j + 1) end n2 (omega arith) e2 is2)

-- the boundaries of the blocks that a slice keeps, as they were read
pub record ReadEnds (a : BitPackedArrayParts) (c : Column) (start end first from to : ℕ) : Type 0 where
  pub has : HasEnds c a.parts.offset start end first from to
  pub low : first ≤ from
  pub order : from ≤ to
  pub room : to - first ≤ length a.parts.packed

pub ends_read : (a : BitPackedArrayParts) (b : Tree) (start end : ℕ) (first from to : ScalarParts) (n0 n1 n2 : ℕ) → refusal_of_bitpacked a ≡ None → BlockBoundaries b ≡ a.widths → start ≤ end → end ≤ a.parts.len
    → first ≡ scalar_in (column b) 0 → from ≡ scalar_in (column b) (first_block a.parts.offset start) → to ≡ scalar_in (column b) (end_block a.parts.offset end)
    → n0 ≡ unsigned_abs (unwrap_or first.value (pos 0)) → n1 ≡ unsigned_abs (unwrap_or from.value (pos 0)) → n2 ≡ unsigned_abs (unwrap_or to.value (pos 0)) → ReadEnds a (column b) start end n0 n1 n2
ends_read a b start end first from to n0 n1 n2 h same o r e0 e1 e2 is0 is1 is2 =
    let c = column b in
    let k = first_block a.parts.offset start in
    let l = end_block a.parts.offset end in
    let s = blocked_by a b h same in
    let count = s.count in
    let long = length-numbers_of c in
    let x = number_read c 0 first n0 (omega arith) e0 is0 in
    let y = number_read c k from n1 (omega arith) e1 is1 in
    let z = number_read c l to n2 (omega arith) e2 is2 in
    let above = above_first (bits_of_type a.parts.ptype) (length a.parts.packed) (numbers_of c) k s.blocks (omega arith) in
    let rest : k + (l - k) ≡ l = omega arith in
    let up = rising (bits_of_type a.parts.ptype) (length a.parts.packed) (numbers_of c) k (l - k) s.blocks (omega arith) in
    let high : get_or (numbers_of c) k 0 ≤ get_or (numbers_of c) l 0 = rw rest at up in
    let within = within_bytes (bits_of_type a.parts.ptype) (length a.parts.packed) (numbers_of c) l s.blocks (omega arith) in
    record {
      has = record { first_is = sym x; from_is = sym y; to_is = sym z };
      low = rw (x, y) above;
      order = rw (y, z) high;
      room = rw (x, z) within;
    }

early_integer : (p : BitPackedParts) (c : Column) → refusal_before_boundaries p c ≡ None → is_integer c.dtype ≡ true
early_integer p c h = index_is_integer c.dtype (counted (block_count p) c.dtype (length c.items) (neither (positions_refusal p.offset p.len) _ h).1).0

-- the boundaries that are read after no refusal are those of the array
pub early_column : (p : BitPackedParts) (c : Column) (q : PrimitiveParts) → refusal_before_boundaries p c ≡ None → Ok (column_of_primitive q) ≡ integer_column c → column_of_primitive q ≡ c
early_column p c q h e =
    let typed = early_integer p c h in
    let is : integer_column c ≡ Ok c = rw typed refl in
    let same : (let left : Result Column FastLanesError = Ok (column_of_primitive q) in left) ≡ Ok c = e ∙ is in
    cc
