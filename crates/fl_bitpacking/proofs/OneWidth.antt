-- Blocks of one width, and the boundaries between them.
use Rattle.std.proofs.Common.{◌≡◌, ◌∙◌, ℕ, ℤ, zero, suc, ◌+◌, ◌*◌, ◌/◌, ◌%◌, ◌<◌, ◌≤◌, cond, true, List, [], ◌∷◌, length, take, get_or, nat_le, Some, None, refl, ap, sym, arith}
use Rattle.std.specs.Prelude.{replicate, unwrap_or}
use Rattle.std.specs.List.{list_all, sum}
use Rattle.std.proofs.lemmas.List.{length-replicate, take-replicate}
use Rattle.std.proofs.lemmas.List.Folds.{sum_by-replicate}
use Rattle.fl_types.specs.declared.dtype.DType.TheVariants.{Primitive}
use Rattle.fl_types.specs.declared.dtype.Nullability.{Nullability}
use Rattle.fl_types.specs.declared.dtype.PType.{PType}
use Rattle.fl_types.specs.Bits.{between, tabulate}
use Rattle.fl_types.specs.Integers.{bits_of_type, smallest_type}
use Rattle.fl_types.specs.Validities.{is_valid_at, items_of, nullability_of}
use Rattle.fl_types.proofs.BitLists.{same_tables}
use Rattle.fl_column.specs.Columns.{PrimitiveParts, column_of_primitive, numbers_of}
use Rattle.fl_column.specs.Numbers.{index_array}
use Rattle.fl_patches.specs.PatchMaps.{patched_in, places_from, values_in}
use Rattle.fl_patches.specs.Exceptions.{exceptions_of, one_width}
use Rattle.fl_patches.specs.PatchParts.{global_patches, patch_count, patches_with}
use Rattle.fl_bitpacking.specs.BlockedWidths.{width_per_block}
use Rattle.fl_bitpacking.specs.Blocks.{Blocks, block_item, boundaries_of, boundary_array, boundary_blocks, bytes_of_block, global_blocks, item_of_blocks}
use Rattle.fl_bitpacking.specs.Columns.{BitPackedParts, block_count, column_of_packed, packed_item}
use Rattle.fl_bitpacking.specs.Refusals.{blocked_refusal, global_refusal}
use Rattle.fl_bitpacking.proofs.EncodedParts.{boundaries_are_blocks, boundary_items, boundary_type, numbers_of_boundaries}
use Rattle.fl_bitpacking.proofs.Bounds.{boundaries_small}
use Rattle.fl_bitpacking.proofs.IndexNumbers.{numbers_of_index}
use Rattle.fl_bitpacking.proofs.SoundParts.{are_global, no_blocked_refusal}
use Rattle.fl_bitpacking.proofs.Tables.{get_or-table}

-- ---- the boundaries
-- the first j of equal widths
sum_first : (n w j : ℕ) → j ≤ n → sum (take j (replicate n w)) ≡ j * w
sum_first n w j le = ap sum (take-replicate j n w le) ∙ sum_by-replicate (λ x. x) j w

product : (w j : ℕ) → 128 * (j * w) ≡ 128 * w * j
product w j = grind arith

multiple : (n w j : ℕ) → j ≤ n → 128 * sum (take j (replicate n w)) ≡ 128 * w * j
multiple n w j le = ap (λ x. 128 * x) (sum_first n w j le) ∙ product w j

-- the boundaries of equal widths are multiples
pub equal_boundaries : (n w : ℕ) → tabulate (λ j. 128 * w * j) (n + 1) ≡ boundaries_of (replicate n w)
equal_boundaries n w =
    let long : length (replicate n w) ≡ n = length-replicate n w in
    same_tables (λ j. 128 * w * j) (λ j. 128 * sum (take j (replicate n w))) (n + 1) (λ j lt. sym (multiple n w j (omega arith)))
    ∙ ap (λ k. tabulate (λ j. 128 * sum (take j (replicate n w))) (k + 1)) (sym long)

sum_all : (n w : ℕ) → 128 * sum (replicate n w) ≡ 128 * w * n
sum_all n w = ap (λ x. 128 * x) (sum_by-replicate (λ x. x) n w) ∙ product w n

boundary_at : (n w j : ℕ) → j ≤ n → get_or (boundaries_of (replicate n w)) j 0 ≡ 128 * w * j
boundary_at n w j le =
    let long : length (replicate n w) ≡ n = length-replicate n w in
    get_or-table (λ k. 128 * sum (take k (replicate n w))) (length (replicate n w) + 1) j 0 (omega arith) ∙ multiple n w j le

abbrev equal_blocks : ℕ → ℕ → Blocks
equal_blocks n w = boundary_blocks (boundaries_of (replicate n w))

start_of : (n w j : ℕ) → j ≤ n → (equal_blocks n w).start j ≡ 128 * w * j
start_of n w j le =
    let here = boundary_at n w j le in
    let first = boundary_at n w 0 (omega arith) in
    omega arith

width_of : (n w j : ℕ) → j < n → (equal_blocks n w).width j ≡ w
width_of n w j lt =
    let here = boundary_at n w j (omega arith) in
    let next = boundary_at n w (j + 1) (omega arith) in
    let more : 128 * w * (j + 1) ≡ 128 * w * j + 128 * w = grind arith in
    omega arith

-- ---- the items
item_of_block : (parts : BitPackedParts) (blocks : Blocks) (w p : ℕ) → blocks.start (p / 1024) ≡ 128 * w * (p / 1024) → blocks.width (p / 1024) ≡ w → item_of_blocks parts.ptype blocks parts.packed p ≡ item_of_blocks parts.ptype (global_blocks w) parts.packed p
unfolding item_of_blocks
item_of_block parts blocks w p start width =
    ap (λ k. block_item parts.ptype k (bytes_of_block blocks parts.packed (p / 1024)) (p % 1024)) width
    ∙ (ap (λ k. block_item parts.ptype w (between (blocks.start (p / 1024)) (blocks.start (p / 1024) + 128 * k) parts.packed) (p % 1024)) width
    ∙ ap (λ s. block_item parts.ptype w (between s (s + 128 * w) parts.packed) (p % 1024)) start)

same_item : (parts : BitPackedParts) (w i : ℕ) → i < parts.len → packed_item parts (equal_blocks (block_count parts) w) i ≡ packed_item parts (global_blocks w) i
unfolding packed_item
same_item parts w i lt =
    let block : (parts.offset + i) / 1024 < block_count parts = omega arith in
    let item = item_of_block parts (equal_blocks (block_count parts) w) w (parts.offset + i) (start_of (block_count parts) w ((parts.offset + i) / 1024) (omega arith)) (width_of (block_count parts) w ((parts.offset + i) / 1024) block) in
    ap (λ z. cond (is_valid_at parts.validity i) (Some (unwrap_or (patched_in parts.patches i) z)) None) item

pub numbers_are : (widths : List ℕ) → numbers_of (column_of_primitive (boundary_array widths)) ≡ boundaries_of widths
numbers_are widths = numbers_of_index (boundary_array widths) (boundary_type widths) ∙ numbers_of_boundaries widths

pub blocked_column : (parts : BitPackedParts) (w : ℕ) → column_of_packed parts (boundary_blocks (numbers_of (column_of_primitive (boundary_array (width_per_block parts w))))) ≡ column_of_packed parts (global_blocks w)
blocked_column parts w =
    ap (λ bs. column_of_packed parts (boundary_blocks bs)) (numbers_are (width_per_block parts w))
    ∙ ap (λ items. record { dtype = Primitive parts.ptype (nullability_of parts.validity); items = items }) (same_tables (packed_item parts (equal_blocks (block_count parts) w)) (packed_item parts (global_blocks w)) parts.len (λ i lt. same_item parts w i lt))

-- ---- the parts
each_narrow : (n w bits : ℕ) → w ≤ bits → (j : ℕ) → j < length (replicate n w) → get_or (replicate n w) j 0 ≤ bits
each_narrow zero w bits narrow j lt = absurd (omega arith)
each_narrow (suc n) w bits narrow zero lt = narrow
each_narrow (suc n) w bits narrow (suc j) lt = each_narrow n w bits narrow j (omega arith)

pub blocked_accepted : (parts : BitPackedParts) (w : ℕ) → global_refusal parts w ≡ None → blocked_refusal parts (column_of_primitive (boundary_array (width_per_block parts w))) ≡ None
blocked_accepted parts w h =
    let s = are_global parts w h in
    let n = block_count parts in
    let widths = replicate n w in
    let read = numbers_are widths in
    let size : length parts.packed ≡ 128 * sum widths = s.size ∙ sym (sum_all n w) in
    let last : (equal_blocks n w).start n ≡ length parts.packed = start_of n w n (omega arith) ∙ sym s.size in
    no_blocked_refusal parts (column_of_primitive (boundary_array widths)) (record {
      parts = s.parts;
      typed = boundary_type widths;
      count = boundary_items widths ∙ ap (λ k. k + 1) (length-replicate n w);
      blocks = rw (read, size) (boundaries_are_blocks (bits_of_type parts.ptype) widths (each_narrow n w (bits_of_type parts.ptype) s.narrow));
      span = rw read last;
    })

-- ---- the array of boundaries
equal_steps : (n w step : ℕ) → step ≡ 128 * w → tabulate (λ j. step * j) (n + 1) ≡ boundaries_of (replicate n w)
equal_steps n w step is = ap (λ s. tabulate (λ j. s * j) (n + 1)) is ∙ equal_boundaries n w

equal_bound : (n w step bound : ℕ) → step ≡ 128 * w → bound ≡ step * n → bound ≡ 128 * sum (replicate n w)
equal_bound n w step bound is last = last ∙ (ap (λ s. s * n) is ∙ sym (sum_all n w))

-- multiples of a block's size are the boundaries of blocks of one width
pub equal_array : (n w step bound : ℕ) (numbers : List ℕ) → step ≡ 128 * w → bound ≡ step * n → numbers ≡ tabulate (λ j. step * j) (n + 1) → index_array bound numbers ≡ boundary_array (replicate n w)
equal_array n w step bound numbers is last made =
    ap (λ b. index_array b numbers) (equal_bound n w step bound is last) ∙ ap (index_array (128 * sum (replicate n w))) (made ∙ equal_steps n w step is)

pub equal_small : (n w step bound : ℕ) (numbers : List ℕ) → step ≡ 128 * w → bound ≡ step * n → numbers ≡ tabulate (λ j. step * j) (n + 1) → list_all (λ k. nat_le k bound) numbers ≡ true
equal_small n w step bound numbers is last made =
    rw (made ∙ equal_steps n w step is) (boundaries_small (replicate n w) bound (equal_bound n w step bound is last))

-- ---- an array without exceptions
none_with : (index_type : PType) (len : ℕ) (ptype : PType) (nullability : Nullability) (places : List ℕ) (values : List ℤ) → patch_count (patches_with index_type len ptype nullability places values) ≡ 0 → patches_with index_type len ptype nullability places values ≡ None
none_with index_type len ptype nullability [] values h = refl
none_with index_type len ptype nullability (place ∷ places) values h = absurd (omega arith)

-- without an exception there is no patch
pub no_patches : (p : PrimitiveParts) (width : ℕ) → patch_count (global_patches width p) ≡ 0 → global_patches width p ≡ None
no_patches p width h =
    let exceptions = exceptions_of p.ptype (one_width width) (items_of p.validity p.slots) in
    none_with (smallest_type (length p.slots + 1)) (length p.slots) p.ptype (nullability_of p.validity) (places_from 0 exceptions) (values_in exceptions) h
