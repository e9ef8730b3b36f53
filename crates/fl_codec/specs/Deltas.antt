-- Columns that are kept as differences along lanes.
use Rattle.std.specs.Prelude.{◌+◌, ◌-◌, ◌*◌, ◌/◌, ◌%◌, ◌^◌, ◌==◌, ◌+ℤ◌, ◌-ℤ◌, ℕ, ℤ, pos, zero, suc, List, length, Option, Some, None, slice_index_or, if◌then◌else◌}
use Rattle.fastlanes.specs.Layout.{place, segment, segment_lane, segment_row, row_of, lane_of}
use Rattle.fl_types.specs.declared.dtype.PType.{PType}
use Rattle.fl_types.specs.declared.validity.Validity.{Validity}
use Rattle.fl_types.specs.Bits.{tabulate}
use Rattle.fl_types.specs.Integers.{bits_of_type, lanes_of_type, wrap}
use Rattle.fl_types.specs.Validities.{is_valid_at, nullability_of}
use Rattle.fl_types.specs.declared.dtype.DType.TheVariants.{Primitive}
use Rattle.fl_column.specs.Columns.{Column}
use Rattle.fl_codec.specs.Chunks.{chunks_of}
use Rattle.fl_codec.specs.ForwardFill.{Carry, fill_forward}

-- ---- the encoder: over the filled items, block after block
-- base k is the first item of lane k mod lanes of block k div lanes
abbrev pub base_of : ℕ → (ℕ → ℤ) → ℕ → ℤ
base_of lanes item k = item (1024 * (k / lanes) + segment (k % lanes))

-- the delta that block j has at stored position q: 0 in row 0, else the item of that row and lane less the one before it in its lane
unfoldable pub delta_of : PType → (ℕ → ℤ) → ℕ → ℕ → ℤ
delta_of ptype item j q =
    let row : ℕ = row_of (lanes_of_type ptype) q in
    let p : ℕ = 1024 * j + segment (lane_of (lanes_of_type ptype) q) + row in
    if row == 0 then pos 0 else wrap ptype (item p -ℤ item (p - 1))

-- the bases of the first blocks of a column, one for each lane
abbrev pub bases_to : PType → List (Option ℤ) → ℕ → List ℤ
bases_to ptype items blocks = tabulate (base_of (lanes_of_type ptype) (fill_forward Carry items)) (lanes_of_type ptype * blocks)

-- the deltas of the first blocks of a column
abbrev pub deltas_to : PType → List (Option ℤ) → ℕ → List ℤ
deltas_to ptype items blocks = tabulate (λ k. delta_of ptype (fill_forward Carry items) (k / 1024) (k % 1024)) (1024 * blocks)

-- the bases of a column
abbrev pub delta_bases : PType → List (Option ℤ) → List ℤ
delta_bases ptype items = bases_to ptype items (chunks_of (length items))

-- the deltas of a column
abbrev pub delta_deltas : PType → List (Option ℤ) → List ℤ
delta_deltas ptype items = deltas_to ptype items (chunks_of (length items))

-- the pattern that a block of these patterns has at row r of lane l: 0 in row 0, else the item there less the one before it in its lane
unfoldable pub encoded_delta : ℕ → (ℕ → ℕ) → ℕ → ℕ → ℕ
encoded_delta T item zero l = 0
encoded_delta T item (suc r) l = (item (segment l + (r + 1)) + (2 ^ T - item (segment l + r))) % 2 ^ T

-- ---- the decoder
-- the sum of the deltas of lane l of block j at the rows below n
unfoldable pub lane_sum : (ℕ → ℤ) → ℕ → ℕ → ℕ → ℤ
lane_sum delta j l zero = pos 0
lane_sum delta j l (suc n) = lane_sum delta j l n +ℤ delta (1024 * j + place n l)

-- the integer at position q of block j: its lane's base and deltas down to its row, modulo 2 to the type's bits
unfoldable pub block_integer : PType → (ℕ → ℤ) → (ℕ → ℤ) → ℕ → ℕ → ℤ
block_integer ptype base delta j q =
    let l : ℕ = segment_lane (bits_of_type ptype) q in
    wrap ptype (base (j * lanes_of_type ptype + l) +ℤ lane_sum delta j l (segment_row (bits_of_type ptype) q + 1))

-- the integer at position p of the blocks of these bases and deltas
abbrev pub delta_integer : PType → List ℤ → List ℤ → ℕ → ℤ
delta_integer ptype bases deltas p = block_integer ptype (λ k. slice_index_or bases k (pos 0)) (λ k. slice_index_or deltas k (pos 0)) (p / 1024) (p % 1024)

-- the items that the blocks show from an offset on, null where the validity has none
abbrev pub delta_items : PType → List ℤ → List ℤ → Validity → ℕ → ℕ → List (Option ℤ)
delta_items ptype bases deltas validity offset len = tabulate (λ i. if is_valid_at validity i then Some (delta_integer ptype bases deltas (offset + i)) else None) len

-- the column that they make
abbrev pub delta_column : PType → List ℤ → List ℤ → Validity → ℕ → ℕ → Column
delta_column ptype bases deltas validity offset len = record { dtype = Primitive ptype (nullability_of validity); items = delta_items ptype bases deltas validity offset len }
