-- Tests of the items of a block.
use Rattle.std.proofs.Common.{◌≡◌, ℕ, ℤ, pos, ◌+◌, ◌-◌, ◌*◌, ◌/◌, ◌%◌, ◌<◌, ◌≤◌, ◌++◌, Bool, true, false, List, length, map, get_or, take, drop, Some, None, refl, ap, ◌∙◌, arith}
use Rattle.fastlanes.specs.Compared.{has_bit}
use Rattle.fl_types.specs.declared.dtype.PType.{PType}
use Rattle.fl_types.specs.Integers.{lanes_of_type}
use Rattle.fl_types.specs.Types.{has_ptype, is_nullable}
use Rattle.fl_column.specs.Chunks.{chunk_count}
use Rattle.fl_column.specs.Columns.{Column, PrimitiveParts, column_of_primitive, integers_in}
use Rattle.fl_codec.specs.Deltas.{block_integer}
use Rattle.fl_codec.proofs.SliceParts.{integer_inside}
use Rattle.fl_bitpacking.specs.Blocks.{value_at}
use Rattle.fl_array.specs.BlockAnswers.{AreBlockAnswers}
use Rattle.fl_array.specs.DeltaArrays.{DeltaArrayParts, refusal_of_delta, tree_of_delta}
use Rattle.fl_array.specs.ReaderParts.{AreDeltaParts}
use Rattle.fl_array.specs.Readers.{AreItemsFrom}
use Rattle.fl_array.specs.Trees.{column}
use Rattle.fl_array.proofs.DeltaLaws.{delta_len, sound_deltas}
use Rattle.fl_array.proofs.ReadDeltas.{block_alone, block_room, deltas_shown, read_all, row_size, slot_at}

-- an item that was read into its place in a block
pub placed : {X : Type 0} (value : X → ℤ) (c : Column) (xs new rest : List X) (from low p i : ℕ) (z : ℤ) → low ≤ length xs → low ≤ p → p < low + length new → from + (p - low) ≡ i → AreItemsFrom from (length new) (value_at value new) c → get_or c.items i None ≡ Some z
    → value_at value (take low xs ++ (new ++ rest)) p ≡ z
unfolding value_at
placed value c xs new rest from low p i z room above below at read e =
    integer_inside value xs new rest low p room above below ∙ read (p - low) z (omega arith) (ap (λ k. get_or c.items k None) at ∙ e)

-- a block of the array has its bases and its deltas
pub delta_room : {X : Type 0} (value : X → ℤ) (a : DeltaArrayParts) (p : PrimitiveParts) (d : Column) (ptype : PType) (bases : List X) (lanes j count : ℕ) → refusal_of_delta a ≡ None → AreDeltaParts a p d → has_ptype ptype (column (tree_of_delta a)).dtype ≡ true
    → map value bases ≡ p.slots → count ≡ length p.slots → count ≡ length (column_of_primitive p).items → lanes ≡ lanes_of_type ptype → j < chunk_count (a.parts.offset + length (column (tree_of_delta a)).items)
    → (1024 * j + 1024 ≤ length d.items) × (lanes * j + lanes ≤ length bases)
delta_room value a p d ptype bases lanes j count h parts typed slots slot_count item_count named inside =
    block_room value a p d ptype bases lanes j a.parts.offset 0 (length (column (tree_of_delta a)).items) count h parts typed slots slot_count item_count named refl (omega arith) (omega arith)

-- a delta block that was tested
pub delta_block_tested : {X : Type 0} (value : X → ℤ) (test : ℤ → Bool) (a : DeltaArrayParts) (p : PrimitiveParts) (d : Column) (ptype : PType) (bases row read : List X) (lanes j : ℕ) (bits : List ℕ) → refusal_of_delta a ≡ None → AreDeltaParts a p d → has_ptype ptype (column (tree_of_delta a)).dtype ≡ true
    → map value bases ≡ p.slots → row ≡ take (lanes * j + lanes - lanes * j) (drop (lanes * j) bases) → lanes ≡ lanes_of_type ptype → 1024 * j + 1024 ≤ length d.items → AreItemsFrom (1024 * j) 1024 (value_at value read) d
    → ((q : ℕ) → q < 1024 → has_bit bits q ≡ test (block_integer ptype (λ k. get_or (map value row) k (pos 0)) (λ k. get_or (map value read) k (pos 0)) 0 q)) → AreBlockAnswers test bits j a.parts.offset (column (tree_of_delta a))
unfolding value_at
delta_block_tested value test a p d ptype bases row read lanes j bits h parts typed slots row_is named room shown each = λ i z inside at e.
    let len = delta_len a in
    let q = (a.parts.offset + i) % 1024 in
    let small : q < 1024 = omega arith in
    let base = value_at value bases in
    let delta = λ (n : ℕ). get_or (integers_in d) n (pos 0) in
    let never : is_nullable d.dtype ≡ false = ap (λ (x : Column). is_nullable x.dtype) parts.own_deltas ∙ (sound_deltas a h).non_nullable_deltas in
    let all = deltas_shown a p d ptype base (λ k. block_integer ptype base delta ((a.parts.offset + (0 + k)) / 1024) ((a.parts.offset + (0 + k)) % 1024)) 0 a.parts.len h parts typed (omega arith) (λ k. slot_at value bases p.slots k slots) (λ k below. refl) in
    let first : 0 + i ≡ i = omega arith in
    let item = all i z (omega arith) (ap (λ k. get_or (column (tree_of_delta a)).items k None) first ∙ e) in
    let block : j ≡ (a.parts.offset + (0 + i)) / 1024 = omega arith in
    let place : q ≡ (a.parts.offset + (0 + i)) % 1024 = omega arith in
    let alone = block_alone ptype base (λ n. get_or (map value row) n (pos 0)) delta (λ n. get_or (map value read) n (pos 0)) j q small
    (λ l below. rw row_is (row_size value bases lanes (lanes_of_type ptype) j l named below))
    (λ k below. read_all d (value_at value read) (1024 * j) 1024 k parts.no_nulls never shown room below) in
    each q small ∙ ap test (alone ∙ (ap (λ m. block_integer ptype base delta m q) block ∙ (ap (λ m. block_integer ptype base delta ((a.parts.offset + (0 + i)) / 1024) m) place ∙ item)))
