-- Items of delta arrays that are read block by block.
use Rattle.std.proofs.Common.{◌≡◌, ℕ, ℤ, pos, zero, suc, ◌+◌, ◌*◌, ◌/◌, ◌%◌, ◌<◌, ◌≤◌, Bool, true, false, ◌-◌, List, length, map, get_or, take, drop, Option, Some, None, refl, ap, sym, ◌∙◌, arith}
use Rattle.std.specs.Prelude.{is_some, unwrap_or, if◌then◌else◌}
use Rattle.std.proofs.lemmas.List.{get_or-map, length-map}
use Rattle.std.proofs.Math.Nat.{mul-le-mul_left}
use Rattle.fastlanes.specs.Layout.{place, segment_lane, segment_row}
use Rattle.fastlanes.proofs.Bijection.{segment_placed}
use Rattle.fastlanes.proofs.Places.{place_below}
use Rattle.fl_types.specs.declared.dtype.PType.{PType}
use Rattle.fl_types.specs.Integers.{bits_of_type, lanes_of_type}
use Rattle.fl_types.specs.Types.{has_ptype, is_nullable}
use Rattle.fl_types.specs.Validities.{is_valid_at}
use Rattle.fl_column.specs.Chunks.{chunk_count}
use Rattle.fl_column.specs.Columns.{Column, PrimitiveParts, column_of_primitive, integers_in, ptype_of_column}
use Rattle.fl_codec.specs.DeltaRefusals.{lanes_of_dtype}
use Rattle.fl_codec.specs.Deltas.{block_integer, delta_integer, lane_sum}
use Rattle.fl_codec.proofs.DeltaRoundTrips.{width_of}
use Rattle.fl_bitpacking.specs.Blocks.{value_at}
use Rattle.fl_bitpacking.proofs.Slices.{value_part}
use Rattle.fl_bitpacking.proofs.Tables.{get_or-table}
use Rattle.fl_array.specs.DeltaArrays.{DeltaArrayParts, refusal_of_delta, tree_of_delta}
use Rattle.fl_array.specs.NoNulls.{HasNoNulls}
use Rattle.fl_array.specs.ReaderParts.{AreDeltaParts}
use Rattle.fl_array.specs.Readers.{AreItemsFrom}
use Rattle.fl_array.specs.Trees.{column}
use Rattle.fl_array.proofs.ItemTypes.{delta_typed}
use Rattle.fl_array.proofs.DeltaLaws.{delta_len, item_of_deltas, read_slots, sound_deltas}

-- ---- one block
lane_sum_same : (delta other : ℕ → ℤ) (j k l n : ℕ) → ((r : ℕ) → r < n → delta (1024 * j + place r l) ≡ other (1024 * k + place r l)) → lane_sum delta j l n ≡ lane_sum other k l n
unfolding lane_sum
lane_sum_same delta other j k l zero same = refl
lane_sum_same delta other j k l (suc n) same = rw (lane_sum_same delta other j k l n (λ r h. same r (omega arith)), same n (omega arith)) refl

-- a block by itself has the same integers as among all
pub block_alone : (ptype : PType) (base own delta part : ℕ → ℤ) (j q : ℕ) → q < 1024 → ((l : ℕ) → l < lanes_of_type ptype → own l ≡ base (j * lanes_of_type ptype + l)) → ((k : ℕ) → k < 1024 → delta (1024 * j + k) ≡ part k)
    → block_integer ptype own part 0 q ≡ block_integer ptype base delta j q
unfolding block_integer
block_alone ptype base own delta part j q low bases deltas =
    let T = bits_of_type ptype in
    let lanes = lanes_of_type ptype in
    let l = segment_lane T q in
    let at = segment_placed T lanes q (width_of ptype) low in
    let lane : l < lanes = at.2 in
    let row : segment_row T q < T = at.1 in
    let first : 0 * lanes + l ≡ l = omega arith in
    let base_is : own (0 * lanes + l) ≡ base (j * lanes + l) = ap own first ∙ bases l lane in
    let sums = lane_sum_same part delta 0 j l (segment_row T q + 1) (λ r h.
    let here = place_below T lanes r l (width_of ptype) (omega arith) lane in
    let small : place r l < 1024 = here.2 in
    let start : 1024 * 0 + place r l ≡ place r l = omega arith in
    ap part start ∙ sym (deltas (place r l) small)) in
    rw (base_is, sums) refl

-- ---- deltas that were read
there_is : (o : Option ℤ) (x : ℤ) → is_some o ≡ true → ((z : ℤ) → o ≡ Some z → x ≡ z) → unwrap_or o (pos 0) ≡ x
there_is None x h shown = cc
there_is (Some z) x h shown = sym (shown z refl)

-- integers that were read of a column without nulls are its items
pub read_all : (c : Column) (integer : ℕ → ℤ) (start n q : ℕ) → HasNoNulls c → is_nullable c.dtype ≡ false → AreItemsFrom start n integer c → start + n ≤ length c.items → q < n → get_or (integers_in c) (start + q) (pos 0) ≡ integer q
read_all c integer start n q s never shown room h =
    let inside : start + q < length c.items = omega arith in
    get_or-map (λ item. unwrap_or item (pos 0)) c.items (start + q) None (pos 0) inside
    ∙ there_is (get_or c.items (start + q) None) (integer q) (s never (start + q) inside) (λ z e. shown q z h e)

-- ---- the items
valid_is : (b : Bool) (x z : ℤ) → (if b then Some x else None) ≡ Some z → x ≡ z
valid_is true x z h = cc
valid_is false x z h = cc

-- the bases of a block, by what each is
block_bases : (ptype : PType) (base other delta : ℕ → ℤ) (j q : ℕ) → ((k : ℕ) → base k ≡ other k) → block_integer ptype base delta j q ≡ block_integer ptype other delta j q
unfolding block_integer
block_bases ptype base other delta j q same = rw (same (j * lanes_of_type ptype + segment_lane (bits_of_type ptype) q)) refl

-- the integers of blocks are the items of the array
pub deltas_shown : (a : DeltaArrayParts) (p : PrimitiveParts) (c : Column) (ptype : PType) (bases : ℕ → ℤ) (integer : ℕ → ℤ) (start n : ℕ) → refusal_of_delta a ≡ None → AreDeltaParts a p c → has_ptype ptype (column (tree_of_delta a)).dtype ≡ true → start + n ≤ a.parts.len
    → ((k : ℕ) → bases k ≡ get_or p.slots k (pos 0))
    → ((i : ℕ) → i < n → integer i ≡ block_integer ptype bases (λ k. get_or (integers_in c) k (pos 0)) ((a.parts.offset + (start + i)) / 1024) ((a.parts.offset + (start + i)) % 1024))
    → AreItemsFrom start n integer (column (tree_of_delta a))
deltas_shown a p c ptype bases integer start n h parts typed room base each = λ i z inside e.
    let s = sound_deltas a h in
    let k = start + i in
    let at = a.parts.offset + k in
    let table = get_or-table (item_of_deltas a) a.parts.len k None (omega arith) in
    let item = valid_is (is_valid_at a.parts.validity k) (delta_integer (ptype_of_column (column a.bases)) (integers_in (column a.bases)) (integers_in (column a.deltas)) at) z (sym table ∙ e) in
    let slots = read_slots p (column a.bases) parts.own_bases s.non_nullable_bases in
    let type_is : ptype_of_column (column a.bases) ≡ ptype = sym (ap (λ (x : Column). ptype_of_column x) parts.own_bases) ∙ delta_typed a p ptype parts.own_bases typed in
    let ds = integers_in c in
    let own = ptype_of_column (column a.bases) in
    each i inside ∙ (block_bases ptype bases (λ n. get_or p.slots n (pos 0)) (λ n. get_or ds n (pos 0)) (at / 1024) (at % 1024) base
    ∙ (ap (λ t. delta_integer t p.slots ds at) (sym type_is) ∙ (ap (λ xs. delta_integer own xs ds at) slots
    ∙ (ap (λ (d : Column). delta_integer own (integers_in (column a.bases)) (integers_in d) at) parts.own_deltas ∙ item))))

-- a base of a block's row
pub row_size : {X : Type 0} (value : X → ℤ) (bases : List X) (lanes own j l : ℕ) → lanes ≡ own → l < own → value_at value (take (lanes * j + lanes - lanes * j) (drop (lanes * j) bases)) l ≡ value_at value bases (j * own + l)
row_size value bases lanes own j l same h =
    let size : lanes * j + lanes - lanes * j ≡ lanes = omega arith in
    let swap : own * j ≡ j * own = grind arith in
    let start : lanes * j ≡ j * own = rw same swap in
    rw size (value_part value bases (lanes * j) lanes l (omega arith) ∙ ap (λ n. value_at value bases (n + l)) start)

-- the blocks that hold items have their bases and their deltas
pub block_there : (a : DeltaArrayParts) (j end lanes count total : ℕ) → refusal_of_delta a ≡ None → end ≤ a.parts.offset + a.parts.len → 1024 * j < end → lanes ≡ lanes_of_dtype (column a.bases).dtype → count ≡ length (column a.bases).items → total ≡ length (column a.deltas).items
    → (1024 * j + 1024 ≤ total) × (lanes * (j + 1) ≤ count)
block_there a j end lanes count total h room some lanes_is counted all =
    let s = sound_deltas a h in
    let range = s.range in
    let whole = s.whole in
    let more : j + 1 ≤ total / 1024 = rw all (omega arith) in
    let rows = mul-le-mul_left lanes more in
    (rw all (omega arith), rw (counted, s.count, ← all, ← lanes_is) rows)

-- an item of a block, by its bases and the deltas that were read
pub summed_at : {X : Type 0} (value : X → ℤ) (ptype : PType) (bases row read new : List X) (c : Column) (lanes j low k p : ℕ) → row ≡ take (lanes * j + lanes - lanes * j) (drop (lanes * j) bases) → lanes ≡ lanes_of_type ptype
    → HasNoNulls c → is_nullable c.dtype ≡ false → AreItemsFrom (1024 * j) 1024 (value_at value read) c → 1024 * j + 1024 ≤ length c.items → low + k < 1024 → p ≡ 1024 * j + (low + k)
    → get_or (map value new) k (pos 0) ≡ block_integer ptype (λ n. get_or (map value row) n (pos 0)) (λ n. get_or (map value read) n (pos 0)) 0 (low + k)
    → value_at value new k ≡ block_integer ptype (value_at value bases) (λ n. get_or (integers_in c) n (pos 0)) (p / 1024) (p % 1024)
unfolding value_at
summed_at value ptype bases row read new c lanes j low k p row_is same s never shown room small place is =
    let block_no : p / 1024 ≡ j = omega arith in
    let place_no : p % 1024 ≡ low + k = omega arith in
    rw (block_no, place_no) (is ∙ block_alone ptype (value_at value bases) (λ n. get_or (map value row) n (pos 0)) (λ n. get_or (integers_in c) n (pos 0)) (λ n. get_or (map value read) n (pos 0)) j (low + k) small
    (λ l below. rw row_is (row_size value bases lanes (lanes_of_type ptype) j l same below))
    (λ q below. read_all c (value_at value read) (1024 * j) 1024 q s never shown room below))

-- an integer of a plain array, by its name
pub slot_at : {X : Type 0} (value : X → ℤ) (xs : List X) (slots : List ℤ) (k : ℕ) → map value xs ≡ slots → value_at value xs k ≡ get_or slots k (pos 0)
unfolding value_at
slot_at value xs slots k e = ap (λ ys. get_or ys k (pos 0)) e

-- the same by the parts of a reader
pub block_room : {X : Type 0} (value : X → ℤ) (a : DeltaArrayParts) (p : PrimitiveParts) (d : Column) (ptype : PType) (bases : List X) (lanes j at start n count : ℕ) → refusal_of_delta a ≡ None → AreDeltaParts a p d → has_ptype ptype (column (tree_of_delta a)).dtype ≡ true
    → map value bases ≡ p.slots → count ≡ length p.slots → count ≡ length (column_of_primitive p).items → lanes ≡ lanes_of_type ptype → at ≡ a.parts.offset → start + n ≤ length (column (tree_of_delta a)).items → j < chunk_count (at + start + n)
    → (1024 * j + 1024 ≤ length d.items) × (lanes * j + lanes ≤ length bases)
block_room value a p d ptype bases lanes j at start n count h parts typed slots slot_count item_count named at_is range inside =
    let len_is = delta_len a in
    let end : at + start + n ≤ a.parts.offset + a.parts.len = omega arith in
    let some : 1024 * j < at + start + n = omega arith in
    let own : lanes_of_dtype (column a.bases).dtype ≡ lanes_of_type ptype = ap (λ (x : Column). lanes_of_dtype x.dtype) (sym parts.own_bases) ∙ ap lanes_of_type (delta_typed a p ptype parts.own_bases typed) in
    let long : length bases ≡ length (column a.bases).items = sym (length-map bases value) ∙ (ap length slots ∙ (sym slot_count ∙ (item_count ∙ ap (λ (x : Column). length x.items) parts.own_bases))) in
    let there = block_there a j (at + start + n) lanes (length bases) (length d.items) h end some (named ∙ sym own) long (ap (λ (x : Column). length x.items) parts.own_deltas) in
    let rows : lanes * (j + 1) ≡ lanes * j + lanes = grind arith in
    let row = there.1 in
    (there.0, omega arith)
