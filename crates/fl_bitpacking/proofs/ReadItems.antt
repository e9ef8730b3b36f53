-- Items of a packed column from an index on.
use Rattle.std.proofs.Common.{◌≡◌, ℕ, ℤ, ◌+◌, ◌/◌, ◌<◌, ◌≤◌, Bool, true, false, Some, None, cond, option_map, unwrap_or, sym, ◌∙◌, arith}
use Rattle.fl_types.specs.Validities.{is_valid_at}
use Rattle.fl_patches.specs.PatchMaps.{patched_in}
use Rattle.fl_bitpacking.specs.Blocks.{Blocks}
use Rattle.fl_bitpacking.specs.BlockSums.{decoded_column}
use Rattle.fl_bitpacking.specs.Columns.{BitPackedParts, packed_item, stored}
use Rattle.fl_bitpacking.specs.ItemsFrom.{AreItemsFrom}
use Rattle.fl_bitpacking.proofs.BlockSums.{decoded_at}
use Rattle.fl_bitpacking.proofs.Tables.{get_or-table}

-- an item that is not null
pub valid_is : (b : Bool) (x z : ℤ) → cond b (Some x) None ≡ Some z → x ≡ z
valid_is true x z h = cc
valid_is false x z h = cc

-- what stands in the blocks, or the patches, with the references of the blocks, are the items
pub decoded_shown : (item : ℕ → ℤ → ℤ) (parts : BitPackedParts) (blocks : Blocks) (integer : ℕ → ℤ) (start n : ℕ) → start + n ≤ parts.len
    → ((i : ℕ) → i < n → integer i ≡ unwrap_or (option_map (item ((parts.offset + (start + i)) / 1024)) (patched_in parts.patches (start + i))) (item ((parts.offset + (start + i)) / 1024) (stored parts blocks (start + i))))
    → AreItemsFrom start n integer (decoded_column item parts blocks)
unfolding packed_item
decoded_shown item parts blocks integer start n room each = λ i z h e.
    let k = start + i in
    let sum = item ((parts.offset + k) / 1024) in
    let table = get_or-table (λ p. option_map (item ((parts.offset + p) / 1024)) (packed_item parts blocks p)) parts.len k None (omega arith) in
    valid_is (is_valid_at parts.validity k) (integer i) z (decoded_at (is_valid_at parts.validity k) sum (patched_in parts.patches k) (stored parts blocks k) (integer i) (each i h) ∙ (sym table ∙ e))
