-- Predicates that a width decides, and how many blocks a test unpacks.
use Rattle.std.specs.Prelude.{◌==◌, ◌&&◌, ◌||◌, ◌^◌, ℕ, ℤ, pos, Bool, not, nat_lt, if◌then◌else◌}
use Rattle.std.specs.Bool.{beq}
use Rattle.std.specs.List.{list_all, range_with_len}
use Rattle.fl_types.specs.declared.dtype.PType.{PType}
use Rattle.fl_types.specs.Bits.{tabulate, true_count}
use Rattle.fl_types.specs.Integers.{bits_of_type}
use Rattle.fl_bitpacking.specs.Blocks.{Blocks}
use Rattle.fl_bitpacking.specs.Columns.{BitPackedParts, block_count}

-- a width below the type's bits decides a predicate that has one answer on all of 0 to 2 ^ width - 1
unfoldable pub is_decided : PType → ℕ → (ℤ → Bool) → Bool
is_decided ptype width predicate = nat_lt width (bits_of_type ptype) && list_all (λ x. beq (predicate (pos x)) (predicate (pos 0))) (range_with_len 0 (2 ^ width))

-- how many of the first n blocks have a width that does not decide the predicate of their integers
unfoldable pub undecided_below : PType → Blocks → (ℕ → ℤ → Bool) → ℕ → ℕ
undecided_below ptype blocks predicate n = true_count (tabulate (λ j. not (is_decided ptype (blocks.width j) (predicate j))) n)

-- how many blocks are unpacked to test the items by a predicate for each block: those whose own width does not decide theirs, and none if there is no item
abbrev pub undecided_by_block : BitPackedParts → Blocks → (ℕ → ℤ → Bool) → ℕ
undecided_by_block parts blocks predicate = if parts.len == 0 then 0 else undecided_below parts.ptype blocks predicate (block_count parts)

-- the same by one predicate for all blocks
abbrev pub undecided_blocks : BitPackedParts → Blocks → (ℤ → Bool) → ℕ
undecided_blocks parts blocks predicate = undecided_by_block parts blocks (λ j. predicate)

-- the same where all blocks have one width: each block, or none where there is no item or the width decides
abbrev pub undecided_of_one_width : BitPackedParts → ℕ → (ℤ → Bool) → ℕ
undecided_of_one_width parts width predicate = if (parts.len == 0) || is_decided parts.ptype width predicate then 0 else block_count parts
