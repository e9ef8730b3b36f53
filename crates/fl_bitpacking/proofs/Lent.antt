-- Items that are lent.
use Rattle.std.proofs.Common.{◌≡◌, ◌+◌, ◌*◌, ◌<◌, ◌≤◌, ℕ, ℤ, true, List, Some, length, nat_le, nat_lt, if◌then◌else◌, refl}
use Rattle.std.proofs.lemmas.Bool.{le-leb}
use Rattle.fastlanes.specs.Counts.{Counts}
use Rattle.fl_types.specs.declared.dtype.PType.{PType}
use Rattle.fl_bitpacking.specs.WholeBlocks.{WholeBlocks, block_items_at, next_items}

-- the items of a next block
pub next_there : (ptype : PType) (b : WholeBlocks) (zs : List ℤ) → nat_lt b.next b.end ≡ true → zs ≡ block_items_at ptype b.bit_width b.packed (1024 * b.next) 1024 → Some zs ≡ next_items ptype b
next_there ptype b zs more is = rw (more, is) refl

-- blocks that lie in the bytes are all left
pub all_left : (packed : List ℕ) (width next count : ℕ) (work : Counts) → 128 * width * count ≤ length packed
    → ◌≡◌ {A = WholeBlocks} record { packed = packed; bit_width = width; next = next; end = if nat_le (128 * width * count) (length packed) then count else next; work = work } record { packed = packed; bit_width = width; next = next; end = count; work = work }
all_left packed width next count work h = let there : nat_le (128 * width * count) (length packed) ≡ true = le-leb _ _ h in rw there refl

-- the next one of the blocks that are left lies in the bytes
pub record IsInside (packed : List ℕ) (width next count : ℕ) : Type 0 where
  pub below : next < count
  pub within : 128 * width * (next + 1) ≤ length packed
