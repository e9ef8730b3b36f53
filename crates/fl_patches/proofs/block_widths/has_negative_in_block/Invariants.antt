use Rattle.std.proofs.Common.{◌≡◌, ℕ, ◌<◌, ◌≤◌, false, get_or, map, None}
use Rattle.fl_types.specs.Validities.{items_of}
use Rattle.fl_patches.specs.Exceptions.{is_negative}
use Rattle.fl_patches.proofs.block_widths.has_negative_in_block.Given as goal

-- no item of the block so far is negative
abbrev pub invariant-loop-i : goal.invariant-loop-i
invariant-loop-i g l = (k : ℕ) → l.start ≤ k → k < l.i → is_negative (get_or (items_of l.validity (map g.T.Number.value l.items)) k None) ≡ false
