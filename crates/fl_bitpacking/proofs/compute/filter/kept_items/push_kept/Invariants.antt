use Rattle.std.proofs.Common.{◌≡◌, ◌+◌, ◌++◌, ◌*◌, drop, length, min}
use Rattle.fl_column.specs.Operations.{kept}
use Rattle.fl_bitpacking.proofs.compute.filter.kept_items.push_kept.Given as goal

-- the items of the words that are left are still to come
abbrev pub invariant-loop-k : goal.invariant-loop-k
invariant-loop-k g l =
    l.taken.items ++ kept (drop (l.from + min (64 * l.k) (length l.items)) l.bits) (drop (min (64 * l.k) (length l.items)) l.items) ≡ l.initial.taken.items ++ kept (drop l.from l.bits) l.items
