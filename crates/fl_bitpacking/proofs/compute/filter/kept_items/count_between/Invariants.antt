use Rattle.std.proofs.Common.{◌≡◌, ◌+◌, ◌*◌, min}
use Rattle.fl_types.specs.Bits.{between, true_count}
use Rattle.fl_bitpacking.proofs.compute.filter.kept_items.count_between.Given as goal

-- how many of those of the words so far
abbrev pub invariant-loop-k : goal.invariant-loop-k
invariant-loop-k l = l.set ≡ true_count (between l.from (l.from + min (64 * l.k) l.count) l.bits)
