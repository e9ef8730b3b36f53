use Rattle.std.proofs.Common.{◌+◌, ◌*◌, length, map, take}
use Rattle.fl_types.specs.Bits.{between, kept}
use Rattle.fl_scan.proofs.plain.add_valid.Given as goal

-- what is gathered of the words so far
abbrev pub invariant-loop-k : goal.invariant-loop-k
invariant-loop-k g l = g.F.Fold.Leads l.initial.fold (kept (take (64 * l.k) (between l.start (l.start + length l.items) l.bits)) (take (64 * l.k) (map g.T.Number.value l.items))) l.fold
