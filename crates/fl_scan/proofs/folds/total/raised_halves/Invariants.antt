use Rattle.std.proofs.Common.{◌≡◌, ◌+◌, ◌*◌, ◌≤◌, map, pos, take}
use Rattle.std.specs.Prelude.{◌+ℤ◌}
use Rattle.fl_scan.specs.Raised.{raise}
use Rattle.fl_scan.specs.Totals.{total}
use Rattle.fl_scan.proofs.folds.total.raised_halves.Given as goal

-- the sums so far
abbrev pub invariant-loop-item : goal.invariant-loop-item
invariant-loop-item g l =
    (pos (4294967296 * l.high + l.low) ≡ total (take l.item-index (map g.T.Number.value l.items)) +ℤ pos (l.item-index * raise g.T.NativePType.PTYPE))
    × ((l.low ≤ l.item-index * 4294967295) × (l.high ≤ l.item-index * 4294967295))
