use Rattle.std.proofs.Common.{◌≡◌, ◌+◌, ◌-◌, ◌<◌, ◌≤◌, false, length, true}
use Rattle.fl_scan.specs.Bounds.{is_below_at}
use Rattle.fl_scan.proofs.bounds.items_below.Given as goal

-- the last item before the part that is searched is below, and the one behind the part is not
abbrev pub invariant-loop-low : goal.invariant-loop-low
invariant-loop-low g l =
    let c = l.reader.column in
    let z = g.T.Number.value l.value in
    record {
      order : l.low ≤ l.high;
      few : l.high ≤ length l.items;
      below : 0 < l.low → is_below_at z c (l.start + l.low - 1) ≡ true;
      above : l.high < length l.items → is_below_at z c (l.start + l.high) ≡ false;
    }

abbrev pub decreases-loop-low : goal.decreases-loop-low
decreases-loop-low g l = l.high - l.low
