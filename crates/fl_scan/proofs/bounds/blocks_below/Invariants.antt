use Rattle.std.proofs.Common.{◌≡◌, ◌+◌, ◌-◌, ◌<◌, ◌≤◌, false, length, true}
use Rattle.fl_column.specs.Chunks.{chunk_count}
use Rattle.fl_scan.specs.Bounds.{block_start, is_below_at}
use Rattle.fl_scan.proofs.bounds.blocks_below.Given as goal

-- the last block before the part that is searched begins below, and the one behind the part does not
abbrev pub invariant-loop-low : goal.invariant-loop-low
invariant-loop-low g l =
    let c = l.reader.column in
    let z = g.T.Number.value l.value in
    let blocks = chunk_count (l.reader.offset + length c.items) in
    record {
      order : l.low ≤ l.high;
      few : l.high ≤ blocks;
      below : 0 < l.low → is_below_at z c (block_start l.reader (l.low - 1)) ≡ true;
      above : l.high < blocks → is_below_at z c (block_start l.reader l.high) ≡ false;
    }

abbrev pub decreases-loop-low : goal.decreases-loop-low
decreases-loop-low g l = l.high - l.low
