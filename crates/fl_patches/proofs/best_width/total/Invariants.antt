use Rattle.std.proofs.Common.{◌≡◌, ◌*◌, ◌^◌, ◌≤◌, sum, take}
use Rattle.fl_patches.proofs.best_width.total.Given as goal

abbrev pub invariant-loop-entry : goal.invariant-loop-entry
invariant-loop-entry l = record {
  value : l.all ≡ sum (take l.entry-index l.histogram);
  fits : l.all ≤ 2 ^ 64 * l.entry-index;
}
