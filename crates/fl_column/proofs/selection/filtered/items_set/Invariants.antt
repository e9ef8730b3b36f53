use Rattle.std.proofs.Common.{◌≡◌, ℕ, ◌*◌, ◌<◌, ◌≤◌, ◌++◌, false, true, length, get_or, drop, vec_capacity}
use Rattle.fl_types.specs.Bits.{true_count}
use Rattle.fl_column.specs.Operations.{kept}
use Rattle.fl_column.proofs.selection.filtered.items_set.Given as goal

-- the items from `run` on are still to come, of which those before the word are all kept
abbrev pub invariant-loop-k : goal.invariant-loop-k
invariant-loop-k g l = record {
  order : l.run ≤ 64 * l.k;
  within : l.run ≤ length l.items;
  set : (i : ℕ) → l.run ≤ i → i < 64 * l.k → i < length l.items → get_or l.bits i false ≡ true;
  items : l.taken.items ++ kept (drop l.run l.bits) (drop l.run l.items) ≡ kept l.bits l.items;
  room : true_count l.bits ≤ vec_capacity l.taken;
}
