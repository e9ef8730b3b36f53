use Rattle.std.proofs.Common.{◌≡◌, ◌+◌, ◌<◌, ◌≤◌, ℕ, length, map, unwrap_or}
use Rattle.std.specs.Prelude.{slice_index}
use Rattle.fl_column.specs.Numbers.{numbers_by}
use Rattle.fl_patches.specs.PatchMaps.{IsChunkRange}
use Rattle.fl_bitpacking.specs.Blocks.{value_at}
use Rattle.fl_bitpacking.specs.Placed.{value_beside}
use Rattle.fl_bitpacking.proofs.compute.take.patch_values.patch_values.Given as goal

-- the range of the last position's chunk, the values of the patches so far, and the others as they were
abbrev pub invariant-loop-k : goal.invariant-loop-k
invariant-loop-k g l = record {
  ranged : IsChunkRange l.patches l.range.chunk l.range.start l.range.end;
  whole : length l.items ≡ length l.initial.items;
  put : (i : ℕ) → i < l.k → value_at g.T.Number.value l.items i ≡ unwrap_or (value_beside (numbers_by g.I.Number.value l.indices) (map g.T.Number.value l.values) (l.patches.offset + slice_index l.positions i)) (value_at g.T.Number.value l.initial.items i);
  rest : (i : ℕ) → l.k ≤ i → value_at g.T.Number.value l.items i ≡ value_at g.T.Number.value l.initial.items i;
}
