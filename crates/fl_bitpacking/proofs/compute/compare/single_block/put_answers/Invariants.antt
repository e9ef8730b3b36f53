use Rattle.std.proofs.Common.{◌≡◌, ℕ, ◌+◌, ◌<◌, length, map, option_map, unsigned_abs, unwrap_or}
use Rattle.fastlanes.specs.Compared.{has_bit}
use Rattle.fl_patches.specs.PatchMaps.{rank_of}
use Rattle.fl_bitpacking.specs.RangeTests.{passes}
use Rattle.fl_bitpacking.proofs.FoundBelow.{found_below}
use Rattle.fl_bitpacking.proofs.compute.compare.single_block.put_answers.Given as goal

-- the answers so far
abbrev pub invariant-loop-k : goal.invariant-loop-k
invariant-loop-k g l = record {
  whole : length l.bits ≡ 16;
  put : (i : ℕ) → i < l.part.len → has_bit l.bits (l.part.low + i) ≡ unwrap_or (option_map (passes l.test.range) (found_below (map g.T.Number.value l.placed.values.now) l.k (rank_of (l.placed.offset + i) (map unsigned_abs (map g.I.Number.value l.placed.indices.now))))) (has_bit l.initial.bits (l.part.low + i));
}
