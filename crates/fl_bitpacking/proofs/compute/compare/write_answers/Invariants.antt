use Rattle.std.proofs.Common.{◌≡◌, ℕ, ◌+◌, ◌/◌, ◌<◌, false, length, get_or, map, option_map, unsigned_abs, unwrap_or}
use Rattle.fl_patches.specs.PatchMaps.{rank_of}
use Rattle.fl_bitpacking.specs.Compared.{passes_in}
use Rattle.fl_bitpacking.proofs.FoundBelow.{found_below}
use Rattle.fl_bitpacking.proofs.compute.compare.write_answers.Given as goal

-- the answers so far
abbrev pub invariant-loop-k : goal.invariant-loop-k
invariant-loop-k g l = record {
  whole : length l.bits ≡ length l.initial.bits;
  put : (i : ℕ) → i < length l.bits → get_or l.bits i false ≡ unwrap_or (option_map (passes_in l.tests ((l.first + i) / 1024)) (found_below (map g.T.Number.value l.placed.values.now) l.k (rank_of (l.placed.offset + i) (map unsigned_abs (map g.I.Number.value l.placed.indices.now))))) (get_or l.initial.bits i false);
}
