use Rattle.std.proofs.Common.{◌≡◌, ◌≤◌, ◌<◌, ◌+◌, ◌++◌, ℕ, ℤ, pos, List, Option, Some, None, cond, get_or, length, map, take, true}
use Rattle.std.specs.Int.{trailing_zeros, w64}
use Rattle.fl_types.specs.Bits.{bit_of_word}
use Rattle.fl_patches.specs.PatchParts.{AreGathered}
use Rattle.fl_patches.proofs.gathering.Exceptions.push_marked.Given as goal

-- the items at the bits before the lowest that is left are pushed
abbrev pub invariant-loop-rest : goal.invariant-loop-rest
invariant-loop-rest g l = record {
  left : (j : ℕ) → trailing_zeros w64 l.rest ≤ j → bit_of_word l.rest j ≡ bit_of_word l.marks j;
  gathered : (before part : List (Option ℤ)) → length before ≡ l.start → length part ≤ 64 → ((j : ℕ) → bit_of_word l.marks j ≡ true → j < length part)
      → ((j : ℕ) → j < length part → get_or part j None ≡ cond (bit_of_word l.marks j) (Some (get_or (map g.T.Number.value l.items) (l.start + j) (pos 0))) None)
      → AreGathered l.initial.self.places.items (map g.T.Number.value l.initial.self.values.items) before
      → AreGathered l.self.places.items (map g.T.Number.value l.self.values.items) (before ++ take (trailing_zeros w64 l.rest) part);
}

abbrev pub decreases-loop-rest : goal.decreases-loop-rest
decreases-loop-rest g l = l.rest
