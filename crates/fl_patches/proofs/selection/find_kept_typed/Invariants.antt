use Rattle.std.proofs.Common.{◌≡◌, ◌+◌, ◌≤◌, Some, map, length}
use Rattle.fl_patches.specs.PatchMaps.{AreFound, count_below, ranks_at}
use Rattle.fl_patches.proofs.Kept.{kept_to}
use Rattle.fl_column.specs.Numbers.{numbers_by}
use Rattle.fl_patches.proofs.selection.find_kept_typed.Given as goal

-- the patches at the kept positions so far
abbrev pub invariant-loop-i : goal.invariant-loop-i
invariant-loop-i g l =
    let numbers = numbers_by g.I.Number.value l.indices in
    let positions = kept_to l.bits (length l.bits) l.i in record {
      below : l.below ≡ count_below (l.offset + l.i) numbers;
      len : l.len ≡ length positions;
      short : l.len ≤ l.i;
      found : AreFound l.found.places.items l.found.ranks.items (ranks_at l.offset numbers (map (λ i. Some i) positions));
    }
