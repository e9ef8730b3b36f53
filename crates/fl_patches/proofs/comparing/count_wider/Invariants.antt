use Rattle.std.proofs.Common.{◌≡◌, Some, map, take}
use Rattle.fl_patches.proofs.Comparisons.{wider}
use Rattle.fl_patches.proofs.comparing.count_wider.Given as goal

-- how many items so far are wider
abbrev pub invariant-loop-i : goal.invariant-loop-i
invariant-loop-i g l = l.count ≡ wider g.T.NativePType.PTYPE l.width (take l.i (map (λ z. Some z) (map g.T.Number.value l.items)))
