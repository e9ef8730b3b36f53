use Rattle.std.proofs.Common.{◌≡◌, Some, map}
use Rattle.fl_patches.proofs.Comparisons.{Counted, at_least}
use Rattle.fl_patches.proofs.comparing.count_bits.Given as goal

-- the entries below the width have the group's items, and so many are left
abbrev pub invariant-loop-width : goal.invariant-loop-width
invariant-loop-width g l =
    let t = g.T.NativePType.PTYPE in
    let group = map (λ z. Some z) (map g.T.Number.value l.group) in record {
      counted : Counted t l.initial.entries group l.width l.entries;
      rest : l.rest ≡ at_least t l.width group;
    }
