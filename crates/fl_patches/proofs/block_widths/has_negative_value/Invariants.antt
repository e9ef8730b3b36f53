use Rattle.std.proofs.Common.{◌≡◌, map, pos, take}
use Rattle.std.specs.List.{list_any}
use Rattle.std.specs.Prelude.{int_lt}
use Rattle.fl_patches.proofs.block_widths.has_negative_value.Given as goal

-- whether one so far is
abbrev pub invariant-loop-i : goal.invariant-loop-i
invariant-loop-i g l = l.found ≡ list_any (λ z. int_lt z (pos 0)) (take l.i (map g.T.Number.value l.items))
