use Rattle.std.proofs.Common.{◌≡◌, map, take}
use Rattle.flcol_c.specs.Feet.{pruning_number}
use Rattle.flcol_c.proofs.feet.write_plan.Given as goal

-- the numbers so far
abbrev pub invariant-loop-i : goal.invariant-loop-i
invariant-loop-i l = map (λ n. n) (take l.i l.numbers) ≡ map pruning_number (take l.i l.plan)
