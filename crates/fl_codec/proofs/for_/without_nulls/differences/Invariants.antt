use Rattle.std.proofs.Common.{◌≡◌, ◌*◌, ◌-ℤ◌, map, take}
use Rattle.fl_types.specs.Integers.{wrap}
use Rattle.fl_codec.proofs.for_.without_nulls.differences.Given as goal

-- the slots of the chunks so far
abbrev pub invariant-loop-k : goal.invariant-loop-k
invariant-loop-k g l = map g.T.Number.value l.slots.items ≡ map (λ z. wrap g.T.NativePType.PTYPE (z -ℤ g.T.Number.value l.reference)) (map g.T.Number.value (take (1024 * l.k) l.items))
