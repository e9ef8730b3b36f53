use Rattle.std.proofs.Common.{◌≡◌, map, pos, take}
use Rattle.fl_column.proofs.numbers.narrow.Given as goal

-- the numbers so far
abbrev pub invariant-loop-number : goal.invariant-loop-number
invariant-loop-number g l = map g.T.Number.value l.narrowed.items ≡ map pos (take l.number-index l.numbers)
