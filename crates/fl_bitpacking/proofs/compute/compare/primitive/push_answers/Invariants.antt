use Rattle.std.proofs.Common.{◌≡◌, ◌*◌, ◌++◌, length, map, min, take}
use Rattle.fl_bitpacking.specs.RangeTests.{passes}
use Rattle.fl_bitpacking.proofs.compute.compare.primitive.push_answers.Given as goal

-- the answers of the words so far
abbrev pub invariant-loop-k : goal.invariant-loop-k
invariant-loop-k g l = l.answers ≡ l.initial.answers ++ map (passes l.fn.range) (take (min (64 * l.k) (length l.items)) (map g.T.Number.value l.items))
