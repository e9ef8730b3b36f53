use Rattle.std.proofs.Common.{◌≡◌, ◌+◌, ◌≤◌, ◌++◌, length, map, take, vec_len, vec_capacity}
use Rattle.fl_types.specs.Integers.{read_as}
use Rattle.fl_column.proofs.patterns.push_converted.Given as goal

-- the values so far, and room for the others
abbrev pub invariant-loop-pattern : goal.invariant-loop-pattern
invariant-loop-pattern g l =
    let value = g.T.Number.value in record {
      long : vec_len l.values ≡ vec_len l.fn.values + l.pattern-index;
      room : vec_len l.fn.values + length l.patterns ≤ vec_capacity l.values;
      values : map value l.values.items ≡ map value l.fn.values.items ++ map (λ w. read_as g.T.NativePType.PTYPE (g.T.Physical.FastLanes.pattern w)) (take l.pattern-index l.patterns);
    }
