use Rattle.std.proofs.Common.{◌≡◌, ◌+◌, ◌≤◌, ◌++◌, length, map, take, vec_len, vec_capacity}
use Rattle.std.specs.List.{list_all}
use Rattle.fl_types.specs.Integers.{fits}
use Rattle.fl_column.specs.Casts.{cast_slot}
use Rattle.fl_ops.proofs.by_blocks.cast.push_cast.Given as goal

-- the integers so far, whether the type has them all, and room for the others
abbrev pub invariant-loop-item : goal.invariant-loop-item
invariant-loop-item g l =
    let integers = map g.S.Number.value (take l.item-index l.items) in record {
      long : vec_len l.cast ≡ vec_len l.fn.cast + l.item-index;
      room : vec_len l.fn.cast + length l.items ≤ vec_capacity l.cast;
      slots : map g.T.Number.value l.cast.items ≡ map g.T.Number.value l.fn.cast.items ++ map (cast_slot g.T.NativePType.PTYPE) integers;
      fit : l.fit ≡ list_all (fits g.T.NativePType.PTYPE) integers;
    }
