use Rattle.std.proofs.Common.{◌≡◌, ℕ, ◌-◌, ◌*◌, ◌<◌, get_or, length, min, None, true}
use Rattle.fl_column.specs.Queries.{same_item}
use Rattle.fl_ops.proofs.by_blocks.constancy.is_constant_typed.Given as goal

-- the items of the blocks so far equal the first
abbrev pub invariant-loop-j : goal.invariant-loop-j
invariant-loop-j g l =
    let items = l.reader.column.items in
    (k : ℕ) → k < min (1024 * l.j - l.reader.offset) (length items) → same_item (get_or items 0 None) (get_or items k None) ≡ true
