use Rattle.std.proofs.Common.{◌≡◌, ◌++◌, ◌-◌}
use Rattle.fl_metadata.specs.WrittenText.{groups_text, varint_text}
use Rattle.fl_metadata.proofs.writing.push_varint.Given as goal

-- the groups so far, and those of what is left
abbrev pub invariant-loop : goal.invariant-loop
invariant-loop l = l.out.items ++ groups_text (10 - l.counter) l.left ≡ l.fn.out.items ++ varint_text l.number
