use Rattle.std.proofs.Common.{◌≡◌, map}
use Rattle.fl_serde.specs.Reading.{read_children}
use Rattle.fl_serde.proofs.ReadLaws.{child_of, remaining}
use Rattle.fl_serde.proofs.reading.+read.Given as goal

-- what is read of the children, by those that are still to be read
abbrev pub invariant-loop-i : goal.invariant-loop-i
invariant-loop-i l = read_children l.expected.items (map child_of l.children) ≡ remaining l.expected.items (map child_of l.children) l.i l.trees.items
