use Rattle.std.proofs.Common.{◌≡◌, length, map, take}
use Rattle.fl_array.specs.BlockAnswers.{AreBlockAnswers}
use Rattle.fl_scan.specs.Membership.{is_one_of}
use Rattle.fl_scan.proofs.one_of.compare_each.Given as goal

-- the answers for the integers so far
abbrev pub invariant-loop-constant : goal.invariant-loop-constant
invariant-loop-constant g l = record {
  answers : AreBlockAnswers (is_one_of (take l.constant-index (map g.T.Number.value l.list))) l.bits l.j l.reader.offset l.reader.column;
  whole : length l.bits ≡ 16;
}
