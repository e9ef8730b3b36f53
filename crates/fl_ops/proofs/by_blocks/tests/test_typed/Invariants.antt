use Rattle.fl_bitpacking.specs.RangeTests.{passes}
use Rattle.fl_ops.specs.BlockReads.{AreAnswered}
use Rattle.fl_ops.proofs.by_blocks.tests.test_typed.Given as goal

-- the answers for the blocks so far
abbrev pub invariant-loop-j : goal.invariant-loop-j
invariant-loop-j g l = AreAnswered (passes l.range) l.words.items l.j l.reader
