use Rattle.std.proofs.Common.{◌≡◌, ℕ, ◌*◌, ◌<◌, length}
use Rattle.fl_types.specs.Bits.{is_set}
use Rattle.fl_bitpacking.specs.Blocks.{blocks_of}
use Rattle.fl_bitpacking.specs.Compared.{answer_at, passes_in}
use Rattle.fl_bitpacking.specs.Decided.{undecided_below}
use Rattle.fl_bitpacking.specs.Readings.{more_blocks}
use Rattle.fl_bitpacking.proofs.compute.compare.test_blocks.Given as goal

-- the answers of the blocks so far
abbrev pub invariant-loop-j : goal.invariant-loop-j
invariant-loop-j g l = record {
  start : l.start ≡ (blocks_of l.blocks.widths).start l.j;
  long : length l.words.items ≡ 16 * l.j;
  done : (p : ℕ) → p < 1024 * l.j → is_set l.words.items p ≡ answer_at l.tests (blocks_of l.blocks.widths) l.initial.reader.bytes p;
  counted : l.reader ≡ more_blocks (undecided_below l.tests.test.ptype (blocks_of l.blocks.widths) (passes_in l.tests) l.j) l.initial.reader;
}
