-- The tests of packed blocks, as the code has them.
use Rattle.std.specs.Prelude.{◌/◌, ℕ, ℤ, Bool, List}
use Rattle.fl_bitpacking.specs.declared.compute.compare.PackedTest.{PackedTest}
use Rattle.fl_bitpacking.specs.declared.compute.compare.block_tests.BlockTests.{BlockTests}
use Rattle.fl_bitpacking.specs.Blocks.{Blocks, item_of_blocks}
use Rattle.fl_bitpacking.specs.RangeTests.{IsTestOf, TestsPatterns, passes}
use Rattle.fl_bitpacking.specs.References.{AreReferencesOf, of_sums}

-- a reference of the test is an integer of the type, and the patterns are tested as the integers are
pub record IsPackedTest (t : PackedTest) : Type 0 where
  pub typed : IsTestOf t.ptype t.range
  pub patterns : TestsPatterns t.ptype t.range t.patterns

-- the tests of this many blocks: a test of packed items and references of the test's type, if there are any
pub record AreBlockTests (count : ℕ) (t : BlockTests) : Type 0 where
  pub test : IsPackedTest t.test
  pub references : AreReferencesOf t.test.ptype count t.references

-- the test of an integer of block j, or of its sum with its reference
unfoldable pub passes_in : BlockTests → ℕ → ℤ → Bool
passes_in t j z = of_sums t.test.ptype t.references (passes t.test.range) j z

-- the answer for the integer at position p of packed blocks
unfoldable pub answer_at : BlockTests → Blocks → List ℕ → ℕ → Bool
answer_at t blocks bytes p = passes_in t (p / 1024) (item_of_blocks t.test.ptype blocks bytes p)
