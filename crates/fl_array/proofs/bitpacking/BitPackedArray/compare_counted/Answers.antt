use Rattle.std.proofs.Common.{ℤ, Bool}
use Rattle.std.specs.Prelude.{IfOk, Ok}
use Rattle.fl_types.specs.Refusals.{Answers}
use Rattle.fl_types.specs.Values.{integer_of}
use Rattle.fl_column.specs.Columns.{column_of_bools}
use Rattle.fl_column.specs.Queries.{holds, tested}
use Rattle.fl_bitpacking.specs.RangeTests.{passes}
use Rattle.fl_array.specs.BitPackedArrays.{tree_of_bitpacked}
use Rattle.fl_array.specs.Trees.{column}
use Rattle.fl_array.specs.UnpackedBlocks.{IsComparisonOf}
use Rattle.fl_array.proofs.ComparedLaws.{said_alike}
use Rattle.fl_array.proofs.bitpacking.BitPackedArray.compare_counted.Goals as goal

pub test_counted-requires : goal.test_counted-requires
test_counted-requires c = rw c.comparing.ensures.plain tt

pub returns-clause-answer : goal.returns-clause-answer
returns-clause-answer c =
    said_alike (λ (test : ℤ → Bool). Answers (λ r. column_of_bools r.0) c.test_counted.result (Ok (tested test (column (tree_of_bitpacked c.args.self.now))))) (passes c.comparing.result) (holds c.args.operator (integer_of c.args.constant)) c.comparing.ensures.test c.test_counted.ensures.answer

pub returns-clause-work : goal.returns-clause-work
returns-clause-work c =
    said_alike (λ (test : ℤ → Bool). IfOk c.test_counted.result (λ r. IsComparisonOf c.args.self.now test r.1)) (passes c.comparing.result) (holds c.args.operator (integer_of c.args.constant)) c.comparing.ensures.test c.test_counted.ensures.work
