-- Answers of tests for the items of a block, as bits.
pub use Rattle.fl_bitpacking.specs.BlockAnswers.{AreBlockAnswers}
