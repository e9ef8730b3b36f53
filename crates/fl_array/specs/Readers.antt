-- What is read of an array block by block.
use Rattle.std.specs.Prelude.{ℕ}
use Rattle.fl_column.specs.Columns.{Column}
pub use Rattle.fl_bitpacking.specs.ItemsFrom.{AreItemsFrom}

-- the column that is read, the position of its first item in its block of 1024, and how deep the reader is: 0 where it holds no other one
pub record Prepared : Type 0 where
  pub column : Column
  pub offset : ℕ
  pub depth : ℕ
