-- Positions in a block.
use Rattle.std.specs.Prelude.{ℕ}

-- the positions from one up to another
pub record Places : Type 0 where
  pub from : ℕ
  pub to : ℕ
