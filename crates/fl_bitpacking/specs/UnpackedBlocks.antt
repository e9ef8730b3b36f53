-- A block's items, unpacked at one width.
use Rattle.std.specs.Prelude.{ℕ, List}

-- the items, and the width at which blocks are unpacked
pub record BlockItems (T : Type 0) : Type 0 where
  pub items : List T
  pub bit_width : ℕ
