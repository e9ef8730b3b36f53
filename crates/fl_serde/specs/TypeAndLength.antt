-- The type and the length of an array.
use Rattle.std.specs.Prelude.{◌≡◌, ℕ, length}
use Rattle.fl_types.specs.declared.dtype.DType.{DType}
use Rattle.fl_array.specs.Trees.{Tree, column}

-- The array is of a type and has so many items.
pub record HasTypeAndLength (t : Tree) (dtype : DType) (len : ℕ) : Type 0 where
  pub typed : (column t).dtype ≡ dtype
  pub long : length (column t).items ≡ len
