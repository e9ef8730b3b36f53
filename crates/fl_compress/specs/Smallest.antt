-- The smallest array that some schemes make of a primitive one.
use Rattle.std.specs.Prelude.{◌≡◌, ◌<◌, ◌≤◌, List, ◌∷◌, ◌++◌, None}
use Rattle.std.specs.List.{All}
use Rattle.fl_column.specs.Columns.{PrimitiveParts}
use Rattle.fl_array.specs.Trees.{Tree}
use Rattle.fl_encode.specs.Encodings.{IsEncodedAs, encode_refusal}
use Rattle.fl_encode.specs.Shapes.{Shape}
use Rattle.fl_serde.specs.ByteCounts.{tree_bytes}

-- the array is a primitive one that is encoded by a scheme of this shape, which is not refused
abbrev pub IsMadeAs : Shape → PrimitiveParts → Tree → Type 0
IsMadeAs s p t = (encode_refusal s p ≡ None) × IsEncodedAs s p t

-- no array that a scheme of this shape makes takes fewer bytes
abbrev pub TakesNoFewer : PrimitiveParts → Tree → Shape → Type 0
TakesNoFewer p t s = (u : Tree) → IsMadeAs s p u → tree_bytes t ≤ tree_bytes u

-- each array that a scheme of this shape makes takes more bytes
abbrev pub TakesMore : PrimitiveParts → Tree → Shape → Type 0
TakesMore p t s = (u : Tree) → IsMadeAs s p u → tree_bytes t < tree_bytes u

-- the array is encoded by one of these schemes: none takes fewer bytes, and those before it take more
pub record IsSmallest (schemes : List Shape) (p : PrimitiveParts) (t : Tree) : Type 0 where
  pub before : List Shape
  pub chosen : Shape
  pub behind : List Shape
  pub place : schemes ≡ before ++ chosen ∷ behind
  pub made : IsMadeAs chosen p t
  pub larger : All (TakesMore p t) before
  pub no_smaller : All (TakesNoFewer p t) schemes
