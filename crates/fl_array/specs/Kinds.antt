-- What an array is made of.
use Rattle.std.specs.Prelude.{◌||◌, Bool, false, true}
use Rattle.fl_array.specs.Trees.{Tree}
use Rattle.fl_array.specs.Trees as tree

-- what an array is made of, and nothing of what it stores
pub data Kind : Type 0 where
  IsPrimitive : Kind
  IsConstant : Kind
  IsBool : Kind
  IsBitPacked : Kind
  IsBitPackedBlocked : Kind → Kind
  IsFoR : Kind → Kind
  IsFoRChunked : Kind → Kind → Kind
  IsDelta : Kind → Kind → Kind
  IsRLE : Kind → Kind → Kind → Kind

-- the kind of an array
abbrev pub kind : Tree → Kind
kind (tree.Primitive p) = IsPrimitive
kind (tree.Constant c) = IsConstant
kind (tree.Bool b) = IsBool
kind (tree.BitPackedGlobal parts width) = IsBitPacked
kind (tree.BitPackedBlocked parts boundaries) = IsBitPackedBlocked (kind boundaries)
kind (tree.FoRGlobal encoded reference) = IsFoR (kind encoded)
kind (tree.FoRChunked encoded references offset) = IsFoRChunked (kind encoded) (kind references)
kind (tree.Delta bases deltas parts) = IsDelta (kind bases) (kind deltas)
kind (tree.RLE values indices offsets window) = IsRLE (kind values) (kind indices) (kind offsets)

-- the kind of the plain array of the same column
abbrev pub plain_kind : Kind → Kind
plain_kind IsBool = IsBool
plain_kind other = IsPrimitive

-- an array of the kind is a delta array, or holds one
abbrev pub has_delta : Kind → Bool
has_delta IsPrimitive = false
has_delta IsConstant = false
has_delta IsBool = false
has_delta IsBitPacked = false
has_delta (IsBitPackedBlocked boundaries) = has_delta boundaries
has_delta (IsFoR encoded) = has_delta encoded
has_delta (IsFoRChunked encoded references) = has_delta encoded || has_delta references
has_delta (IsDelta bases deltas) = true
has_delta (IsRLE values indices offsets) = has_delta values || has_delta indices || has_delta offsets
