-- Delta arrays of the same integers, where nulls may stand or not.
use Rattle.std.specs.Prelude.{◌&&◌, Bool, not}
use Rattle.fl_types.specs.declared.dtype.DType.{DType}
use Rattle.fl_types.specs.declared.dtype.Nullability.{Nullability}
use Rattle.fl_types.specs.Types.{is_nullable}
use Rattle.fl_bitpacking.specs.Casts.{cast_validity}
use Rattle.fl_array.specs.Trees.{DeltaParts}

-- nulls may stand in the source and not in the target
abbrev pub drops_nullability : DType → DType → Bool
drops_nullability source target = is_nullable source && not (is_nullable target)

-- the parts of a delta array of the same blocks, where nulls may stand or not
abbrev pub cast_delta : Nullability → DeltaParts → DeltaParts
cast_delta nullability parts = record { validity = cast_validity nullability parts.validity; offset = parts.offset; len = parts.len }
