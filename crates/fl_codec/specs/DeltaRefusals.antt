-- When bases and deltas make a column.
use Rattle.std.specs.Prelude.{◌+◌, ◌*◌, ◌/◌, ◌%◌, ◌==◌, ◌&&◌, ◌||◌, ℕ, Bool, not, length, Option, Some, None, nat_le, nat_lt, unwrap_or, if◌then◌else◌}
use Rattle.fl_types.specs.declared.dtype.DType.{DType}
use Rattle.fl_types.specs.declared.dtype.PType.TheVariants.{U8}
use Rattle.fl_types.specs.declared.error.FastLanesError.{FastLanesError}
use Rattle.fl_types.specs.declared.error.FastLanesError.TheVariants.{NotInteger, OffsetTooLarge, ValidityLength, TypeMismatch, ChildNullable, ChildLength, RangeBeyondChild}
use Rattle.fl_types.specs.declared.validity.Validity.{Validity}
use Rattle.fl_types.specs.Integers.{lanes_of_type}
use Rattle.fl_types.specs.Types.{integer_type, is_integer, is_nullable, same_type}
use Rattle.fl_types.specs.Validities.{covers}
use Rattle.fl_column.specs.Columns.{Column}

-- the lanes of blocks of a type
abbrev pub lanes_of_dtype : DType → ℕ
lanes_of_dtype dtype = lanes_of_type (unwrap_or (integer_type dtype) U8)

-- why this many bases and deltas of these types are not those of the blocks, if they are not
abbrev pub delta_children_refusal : DType → ℕ → DType → ℕ → Bool → ℕ → ℕ → Option FastLanesError
delta_children_refusal bases count deltas total covered offset len =
    if nat_le 1024 offset then Some OffsetTooLarge
    else if nat_lt total (offset + len) then Some RangeBeyondChild
    else if is_nullable bases || is_nullable deltas then Some ChildNullable
    else if not (same_type bases deltas) then Some TypeMismatch
    else if not (is_integer bases) then Some NotInteger
    else if not covered then Some ValidityLength
    else if not ((total % 1024 == 0) && (count == lanes_of_dtype bases * (total / 1024))) then Some ChildLength
    else None

-- why these columns make no delta encoded column, the first reason that holds
abbrev pub delta_refusal : Column → Column → Validity → ℕ → ℕ → Option FastLanesError
delta_refusal bases deltas validity offset len = delta_children_refusal bases.dtype (length bases.items) deltas.dtype (length deltas.items) (covers validity len) offset len
