-- Children that are held plain.
use Rattle.std.specs.Prelude.{map, is_some, Result, Ok, if◌then◌else◌}
use Rattle.fl_types.specs.declared.error.FastLanesError.{FastLanesError}
use Rattle.fl_types.specs.declared.validity.Validity.TheVariants as valid
use Rattle.fl_types.specs.Types.{is_nullable}
use Rattle.fl_column.specs.Columns.{Column, PrimitiveParts, integers_in, ptype_of_column}
use Rattle.fl_metadata.specs.Schemas.{◌>>=◌}
use Rattle.fl_array.specs.Trees.{Tree, column}
use Rattle.fl_array.specs.Reads.{integer_column}

-- the plain array of a column of integers, 0 under a null, and a bit for each item where nulls may stand
unfoldable pub plain_of : Column → PrimitiveParts
plain_of c = record {
  ptype = ptype_of_column c;
  slots = integers_in c;
  validity = if is_nullable c.dtype then valid.Array (map (λ item. is_some item) c.items) else valid.NonNullable;
}

-- an array as a plain one, or why it is not of integers
abbrev pub decoded : Tree → Result PrimitiveParts FastLanesError
decoded t = integer_column (column t) >>= λ c. Ok (plain_of c)
