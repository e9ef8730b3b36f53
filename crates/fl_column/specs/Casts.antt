-- The slots and the validity of integers in another type.
use Rattle.std.specs.Prelude.{ℕ, ℤ, pos, if◌then◌else◌}
use Rattle.fl_types.specs.declared.dtype.PType.{PType}
use Rattle.fl_types.specs.declared.dtype.Nullability.{Nullability}
use Rattle.fl_types.specs.declared.dtype.Nullability.TheVariants.{NonNullable, Nullable}
use Rattle.fl_types.specs.declared.validity.Validity.{Validity}
use Rattle.fl_types.specs.declared.validity.Validity.TheVariants as valid
use Rattle.fl_types.specs.Integers.{fits}
use Rattle.fl_column.specs.Selections.{any_null}

-- the integer, 0 where the type doesn't have it
abbrev pub cast_slot : PType → ℤ → ℤ
cast_slot ptype z = if fits ptype z then z else pos 0

-- the validity of these items where nulls may stand or not, which has a bit for each only where one is null
abbrev pub cast_validity : Nullability → ℕ → Validity → Validity
cast_validity NonNullable len validity = valid.NonNullable
cast_validity Nullable len validity = if any_null validity len then validity else valid.AllValid
