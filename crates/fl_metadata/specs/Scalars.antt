-- The bytes of a scalar: a message of one number, whose tag says the sign of its type.
use Rattle.std.specs.Prelude.{ℕ, ℤ, pos, negsuc, ◌+◌, ◌-◌, ◌*◌, ◌/◌, ◌%◌, ◌^◌, unsigned_abs, List, [], ◌∷◌, ◌==◌, if◌then◌else◌, Option, option_map, Result, Ok}
use Rattle.fl_types.specs.declared.error.FastLanesError.{FastLanesError}
use Rattle.fl_types.specs.declared.dtype.PType.{PType}
use Rattle.fl_types.specs.Integers.{bits_of_type, is_unsigned}
use Rattle.fl_metadata.specs.Schemas.{◌>>=◌, values_of, optional_number_at}
use Rattle.fl_metadata.specs.WrittenText.{Slot, stated}
use Rattle.fl_metadata.specs.declared.schema.Kind.{Kind}
use Rattle.fl_metadata.specs.declared.schema.Kind.TheVariants.{Unknown, Number}

-- the zigzag number of a whole number: 0, -1, 1, -2, 2 are 0, 1, 2, 3, 4
abbrev pub zigzag : ℤ → ℕ
zigzag (pos n) = 2 * n
zigzag (negsuc n) = 2 * n + 1

-- the whole number of a zigzag number
abbrev pub unzigzag : ℕ → ℤ
unzigzag n = if n % 2 == 0 then pos (n / 2) else negsuc (n / 2)

-- the tag of a type: 4 without a sign, 3 with one
abbrev pub scalar_tag : PType → ℕ
scalar_tag ptype = if is_unsigned ptype then 4 else 3

-- the number that is written of a value: plain without a sign, zigzag with one
abbrev pub scalar_number : PType → ℤ → ℕ
scalar_number ptype z = if is_unsigned ptype then unsigned_abs z else zigzag z

-- the value that a number says
abbrev pub scalar_value : PType → ℕ → ℤ
scalar_value ptype n = if is_unsigned ptype then pos n else unzigzag n

-- the greatest number of a type
abbrev pub scalar_limit : PType → ℕ
scalar_limit ptype = 2 ^ bits_of_type ptype - 1

-- what the bytes of a scalar have under each tag: a number under the tag of its sign
abbrev pub scalar_schema : PType → List Kind
scalar_schema ptype = if is_unsigned ptype
    then Unknown ∷ Unknown ∷ Unknown ∷ Unknown ∷ Number (scalar_limit ptype) ∷ []
    else Unknown ∷ Unknown ∷ Unknown ∷ Number (scalar_limit ptype) ∷ []

-- the value that a text says: null where no number is there
unfoldable pub scalar_of : PType → List ℕ → Result (Option ℤ) FastLanesError
scalar_of ptype bytes = do
  values ← values_of (scalar_schema ptype) bytes
  Ok (option_map (scalar_value ptype) (optional_number_at (scalar_tag ptype) values))

-- a value is always written, also 0, and a null never
abbrev pub scalar_slots : PType → Option ℤ → List Slot
scalar_slots ptype value = stated (scalar_tag ptype) (option_map (scalar_number ptype) value) ∷ []
