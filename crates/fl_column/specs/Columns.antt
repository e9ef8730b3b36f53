-- Columns: a type, whether nulls may stand in it, and the items. And the plain arrays that are stored as they are.
use Rattle.std.specs.Prelude.{◌&&◌, ◌||◌, ℕ, ℤ, pos, Bool, true, List, length, map, Option, Some, None, Result, Ok, Err, replicate, option_map, unwrap_or, unsigned_abs, is_none, is_some, if◌then◌else◌}
use Rattle.std.specs.List.{list_all}
use Rattle.fl_types.specs.declared.dtype.PType.{PType}
use Rattle.fl_types.specs.declared.dtype.PType.TheVariants.{U8}
use Rattle.fl_types.specs.declared.dtype.DType.{DType}
use Rattle.fl_types.specs.declared.dtype.DType.TheVariants.{Primitive}
use Rattle.fl_types.specs.declared.dtype.DType.TheVariants as dtypes
use Rattle.fl_types.specs.declared.error.FastLanesError.{FastLanesError}
use Rattle.fl_types.specs.declared.error.FastLanesError.TheVariants.{NotInteger, ValidityLength}
use Rattle.fl_types.specs.declared.validity.Validity.{Validity}
use Rattle.fl_types.specs.declared.validity.Validity.TheVariants as valid
use Rattle.fl_types.specs.Bits.{between}
use Rattle.fl_types.specs.Integers.{pattern_of, read_as}
use Rattle.fl_types.specs.declared.dtype.Nullability.{Nullability}
use Rattle.fl_types.specs.declared.dtype.Nullability.TheVariants.{NonNullable, Nullable}
use Rattle.fl_types.specs.Validities.{covers, full_validity, items_of, nullability_of, validity_between}
use Rattle.fl_types.specs.Types.{can_be_null, integer_type, is_integer, is_nullable, nullability_in}
use Rattle.fl_types.specs.Values.{fits_in, ScalarParts, bool_number}

-- a type, and an item or a null in each place; a boolean stands as 1 or 0
pub record Column : Type 0 where
  pub dtype : DType
  pub items : List (Option ℤ)

-- every value that is there passes the test
abbrev pub option_all : {A : Type 0} → (A → Bool) → Option A → Bool
option_all p None = true
option_all p (Some x) = p x

-- each item is one of the column's type, and none is null where none may be
abbrev pub is_column : Column → Bool
is_column c = list_all (option_all (fits_in c.dtype)) c.items && (is_nullable c.dtype || list_all is_some c.items)

-- a plain array: the stored integers, also under a null, and which of them are valid
pub record PrimitiveParts : Type 0 where
  pub ptype : PType
  pub slots : List ℤ
  pub validity : Validity

-- a scalar, repeated
pub record ConstantParts : Type 0 where
  pub scalar : ScalarParts
  pub len : ℕ

-- the validity of a repeated scalar
abbrev pub validity_of_constant : ScalarParts → Validity
validity_of_constant scalar = unwrap_or (option_map (λ z. if can_be_null (nullability_in scalar.dtype) then valid.AllValid else valid.NonNullable) scalar.value) valid.AllInvalid

-- the simplest validity of items, where nulls may stand or not: by its form where none is null or each is, else a bit for each
abbrev pub item_validity : {A : Type 0} → Nullability → List (Option A) → Validity
item_validity NonNullable items = valid.NonNullable
item_validity Nullable items =
    if list_all (λ item. is_some item) items then valid.AllValid
    else if list_all (λ item. is_none item) items then valid.AllInvalid
    else valid.Array (map (λ item. is_some item) items)

-- booleans, also under a null, and which of them are valid
pub record BoolParts : Type 0 where
  pub bits : List Bool
  pub validity : Validity

-- ---- types
-- the integer type of a column of integers (and U8 of any other)
abbrev pub ptype_of_column : Column → PType
ptype_of_column c = unwrap_or (integer_type c.dtype) U8

-- the items of a column, 0 in place of a null
abbrev pub integers_in : Column → List ℤ
integers_in c = map (λ item. unwrap_or item (pos 0)) c.items

-- the items as natural numbers, of a column that has no negative one; 0 in place of a null
abbrev pub numbers_of : Column → List ℕ
numbers_of c = map unsigned_abs (integers_in c)

-- the plain array of these items: 0 under a null, and a bit for each item
abbrev pub primitive_of_options : PType → List (Option ℤ) → PrimitiveParts
primitive_of_options ptype items = record { ptype = ptype; slots = map (λ item. unwrap_or item (pos 0)) items; validity = valid.Array (map (λ item. is_some item) items) }

-- a plain array of these integers, none of which is a null, where nulls may stand or not
abbrev pub without_nulls : PType → Nullability → List ℤ → PrimitiveParts
without_nulls ptype nullability slots = record { ptype = ptype; slots = slots; validity = full_validity nullability }

-- the same where none may stand
abbrev pub non_nullable : PType → List ℤ → PrimitiveParts
non_nullable ptype slots = record { ptype = ptype; slots = slots; validity = valid.NonNullable }

-- the plain array of the items from start to below end
abbrev pub slice_primitive : ℕ → ℕ → PrimitiveParts → PrimitiveParts
slice_primitive start end p = record { ptype = p.ptype; slots = between start end p.slots; validity = validity_between start end p.validity }

-- the plain array whose patterns are read as another type
abbrev pub reinterpret_primitive : PType → PrimitiveParts → PrimitiveParts
reinterpret_primitive ptype p = record { ptype = ptype; slots = map (λ z. read_as ptype (pattern_of p.ptype z)) p.slots; validity = p.validity }

-- the booleans from start to below end
abbrev pub slice_bools : ℕ → ℕ → BoolParts → BoolParts
slice_bools start end b = record { bits = between start end b.bits; validity = validity_between start end b.validity }

-- ---- the columns of plain arrays
-- the column of a plain array of integers
abbrev pub column_of_primitive : PrimitiveParts → Column
column_of_primitive p = record { dtype = Primitive p.ptype (nullability_of p.validity); items = items_of p.validity p.slots }

-- the column of a repeated scalar
abbrev pub column_of_constant : ConstantParts → Column
column_of_constant c = record { dtype = c.scalar.dtype; items = replicate c.len c.scalar.value }

-- the booleans and nulls of a plain array of them
abbrev pub bools : BoolParts → List (Option Bool)
bools b = items_of b.validity b.bits

-- the column of booleans
abbrev pub column_of_bools : BoolParts → Column
column_of_bools b = record { dtype = dtypes.Bool (nullability_of b.validity); items = map (option_map bool_number) (bools b) }

-- ---- constructors
-- a plain array of these parts, or why there is none
abbrev pub new_primitive : PType → List ℤ → Validity → Result PrimitiveParts FastLanesError
new_primitive ptype slots validity = if covers validity (length slots) then Ok (record { ptype = ptype; slots = slots; validity = validity }) else Err ValidityLength

-- booleans of these parts, or why there are none
abbrev pub new_bools : List Bool → Validity → Result BoolParts FastLanesError
new_bools bits validity = if covers validity (length bits) then Ok (record { bits = bits; validity = validity }) else Err ValidityLength

-- this many times a scalar, or why there is no such array
abbrev pub new_constant : ScalarParts → ℕ → Result ConstantParts FastLanesError
new_constant scalar len = if is_integer scalar.dtype then Ok (record { scalar = scalar; len = len }) else Err NotInteger
