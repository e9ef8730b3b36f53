-- What is read of an array.
use Rattle.std.proofs.Common.{◌≡◌, ℕ, length, true, None, Result, Ok, ◌∙◌, sym, refl}
use Rattle.std.proofs.lemmas.Bool.{eq-eqb}
use Rattle.fl_types.specs.declared.dtype.PType.{PType}
use Rattle.fl_types.specs.declared.dtype.DType.{DType}
use Rattle.fl_types.specs.declared.dtype.DType.TheVariants as dtypes
use Rattle.fl_types.specs.declared.error.FastLanesError.{FastLanesError}
use Rattle.fl_types.specs.Types.{has_ptype, is_integer}
use Rattle.fl_bitpacking.proofs.SoundParts.{same_ptype_is}
use Rattle.fl_column.specs.Columns.{Column, PrimitiveParts, column_of_primitive}
use Rattle.fl_array.specs.Reads.{integer_column}
use Rattle.flcol_c.specs.Reading.{read_fault}

-- a plain array of a type of integers has that type
pub plain_typed : (p : PrimitiveParts) (q : PType) → has_ptype q (column_of_primitive p).dtype ≡ true → p.ptype ≡ q
plain_typed p q h = sym (same_ptype_is q p.ptype h)

pub ok_is : (a b : Column) → ◌≡◌ {A = Result Column FastLanesError} (Ok a) (Ok b) → a ≡ b
ok_is a b e = cc

pub integers_of_type : (q : PType) (d : DType) → has_ptype q d ≡ true → is_integer d ≡ true
integers_of_type q (dtypes.Primitive p n) h = refl
integers_of_type q (dtypes.Bool n) h = cc

-- the column of an array of integers that was decoded
pub decoded_column : (c : Column) (p : PrimitiveParts) (q : PType) → has_ptype q c.dtype ≡ true → integer_column c ≡ Ok (column_of_primitive p) → c ≡ column_of_primitive p
decoded_column c p q typed e = ok_is c (column_of_primitive p) (let integers : is_integer c.dtype ≡ true = integers_of_type q c.dtype typed in (rw integers refl) ∙ e)

-- a column that is read
pub read_allowed : (ptype : PType) (len : ℕ) (c : Column) → has_ptype ptype c.dtype ≡ true → len ≡ length c.items → read_fault ptype len c ≡ None
read_allowed ptype len c typed e = rw (typed, eq-eqb len (length c.items) e) refl
