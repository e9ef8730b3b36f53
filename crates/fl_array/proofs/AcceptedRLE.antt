-- Columns that are judged before they make a run-length encoded array.
use Rattle.std.proofs.Common.{◌≡◌, ◌*◌, ℕ, length, true, None, Ok, IsTrue, ap, arith, sym, ◌∙◌, refl}
use Rattle.std.specs.Prelude.{Result}
use Rattle.fl_types.specs.declared.dtype.DType.{DType}
use Rattle.fl_types.specs.declared.dtype.DType.TheVariants as dtypes
use Rattle.fl_types.specs.declared.dtype.Nullability.{Nullability}
use Rattle.fl_types.specs.declared.dtype.Nullability.TheVariants.{NonNullable, Nullable}
use Rattle.fl_types.specs.declared.dtype.PType.{PType}
use Rattle.fl_types.specs.declared.error.FastLanesError.{FastLanesError}
use Rattle.fl_types.specs.Integers.{is_unsigned}
use Rattle.fl_types.specs.Types.{is_index_type, is_integer}
use Rattle.fl_types.specs.Validities.{covers, nullability_of}
use Rattle.fl_column.specs.Columns.{Column, PrimitiveParts, column_of_primitive, numbers_of}
use Rattle.fl_column.proofs.ItemLaws.{length-items_of}
use Rattle.fl_codec.specs.Parts.{items_of_primitive}
use Rattle.fl_codec.specs.RunRefusals.{is_run_index_dtype, rle_numbers_refusal, rle_refusal, rle_types_refusal}
use Rattle.fl_codec.proofs.RunTypes.{have_types}
use Rattle.fl_array.specs.Reads.{integer_column}

indices_are_integers : (dtype : DType) → is_run_index_dtype dtype ≡ true → is_integer dtype ≡ true
indices_are_integers (dtypes.Primitive ptype nullability) h = refl
indices_are_integers (dtypes.Bool nullability) h = cc

positions_are_integers : (dtype : DType) → is_index_type dtype ≡ true → is_integer dtype ≡ true
positions_are_integers (dtypes.Primitive ptype nullability) h = refl
positions_are_integers (dtypes.Bool nullability) h = cc

index_is_unsigned : (ptype : PType) (nullability : Nullability) → is_index_type (dtypes.Primitive ptype nullability) ≡ true → is_unsigned ptype ≡ true
index_is_unsigned ptype NonNullable h = h
index_is_unsigned ptype Nullable h = cc

is_read : (c : Column) → is_integer c.dtype ≡ true → integer_column c ≡ Ok c
is_read c h = rw h refl

-- columns of accepted types are columns of integers
pub record AreRead (i o : Column) : Type 0 where
  pub indices : integer_column i ≡ Ok i
  pub offsets : integer_column o ≡ Ok o

pub are_read : (v i o : Column) (offset len : ℕ) → rle_types_refusal v.dtype i.dtype o.dtype (length i.items) (length o.items) offset len ≡ None → AreRead i o
are_read v i o offset len h =
    let types = have_types v i o offset len h in
    record {
      indices = is_read i (indices_are_integers i.dtype types.index);
      offsets = is_read o (positions_are_integers o.dtype types.positions);
    }

read_is : (c d : Column) → integer_column c ≡ Ok d → integer_column c ≡ Ok c → d ≡ c
read_is c d e h =
    let same : (let r : Result Column FastLanesError = Ok d in r) ≡ Ok c = sym e ∙ h in
    cc

-- the decoded run indices and run offsets of accepted types and lengths
pub record AreDecoded (i o : Column) (indices offsets : PrimitiveParts) : Type 0 where
  pub indices_are : column_of_primitive indices ≡ i
  pub offsets_are : column_of_primitive offsets ≡ o
  pub unsigned : is_unsigned offsets.ptype ≡ true
  pub whole : length indices.slots ≡ 1024 * length offsets.slots

pub are_decoded : (v i o : Column) (indices offsets : PrimitiveParts) (offset len : ℕ) → rle_types_refusal v.dtype i.dtype o.dtype (length i.items) (length o.items) offset len ≡ None
    → integer_column i ≡ Ok (column_of_primitive indices) → integer_column o ≡ Ok (column_of_primitive offsets)
    → IsTrue (covers indices.validity (length indices.slots)) → IsTrue (covers offsets.validity (length offsets.slots)) → AreDecoded i o indices offsets
are_decoded v i o indices offsets offset len h e f x y =
    let types = have_types v i o offset len h in
    let read = are_read v i o offset len h in
    let is = read_is i (column_of_primitive indices) e read.indices in
    let os = read_is o (column_of_primitive offsets) f read.offsets in
    let many : length i.items ≡ length indices.slots = ap (λ (c : Column). length c.items) (sym is) ∙ length-items_of indices.validity indices.slots x in
    let chunks : length o.items ≡ length offsets.slots = ap (λ (c : Column). length c.items) (sym os) ∙ length-items_of offsets.validity offsets.slots y in
    let index : is_index_type (column_of_primitive offsets).dtype ≡ true = ap (λ (c : Column). is_index_type c.dtype) os ∙ types.positions in
    let whole = types.whole in
    let count = types.count in
    record {
      indices_are = is;
      offsets_are = os;
      unsigned = index_is_unsigned offsets.ptype (nullability_of offsets.validity) index;
      whole = omega arith;
    }

-- of decoded run indices and run offsets the numbers alone are left to be judged
pub judged_numbers : (v i o : Column) (indices offsets : PrimitiveParts) (offset len : ℕ) → rle_types_refusal v.dtype i.dtype o.dtype (length i.items) (length o.items) offset len ≡ None → AreDecoded i o indices offsets
    → rle_numbers_refusal (length v.items) (items_of_primitive indices) (numbers_of (column_of_primitive offsets)) ≡ rle_refusal v i o offset len
judged_numbers v i o indices offsets offset len h d = rw (h, ← d.indices_are, ← d.offsets_are) refl
