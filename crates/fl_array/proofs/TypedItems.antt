-- Single items of arrays in the type of the column.
use Rattle.std.proofs.Common.{◌≡◌, ℕ, ℤ, pos, ◌+◌, ◌/◌, ◌<◌, length, get_or, refl, ap, sym, ◌∙◌, true, None, Some, Option}
use Rattle.std.specs.Prelude.{option_map, unwrap_or}
use Rattle.fl_types.specs.declared.dtype.DType.{DType}
use Rattle.fl_types.specs.declared.dtype.DType.TheVariants as dtypes
use Rattle.fl_types.specs.declared.dtype.PType.{PType}
use Rattle.fl_types.specs.Types.{has_ptype, integer_type}
use Rattle.fl_types.specs.Values.{ScalarParts}
use Rattle.fl_column.specs.Columns.{Column, PrimitiveParts, column_of_primitive, ptype_of_column}
use Rattle.fl_column.specs.Numbers.{numbers}
use Rattle.fl_column.specs.Queries.{scalar_in}
use Rattle.fl_codec.specs.FoRColumns.{plus_reference}
use Rattle.fl_bitpacking.proofs.SoundParts.{same_ptype_is}
use Rattle.fl_array.specs.BitPackedArrays.{BitPackedArrayParts, BlockBoundaries, refusal_of_bitpacked}
use Rattle.fl_array.specs.FoRArrays.{ChunkReferences, FoRArrayParts, GlobalReference, refusal_of_for, tree_of_for}
use Rattle.fl_array.specs.Trees.{Tree, column}
use Rattle.fl_array.proofs.BlockedLaws.{ReadBlock, block_by_numbers, numbers_read}
use Rattle.fl_array.proofs.FoRSound.{chunked_item, global_item}

-- the type of a column of a type
pub type_is : (d : DType) (ptype : PType) → has_ptype ptype d ≡ true → integer_type d ≡ Some ptype
type_is (dtypes.Primitive other nullability) ptype h = ap (λ (t : PType). Some t) (sym (same_ptype_is ptype other h))
type_is (dtypes.Bool nullability) ptype h = cc

pub type_of_column : (c : Column) (ptype : PType) → has_ptype ptype c.dtype ≡ true → ptype_of_column c ≡ ptype
type_of_column c ptype h = rw (type_is c.dtype ptype h) refl

-- the integer of a value, or of another one where there is none
pub value_or : {A : Type 0} (f : A → ℤ) (o : Option A) (x : A) (z : ℤ) → f x ≡ z → f (unwrap_or o x) ≡ unwrap_or (option_map f o) z
value_or f None x z h = h
value_or f (Some y) x z h = refl

-- an item plus the one reference
pub global_value : (a : FoRArrayParts) (reference : ScalarParts) (ptype : PType) (i : ℕ) (value : ℤ) (item : Option ℤ) → GlobalReference reference ≡ a.references → has_ptype ptype (column a.encoded).dtype ≡ true → i < length (column a.encoded).items → reference.value ≡ Some value
    → item ≡ get_or (column a.encoded).items i None → plus_reference ptype value item ≡ get_or (column (tree_of_for a)).items i None
global_value a reference ptype i value item same typed h is e =
    let c = column a.encoded in
    let sum = ap (λ (s : ScalarParts). s.value) (global_item a reference i (scalar_in c i) same h refl) in
    let parts : plus_reference ptype value item ≡ plus_reference (ptype_of_column c) (unwrap_or reference.value (pos 0)) (get_or c.items i None) = rw (type_of_column c ptype typed, is, e) refl in
    parts ∙ sym sum

-- an item plus the reference of its chunk
pub chunked_value : (a : FoRArrayParts) (references : Tree) (offset : ℕ) (ptype : PType) (i : ℕ) (value : ℤ) (item : Option ℤ) → ChunkReferences references offset ≡ a.references → refusal_of_for a ≡ None → has_ptype ptype (column a.encoded).dtype ≡ true → i < length (column a.encoded).items
    → value ≡ unwrap_or (get_or (column references).items ((offset + i) / 1024) None) (pos 0) → item ≡ get_or (column a.encoded).items i None → plus_reference ptype value item ≡ get_or (column (tree_of_for a)).items i None
chunked_value a references offset ptype i value item same refused typed h is e =
    let c = column a.encoded in
    let sum = ap (λ (s : ScalarParts). s.value) (chunked_item a references offset i (scalar_in c i) (scalar_in (column references) ((offset + i) / 1024)) same refused h refl refl) in
    let parts : plus_reference ptype value item ≡ plus_reference (ptype_of_column c) (unwrap_or (get_or (column references).items ((offset + i) / 1024) None) (pos 0)) (get_or c.items i None) = rw (type_of_column c ptype typed, is, e) refl in
    parts ∙ sym sum

-- the boundaries of a block, as they stand in a primitive array
pub block_between : (a : BitPackedArrayParts) (b : Tree) (p : PrimitiveParts) (i n0 n1 n2 : ℕ) → refusal_of_bitpacked a ≡ None → BlockBoundaries b ≡ a.widths → column b ≡ column_of_primitive p → i < a.parts.len
    → n0 ≡ get_or (numbers p) 0 0 → n1 ≡ get_or (numbers p) ((a.parts.offset + i) / 1024) 0 → n2 ≡ get_or (numbers p) ((a.parts.offset + i) / 1024 + 1) 0 → ReadBlock a i n0 n1 n2
block_between a b p i n0 n1 n2 h same is r is0 is1 is2 =
    let j = (a.parts.offset + i) / 1024 in
    let read = numbers_read a b p h same (sym is) in
    block_by_numbers a b i n0 n1 n2 h same r (is0 ∙ ap (λ ns. get_or ns 0 0) read) (is1 ∙ ap (λ ns. get_or ns j 0) read) (is2 ∙ ap (λ ns. get_or ns (j + 1) 0) read)
