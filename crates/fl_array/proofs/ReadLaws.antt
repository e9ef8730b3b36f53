-- Integers that are read of a column.
use Rattle.std.proofs.Common.{◌≡◌, ℕ, ℤ, pos, ◌+◌, ◌<◌, ◌≤◌, List, length, map, get_or, take, drop, Bool, true, false, Option, Some, None, Ok, IsTrue, cond, refl, ap, sym, ◌∙◌, arith}
use Rattle.std.specs.Prelude.{IfSome, ◌+ℤ◌, is_some, if◌then◌else◌}
use Rattle.std.proofs.Math.ListN as list
use Rattle.std.proofs.lemmas.List.{get_or-map, get_or-replicate, get_or_default, length-map, length-replicate, same_lists}
use Rattle.fl_types.specs.declared.dtype.PType.{PType}
use Rattle.fl_types.specs.declared.dtype.DType.{DType}
use Rattle.fl_types.specs.declared.dtype.DType.TheVariants as dtypes
use Rattle.fl_types.specs.Integers.{wrap}
use Rattle.fl_types.specs.declared.validity.Validity.{Validity}
use Rattle.fl_types.specs.Types.{has_ptype, integer_type, is_integer, nullability_in}
use Rattle.fl_types.specs.Validities.{covers, is_valid_at, items_of, nullability_of}
use Rattle.fl_column.specs.Columns.{Column, ConstantParts, PrimitiveParts, column_of_constant, column_of_primitive, ptype_of_column}
use Rattle.fl_column.proofs.ItemLaws.{get_or-items_of, length-items_of}
use Rattle.fl_codec.specs.FoRColumns.{chunked_for, global_for, plus_reference}
use Rattle.fl_codec.proofs.FoRSlices.{length-chunked}
use Rattle.fl_bitpacking.specs.Blocks.{Blocks, value_at}
use Rattle.fl_bitpacking.specs.Columns.{BitPackedParts, column_of_packed, packed_item}
use Rattle.fl_bitpacking.proofs.Tables.{length-table}
use Rattle.fl_bitpacking.proofs.SoundParts.{same_ptype_is}
use Rattle.fl_bitpacking.proofs.Slices.{value_part}
use Rattle.fl_array.specs.Reads.{AreItemsOf, IsValidityOf, integer_column}
use Rattle.fl_array.specs.Readers.{AreItemsFrom}

cond_some : (b : Bool) (x z : ℤ) → cond b (Some x) None ≡ Some z → x ≡ z
cond_some true x z h = cc
cond_some false x z h = cc

-- the stored integers of a primitive array
pub slots_shown : {X : Type 0} (value : X → ℤ) (p : PrimitiveParts) (xs items : List X) (start n : ℕ) → IsTrue (covers p.validity (length p.slots)) → map value xs ≡ p.slots → start + n ≤ length p.slots → items ≡ take n (drop start xs)
    → AreItemsFrom start n (value_at value items) (column_of_primitive p)
unfolding value_at
slots_shown value p xs items start n covered same room is = λ i z h e.
    let within : start + i < length p.slots = omega arith in
    let item = get_or-items_of p.validity p.slots (start + i) (pos 0) covered within in
    let stored : get_or p.slots (start + i) (pos 0) ≡ z = cond_some (is_valid_at p.validity (start + i)) (get_or p.slots (start + i) (pos 0)) z (sym item ∙ e) in
    ap (λ ys. value_at value ys i) is ∙ (value_part value xs start n i h ∙ (ap (λ ys. get_or ys (start + i) (pos 0)) same ∙ stored))

some_is : (o : Option ℤ) (x z : ℤ) → IfSome o (λ y. x ≡ y) → o ≡ Some z → x ≡ z
some_is None x z h e = cc
some_is (Some y) x z h e = let same : y ≡ z = cc in h ∙ same

-- the integer of a constant array
pub repeated_shown : (k : ConstantParts) (integer : ℕ → ℤ) (x : ℤ) (start n : ℕ) → ((i : ℕ) → i < n → integer i ≡ x) → IfSome k.scalar.value (λ z. x ≡ z) → start + n ≤ length (column_of_constant k).items
    → AreItemsFrom start n integer (column_of_constant k)
repeated_shown k integer x start n each is room = λ i z h e.
    let long = length-replicate k.len k.scalar.value in
    let item : k.scalar.value ≡ Some z = sym (get_or-replicate k.len (start + i) k.scalar.value None (omega (arith, long))) ∙ e in
    each i h ∙ some_is k.scalar.value x z is item

type_is : (d : DType) (ptype : PType) → has_ptype ptype d ≡ true → integer_type d ≡ Some ptype
type_is (dtypes.Primitive other nullability) ptype h = ap (λ (t : PType). Some t) (sym (same_ptype_is ptype other h))
type_is (dtypes.Bool nullability) ptype h = cc

-- the type of a column of integers of a type
pub type_of_column : (c : Column) (ptype : PType) → has_ptype ptype c.dtype ≡ true → ptype_of_column c ≡ ptype
type_of_column c ptype h = rw (type_is c.dtype ptype h) refl

pub plus_case : (ptype : PType) (r : ℤ) (o : Option ℤ) (integer new z : ℤ) → ((y : ℤ) → o ≡ Some y → integer ≡ y) → plus_reference ptype r o ≡ Some z → new ≡ wrap ptype (integer +ℤ r) → new ≡ z
plus_case ptype r None integer new z shown e is = cc
plus_case ptype r (Some y) integer new z shown e is = let sum : wrap ptype (y +ℤ r) ≡ z = cc in is ∙ (ap (λ x. wrap ptype (x +ℤ r)) (shown y refl) ∙ sum)

-- the integers plus a reference
pub reference_shown : {X : Type 0} (value : X → ℤ) (c : Column) (ptype : PType) (r : ℤ) (old new : List X) (start n : ℕ) → ptype_of_column c ≡ ptype → map value new ≡ map (λ z. wrap ptype (z +ℤ r)) (map value old) → length old ≡ n
    → AreItemsFrom start n (value_at value old) c → AreItemsFrom start n (value_at value new) (global_for r c)
unfolding value_at
reference_shown value c ptype r old new start n typed sums long shown = λ i z h e.
    let plus : ℤ → ℤ = λ z. wrap ptype (z +ℤ r) in
    let inside : i < length (map value old) = let same = length-map old value in omega arith in
    let item : plus_reference (ptype_of_column c) r (get_or c.items (start + i) None) ≡ Some z = sym (list.get_or-map (plus_reference (ptype_of_column c) r) c.items (start + i) None) ∙ e in
    let typed_item : plus_reference ptype r (get_or c.items (start + i) None) ≡ Some z = ap (λ t. plus_reference t r (get_or c.items (start + i) None)) (sym typed) ∙ item in
    plus_case ptype r (get_or c.items (start + i) None) (get_or (map value old) i (pos 0)) (get_or (map value new) i (pos 0)) z (λ y s. shown i y h s) typed_item
    (ap (λ ys. get_or ys i (pos 0)) sums ∙ get_or-map plus (map value old) i (pos 0) (pos 0) inside)

item_case : (b : Bool) (o : Option ℤ) (x : ℤ) → b ≡ is_some o → ((z : ℤ) → o ≡ Some z → x ≡ z) → cond b (Some x) None ≡ o
item_case b None x is shown = rw is refl
item_case b (Some z) x is shown = rw is (ap (λ y. Some y) (shown z refl))

-- the integers of a whole column are its items under its validity
pub items_read : (integers : List ℤ) (c : Column) → length integers ≡ length c.items → AreItemsFrom 0 (length integers) (λ i. get_or integers i (pos 0)) c → AreItemsOf integers c
items_read integers c long shown = λ validity of.
    let covered : IsTrue (covers validity (length integers)) = rw long of.covered in
    let size = length-items_of validity integers covered in
    same_lists (items_of validity integers) c.items (size ∙ long) (λ i d h.
    let within : i < length integers = omega (arith, size) in
    let inside : i < length c.items = omega arith in
    let place : 0 + i ≡ i = omega arith in
    get_or_default (items_of validity integers) i d None h ∙ (get_or-items_of validity integers i (pos 0) covered within
    ∙ (item_case (is_valid_at validity i) (get_or c.items i None) (get_or integers i (pos 0)) (of.valid i inside) (λ z e. shown i z within (ap (λ k. get_or c.items k None) place ∙ e))
    ∙ sym (get_or_default c.items i d None inside))))

-- all integers that were read
pub all_shown : {X : Type 0} (value : X → ℤ) (c : Column) (xs : List X) → length xs ≡ length c.items → AreItemsFrom 0 (length xs) (value_at value xs) c → AreItemsOf (map value xs) c
unfolding value_at
all_shown value c xs long shown =
    let same = length-map xs value in
    items_read (map value xs) c (same ∙ long) (λ i z h e. let within : i < length xs = omega arith in shown i z within e)

-- ---- packed blocks
packed_some : (b : Bool) (x z : ℤ) → (if b then Some x else None) ≡ Some z → x ≡ z
packed_some true x z h = cc
packed_some false x z h = cc

pub chunked_len : (references : List ℤ) (offset : ℕ) (c : Column) → length (chunked_for references offset c).items ≡ length c.items
chunked_len references offset c = length-chunked references offset c

pub packed_len : (parts : BitPackedParts) (blocks : Blocks) → length (column_of_packed parts blocks).items ≡ parts.len
packed_len parts blocks = length-table (packed_item parts blocks) parts.len

-- ---- whole columns
same_dtype : (d : DType) (ptype : PType) (v : Validity) → has_ptype ptype d ≡ true → nullability_of v ≡ nullability_in d → dtypes.Primitive ptype (nullability_of v) ≡ d
same_dtype (dtypes.Primitive other n) ptype v typed nullable = rw (same_ptype_is ptype other typed, nullable) refl
same_dtype (dtypes.Bool n) ptype v typed nullable = cc

-- a plain array of all integers that were read is the column
pub column_read : {X : Type 0} (value : X → ℤ) (ptype : PType) (c : Column) (v : Validity) (xs : List X) (p : PrimitiveParts) → has_ptype ptype c.dtype ≡ true → IsValidityOf v c → AreItemsOf (map value xs) c → p ≡ record { ptype = ptype; slots = map value xs; validity = v } → column_of_primitive p ≡ c
column_read value ptype c v xs p typed of shown made = rw (made, same_dtype c.dtype ptype v typed of.nullable, shown v of) refl

integer_type_of : (d : DType) (ptype : PType) → has_ptype ptype d ≡ true → is_integer d ≡ true
integer_type_of (dtypes.Primitive other n) ptype h = refl
integer_type_of (dtypes.Bool n) ptype h = cc

-- a column of a type of integers
pub integers_of_type : (c : Column) (ptype : PType) → has_ptype ptype c.dtype ≡ true → integer_column c ≡ Ok c
integers_of_type c ptype h = rw (integer_type_of c.dtype ptype h) refl
