-- The items of each kind of column lie in the range of its type.
use Rattle.std.proofs.Common.{◌≡◌, ◌∙◌, ℕ, ℤ, pos, zero, suc, ◌+◌, ◌/◌, ◌+ℤ◌, Bool, true, false, cond, List, [], ◌∷◌, length, map, get_or, replicate, Option, Some, None, refl, ap, sym, arith}
use Rattle.std.specs.Prelude.{◌&&◌, ◌||◌, IfSome, is_some, Ok, Err, option_map, unwrap_or, unsigned_abs, if◌then◌else◌}
use Rattle.fl_types.specs.declared.error.FastLanesError.TheVariants.{NotInteger}
use Rattle.std.specs.List.{list_all}
use Rattle.std.proofs.lemmas.Bool.Decides.{Decides-int_eq}
use Rattle.std.proofs.lemmas.Int.{ints}
use Rattle.fl_types.specs.declared.dtype.DType.{DType}
use Rattle.fl_types.specs.declared.dtype.DType.TheVariants as dtypes
use Rattle.fl_types.specs.declared.dtype.Nullability.{Nullability}
use Rattle.fl_types.specs.declared.dtype.PType.{PType}
use Rattle.fl_types.specs.declared.dtype.PType.TheVariants.{U8, U16, U32, U64, I8, I16, I32, I64}
use Rattle.fl_types.specs.declared.validity.Validity.{Validity}
use Rattle.fl_types.specs.Bits.{tabulate}
use Rattle.fl_types.specs.Integers.{fits, wrap}
use Rattle.fl_types.specs.Types.{integer_type, is_integer, is_nullable, nullability_in}
use Rattle.fl_types.specs.Validities.{is_valid_at, nullability_of}
use Rattle.fl_types.specs.Values.{bool_number, fits_in}
use Rattle.fl_column.specs.Columns.{BoolParts, Column, PrimitiveParts, bools, column_of_bools, column_of_primitive, integers_in, is_column, numbers_of, option_all, ptype_of_column}
use Rattle.fl_column.proofs.ListLaws.{all_from, and_first, and_second, and_true}
use Rattle.fl_patches.specs.PatchMaps.{PatchesParts, patched_in}
use Rattle.fl_codec.specs.Deltas.{block_integer, delta_column, delta_integer}
use Rattle.fl_codec.specs.RunColumns.{chunk_start, run_item}
use Rattle.fl_bitpacking.specs.Blocks.{Blocks, block_item, item_of_blocks}
use Rattle.fl_bitpacking.specs.Columns.{BitPackedParts, column_of_packed, packed_item, stored}
use Rattle.fl_bitpacking.proofs.Tables.{get_or-table, length-table}
use Rattle.fl_codec.specs.FoRColumns.{chunked_for, global_for, plus_reference}
use Rattle.fl_codec.proofs.FoRRoundTrips.{wrap-wrap_left}
use Rattle.fl_array.specs.Ranges.{items_fit}
use Rattle.fl_array.specs.Reads.{integer_column}
use Rattle.fl_array.specs.Trees.{Tree, column}
use Rattle.fl_array.specs.BitPackedArrays.{BitPackedArrayParts, blocks_of_widths, tree_of_bitpacked}
use Rattle.fl_array.specs.DeltaArrays.{DeltaArrayParts, tree_of_delta}
use Rattle.fl_array.specs.FoRArrays.{ChunkReferences, FoRArrayParts, FoRReferencesParts, GlobalReference, for_tree, refusal_of_for, tree_of_for}
use Rattle.fl_array.specs.RLEArrays.{RLEArrayParts, tree_of_rle}
use Rattle.fl_array.proofs.BitPackedLaws.{bitpacked_column}
use Rattle.fl_array.proofs.FoRSound.{for_is_integer}
use Rattle.fl_bitpacking.specs.Refusals.{AreConsistent}

-- ---- what is wrapped fits
plus_nothing : (z : ℤ) → z +ℤ pos 0 ≡ z
plus_nothing z = omega (arith, ints)

wrapped_twice : (ptype : PType) (z : ℤ) → wrap ptype (wrap ptype z) ≡ wrap ptype z
wrapped_twice ptype z = ap (wrap ptype) (sym (plus_nothing (wrap ptype z))) ∙ wrap-wrap_left ptype z (pos 0) ∙ ap (wrap ptype) (plus_nothing z)

pub wrapped_fits : (ptype : PType) (z : ℤ) → fits ptype (wrap ptype z) ≡ true
wrapped_fits ptype z = (Decides-int_eq (wrap ptype (wrap ptype z)) (wrap ptype z)).1 (wrapped_twice ptype z)

pub sum_fits : (ptype : PType) (reference : ℤ) (item : Option ℤ) → option_all (fits ptype) (plus_reference ptype reference item) ≡ true
sum_fits ptype reference None = refl
sum_fits ptype reference (Some z) = wrapped_fits ptype (z +ℤ reference)

zero_fits : (p : PType) → fits p (pos 0) ≡ true
zero_fits U8 = refl
zero_fits U16 = refl
zero_fits U32 = refl
zero_fits U64 = refl
zero_fits I8 = refl
zero_fits I16 = refl
zero_fits I32 = refl
zero_fits I64 = refl

got_fits : (p : PType) (zs : List ℤ) (i : ℕ) → list_all (fits p) zs ≡ true → fits p (get_or zs i (pos 0)) ≡ true
got_fits p [] i h = zero_fits p
got_fits p (z ∷ zs) zero h = and_first (fits p z) (list_all (fits p) zs) h
got_fits p (z ∷ zs) (suc i) h = got_fits p zs i (and_second (fits p z) (list_all (fits p) zs) h)

table_fits : (d : DType) (item : ℕ → Option ℤ) (n : ℕ) → ((i : ℕ) → option_all (fits_in d) (item i) ≡ true) → list_all (option_all (fits_in d)) (tabulate item n) ≡ true
table_fits d item n each =
    let long : length (tabulate item n) ≡ n = length-table item n in
    all_from (option_all (fits_in d)) (tabulate item n) None (λ i h. ap (option_all (fits_in d)) (get_or-table item n i None (omega (arith, long, h))) ∙ each i)

-- ---- plain arrays
pub constant_fits : (d : DType) (value : Option ℤ) (n : ℕ) → option_all (fits_in d) value ≡ true → list_all (option_all (fits_in d)) (replicate n value) ≡ true
constant_fits d value zero h = refl
constant_fits d value (suc n) h = and_true (option_all (fits_in d) value) (list_all (option_all (fits_in d)) (replicate n value)) h (constant_fits d value n h)

bool_fits : (n : Nullability) (bit : Option Bool) → option_all (fits_in (dtypes.Bool n)) (option_map bool_number bit) ≡ true
bool_fits n None = refl
bool_fits n (Some true) = refl
bool_fits n (Some false) = refl

bits_fit : (n : Nullability) (bits : List (Option Bool)) → list_all (option_all (fits_in (dtypes.Bool n))) (map (option_map bool_number) bits) ≡ true
bits_fit n [] = refl
bits_fit n (bit ∷ bits) = (λ i. bool_fits n bit i && bits_fit n bits i)

pub bools_fit : (b : BoolParts) → items_fit (column_of_bools b) ≡ true
bools_fit b = bits_fit (nullability_of b.validity) (bools b)

-- ---- packed
value_fits : (p : PType) (slots : List ℤ) (rank : Option ℕ) → list_all (fits p) slots ≡ true → option_all (fits p) (option_map (λ r. get_or slots r (pos 0)) rank) ≡ true
value_fits p slots None h = refl
value_fits p slots (Some r) h = got_fits p slots r h

patch_fits : (p : PType) (patches : Option PatchesParts) (i : ℕ) → IfSome patches (λ q. list_all (fits p) q.values.slots ≡ true) → option_all (fits p) (patched_in patches i) ≡ true
patch_fits p None i h = refl
patch_fits p (Some q) i h = value_fits p q.values.slots _ h

either_fits : (p : PType) (valid : Bool) (patch : Option ℤ) (z : ℤ) → option_all (fits p) patch ≡ true → fits p z ≡ true → option_all (fits p) (cond valid (Some (unwrap_or patch z)) None) ≡ true
either_fits p false patch z h g = refl
either_fits p true None z h g = g
either_fits p true (Some x) z h g = h

packed_item_fits : (parts : BitPackedParts) (blocks : Blocks) (i : ℕ) → IfSome parts.patches (λ q. list_all (fits parts.ptype) q.values.slots ≡ true) → option_all (fits parts.ptype) (packed_item parts blocks i) ≡ true
unfolding packed_item item_of_blocks block_item
packed_item_fits parts blocks i h = either_fits parts.ptype (is_valid_at parts.validity i) (patched_in parts.patches i) (stored parts blocks i) (patch_fits parts.ptype parts.patches i h) (wrapped_fits parts.ptype _)

pub packed_fits : (parts : BitPackedParts) (blocks : Blocks) → IfSome parts.patches (λ q. list_all (fits parts.ptype) q.values.slots ≡ true) → items_fit (column_of_packed parts blocks) ≡ true
packed_fits parts blocks h = table_fits (dtypes.Primitive parts.ptype (nullability_of parts.validity)) (packed_item parts blocks) parts.len (λ i. packed_item_fits parts blocks i h)

-- ---- deltas
delta_fits : (p : PType) (bases deltas : List ℤ) (i : ℕ) → fits p (delta_integer p bases deltas i) ≡ true
unfolding block_integer
delta_fits p bases deltas i = wrapped_fits p _

shown_fits : (p : PType) (valid : Bool) (z : ℤ) → fits p z ≡ true → option_all (fits p) (cond valid (Some z) None) ≡ true
shown_fits p true z h = h
shown_fits p false z h = refl

pub deltas_fit : (p : PType) (bases deltas : List ℤ) (v : Validity) (offset len : ℕ) → items_fit (delta_column p bases deltas v offset len) ≡ true
deltas_fit p bases deltas v offset len = table_fits (dtypes.Primitive p (nullability_of v)) (λ i. cond (is_valid_at v i) (Some (delta_integer p bases deltas (offset + i))) None) len (λ i. shown_fits p (is_valid_at v i) (delta_integer p bases deltas (offset + i)) (delta_fits p bases deltas (offset + i)))

-- ---- runs
integer_fits : (p : PType) (items : List (Option ℤ)) → list_all (option_all (fits p)) items ≡ true → list_all (fits p) (map (λ item. unwrap_or item (pos 0)) items) ≡ true
integer_fits p [] h = refl
integer_fits p (None ∷ items) h = and_true (fits p (pos 0)) (list_all (fits p) (map (λ item. unwrap_or item (pos 0)) items)) (zero_fits p) (integer_fits p items h)
integer_fits p (Some z ∷ items) h = and_true (fits p z) (list_all (fits p) (map (λ item. unwrap_or item (pos 0)) items)) (and_first _ _ h) (integer_fits p items (and_second _ _ h))

pub integers_fit : (c : Column) → is_integer c.dtype ≡ true → items_fit c ≡ true → list_all (fits (ptype_of_column c)) (integers_in c) ≡ true
integers_fit c whole h = each c.dtype whole h
  where
    each : (d : DType) → is_integer d ≡ true → list_all (option_all (fits_in d)) c.items ≡ true → list_all (fits (unwrap_or (integer_type d) U8)) (integers_in c) ≡ true
    each (dtypes.Primitive p n) whole h = integer_fits p c.items h
    each (dtypes.Bool n) whole h = cc

run_fits : (p : PType) (values : List ℤ) (start : ℕ) (index : Option ℤ) → list_all (fits p) values ≡ true → option_all (fits p) (option_map (λ z. get_or values (start + unsigned_abs z) (pos 0)) index) ≡ true
run_fits p values start None h = refl
run_fits p values start (Some z) h = got_fits p values (start + unsigned_abs z) h

pub runs_fit : (p : PType) (n : Nullability) (values : List ℤ) (indices : List (Option ℤ)) (offsets : List ℕ) (offset len : ℕ) → list_all (fits p) values ≡ true
    → list_all (option_all (fits_in (dtypes.Primitive p n))) (tabulate (λ i. run_item values indices offsets (offset + i)) len) ≡ true
runs_fit p n values indices offsets offset len h = table_fits (dtypes.Primitive p n) (λ i. run_item values indices offsets (offset + i)) len (λ i. run_fits p values (chunk_start offsets ((offset + i) / 1024)) (get_or indices (offset + i) None) h)

-- ---- columns plus references
pub all_sums : (q : PType) (reference : ℤ) (xs : List (Option ℤ)) → list_all (option_all (fits q)) (map (plus_reference q reference) xs) ≡ true
all_sums q reference [] = refl
all_sums q reference (x ∷ xs) = (λ i. sum_fits q reference x i && all_sums q reference xs i)

pub all_chunked_sums : (references : List ℤ) (offset : ℕ) (p : PType) (m : Nullability) (xs : List (Option ℤ)) → list_all (option_all (fits p)) (chunked_for references offset (record { dtype = dtypes.Primitive p m; items = xs })).items ≡ true
all_chunked_sums references offset p m xs = table_fits (dtypes.Primitive p m) (λ i. plus_reference p (get_or references ((offset + i) / 1024) (pos 0)) (get_or xs i None)) (length xs) (λ i. sum_fits p (get_or references ((offset + i) / 1024) (pos 0)) (get_or xs i None))

global_sums_fit : (reference : ℤ) (c : Column) → is_integer c.dtype ≡ true → items_fit (global_for reference c) ≡ true
global_sums_fit reference c whole = each c.dtype whole
  where
    each : (d : DType) → is_integer d ≡ true → items_fit (global_for reference (record { dtype = d; items = c.items })) ≡ true
    each (dtypes.Primitive p m) whole = all_sums p reference c.items
    each (dtypes.Bool m) whole = cc

chunked_sums_fit : (references : List ℤ) (offset : ℕ) (c : Column) → is_integer c.dtype ≡ true → items_fit (chunked_for references offset c) ≡ true
chunked_sums_fit references offset c whole = each c.dtype whole
  where
    each : (d : DType) → is_integer d ≡ true → items_fit (chunked_for references offset (record { dtype = d; items = c.items })) ≡ true
    each (dtypes.Primitive p m) whole = all_chunked_sums references offset p m c.items
    each (dtypes.Bool m) whole = cc

-- ---- arrays
for_fits_by : (encoded : Tree) (references : FoRReferencesParts) → is_integer (column encoded).dtype ≡ true → items_fit (column (for_tree encoded references)) ≡ true
for_fits_by encoded (GlobalReference reference) whole = global_sums_fit (unwrap_or reference.value (pos 0)) (column encoded) whole
for_fits_by encoded (ChunkReferences references offset) whole = chunked_sums_fit (integers_in (column references)) offset (column encoded) whole

pub for_fits : (a : FoRArrayParts) → refusal_of_for a ≡ None → items_fit (column (tree_of_for a)) ≡ true
for_fits a h = for_fits_by a.encoded a.references (for_is_integer a h)

patches_fit : (patches : Option PatchesParts) (len : ℕ) (ptype : PType) → IfSome patches (λ p. (p.array_len ≡ len) × (p.values.ptype ≡ ptype)) → IfSome patches (λ p. list_all (fits p.values.ptype) p.values.slots ≡ true) → IfSome patches (λ p. list_all (fits ptype) p.values.slots ≡ true)
patches_fit None len ptype fit h = tt
patches_fit (Some p) len ptype fit h = rw (← fit.1) h

pub bitpacked_fits : (a : BitPackedArrayParts) → AreConsistent a.parts → IfSome a.parts.patches (λ p. list_all (fits p.values.ptype) p.values.slots ≡ true) → items_fit (column (tree_of_bitpacked a)) ≡ true
bitpacked_fits a s h = ap items_fit (bitpacked_column a) ∙ packed_fits a.parts (blocks_of_widths a.widths) (patches_fit a.parts.patches a.parts.len a.parts.ptype s.fit.patched h)

pub delta_array_fits : (a : DeltaArrayParts) → items_fit (column (tree_of_delta a)) ≡ true
delta_array_fits a = deltas_fit (ptype_of_column (column a.bases)) (integers_in (column a.bases)) (integers_in (column a.deltas)) a.parts.validity a.parts.offset a.parts.len

by_test : (b : Bool) (c : Column) → (if b then Ok c else Err NotInteger) ≡ Ok c → b ≡ true
by_test true c h = refl
by_test false c h = cc

pub rle_fits : (a : RLEArrayParts) → integer_column (column a.values) ≡ Ok (column a.values) → items_fit (column a.values) ≡ true → items_fit (column (tree_of_rle a)) ≡ true
rle_fits a whole h =
    let values = column a.values in
    runs_fit (ptype_of_column values) (nullability_in (column a.indices).dtype) (integers_in values) (column a.indices).items (numbers_of (column a.offsets)) a.window.offset a.window.len
    (integers_fit values (by_test (is_integer values.dtype) values whole) h)

pub plain_fits : (p : PrimitiveParts) → is_column (column_of_primitive p) ≡ true → items_fit (column_of_primitive p) ≡ true
plain_fits p h = and_first (items_fit (column_of_primitive p)) (is_nullable (column_of_primitive p).dtype || list_all is_some (column_of_primitive p).items) h

pub fits_by_type : (d : DType) (p : PType) (z : ℤ) → integer_type d ≡ Some p → fits p z ≡ true → fits_in d z ≡ true
fits_by_type (dtypes.Primitive q n) p z e h = let same : q ≡ p = cc in rw same h
fits_by_type (dtypes.Bool n) p z e h = cc

pub scalar_fits : (d : DType) (value : Option ℤ) (p : PType) (z : ℤ) → integer_type d ≡ Some p → Some z ≡ value → fits p z ≡ true → option_all (fits_in d) value ≡ true
scalar_fits d value p z e s h = rw (← s) (fits_by_type d p z e h)
