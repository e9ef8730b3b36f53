-- Arrays in which the integer type stays, and nulls may stand or not.
use Rattle.std.proofs.Common.{◌≡◌, ◌∙◌, ℕ, ◌+◌, ◌*◌, ◌==◌, true, false, cond, not, List, length, Option, Some, None, Result, Ok, Err, IsErrAnd, refl, ap, sym, subst}
use Rattle.std.specs.Prelude.{◌||◌, ℤ, is_none, nat_lt, if◌then◌else◌}
use Rattle.std.specs.List.{list_any}
use Rattle.fl_types.specs.declared.dtype.DType.{DType}
use Rattle.fl_types.specs.declared.dtype.DType.TheVariants as dtypes
use Rattle.fl_types.specs.declared.dtype.Nullability.{Nullability}
use Rattle.fl_types.specs.declared.dtype.Nullability.TheVariants.{NonNullable, Nullable}
use Rattle.fl_types.specs.declared.error.FastLanesError.{FastLanesError}
use Rattle.fl_types.specs.declared.error.FastLanesError.TheVariants.{PackedLength, WidthTooLarge}
use Rattle.fl_types.specs.declared.validity.Validity.{Validity}
use Rattle.fl_types.specs.declared.validity.Validity.TheVariants as valid
use Rattle.fl_types.specs.Integers.{bits_of_type}
use Rattle.fl_types.specs.Refusals.{Answers, Refuses}
use Rattle.fl_types.specs.Types.{can_be_null, integer_type, is_integer, is_nullable}
use Rattle.fl_types.specs.Validities.{is_valid_at, nullability_of}
use Rattle.fl_types.proofs.BitLists.{same_tables}
use Rattle.fl_types.proofs.RefusalLaws.{Refuses_map}
use Rattle.fl_column.specs.Columns.{Column, integers_in, ptype_of_column}
use Rattle.fl_column.specs.Selections.{any_null}
use Rattle.fl_codec.specs.DeltaRefusals.{delta_children_refusal, delta_refusal}
use Rattle.fl_codec.specs.Deltas.{delta_integer}
use Rattle.fl_codec.specs.RunRefusals.{is_run_index_dtype, rle_refusal, rle_types_refusal}
use Rattle.fl_codec.proofs.DeltaSlices.{deltas}
use Rattle.fl_codec.proofs.FirstRefusals.{neither}
use Rattle.fl_codec.proofs.RunTypes.{have_types}
use Rattle.fl_bitpacking.specs.Blocks.{global_blocks}
use Rattle.fl_bitpacking.specs.Casts.{cast_packed, cast_validity}
use Rattle.fl_bitpacking.specs.Columns.{BitPackedParts, block_count, column_of_packed}
use Rattle.fl_bitpacking.specs.Refusals.{AreConsistent, global_refusal, otherwise, positions_refusal}
use Rattle.fl_bitpacking.proofs.NullLaws.{consistent_cast, covers_cast, nullability_cast, packed_cast, packed_null, valid_cast}
use Rattle.fl_bitpacking.proofs.SoundParts.{are_global, no_validity_and_patches_refusal}
use Rattle.fl_array.specs.BitPackedArrays.{BitPackedArrayParts, GlobalWidth, blocks_of_widths, refusal_of_bitpacked, tree_of_bitpacked}
use Rattle.fl_array.specs.DeltaArrays.{DeltaArrayParts, refusal_of_delta, tree_of_delta}
use Rattle.fl_array.specs.DeltaCasts.{cast_delta}
use Rattle.fl_array.specs.RLEArrays.{RLEArrayParts, refusal_of_rle}
use Rattle.fl_array.specs.Trees.{BitPackedGlobal, Delta, Tree, column}
use Rattle.fl_array.proofs.BitPackedLaws.{bitpacked_column}

-- ---- bit-packed
-- a packed column has a null where its validity says so
pub bitpacked_null : (a : BitPackedArrayParts) → AreConsistent a.parts → any_null a.parts.validity a.parts.len ≡ list_any is_none (column (tree_of_bitpacked a)).items
bitpacked_null a s = packed_null a.parts (blocks_of_widths a.widths) s.fit.covers ∙ ap (λ (c : Column). list_any is_none c.items) (sym (bitpacked_column a))

-- parts that make an array make one where nulls may stand or not
pub global_refusal_cast : (n : Nullability) (parts : BitPackedParts) (width : ℕ) → global_refusal parts width ≡ None → global_refusal (cast_packed n parts) width ≡ None
global_refusal_cast n parts width h =
    let s = (are_global parts width h).parts in
    let before = no_validity_and_patches_refusal parts s in
    let after = no_validity_and_patches_refusal (cast_packed n parts) (consistent_cast n parts s) in
    ap (λ refusal. otherwise (positions_refusal parts.offset parts.len) (otherwise (if nat_lt (bits_of_type parts.ptype) width then Some WidthTooLarge else None) (otherwise refusal (if not (length parts.packed == 128 * width * block_count parts) then Some PackedLength else None)))) (after ∙ sym before)
    ∙ h

pub bitpacked_refusal_cast : (n : Nullability) (a : BitPackedArrayParts) (width : ℕ) → GlobalWidth width ≡ a.widths → refusal_of_bitpacked a ≡ None → global_refusal (cast_packed n a.parts) width ≡ None
bitpacked_refusal_cast n a width same h =
    global_refusal_cast n a.parts width (ap (λ widths. refusal_of_bitpacked (record { parts = a.parts; widths = widths })) same ∙ h)

-- the column where nulls may stand or not
pub bitpacked_cast : (n : Nullability) (a : BitPackedArrayParts) (width : ℕ) → GlobalWidth width ≡ a.widths → (can_be_null n || not (list_any is_none (column (tree_of_bitpacked a)).items)) ≡ true
    → column (BitPackedGlobal (cast_packed n a.parts) width) ≡ record { dtype = dtypes.Primitive a.parts.ptype n; items = (column (tree_of_bitpacked a)).items }
bitpacked_cast n a width same h =
    let whole : column (tree_of_bitpacked a) ≡ column_of_packed a.parts (global_blocks width) = bitpacked_column a ∙ ap (λ widths. column_of_packed a.parts (blocks_of_widths widths)) (sym same) in
    packed_cast n a.parts (global_blocks width) (ap (λ (c : Column). can_be_null n || not (list_any is_none c.items)) (sym whole) ∙ h)
    ∙ ap (λ (c : Column). record { dtype = dtypes.Primitive a.parts.ptype n; items = c.items }) (sym whole)

-- ---- deltas
pub delta_refusal_cast : (n : Nullability) (a : DeltaArrayParts) → refusal_of_delta a ≡ None → delta_refusal (column a.bases) (column a.deltas) (cast_validity n a.parts.validity) a.parts.offset a.parts.len ≡ None
delta_refusal_cast n a h =
    let s = deltas (column a.bases) (column a.deltas) a.parts.validity a.parts.offset a.parts.len h in
    ap (λ b. delta_children_refusal (column a.bases).dtype (length (column a.bases).items) (column a.deltas).dtype (length (column a.deltas).items) b a.parts.offset a.parts.len) (covers_cast n a.parts.validity a.parts.len s.covered ∙ sym s.covered)
    ∙ h

all_valid : (n : Nullability) (v : Validity) (i : ℕ) → (can_be_null n || not (can_be_null (nullability_of v))) ≡ true → can_be_null n ≡ false → is_valid_at v i ≡ true
all_valid Nullable v i h e = cc
all_valid NonNullable valid.NonNullable i h e = refl
all_valid NonNullable valid.AllValid i h e = refl
all_valid NonNullable valid.AllInvalid i h e = cc
all_valid NonNullable (valid.Array bits) i h e = cc

pub delta_cast : (n : Nullability) (a : DeltaArrayParts) → (can_be_null n || not (can_be_null (nullability_of a.parts.validity))) ≡ true
    → column (Delta a.bases a.deltas (cast_delta n a.parts)) ≡ record { dtype = dtypes.Primitive (ptype_of_column (column a.bases)) n; items = (column (tree_of_delta a)).items }
delta_cast n a h =
    let p = ptype_of_column (column a.bases) in
    let integer : ℕ → ℤ = λ i. delta_integer p (integers_in (column a.bases)) (integers_in (column a.deltas)) (a.parts.offset + i) in
    let items = same_tables (λ i. cond (is_valid_at (cast_validity n a.parts.validity) i) (Some (integer i)) None) (λ i. cond (is_valid_at a.parts.validity i) (Some (integer i)) None) a.parts.len
    (λ i below. ap (λ b. cond b (Some (integer i)) None) (valid_cast n a.parts.validity i (all_valid n a.parts.validity i h))) in
    ap (λ m. record { dtype = dtypes.Primitive p m; items = (column (Delta a.bases a.deltas (cast_delta n a.parts))).items }) (nullability_cast n a.parts.validity)
    ∙ ap (λ (xs : List (Option ℤ)). record { dtype = dtypes.Primitive p n; items = xs }) items

-- the parts of the cast make an array
pub cast_accepted : (n : Nullability) (a : DeltaArrayParts) (bases ds : Tree) (v : Validity) (offset len : ℕ) → refusal_of_delta a ≡ None → bases ≡ a.bases → ds ≡ a.deltas → v ≡ cast_validity n a.parts.validity → offset ≡ a.parts.offset → len ≡ a.parts.len
    → delta_refusal (column bases) (column ds) v offset len ≡ None
cast_accepted n a bases ds v offset len h e f g o l = rw (e, f, g, o, l) (delta_refusal_cast n a h)

pub cast_made : (n : Nullability) (a : DeltaArrayParts) (bases ds : Tree) (v : Validity) (offset len : ℕ) → bases ≡ a.bases → ds ≡ a.deltas → v ≡ cast_validity n a.parts.validity → offset ≡ a.parts.offset → len ≡ a.parts.len
    → (let wanted : Result DeltaArrayParts FastLanesError = Ok (record { bases = a.bases; deltas = a.deltas; parts = cast_delta n a.parts }) in wanted) ≡ Ok (record { bases = bases; deltas = ds; parts = record { validity = v; offset = offset; len = len } })
cast_made n a bases ds v offset len e f g o l = rw (e, f, g, o, l) refl

-- what a call did not make for lack of memory, no call over it makes
pub refused_over : {A B C : Type 0} (view : B → C) (x : A) (y : C) (r : Result B FastLanesError) (e : FastLanesError) → IsErrAnd r (λ f. f ≡ e) → (let made : Result A FastLanesError = Ok x in Refuses e made) → Answers view r (Ok y)
refused_over view x y (Ok z) e h m = absurd h
refused_over view x y (Err f) e h m = rw h (Refuses_map e (Ok x) (Ok y) (λ g. cc) m)

-- ---- runs
index_type_by : (d e : DType) → integer_type d ≡ integer_type e → is_run_index_dtype d ≡ is_run_index_dtype e
index_type_by (dtypes.Primitive p m) (dtypes.Primitive q n) h = let same : p ≡ q = cc in ap (λ r. is_run_index_dtype (dtypes.Primitive r m)) same
index_type_by (dtypes.Primitive p m) (dtypes.Bool n) h = cc
index_type_by (dtypes.Bool m) (dtypes.Primitive q n) h = cc
index_type_by (dtypes.Bool m) (dtypes.Bool n) h = refl

-- run values and run indices of other types are accepted where the old ones were
pub runs_refusal_over : (a : RLEArrayParts) (values indices : Tree) → refusal_of_rle a ≡ None → (column values).items ≡ (column a.values).items → is_integer (column values).dtype ≡ true → is_nullable (column values).dtype ≡ false
    → (column indices).items ≡ (column a.indices).items → integer_type (column indices).dtype ≡ integer_type (column a.indices).dtype
    → rle_refusal (column values) (column indices) (column a.offsets) a.window.offset a.window.len ≡ None
runs_refusal_over a values indices h v w n i t =
    let types = (neither (rle_types_refusal (column a.values).dtype (column a.indices).dtype (column a.offsets).dtype (length (column a.indices).items) (length (column a.offsets).items) a.window.offset a.window.len) _ h).0 in
    let s = have_types (column a.values) (column a.indices) (column a.offsets) a.window.offset a.window.len types in
    let whole : is_integer (column values).dtype ≡ is_integer (column a.values).dtype = w ∙ sym s.integer in
    let none : is_nullable (column values).dtype ≡ is_nullable (column a.values).dtype = n ∙ sym s.non_nullable in
    let index = index_type_by (column indices).dtype (column a.indices).dtype t in
    rw (v, i, whole, none, index) h

-- ---- what calls made
made_is : {A : Type 0} (x y : A) → (let made : Result A FastLanesError = Ok x in made) ≡ Ok y → x ≡ y
made_is x y h = cc

pub refusal_of_made : (n : Nullability) (a : BitPackedArrayParts) (width : ℕ) (parts : BitPackedParts) → GlobalWidth width ≡ a.widths → refusal_of_bitpacked a ≡ None → (let made : Result BitPackedParts FastLanesError = Ok (cast_packed n a.parts) in made) ≡ Ok parts → global_refusal parts width ≡ None
refusal_of_made n a width parts same h made = subst (λ (p : BitPackedParts). global_refusal p width ≡ None) (made_is (cast_packed n a.parts) parts made) (bitpacked_refusal_cast n a width same h)

pub column_of_made : (n : Nullability) (a : BitPackedArrayParts) (width : ℕ) (parts : BitPackedParts) → GlobalWidth width ≡ a.widths → (can_be_null n || not (list_any is_none (column (tree_of_bitpacked a)).items)) ≡ true → (let made : Result BitPackedParts FastLanesError = Ok (cast_packed n a.parts) in made) ≡ Ok parts
    → (let wanted : Result Column FastLanesError = Ok (record { dtype = dtypes.Primitive a.parts.ptype n; items = (column (tree_of_bitpacked a)).items }) in wanted) ≡ Ok (column_of_packed parts (global_blocks width))
column_of_made n a width parts same h made =
    ap (λ (c : Column). Ok c) (sym (bitpacked_cast n a width same h) ∙ ap (λ (p : BitPackedParts). column_of_packed p (global_blocks width)) (made_is (cast_packed n a.parts) parts made))

pub runs_refusal_of : (a : RLEArrayParts) (values indices offsets : Tree) (offset len : ℕ) → refusal_of_rle a ≡ None → (column values).items ≡ (column a.values).items → is_integer (column values).dtype ≡ true → is_nullable (column values).dtype ≡ false
    → (column indices).items ≡ (column a.indices).items → integer_type (column indices).dtype ≡ integer_type (column a.indices).dtype
    → (let made : Result Tree FastLanesError = Ok a.offsets in made) ≡ Ok offsets → offset ≡ a.window.offset → len ≡ a.window.len
    → rle_refusal (column values) (column indices) (column offsets) offset len ≡ None
runs_refusal_of a values indices offsets offset len h v w n i t made o l =
    rw (o, l) (subst (λ (x : Tree). rle_refusal (column values) (column indices) (column x) a.window.offset a.window.len ≡ None) (made_is a.offsets offsets made) (runs_refusal_over a values indices h v w n i t))
