-- Casts of arrays: what they answer, and the arrays that they make.
use Rattle.std.proofs.Common.{◌≡◌, ◌∙◌, inl, inr, ℕ, ℤ, pos, ◌+◌, Bool, true, false, not, length, Option, Some, None, Result, Ok, Err, refl, ap, sym, subst, arith}
use Rattle.std.specs.Prelude.{◌&&◌, ◌||◌, ◌⊎◌, if◌then◌else◌, is_none, is_ok, unwrap_or}
use Rattle.std.specs.List.{list_all, list_any}
use Rattle.fl_types.specs.declared.dtype.DType.{DType}
use Rattle.fl_types.specs.declared.dtype.DType.TheVariants as dtypes
use Rattle.fl_types.specs.declared.dtype.Nullability.{Nullability}
use Rattle.fl_types.specs.declared.dtype.Nullability.TheVariants.{NonNullable, Nullable}
use Rattle.fl_types.specs.declared.dtype.PType.{PType}
use Rattle.fl_types.specs.declared.dtype.PType.TheVariants.{U8}
use Rattle.fl_types.specs.declared.error.FastLanesError.{FastLanesError}
use Rattle.fl_types.specs.declared.error.FastLanesError.TheVariants.{CastNull, OutOfMemory}
use Rattle.fl_types.specs.declared.validity.Validity.{Validity}
use Rattle.fl_types.specs.declared.validity.Validity.TheVariants as valid
use Rattle.fl_types.specs.Bits.{tabulate}
use Rattle.fl_types.specs.Integers.{fits}
use Rattle.fl_types.specs.Refusals.{Refuses}
use Rattle.fl_types.specs.Validities.{is_valid_at, nullability_of}
use Rattle.fl_types.specs.Types.{can_be_null, has_ptype, integer_type, is_integer, is_nullable, nullability_in, same_type, with_nullability}
use Rattle.fl_types.specs.Values.{ScalarParts}
use Rattle.fl_types.proofs.RefusalLaws.{Refuses_cases}
use Rattle.fl_column.specs.Columns.{Column, PrimitiveParts, column_of_primitive, integers_in, item_validity, numbers_of, option_all, ptype_of_column}
use Rattle.fl_column.proofs.ListLaws.{and_first, and_second, any_from}
use Rattle.fl_codec.specs.Deltas.{delta_integer}
use Rattle.fl_codec.specs.RunColumns.{run_item}
use Rattle.fl_codec.specs.RunRefusals.{is_run_index_dtype, rle_types_refusal}
use Rattle.fl_codec.proofs.FirstRefusals.{neither}
use Rattle.fl_codec.proofs.RunTypes.{have_types}
use Rattle.fl_codec.proofs.Tables.{get_or-table, length-table}
use Rattle.fl_column.specs.Operations.{cast_column}
use Rattle.fl_codec.specs.FoRColumns.{chunked_for, global_for}
use Rattle.fl_bitpacking.specs.Casts.{cast_packed}
use Rattle.fl_array.specs.BitPackedArrays.{BitPackedArrayParts, BitWidthsParts, BlockBoundaries, GlobalWidth, bitpacked_in, bitpacked_tree, tree_of_bitpacked}
use Rattle.fl_array.specs.DeltaArrays.{DeltaArrayParts, delta_in, refusal_of_delta, tree_of_delta}
use Rattle.fl_array.specs.DeltaCasts.{cast_delta, drops_nullability}
use Rattle.fl_array.specs.RLEArrays.{RLEArrayParts, refusal_of_rle, rle_in, tree_of_rle}
use Rattle.fl_array.proofs.DeltaLaws.{sound_deltas}
use Rattle.fl_array.specs.FoRArrays.{ChunkReferences, FoRArrayParts, FoRReferencesParts, GlobalReference, for_in, for_tree, tree_of_for}
use Rattle.fl_array.specs.Ranges.{items_fit}
use Rattle.fl_array.specs.Trees.{BitPackedBlocked, BitPackedGlobal, Constant, Delta, FoRChunked, FoRGlobal, Primitive, RLE, Tree, OffsetLen, column, column_of_rle}
use Rattle.fl_array.specs.Trees as tree
use Rattle.fl_array.proofs.BitPackedLaws.{bitpacked_dtype}
use Rattle.fl_array.proofs.FoRSound.{chunked_column, global_column}
use Rattle.fl_ops.specs.Normalized.{SameShown, normalized}
use Rattle.fl_ops.specs.Results.{cast_to, indices_target, parts_cast, plain_cast, values_target}
use Rattle.fl_ops.proofs.CastedLaws.{cast_is, cast_of_chunked, cast_of_global, cast_of_runs, cast_tests, same_cast_null, same_cast_ok, target_is}
use Rattle.fl_ops.proofs.SelectedLaws.{for_is, mapped, refused_mapped, same_integers}
use Rattle.fl_ops.proofs.Shown.{plain_shown}

-- ---- decoded
pub cast_shown : (target : DType) (c : Column) (a b : PrimitiveParts) → b ≡ record { ptype = a.ptype; slots = a.slots; validity = item_validity (nullability_of a.validity) (column_of_primitive a).items } → column_of_primitive b ≡ column_of_primitive a → cast_column target c ≡ Ok (column_of_primitive a) → SameShown (Primitive b) (plain_cast target c)
cast_shown target c a b parts same h = plain_shown a b (record { dtype = target; items = c.items }) parts same (sym (cast_is target c (column_of_primitive a) h))

-- ---- bit-packed
packed_type : (a : BitPackedArrayParts) (target : DType) → has_ptype a.parts.ptype target ≡ true → same_type (column (tree_of_bitpacked a)).dtype target ≡ true
packed_type a target h = ap (λ (d : DType). same_type d target) (bitpacked_dtype a) ∙ h

pub packed_cast_ok : (a : BitPackedArrayParts) (target : DType) (d : Column) → has_ptype a.parts.ptype target ≡ true → items_fit (column (tree_of_bitpacked a)) ≡ true → (can_be_null (nullability_in target) || not (list_any is_none (column (tree_of_bitpacked a)).items)) ≡ true
    → (let made : Result Column FastLanesError = Ok (record { dtype = dtypes.Primitive a.parts.ptype (nullability_in target); items = (column (tree_of_bitpacked a)).items }) in made) ≡ Ok d → cast_column target (column (tree_of_bitpacked a)) ≡ Ok d
packed_cast_ok a target d typed fit nulls made =
    let c = column (tree_of_bitpacked a) in
    same_cast_ok target c (ap is_integer (bitpacked_dtype a)) (packed_type a target typed) fit nulls
    ∙ ap (λ (t : DType). Ok (record { dtype = t; items = c.items })) (sym (target_is a.parts.ptype target typed))
    ∙ made

pub packed_cast_null : (a : BitPackedArrayParts) (target : DType) → has_ptype a.parts.ptype target ≡ true → can_be_null (nullability_in target) ≡ false → list_any is_none (column (tree_of_bitpacked a)).items ≡ true → cast_column target (column (tree_of_bitpacked a)) ≡ Err CastNull
packed_cast_null a target typed none null = same_cast_null target (column (tree_of_bitpacked a)) (ap is_integer (bitpacked_dtype a)) (packed_type a target typed) none null

pub packed_cast_to : (a b : BitPackedArrayParts) (width : ℕ) (target : DType) → GlobalWidth width ≡ a.widths → has_ptype a.parts.ptype target ≡ true → b ≡ record { parts = cast_packed (nullability_in target) a.parts; widths = GlobalWidth width } → tree_of_bitpacked b ≡ cast_to target (tree_of_bitpacked a)
packed_cast_to a b width target same typed made =
    let cast : cast_to target (BitPackedGlobal a.parts width) ≡ BitPackedGlobal (cast_packed (nullability_in target) a.parts) width = rw typed refl in
    ap tree_of_bitpacked made ∙ sym cast ∙ ap (λ widths. cast_to target (bitpacked_tree a.parts widths)) same

pub null_kept : (n : Nullability) (b : Bool) → (not (can_be_null n) && b) ≡ false → (can_be_null n || not b) ≡ true
null_kept Nullable b h = refl
null_kept NonNullable true h = cc
null_kept NonNullable false h = refl

pub packed_cast_dropped : (a : BitPackedArrayParts) (target : DType) → has_ptype a.parts.ptype target ≡ true → (not (can_be_null (nullability_in target)) && list_any is_none (column (tree_of_bitpacked a)).items) ≡ true → cast_column target (column (tree_of_bitpacked a)) ≡ Err CastNull
packed_cast_dropped a target typed dropped =
    packed_cast_null a target typed (none (can_be_null (nullability_in target)) (and_first (not (can_be_null (nullability_in target))) _ dropped)) (and_second (not (can_be_null (nullability_in target))) _ dropped)
  where
    none : (b : Bool) → not b ≡ true → b ≡ false
    none true h = cc
    none false h = refl

-- ---- FoR
pub for_cast_ok : (a : FoRArrayParts) (part : Tree) (r : ScalarParts) (target : DType) → GlobalReference r ≡ a.references → same_type (column a.encoded).dtype target ≡ true → items_fit (column a.encoded) ≡ true → cast_column target (column a.encoded) ≡ Ok (column part) → cast_column target (column (tree_of_for a)) ≡ Ok (column (FoRGlobal part r))
for_cast_ok a part r target same typed fit h =
    ap (cast_column target) (global_column a r same) ∙ cast_of_global (unwrap_or r.value (pos 0)) target (column a.encoded) typed fit ∙ ap (mapped (global_for (unwrap_or r.value (pos 0)))) h

pub for_cast_refused : (e : FastLanesError) (a : FoRArrayParts) (t : Tree) (r : ScalarParts) (target : DType) → GlobalReference r ≡ a.references → tree_of_for a ≡ t → same_type (column a.encoded).dtype target ≡ true → items_fit (column a.encoded) ≡ true → Refuses e (cast_column target (column a.encoded)) → Refuses e (cast_column target (column t))
for_cast_refused e a t r target same is typed fit h =
    let whole : cast_column target (column t) ≡ mapped (global_for (unwrap_or r.value (pos 0))) (cast_column target (column a.encoded)) =
    ap (λ (x : Tree). cast_column target (column x)) (sym is) ∙ ap (cast_column target) (global_column a r same) ∙ cast_of_global (unwrap_or r.value (pos 0)) target (column a.encoded) typed fit in
    subst (Refuses e) (sym whole) (refused_mapped (global_for (unwrap_or r.value (pos 0))) e (cast_column target (column a.encoded)) h)

pub for_cast_to : (a : FoRArrayParts) (part : Tree) (r : ScalarParts) (target : DType) → GlobalReference r ≡ a.references → same_type (column a.encoded).dtype target ≡ true → SameShown part (cast_to target a.encoded) → SameShown (FoRGlobal part r) (cast_to target (tree_of_for a))
for_cast_to a part r target same typed h =
    let cast : cast_to target (FoRGlobal a.encoded r) ≡ FoRGlobal (cast_to target a.encoded) r = rw typed refl in
    ap (λ (x : Tree). FoRGlobal x r) h ∙ ap normalized (sym cast) ∙ ap (λ (x : Tree). normalized (cast_to target x)) (sym (for_is a r same))

chunked_is : (a : FoRArrayParts) (references : Tree) (offset : ℕ) → ChunkReferences references offset ≡ a.references → tree_of_for a ≡ FoRChunked a.encoded references offset
chunked_is a references offset same = ap (for_tree a.encoded) (sym same)

pub chunked_cast_ok : (a : FoRArrayParts) (part references : Tree) (offset : ℕ) (target : DType) → ChunkReferences references offset ≡ a.references → same_type (column a.encoded).dtype target ≡ true → items_fit (column a.encoded) ≡ true → cast_column target (column a.encoded) ≡ Ok (column part) → cast_column target (column (tree_of_for a)) ≡ Ok (column (for_tree part a.references))
chunked_cast_ok a part references offset target same typed fit h =
    ap (cast_column target) (chunked_column a references offset same) ∙ cast_of_chunked (integers_in (column references)) offset target (column a.encoded) typed fit
    ∙ ap (mapped (chunked_for (integers_in (column references)) offset)) h ∙ ap (λ x. Ok (column (for_tree part x))) same

pub chunked_cast_refused : (e : FastLanesError) (a : FoRArrayParts) (t references : Tree) (offset : ℕ) (target : DType) → ChunkReferences references offset ≡ a.references → tree_of_for a ≡ t → same_type (column a.encoded).dtype target ≡ true → items_fit (column a.encoded) ≡ true → Refuses e (cast_column target (column a.encoded)) → Refuses e (cast_column target (column t))
chunked_cast_refused e a t references offset target same is typed fit h =
    let g : Column → Column = chunked_for (integers_in (column references)) offset in
    let whole : cast_column target (column t) ≡ mapped g (cast_column target (column a.encoded)) =
    ap (λ (x : Tree). cast_column target (column x)) (sym is) ∙ ap (cast_column target) (chunked_column a references offset same) ∙ cast_of_chunked (integers_in (column references)) offset target (column a.encoded) typed fit in
    subst (Refuses e) (sym whole) (refused_mapped g e (cast_column target (column a.encoded)) h)

pub chunked_cast_to : (a : FoRArrayParts) (part references : Tree) (offset : ℕ) (target : DType) → ChunkReferences references offset ≡ a.references → same_type (column a.encoded).dtype target ≡ true → SameShown part (cast_to target a.encoded) → SameShown (for_tree part a.references) (cast_to target (tree_of_for a))
chunked_cast_to a part references offset target same typed h =
    let cast : cast_to target (FoRChunked a.encoded references offset) ≡ FoRChunked (cast_to target a.encoded) references offset = rw typed refl in
    ap (λ x. normalized (for_tree part x)) (sym same) ∙ ap (λ (x : Tree). FoRChunked x references offset) h ∙ ap normalized (sym cast) ∙ ap (λ (x : Tree). normalized (cast_to target x)) (sym (chunked_is a references offset same))

-- ---- deltas
typed_by : (d target : DType) → is_integer d ≡ true → same_type d target ≡ true → has_ptype (unwrap_or (integer_type d) U8) target ≡ true
typed_by (dtypes.Primitive p m) target whole same = same
typed_by (dtypes.Bool m) target whole same = cc

keeps_nulls : (m n : Nullability) → not (can_be_null m && not (can_be_null n)) ≡ true → (can_be_null n || not (can_be_null m)) ≡ true
keeps_nulls m Nullable h = refl
keeps_nulls Nullable NonNullable h = cc
keeps_nulls NonNullable NonNullable h = refl

none_hidden : (v : Validity) → can_be_null (nullability_of v) ≡ false → (i : ℕ) → is_valid_at v i ≡ true
none_hidden valid.NonNullable h i = refl
none_hidden valid.AllValid h i = cc
none_hidden valid.AllInvalid h i = cc
none_hidden (valid.Array bits) h i = cc

pub delta_may : (a : DeltaArrayParts) (target : DType) → (same_type (column a.bases).dtype target && not (drops_nullability (column (tree_of_delta a)).dtype target)) ≡ true → (can_be_null (nullability_in target) || not (can_be_null (nullability_of a.parts.validity))) ≡ true
delta_may a target h = keeps_nulls (nullability_of a.parts.validity) (nullability_in target) (and_second (same_type (column a.bases).dtype target) _ h)

no_null_shown : (n : Nullability) (v : Validity) (integer : ℕ → ℤ) (len : ℕ) → (can_be_null n || not (can_be_null (nullability_of v))) ≡ true → (can_be_null n || not (list_any is_none (tabulate (λ i. if is_valid_at v i then Some (integer i) else None) len))) ≡ true
no_null_shown Nullable v integer len h = refl
no_null_shown NonNullable v integer len h =
    let item : ℕ → Option ℤ = λ i. if is_valid_at v i then Some (integer i) else None in
    let none : can_be_null (nullability_of v) ≡ false = not_true (can_be_null (nullability_of v)) h in
    let long : length (tabulate item len) ≡ len = length-table item len in
    let there : list_any is_none (tabulate item len) ≡ false = any_from is_none (tabulate item len) None (λ i below. ap (λ (x : Option ℤ). is_none x) (get_or-table item len i None (omega (arith, long, below)) ∙ ap (λ b. if b then Some (integer i) else None) (none_hidden v none i))) in
    ap not there
  where
    not_true : (b : Bool) → not b ≡ true → b ≡ false
    not_true true e = cc
    not_true false e = refl

pub delta_cast_ok : (a : DeltaArrayParts) (target : DType) (d : Column) → refusal_of_delta a ≡ None → items_fit (column (tree_of_delta a)) ≡ true → (same_type (column a.bases).dtype target && not (drops_nullability (column (tree_of_delta a)).dtype target)) ≡ true
    → (let made : Result Column FastLanesError = Ok (record { dtype = dtypes.Primitive (ptype_of_column (column a.bases)) (nullability_in target); items = (column (tree_of_delta a)).items }) in made) ≡ Ok d → cast_column target (column (tree_of_delta a)) ≡ Ok d
delta_cast_ok a target d h fit same made =
    let c = column (tree_of_delta a) in
    let p = ptype_of_column (column a.bases) in
    let typed = typed_by (column a.bases).dtype target (sound_deltas a h).integer (and_first (same_type (column a.bases).dtype target) _ same) in
    let nulls = no_null_shown (nullability_in target) a.parts.validity (λ i. delta_integer p (integers_in (column a.bases)) (integers_in (column a.deltas)) (a.parts.offset + i)) a.parts.len (delta_may a target same) in
    same_cast_ok target c refl typed fit nulls
    ∙ ap (λ (t : DType). Ok (record { dtype = t; items = c.items })) (sym (target_is p target typed))
    ∙ made

pub delta_cast_to : (a b : DeltaArrayParts) (target : DType) → (same_type (column a.bases).dtype target && not (drops_nullability (column (tree_of_delta a)).dtype target)) ≡ true → b ≡ record { bases = a.bases; deltas = a.deltas; parts = cast_delta (nullability_in target) a.parts } → tree_of_delta b ≡ cast_to target (tree_of_delta a)
delta_cast_to a b target same made =
    let cast : cast_to target (tree_of_delta a) ≡ Delta a.bases a.deltas (cast_delta (nullability_in target) a.parts) = rw same refl in
    ap tree_of_delta made ∙ sym cast

-- ---- runs
nullability_with : (n : Nullability) (d : DType) → nullability_in (with_nullability n d) ≡ n
nullability_with n (dtypes.Primitive p m) = refl
nullability_with n (dtypes.Bool m) = refl

index_nulls : (n : Nullability) (c d : Column) → cast_column (with_nullability n c.dtype) c ≡ Ok d → (not (can_be_null n) && list_any is_none c.items) ≡ false
index_nulls n c d h = each c.dtype h
  where
    each : (t : DType) → cast_column (with_nullability n t) c ≡ Ok d → (not (can_be_null n) && list_any is_none c.items) ≡ false
    each (dtypes.Primitive p m) h = (cast_tests p n c d h).0
    each (dtypes.Bool m) h = cc

runs_of_casts : (q : PType) (n : Nullability) (v i o : Column) (window : OffsetLen) → column_of_rle (record { dtype = dtypes.Primitive q NonNullable; items = v.items }) (record { dtype = with_nullability n i.dtype; items = i.items }) o window
    ≡ record { dtype = dtypes.Primitive q n; items = tabulate (λ k. run_item (integers_in v) i.items (numbers_of o) (window.offset + k)) window.len }
runs_of_casts q n v i o window = ap (λ m. record { dtype = dtypes.Primitive q m; items = tabulate (λ k. run_item (integers_in v) i.items (numbers_of o) (window.offset + k)) window.len }) (nullability_with n i.dtype)

pub runs_cast_ok : (a : RLEArrayParts) (values indices : Tree) (target : DType) → refusal_of_rle a ≡ None → is_integer target ≡ true → cast_column (values_target target) (column a.values) ≡ Ok (column values) → cast_column (indices_target target a.indices) (column a.indices) ≡ Ok (column indices)
    → cast_column target (column (tree_of_rle a)) ≡ Ok (column (RLE values indices a.offsets a.window))
runs_cast_ok a values indices (dtypes.Bool n) h whole hv hi = cc
runs_cast_ok a values indices (dtypes.Primitive q n) h whole hv hi =
    let v = column a.values in
    let i = column a.indices in
    let o = column a.offsets in
    let types = (neither (rle_types_refusal v.dtype i.dtype o.dtype (length i.items) (length o.items) a.window.offset a.window.len) _ h).0 in
    let s = have_types v i o a.window.offset a.window.len types in
    let fit : list_all (option_all (fits q)) v.items ≡ true = (cast_tests q NonNullable v (column values) hv).1.0 in
    let none = index_nulls n i (column indices) hi in
    let cast = cast_of_runs q n (ptype_of_column v) (nullability_in i.dtype) v i (numbers_of o) a.window.offset a.window.len fit none s.range in
    let values_are = cast_is (dtypes.Primitive q NonNullable) v (column values) hv in
    let indices_are = cast_is (with_nullability n i.dtype) i (column indices) hi in
    cast ∙ ap (λ (c : Column). Ok c) (sym (runs_of_casts q n v i o a.window)
    ∙ ap (λ (c : Column). column_of_rle c (record { dtype = with_nullability n i.dtype; items = i.items }) o a.window) values_are
    ∙ ap (λ (c : Column). column_of_rle (column values) c o a.window) indices_are)

index_integer_by : (d : DType) (n : Nullability) → is_run_index_dtype d ≡ true → is_integer (with_nullability n d) ≡ true
index_integer_by (dtypes.Primitive p m) n h = refl
index_integer_by (dtypes.Bool m) n h = cc

pub index_integer : (a : RLEArrayParts) (target : DType) → refusal_of_rle a ≡ None → is_integer (indices_target target a.indices) ≡ true
index_integer a target h =
    let i = column a.indices in
    let types = (neither (rle_types_refusal (column a.values).dtype i.dtype (column a.offsets).dtype (length i.items) (length (column a.offsets).items) a.window.offset a.window.len) _ h).0 in
    index_integer_by i.dtype (nullability_in target) (have_types (column a.values) i (column a.offsets) a.window.offset a.window.len types).index

pub values_type : (target : DType) (c d : Column) → is_integer target ≡ true → cast_column (values_target target) c ≡ Ok d → (is_integer d.dtype ≡ true) × (is_nullable d.dtype ≡ false)
values_type (dtypes.Bool n) c d whole h = cc
values_type (dtypes.Primitive q n) c d whole h =
    let is = cast_is (dtypes.Primitive q NonNullable) c d h in
    (ap (λ (x : Column). is_integer x.dtype) (sym is), ap (λ (x : Column). is_nullable x.dtype) (sym is))

pub indices_type : (n : Nullability) (c d : Column) → cast_column (with_nullability n c.dtype) c ≡ Ok d → integer_type d.dtype ≡ integer_type c.dtype
indices_type n c d h = ap (λ (x : Column). integer_type x.dtype) (sym (cast_is (with_nullability n c.dtype) c d h)) ∙ same_integers n c.dtype

pub runs_cast_to : (a : RLEArrayParts) (values indices : Tree) (target : DType) → cast_column (values_target target) (column a.values) ≡ Ok (column values) → cast_column (indices_target target a.indices) (column a.indices) ≡ Ok (column indices)
    → SameShown values (cast_to (values_target target) a.values) → SameShown indices (cast_to (indices_target target a.indices) a.indices) → SameShown (RLE values indices a.offsets a.window) (cast_to target (tree_of_rle a))
runs_cast_to a values indices target hv hi sv si =
    let cast : cast_to target (tree_of_rle a) ≡ RLE (cast_to (values_target target) a.values) (cast_to (indices_target target a.indices) a.indices) a.offsets a.window = rw (hv, hi) refl in
    ap (λ (x : Tree). RLE x (normalized indices) a.offsets a.window) sv
    ∙ ap (λ (x : Tree). RLE (normalized (cast_to (values_target target) a.values)) x a.offsets a.window) si
    ∙ ap normalized (sym cast)

refused_is : {A : Type 0} (e : FastLanesError) (m : Result A FastLanesError) → (e ≡ OutOfMemory → ⊥) → Refuses e m → is_ok m ≡ false
refused_is e m other h = each (Refuses_cases e m h)
  where
    each : (e ≡ OutOfMemory) ⊎ (m ≡ Err e) → is_ok m ≡ false
    each (inl memory) = absurd (other memory)
    each (inr refused) = ap (λ x. is_ok x) refused

both_fail : (a b : Bool) → b ≡ false → (a && b) ≡ false
both_fail true b h = h
both_fail false b h = refl

pub values_refused : (e : FastLanesError) (a : RLEArrayParts) (t : Tree) (target : DType) → tree_of_rle a ≡ t → (e ≡ OutOfMemory → ⊥) → Refuses e (cast_column (values_target target) (column a.values)) → cast_to target t ≡ plain_cast target (column t)
values_refused e a t target is other h =
    let failed : is_ok (cast_column (values_target target) (column a.values)) ≡ false = refused_is e (cast_column (values_target target) (column a.values)) other h in
    let cast : cast_to target (tree_of_rle a) ≡ plain_cast target (column (tree_of_rle a)) = rw failed refl in
    subst (λ (x : Tree). cast_to target x ≡ plain_cast target (column x)) is cast

pub indices_refused : (e : FastLanesError) (a : RLEArrayParts) (t : Tree) (target : DType) → tree_of_rle a ≡ t → (e ≡ OutOfMemory → ⊥) → Refuses e (cast_column (indices_target target a.indices) (column a.indices)) → cast_to target t ≡ plain_cast target (column t)
indices_refused e a t target is other h =
    let failed : is_ok (cast_column (indices_target target a.indices) (column a.indices)) ≡ false = refused_is e (cast_column (indices_target target a.indices) (column a.indices)) other h in
    let neither_cast : parts_cast target a.values a.indices ≡ false = both_fail (is_ok (cast_column (values_target target) (column a.values))) (is_ok (cast_column (indices_target target a.indices) (column a.indices))) failed in
    let cast : cast_to target (tree_of_rle a) ≡ plain_cast target (column (tree_of_rle a)) = rw neither_cast refl in
    subst (λ (x : Tree). cast_to target x ≡ plain_cast target (column x)) is cast

-- ---- the ways
pub packed_decoded : (a : BitPackedArrayParts) (width : ℕ) (target : DType) → GlobalWidth width ≡ a.widths → has_ptype a.parts.ptype target ≡ false → cast_to target (tree_of_bitpacked a) ≡ plain_cast target (column (tree_of_bitpacked a))
packed_decoded a width target same other =
    let cast : cast_to target (BitPackedGlobal a.parts width) ≡ plain_cast target (column (BitPackedGlobal a.parts width)) = rw other refl in
    subst (λ (w : BitWidthsParts). cast_to target (bitpacked_tree a.parts w) ≡ plain_cast target (column (bitpacked_tree a.parts w))) same cast

pub blocked_decoded : (a : BitPackedArrayParts) (boundaries : Tree) (target : DType) → BlockBoundaries boundaries ≡ a.widths → cast_to target (tree_of_bitpacked a) ≡ plain_cast target (column (tree_of_bitpacked a))
blocked_decoded a boundaries target same =
    let cast : cast_to target (BitPackedBlocked a.parts boundaries) ≡ plain_cast target (column (BitPackedBlocked a.parts boundaries)) = refl in
    subst (λ (w : BitWidthsParts). cast_to target (bitpacked_tree a.parts w) ≡ plain_cast target (column (bitpacked_tree a.parts w))) same cast

for_decoded_by : (encoded : Tree) (references : FoRReferencesParts) (target : DType) → same_type (column encoded).dtype target ≡ false → cast_to target (for_tree encoded references) ≡ plain_cast target (column (for_tree encoded references))
for_decoded_by encoded (GlobalReference reference) target other = rw other refl
for_decoded_by encoded (ChunkReferences references offset) target other = rw other refl

pub for_decoded : (a : FoRArrayParts) (target : DType) → same_type (column a.encoded).dtype target ≡ false → cast_to target (tree_of_for a) ≡ plain_cast target (column (tree_of_for a))
for_decoded a target other = for_decoded_by a.encoded a.references target other

pub delta_decoded : (a : DeltaArrayParts) (target : DType) → (same_type (column a.bases).dtype target && not (drops_nullability (column (tree_of_delta a)).dtype target)) ≡ false → cast_to target (tree_of_delta a) ≡ plain_cast target (column (tree_of_delta a))
delta_decoded a target other = rw other refl

pub others_decoded : (t : Tree) (target : DType) → (let none : Option BitPackedArrayParts = None in none) ≡ bitpacked_in t → (let none : Option FoRArrayParts = None in none) ≡ for_in t → (let none : Option DeltaArrayParts = None in none) ≡ delta_in t → (let none : Option RLEArrayParts = None in none) ≡ rle_in t → cast_to target t ≡ plain_cast target (column t)
others_decoded (Primitive p) target a b c d = refl
others_decoded (Constant k) target a b c d = refl
others_decoded (tree.Bool k) target a b c d = refl
others_decoded (BitPackedGlobal parts width) target a b c d = cc
others_decoded (BitPackedBlocked parts boundaries) target a b c d = cc
others_decoded (FoRGlobal encoded reference) target a b c d = cc
others_decoded (FoRChunked encoded references offset) target a b c d = cc
others_decoded (Delta bases deltas parts) target a b c d = cc
others_decoded (RLE values indices offsets window) target a b c d = cc
