-- Which items are null: validities where nulls may stand or not.
use Rattle.std.proofs.Common.{◌≡◌, ◌∙◌, ℕ, zero, suc, ◌<◌, Bool, true, false, cond, not, List, [], ◌∷◌, length, map, get_or, Option, Some, None, refl, ap, sym, arith}
use Rattle.std.specs.Prelude.{◌&&◌, ◌||◌, ◌==◌, IfSome, is_none, is_some, option_map, unwrap_or, if◌then◌else◌}
use Rattle.std.specs.List.{list_all, list_any}
use Rattle.fl_types.specs.declared.dtype.DType.TheVariants.{Primitive}
use Rattle.fl_types.specs.declared.dtype.Nullability.{Nullability}
use Rattle.fl_types.specs.declared.dtype.Nullability.TheVariants.{NonNullable, Nullable}
use Rattle.fl_types.specs.declared.dtype.PType.{PType}
use Rattle.fl_types.specs.declared.validity.Validity.{Validity}
use Rattle.fl_types.specs.declared.validity.Validity.TheVariants as valid
use Rattle.fl_types.specs.Types.{can_be_null}
use Rattle.fl_types.specs.Validities.{covers, is_valid_at, items_of, nullability_of}
use Rattle.fl_types.proofs.BitLists.{same_tables}
use Rattle.fl_column.specs.Columns.{PrimitiveParts, column_of_primitive, option_all}
use Rattle.fl_column.specs.Selections.{any_null}
use Rattle.fl_column.proofs.CastLaws.{any_null_is}
use Rattle.fl_column.proofs.ItemLaws.{get_or-items_of, length-items_of}
use Rattle.fl_column.specs.Numbers.{numbers}
use Rattle.fl_patches.specs.PatchMaps.{PatchesParts, are_chunk_offsets, is_index_within, is_rising, patch_contents_fit, patch_lengths_fit, patch_types_fit, patched_in, refusal_of}
use Rattle.fl_types.specs.declared.error.FastLanesError.{FastLanesError}
use Rattle.fl_types.specs.declared.error.FastLanesError.TheVariants.{PatchContent, PatchLength, PatchType}
use Rattle.fl_types.specs.Bits.{tabulate}
use Rattle.fl_bitpacking.specs.Blocks.{Blocks}
use Rattle.fl_bitpacking.specs.Casts.{cast_packed, cast_patches, cast_primitive, cast_validity}
use Rattle.fl_bitpacking.specs.Columns.{BitPackedParts, column_of_packed, packed_item, stored}
use Rattle.fl_bitpacking.specs.Refusals.{AreConsistent}
use Rattle.fl_bitpacking.proofs.Tables.{get_or-table, length-table}

null_or_not : {A : Type 0} (x : Option A) → is_none x ≡ not (is_some x)
null_or_not None = refl
null_or_not (Some z) = refl

-- lists with nulls in the same places have a null or have none
pub nulls_alike : {A B : Type 0} (xs : List (Option A)) (ys : List (Option B)) → length ys ≡ length xs → ((i : ℕ) → i < length xs → is_some (get_or ys i None) ≡ is_some (get_or xs i None)) → list_any is_none ys ≡ list_any is_none xs
nulls_alike [] [] long same = refl
nulls_alike [] (y ∷ ys) long same = absurd (omega (arith, long))
nulls_alike (x ∷ xs) [] long same = absurd (omega (arith, long))
nulls_alike (x ∷ xs) (y ∷ ys) long same =
    let first : is_none y ≡ is_none x = null_or_not y ∙ ap not (same 0 (omega arith)) ∙ sym (null_or_not x) in
    let rest : list_any is_none ys ≡ list_any is_none xs = nulls_alike xs ys (omega (arith, long)) (λ i h. same (suc i) (omega (arith, h))) in
    (λ i. first i || rest i)

-- where no item is null, each is there
pub all_there : {A : Type 0} (xs : List (Option A)) (i : ℕ) → list_any is_none xs ≡ false → i < length xs → is_some (get_or xs i None) ≡ true
all_there [] i none h = absurd (omega (arith, h))
all_there (None ∷ xs) i none h = cc
all_there (Some x ∷ xs) zero none h = refl
all_there (Some x ∷ xs) (suc i) none h = all_there xs i none (omega (arith, h))

-- ---- validities
pub nullability_cast : (n : Nullability) (v : Validity) → nullability_of (cast_validity n v) ≡ n
nullability_cast NonNullable v = refl
nullability_cast Nullable valid.NonNullable = refl
nullability_cast Nullable valid.AllValid = refl
nullability_cast Nullable valid.AllInvalid = refl
nullability_cast Nullable (valid.Array bits) = refl

pub covers_cast : (n : Nullability) (v : Validity) (len : ℕ) → covers v len ≡ true → covers (cast_validity n v) len ≡ true
covers_cast NonNullable v len h = refl
covers_cast Nullable valid.NonNullable len h = refl
covers_cast Nullable valid.AllValid len h = refl
covers_cast Nullable valid.AllInvalid len h = refl
covers_cast Nullable (valid.Array bits) len h = h

-- an item is valid as before, where no null is dropped
pub valid_cast : (n : Nullability) (v : Validity) (i : ℕ) → (can_be_null n ≡ false → is_valid_at v i ≡ true) → is_valid_at (cast_validity n v) i ≡ is_valid_at v i
valid_cast NonNullable v i h = sym (h refl)
valid_cast Nullable valid.NonNullable i h = refl
valid_cast Nullable valid.AllValid i h = refl
valid_cast Nullable valid.AllInvalid i h = refl
valid_cast Nullable (valid.Array bits) i h = refl

no_null_in : {A : Type 0} (xs : List A) → list_any is_none (map (λ x. Some x) xs) ≡ false
no_null_in [] = refl
no_null_in (x ∷ xs) = no_null_in xs

-- values without a null have none where nulls may stand or not
pub values_cast : {A : Type 0} (n : Nullability) (v : Validity) (xs : List A) → list_any is_none (items_of v xs) ≡ false → list_any is_none (items_of (cast_validity n v) xs) ≡ false
values_cast NonNullable v xs h = no_null_in xs
values_cast Nullable valid.NonNullable xs h = no_null_in xs
values_cast Nullable valid.AllValid xs h = h
values_cast Nullable valid.AllInvalid xs h = h
values_cast Nullable (valid.Array bits) xs h = h

-- ---- patches
last_passed : (a b : Bool) (e f g : FastLanesError) (c d : Bool) → (c ≡ true → d ≡ true) → (if not a then Some e else if not b then Some f else if not c then Some g else None) ≡ None → (if not a then Some e else if not b then Some f else if not d then Some g else None) ≡ None
last_passed true true e f g true d to h = rw (to refl) refl
last_passed true true e f g false d to h = cc
last_passed true false e f g c d to h = cc
last_passed false b e f g c d to h = cc

third_passed : (a b c c2 d : Bool) → (c ≡ false → c2 ≡ false) → (a && (b && (not c && d))) ≡ true → (a && (b && (not c2 && d))) ≡ true
third_passed true true false c2 true to h = rw (to refl) refl
third_passed true true false c2 false to h = cc
third_passed true true true c2 d to h = cc
third_passed true false c c2 d to h = cc
third_passed false b c c2 d to h = cc

-- patches are patches where nulls may stand or not
pub patches_cast : (n : Nullability) (p : PatchesParts) → refusal_of p ≡ None → refusal_of (cast_patches n p) ≡ None
patches_cast n p h =
    last_passed (patch_types_fit p) (patch_lengths_fit p) PatchType PatchLength PatchContent (patch_contents_fit p) (patch_contents_fit (cast_patches n p))
    (λ fit. third_passed (is_rising (numbers p.indices)) (list_all (is_index_within p.offset p.array_len) (numbers p.indices)) (list_any is_none (column_of_primitive p.values).items) (list_any is_none (column_of_primitive (cast_primitive n p.values)).items) (option_all (λ c. (p.offset == 0) && are_chunk_offsets (numbers p.indices) (numbers c)) p.chunk_offsets)
    (values_cast n p.values.validity p.values.slots) fit) h

-- the parts are named one by one
pub patches_cast_of : (n : Nullability) (p : PatchesParts) (indices values : PrimitiveParts) (chunk_offsets : Option PrimitiveParts) → refusal_of p ≡ None → indices ≡ p.indices → values ≡ cast_primitive n p.values → chunk_offsets ≡ p.chunk_offsets
    → refusal_of (record { array_len = p.array_len; offset = p.offset; indices = indices; values = values; chunk_offsets = chunk_offsets }) ≡ None
patches_cast_of n p indices values chunk_offsets h a b c = rw (a, b, c) (patches_cast n p h)

fit_patches : (n : Nullability) (patches : Option PatchesParts) (len : ℕ) (ptype : PType) → IfSome patches (λ p. (p.array_len ≡ len) × (p.values.ptype ≡ ptype)) → IfSome (option_map (cast_patches n) patches) (λ p. (p.array_len ≡ len) × (p.values.ptype ≡ ptype))
fit_patches n None len ptype h = h
fit_patches n (Some p) len ptype h = h

-- ---- packed parts
pub consistent_cast : (n : Nullability) (parts : BitPackedParts) → AreConsistent parts → AreConsistent (cast_packed n parts)
consistent_cast n parts s = record {
  fit = record { offset = s.fit.offset; few = s.fit.few; covers = covers_cast n parts.validity parts.len s.fit.covers; patched = fit_patches n parts.patches parts.len parts.ptype s.fit.patched };
  few = s.few;
}

same_patched : (n : Nullability) (patches : Option PatchesParts) (i : ℕ) → patched_in (option_map (cast_patches n) patches) i ≡ patched_in patches i
same_patched n None i = refl
same_patched n (Some p) i = refl

item_is_there : (parts : BitPackedParts) (blocks : Blocks) (i : ℕ) → is_some (packed_item parts blocks i) ≡ is_valid_at parts.validity i
unfolding packed_item
item_is_there parts blocks i = each (is_valid_at parts.validity i)
  where
    each : (b : Bool) → is_some (cond b (Some (unwrap_or (patched_in parts.patches i) (stored parts blocks i))) None) ≡ b
    each true = refl
    each false = refl

-- a packed column has a null where its validity says so
pub packed_null : (parts : BitPackedParts) (blocks : Blocks) → covers parts.validity parts.len ≡ true → any_null parts.validity parts.len ≡ list_any is_none (column_of_packed parts blocks).items
packed_null parts blocks covered =
    let zeros : List ℕ = tabulate (λ i. 0) parts.len in
    let many : length zeros ≡ parts.len = length-table (λ i. 0) parts.len in
    let covered_zeros : covers parts.validity (length zeros) ≡ true = rw many covered in
    let long : length (column_of_packed parts blocks).items ≡ parts.len = length-table (packed_item parts blocks) parts.len in
    let masked_long : length (items_of parts.validity zeros) ≡ parts.len = length-items_of parts.validity zeros covered_zeros ∙ many in
    any_null_is parts.validity zeros parts.len (sym many) covered_zeros
    ∙ sym (nulls_alike (items_of parts.validity zeros) (column_of_packed parts blocks).items (long ∙ sym masked_long) (λ i h.
    let below : i < parts.len = omega (arith, h, masked_long) in
    ap (λ x. is_some x) (get_or-table (packed_item parts blocks) parts.len i None below) ∙ item_is_there parts blocks i
    ∙ sym (ap (λ x. is_some x) (get_or-items_of parts.validity zeros i 0 covered_zeros (omega (arith, below, many))) ∙ some_if (is_valid_at parts.validity i) (get_or zeros i 0))))
  where
    some_if : (b : Bool) (x : ℕ) → is_some (cond b (Some x) None) ≡ b
    some_if true x = refl
    some_if false x = refl

item_cast : (n : Nullability) (parts : BitPackedParts) (blocks : Blocks) (i : ℕ) → (can_be_null n ≡ false → is_valid_at parts.validity i ≡ true) → packed_item (cast_packed n parts) blocks i ≡ packed_item parts blocks i
unfolding packed_item
item_cast n parts blocks i h =
    ap (λ b. cond b (Some (unwrap_or (patched_in (option_map (cast_patches n) parts.patches) i) (stored parts blocks i))) None) (valid_cast n parts.validity i h)
    ∙ ap (λ patch. cond (is_valid_at parts.validity i) (Some (unwrap_or patch (stored parts blocks i))) None) (same_patched n parts.patches i)

no_null_dropped : (n : Nullability) (b : Bool) → (can_be_null n || not b) ≡ true → can_be_null n ≡ false → b ≡ false
no_null_dropped NonNullable true h e = cc
no_null_dropped NonNullable false h e = refl
no_null_dropped Nullable b h e = cc

-- the column where nulls may stand or not
pub packed_cast : (n : Nullability) (parts : BitPackedParts) (blocks : Blocks) → (can_be_null n || not (list_any is_none (column_of_packed parts blocks).items)) ≡ true → column_of_packed (cast_packed n parts) blocks ≡ record { dtype = Primitive parts.ptype n; items = (column_of_packed parts blocks).items }
packed_cast n parts blocks h =
    let long : length (column_of_packed parts blocks).items ≡ parts.len = length-table (packed_item parts blocks) parts.len in
    let items = same_tables (packed_item (cast_packed n parts) blocks) (packed_item parts blocks) parts.len (λ i below. item_cast n parts blocks i (λ e.
    sym (item_is_there parts blocks i) ∙ ap (λ x. is_some x) (sym (get_or-table (packed_item parts blocks) parts.len i None below))
    ∙ all_there (column_of_packed parts blocks).items i (no_null_dropped n (list_any is_none (column_of_packed parts blocks).items) h e) (omega (arith, below, long)))) in
    ap (λ m. record { dtype = Primitive parts.ptype m; items = (column_of_packed (cast_packed n parts) blocks).items }) (nullability_cast n parts.validity)
    ∙ ap (λ xs. record { dtype = Primitive parts.ptype n; items = xs }) items
