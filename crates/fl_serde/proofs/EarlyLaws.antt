-- What shows before patches are decoded is what they are refused for.
use Rattle.std.proofs.Common.{◌≡◌, ◌∙◌, ℕ, ℤ, pos, ◌<◌, Bool, true, false, List, [], ◌∷◌, length, map, take, Option, Some, None, Result, Ok, Err, refl, sym, ap, arith}
use Rattle.std.specs.Prelude.{◌&&◌, if◌then◌else◌, nat_lt, not, option_map, slice_index_or, unsigned_abs, unwrap_or}
use Rattle.std.proofs.lemmas.List.{length-map}
use Rattle.fl_types.specs.declared.dtype.DType.{DType}
use Rattle.fl_types.specs.declared.dtype.DType.TheVariants as dtypes
use Rattle.fl_types.specs.declared.dtype.Nullability.TheVariants.{NonNullable, Nullable}
use Rattle.fl_types.specs.declared.error.FastLanesError.{FastLanesError}
use Rattle.fl_types.specs.declared.error.FastLanesError.TheVariants.{PatchContent, PatchLength, PatchType}
use Rattle.fl_types.specs.Refusals.{Refuses}
use Rattle.fl_types.specs.Types.{is_index_type, is_integer}
use Rattle.fl_column.specs.Columns.{Column, column_of_primitive, numbers_of, option_all}
use Rattle.fl_column.specs.Numbers.{numbers}
use Rattle.fl_patches.specs.PatchMaps.{PatchesParts, accepted, is_rising, new_patches, patch_contents_fit, patch_lengths_fit, patch_types_fit}
use Rattle.fl_metadata.specs.Schemas.{◌>>=◌}
use Rattle.fl_array.proofs.Refused.{Refuses_same}
use Rattle.fl_array.specs.Trees.{Tree, column}
use Rattle.fl_array.specs.Reads.{integer_column}
use Rattle.fl_serde.specs.EarlyRefusals.{early_refusal, have_index_types, have_patch_lengths}
use Rattle.fl_serde.specs.Plain.{plain_of}
use Rattle.fl_serde.specs.Reading.{plain_patches}

-- ---- the first two
items_short : (items : List (Option ℤ)) → length items < 2 → is_rising (take 2 (map unsigned_abs (map (λ item. unwrap_or item (pos 0)) items))) ≡ true
items_short [] h = refl
items_short (x ∷ []) h = refl
items_short (x ∷ y ∷ items) h = absurd (omega (arith, h))

-- fewer than two rise
pub rising_short : (c : Column) → length c.items < 2 → is_rising (take 2 (numbers_of c)) ≡ true
rising_short c h = items_short c.items h

and_true : (b : Bool) → (b && true) ≡ b
and_true true = refl
and_true false = refl

items_pair : (items : List (Option ℤ)) → 1 < length items
    → is_rising (take 2 (map unsigned_abs (map (λ item. unwrap_or item (pos 0)) items))) ≡ nat_lt (unsigned_abs (unwrap_or (slice_index_or items 0 None) (pos 0))) (unsigned_abs (unwrap_or (slice_index_or items 1 None) (pos 0)))
items_pair [] h = absurd (omega (arith, h))
items_pair (x ∷ []) h = absurd (omega (arith, h))
items_pair (x ∷ y ∷ items) h = and_true _

-- two rise where the first is below the second
pub rising_pair : (c : Column) → 1 < length c.items → is_rising (take 2 (numbers_of c)) ≡ nat_lt (unsigned_abs (unwrap_or (slice_index_or c.items 0 None) (pos 0))) (unsigned_abs (unwrap_or (slice_index_or c.items 1 None) (pos 0)))
rising_pair c h = items_pair c.items h

and_false : (a b : Bool) → (a && true) ≡ false → (a && b) ≡ false
and_false true b h = absurd cc
and_false false b h = refl

-- where the first two do not rise, all do not
not_rising : (ns : List ℕ) → is_rising (take 2 ns) ≡ false → is_rising ns ≡ false
not_rising [] h = absurd cc
not_rising (x ∷ []) h = absurd cc
not_rising (x ∷ y ∷ ns) h = and_false (nat_lt x y) (is_rising (y ∷ ns)) h

-- ---- columns held plain
-- the parts of patches that columns of integers are
abbrev parts_of : ℕ → ℕ → Column → Column → Option Column → PatchesParts
parts_of len offset indices values offsets = record { array_len = len; offset = offset; indices = plain_of indices; values = plain_of values; chunk_offsets = option_map plain_of offsets }

plain_type : (c : Column) → is_integer c.dtype ≡ true → (column_of_primitive (plain_of c)).dtype ≡ c.dtype
unfolding plain_of
plain_type c h = of_type c.dtype c.items h
  where
    of_type : (d : DType) (items : List (Option ℤ)) → is_integer d ≡ true → (column_of_primitive (plain_of (record { dtype = d; items = items }))).dtype ≡ d
    of_type (dtypes.Primitive p NonNullable) items h = refl
    of_type (dtypes.Primitive p Nullable) items h = refl
    of_type (dtypes.Bool n) items h = absurd cc

plain_length : (c : Column) → length (plain_of c).slots ≡ length c.items
unfolding plain_of
plain_length c = length-map c.items _

plain_numbers : (c : Column) → numbers (plain_of c) ≡ numbers_of c
unfolding plain_of
plain_numbers c = refl

types_same : (len offset : ℕ) (i v : Column) (o : Option Column) → is_integer i.dtype ≡ true → option_all (λ c. is_integer c.dtype) o ≡ true → have_index_types i o ≡ patch_types_fit (parts_of len offset i v o)
types_same len offset i v None first third = ap (λ d. is_index_type d && true) (sym (plain_type i first))
types_same len offset i v (Some c) first third = ap (λ d. is_index_type d && is_index_type c.dtype) (sym (plain_type i first)) ∙ ap (λ d. is_index_type (column_of_primitive (plain_of i)).dtype && is_index_type d) (sym (plain_type c third))

lengths_same : (len offset : ℕ) (i v : Column) (o : Option Column) → have_patch_lengths len i v o ≡ patch_lengths_fit (parts_of len offset i v o)
lengths_same len offset i v None = rw (plain_length i, plain_length v) refl
lengths_same len offset i v (Some c) = rw (plain_length i, plain_length v, plain_length c) refl

-- a test that fails early fails
chain : (t l r k : Bool) (e : FastLanesError) → (r ≡ false → k ≡ false) → (if not t then Some PatchType else if not l then Some PatchLength else if not r then Some PatchContent else None) ≡ Some e
    → (if not t then Some PatchType else if not l then Some PatchLength else if not k then Some PatchContent else None) ≡ Some e
chain false l r k e f h = h
chain true false r k e f h = h
chain true true false k e f h = rw (f refl) h
chain true true true k e f h = absurd cc

falls : (a b : Bool) → a ≡ false → (a && b) ≡ false
falls a b h = rw h refl

integers_refused : (len offset : ℕ) (i v : Column) (o : Option Column) (e : FastLanesError) → is_integer i.dtype ≡ true → option_all (λ c. is_integer c.dtype) o ≡ true
    → (if not (have_index_types i o) then Some PatchType else if not (have_patch_lengths len i v o) then Some PatchLength else if not (is_rising (take 2 (numbers_of i))) then Some PatchContent else None) ≡ Some e
    → new_patches len offset (plain_of i) (plain_of v) (option_map plain_of o) ≡ Err e
integers_refused len offset i v o e first third h =
    let p = parts_of len offset i v o in
    let shown : (if not (patch_types_fit p) then Some PatchType else if not (patch_lengths_fit p) then Some PatchLength else if not (is_rising (take 2 (numbers_of i))) then Some PatchContent else None) ≡ Some e =
    rw (← types_same len offset i v o first third, ← lengths_same len offset i v o) h in
    let late : is_rising (take 2 (numbers_of i)) ≡ false → patch_contents_fit p ≡ false = λ f. falls (is_rising (numbers (plain_of i))) _ (ap is_rising (plain_numbers i) ∙ not_rising (numbers_of i) f) in
    ap (accepted p) (chain (patch_types_fit p) (patch_lengths_fit p) (is_rising (take 2 (numbers_of i))) (patch_contents_fit p) e late shown)

-- ---- arrays
-- the patches of columns, held plain
abbrev patches_of : ℕ → ℕ → Column → Column → Option Column → Result PatchesParts FastLanesError
patches_of len offset i v None = (integer_column i >>= λ c. Ok (plain_of c)) >>= λ indices. (integer_column v >>= λ c. Ok (plain_of c)) >>= λ values. new_patches len offset indices values None
patches_of len offset i v (Some c) =
    (integer_column i >>= λ c. Ok (plain_of c)) >>= λ indices. (integer_column v >>= λ c. Ok (plain_of c)) >>= λ values. ((integer_column c >>= λ c. Ok (plain_of c)) >>= λ offsets. Ok (Some offsets)) >>= λ offsets. new_patches len offset indices values offsets

of_columns : (len offset : ℕ) (i v : Tree) (o : Option Tree) → plain_patches len offset i v o ≡ patches_of len offset (column i) (column v) (option_map column o)
of_columns len offset i v None = refl
of_columns len offset i v (Some c) = refl

columns_refused : (len offset : ℕ) (i v : Column) (o : Option Column) (e : FastLanesError) → early_refusal len i v o ≡ Some e → patches_of len offset i v o ≡ Err e
columns_refused len offset i v o e h = of_types i.dtype v.dtype i.items v.items o h
  where
    of_types : (di dv : DType) (xi xv : List (Option ℤ)) (o : Option Column) → early_refusal len (record { dtype = di; items = xi }) (record { dtype = dv; items = xv }) o ≡ Some e
        → patches_of len offset (record { dtype = di; items = xi }) (record { dtype = dv; items = xv }) o ≡ Err e
    of_types (dtypes.Bool n) dv xi xv None h = cc
    of_types (dtypes.Bool n) dv xi xv (Some c) h = cc
    of_types (dtypes.Primitive p n) (dtypes.Bool m) xi xv None h = cc
    of_types (dtypes.Primitive p n) (dtypes.Bool m) xi xv (Some c) h = cc
    of_types (dtypes.Primitive p n) (dtypes.Primitive q m) xi xv None h = integers_refused len offset (record { dtype = dtypes.Primitive p n; items = xi }) (record { dtype = dtypes.Primitive q m; items = xv }) None e refl refl h
    of_types (dtypes.Primitive p n) (dtypes.Primitive q m) xi xv (Some c) h = of_offsets c.dtype c.items h
      where
        of_offsets : (dc : DType) (xc : List (Option ℤ)) → early_refusal len (record { dtype = dtypes.Primitive p n; items = xi }) (record { dtype = dtypes.Primitive q m; items = xv }) (Some (record { dtype = dc; items = xc })) ≡ Some e
            → patches_of len offset (record { dtype = dtypes.Primitive p n; items = xi }) (record { dtype = dtypes.Primitive q m; items = xv }) (Some (record { dtype = dc; items = xc })) ≡ Err e
        of_offsets (dtypes.Bool k) xc h = cc
        of_offsets (dtypes.Primitive r k) xc h = integers_refused len offset (record { dtype = dtypes.Primitive p n; items = xi }) (record { dtype = dtypes.Primitive q m; items = xv }) (Some (record { dtype = dtypes.Primitive r k; items = xc })) e refl refl h

-- arrays that are refused before they are decoded are refused so
early_refused : (len offset : ℕ) (i v : Tree) (o : Option Tree) (e : FastLanesError) → early_refusal len (column i) (column v) (option_map column o) ≡ Some e → plain_patches len offset i v o ≡ Err e
early_refused len offset i v o e h = of_columns len offset i v o ∙ columns_refused len offset (column i) (column v) (option_map column o) e h

-- so a call that answers it refuses as it is asked to
pub early_answers : (len offset : ℕ) (i v : Tree) (o : Option Tree) (e : FastLanesError) → early_refusal len (column i) (column v) (option_map column o) ≡ Some e → Refuses e (plain_patches len offset i v o)
early_answers len offset i v o e h = rw (early_refused len offset i v o e h) (Refuses_same PatchesParts e)
