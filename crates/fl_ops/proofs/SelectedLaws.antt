-- What is picked of a column plus a reference is what is picked of the column, plus the reference.
use Rattle.std.proofs.Common.{◌≡◌, ◌∙◌, ℕ, ℤ, pos, zero, suc, ◌+◌, Bool, true, false, not, List, [], ◌∷◌, ◌++◌, length, map, get_or, Option, Some, None, Result, Ok, Err, refl, ap, sym, subst}
use Rattle.std.specs.Prelude.{◌&&◌, ◌==◌, if◌then◌else◌, flat_map, is_none, unsigned_abs, unwrap_or}
use Rattle.std.specs.List.{list_all}
use Rattle.std.proofs.lemmas.List.{length-map, map-append}
use Rattle.fl_types.specs.declared.dtype.DType.{DType}
use Rattle.fl_types.specs.declared.dtype.DType.TheVariants as dtypes
use Rattle.fl_types.specs.declared.dtype.Nullability.{Nullability}
use Rattle.fl_types.specs.declared.dtype.PType.{PType}
use Rattle.fl_types.specs.declared.dtype.PType.TheVariants.{U8}
use Rattle.fl_types.specs.declared.error.FastLanesError.{FastLanesError}
use Rattle.fl_types.specs.declared.error.FastLanesError.TheVariants.{IndexOutOfBounds, LengthOverflow, MaskLength, NotInteger, RangeOutOfBounds}
use Rattle.fl_types.specs.declared.mask.Mask.{Mask}
use Rattle.fl_types.specs.Bits.{between}
use Rattle.fl_types.specs.Masks.{mask_bits, mask_len}
use Rattle.fl_types.specs.Types.{either_nullable, integer_type, is_integer, nullability_in, with_nullability}
use Rattle.fl_column.specs.Columns.{Column, ptype_of_column}
use Rattle.fl_column.specs.Operations.{filter_column, filter_of, is_in_range, item_named, kept, range_fits, ranges_column, ranges_of, take_column, take_of, total_of}
use Rattle.fl_codec.specs.FoRColumns.{global_for, plus_reference}
use Rattle.fl_codec.proofs.Tables.{map-between}
use Rattle.fl_types.specs.Refusals.{Refuses}
use Rattle.fl_types.specs.Values.{ScalarParts}
use Rattle.fl_types.proofs.RefusalLaws.{Refuses_map}
use Rattle.fl_types.specs.Validities.{nullability_of}
use Rattle.fl_column.specs.Columns.{PrimitiveParts, column_of_primitive, item_validity}
use Rattle.fl_array.specs.FoRArrays.{FoRArrayParts, GlobalReference, for_tree, tree_of_for}
use Rattle.fl_array.specs.Trees.{BitPackedBlocked, BitPackedGlobal, Constant, Delta, FoRChunked, FoRGlobal, Primitive, RLE, Tree, column}
use Rattle.fl_array.specs.Trees as tree
use Rattle.fl_array.proofs.FoRLaws.{for_len}
use Rattle.fl_array.proofs.FoRSound.{global_column}
use Rattle.fl_ops.specs.declared.selection.Selection.{Selection}
use Rattle.fl_ops.specs.declared.selection.Selection.TheVariants as picks
use Rattle.fl_ops.specs.Normalized.{SameShown, normalized, plain_of}
use Rattle.fl_ops.specs.Results.{picked}
use Rattle.fl_ops.specs.Selections.{IsOfLength, choice_of, is_global_for, selected_column}
use Rattle.fl_ops.proofs.Shown.{plain_shown}

-- a change of what a call makes
abbrev pub mapped : {A B : Type 0} → (A → B) → Result A FastLanesError → Result B FastLanesError
mapped f (Ok x) = Ok (f x)
mapped f (Err e) = Err e

mapped_if : {A B : Type 0} (f : A → B) (b : Bool) (r s : Result A FastLanesError) → mapped f (if b then r else s) ≡ (if b then mapped f r else mapped f s)
mapped_if f true r s = refl
mapped_if f false r s = refl

-- ---- items
got_mapped : (f : Option ℤ → Option ℤ) → f None ≡ None → (xs : List (Option ℤ)) (i : ℕ) → get_or (map f xs) i None ≡ f (get_or xs i None)
got_mapped f none [] i = sym none
got_mapped f none (x ∷ xs) zero = refl
got_mapped f none (x ∷ xs) (suc i) = got_mapped f none xs i

named_mapped : (f : Option ℤ → Option ℤ) → f None ≡ None → (xs : List (Option ℤ)) (index : Option ℤ) → item_named (map f xs) index ≡ f (item_named xs index)
named_mapped f none xs None = sym none
named_mapped f none xs (Some z) = got_mapped f none xs (unsigned_abs z)

taken_mapped : (f : Option ℤ → Option ℤ) → f None ≡ None → (xs indices : List (Option ℤ)) → map (item_named (map f xs)) indices ≡ map f (map (item_named xs) indices)
taken_mapped f none xs [] = refl
taken_mapped f none xs (index ∷ indices) = (λ i. named_mapped f none xs index i ∷ taken_mapped f none xs indices i)

ranges_mapped : (f : Option ℤ → Option ℤ) (xs : List (Option ℤ)) (ranges : List (ℕ × ℕ)) → flat_map (λ range. between range.0 (range.0 + range.1) (map f xs)) ranges ≡ map f (flat_map (λ range. between range.0 (range.0 + range.1) xs) ranges)
ranges_mapped f xs [] = refl
ranges_mapped f xs (range ∷ ranges) =
    (λ i. sym (map-between f xs range.0 (range.0 + range.1)) i ++ ranges_mapped f xs ranges i)
    ∙ sym (map-append f (between range.0 (range.0 + range.1) xs) (flat_map (λ range. between range.0 (range.0 + range.1) xs) ranges))

kept_mapped : (f : Option ℤ → Option ℤ) (bits : List Bool) (xs : List (Option ℤ)) → kept bits (map f xs) ≡ map f (kept bits xs)
kept_mapped f [] xs = refl
kept_mapped f (bit ∷ bits) [] = refl
kept_mapped f (true ∷ bits) (x ∷ xs) = ap (λ rest. f x ∷ rest) (kept_mapped f bits xs)
kept_mapped f (false ∷ bits) (x ∷ xs) = kept_mapped f bits xs

-- ---- columns
pub same_integers : (n : Nullability) (d : DType) → integer_type (with_nullability n d) ≡ integer_type d
same_integers n (dtypes.Primitive p m) = refl
same_integers n (dtypes.Bool m) = refl

take_of_global : (reference : ℤ) (indices c : Column) → take_of indices (global_for reference c) ≡ global_for reference (take_of indices c)
take_of_global reference indices c =
    let f : PType → Option ℤ → Option ℤ = λ p. plus_reference p reference in
    let d : DType = with_nullability (either_nullable (nullability_in c.dtype) (nullability_in indices.dtype)) c.dtype in
    let typed : ptype_of_column (take_of indices c) ≡ ptype_of_column c = ap (λ (t : Option PType). unwrap_or t U8) (same_integers (either_nullable (nullability_in c.dtype) (nullability_in indices.dtype)) c.dtype) in
    ap (λ (items : List (Option ℤ)). record { dtype = d; items = items })
    (taken_mapped (f (ptype_of_column c)) refl c.items indices.items ∙ ap (λ (p : PType). map (f p) (map (item_named c.items) indices.items)) (sym typed))

ranges_of_global : (reference : ℤ) (ranges : List (ℕ × ℕ)) (c : Column) → ranges_of ranges (global_for reference c) ≡ global_for reference (ranges_of ranges c)
ranges_of_global reference ranges c = ap (λ (items : List (Option ℤ)). record { dtype = c.dtype; items = items }) (ranges_mapped (plus_reference (ptype_of_column c) reference) c.items ranges)

filter_of_global : (reference : ℤ) (mask : Mask) (c : Column) → filter_of mask (global_for reference c) ≡ global_for reference (filter_of mask c)
filter_of_global reference mask c = ap (λ (items : List (Option ℤ)). record { dtype = c.dtype; items = items }) (kept_mapped (plus_reference (ptype_of_column c) reference) (mask_bits mask) c.items)

global_len : (reference : ℤ) (c : Column) → length (global_for reference c).items ≡ length c.items
global_len reference c = length-map c.items (plus_reference (ptype_of_column c) reference)

three : {A B : Type 0} (f : A → B) (a b : Bool) (e g : FastLanesError) (x : A) (y : B) → y ≡ f x → (if a then Err e else if b then Err g else Ok y) ≡ mapped f (if a then Err e else if b then Err g else Ok x)
three f true b e g x y h = refl
three f false true e g x y h = refl
three f false false e g x y h = ap (λ z. Ok z) h

four : {A B : Type 0} (f : A → B) (a b c : Bool) (e g h : FastLanesError) (x : A) (y : B) → y ≡ f x → (if a then Err e else if b then Err g else if c then Err h else Ok y) ≡ mapped f (if a then Err e else if b then Err g else if c then Err h else Ok x)
four f true b c e g h x y s = refl
four f false b c e g h x y s = three f b c g h x y s

pub take_column_of_global : (reference : ℤ) (indices c : Column) → take_column indices (global_for reference c) ≡ mapped (global_for reference) (take_column indices c)
take_column_of_global reference indices c =
    ap (λ (n : ℕ). if not (is_integer c.dtype && is_integer indices.dtype) then Err NotInteger else if not (list_all (is_in_range n) indices.items) then Err IndexOutOfBounds else Ok (take_of indices (global_for reference c))) (global_len reference c)
    ∙ three (global_for reference) (not (is_integer c.dtype && is_integer indices.dtype)) (not (list_all (is_in_range (length c.items)) indices.items)) NotInteger IndexOutOfBounds (take_of indices c) (take_of indices (global_for reference c)) (take_of_global reference indices c)

pub ranges_column_of_global : (reference : ℤ) (ranges : List (ℕ × ℕ)) (c : Column) → ranges_column ranges (global_for reference c) ≡ mapped (global_for reference) (ranges_column ranges c)
ranges_column_of_global reference ranges c =
    ap (λ (n : ℕ). if not (is_integer c.dtype) then Err NotInteger else if not (list_all (range_fits n) ranges) then Err RangeOutOfBounds else if is_none (total_of ranges) then Err LengthOverflow else Ok (ranges_of ranges (global_for reference c))) (global_len reference c)
    ∙ four (global_for reference) (not (is_integer c.dtype)) (not (list_all (range_fits (length c.items)) ranges)) (is_none (total_of ranges)) NotInteger RangeOutOfBounds LengthOverflow (ranges_of ranges c) (ranges_of ranges (global_for reference c)) (ranges_of_global reference ranges c)

pub filter_column_of_global : (reference : ℤ) (mask : Mask) (c : Column) → filter_column mask (global_for reference c) ≡ mapped (global_for reference) (filter_column mask c)
filter_column_of_global reference mask c =
    ap (λ (n : ℕ). if not (mask_len mask == n) then Err MaskLength else if not (is_integer c.dtype) then Err NotInteger else Ok (filter_of mask (global_for reference c))) (global_len reference c)
    ∙ three (global_for reference) (not (mask_len mask == length c.items)) (not (is_integer c.dtype)) MaskLength NotInteger (filter_of mask c) (filter_of mask (global_for reference c)) (filter_of_global reference mask c)

-- ---- selections
pub selected_of_global : (s : Selection) (reference : ℤ) (c : Column) → selected_column s (global_for reference c) ≡ mapped (global_for reference) (selected_column s c)
selected_of_global (picks.Indices indices) reference c = take_column_of_global reference (column indices.now) c
selected_of_global (picks.Ranges ranges) reference c = ranges_column_of_global reference ranges.now c
selected_of_global (picks.Mask mask) reference c = filter_column_of_global reference mask.now c

pub ok_of_three : {A : Type 0} (a b : Bool) (e g : FastLanesError) (x d : A) → (if a then Err e else if b then Err g else Ok x) ≡ Ok d → x ≡ d
ok_of_three true b e g x d h = cc
ok_of_three false true e g x d h = cc
ok_of_three false false e g x d h = cc

ok_of_four : {A : Type 0} (a b c : Bool) (e g k : FastLanesError) (x d : A) → (if a then Err e else if b then Err g else if c then Err k else Ok x) ≡ Ok d → x ≡ d
ok_of_four true b c e g k x d h = cc
ok_of_four false b c e g k x d h = ok_of_three b c g k x d h

-- what is picked is the choice
pub selected_is : (s : Selection) (c d : Column) → selected_column s c ≡ Ok d → choice_of s c ≡ d
selected_is (picks.Indices indices) c d h = ok_of_three (not (is_integer c.dtype && is_integer (column indices.now).dtype)) (not (list_all (is_in_range (length c.items)) (column indices.now).items)) NotInteger IndexOutOfBounds (take_of (column indices.now) c) d h
selected_is (picks.Ranges ranges) c d h = ok_of_four (not (is_integer c.dtype)) (not (list_all (range_fits (length c.items)) ranges.now)) (is_none (total_of ranges.now)) NotInteger RangeOutOfBounds LengthOverflow (ranges_of ranges.now c) d h
selected_is (picks.Mask mask) c d h = ok_of_three (not (mask_len mask.now == length c.items)) (not (is_integer c.dtype)) MaskLength NotInteger (filter_of mask.now c) d h

choice_type : (s : Selection) (c : Column) → integer_type (choice_of s c).dtype ≡ integer_type c.dtype
choice_type (picks.Indices indices) c = same_integers (either_nullable (nullability_in c.dtype) (nullability_in (column indices.now).dtype)) c.dtype
choice_type (picks.Ranges ranges) c = refl
choice_type (picks.Mask mask) c = refl

pub selected_type : (s : Selection) (c d : Column) → selected_column s c ≡ Ok d → integer_type d.dtype ≡ integer_type c.dtype
selected_type s c d h = ap (λ (x : Column). integer_type x.dtype) (sym (selected_is s c d h)) ∙ choice_type s c

pub picked_shown : (s : Selection) (c : Column) (a b : PrimitiveParts) → b ≡ record { ptype = a.ptype; slots = a.slots; validity = item_validity (nullability_of a.validity) (column_of_primitive a).items } → column_of_primitive b ≡ column_of_primitive a → selected_column s c ≡ Ok (column_of_primitive a) → SameShown (Primitive b) (Primitive (plain_of (choice_of s c)))
picked_shown s c a b parts same h = plain_shown a b (choice_of s c) parts same (sym (selected_is s c (column_of_primitive a) h))

-- ---- over one reference
pub for_is : (a : FoRArrayParts) (r : ScalarParts) → GlobalReference r ≡ a.references → tree_of_for a ≡ FoRGlobal a.encoded r
for_is a r same = ap (for_tree a.encoded) (sym same)

pub selected_over : (s : Selection) (a : FoRArrayParts) (part : Tree) (r : ScalarParts) → GlobalReference r ≡ a.references → selected_column s (column a.encoded) ≡ Ok (column part) → selected_column s (column (tree_of_for a)) ≡ Ok (column (FoRGlobal part r))
selected_over s a part r same h =
    ap (selected_column s) (global_column a r same) ∙ selected_of_global s (unwrap_or r.value (pos 0)) (column a.encoded) ∙ ap (mapped (global_for (unwrap_or r.value (pos 0)))) h

pub refused_mapped : {A B : Type 0} (f : A → B) (e : FastLanesError) (m : Result A FastLanesError) → Refuses e m → Refuses e (mapped f m)
refused_mapped f e m h = Refuses_map e m (mapped f m) (λ (refused : m ≡ Err e). ap (mapped f) refused) h

pub refused_over : (e : FastLanesError) (s : Selection) (a : FoRArrayParts) (t : Tree) (r : ScalarParts) → GlobalReference r ≡ a.references → tree_of_for a ≡ t → Refuses e (selected_column s (column a.encoded)) → Refuses e (selected_column s (column t))
refused_over e s a t r same is h =
    let whole : selected_column s (column t) ≡ mapped (global_for (unwrap_or r.value (pos 0))) (selected_column s (column a.encoded)) =
    ap (λ (x : Tree). selected_column s (column x)) (sym is) ∙ ap (selected_column s) (global_column a r same) ∙ selected_of_global s (unwrap_or r.value (pos 0)) (column a.encoded) in
    subst (Refuses e) (sym whole) (refused_mapped (global_for (unwrap_or r.value (pos 0))) e (selected_column s (column a.encoded)) h)

pub length_over : (s : Selection) (a : FoRArrayParts) (t : Tree) → tree_of_for a ≡ t → IsOfLength s (length (column t).items) → IsOfLength s (length (column a.encoded).items)
length_over s a t is h = subst (IsOfLength s) (ap (λ (x : Tree). length (column x).items) (sym is) ∙ for_len a) h

pub picked_over : (choice : Column → Column) (a : FoRArrayParts) (t part : Tree) (r : ScalarParts) → GlobalReference r ≡ a.references → tree_of_for a ≡ t → SameShown part (picked choice a.encoded) → SameShown (FoRGlobal part r) (picked choice t)
picked_over choice a t part r same is h =
    ap (λ (x : Tree). FoRGlobal x r) h ∙ ap (λ (x : Tree). normalized (picked choice x)) (sym (for_is a r same) ∙ is)

pub picked_plain : (choice : Column → Column) (t : Tree) → is_global_for t ≡ false → picked choice t ≡ Primitive (plain_of (choice (column t)))
picked_plain choice (Primitive p) h = refl
picked_plain choice (Constant c) h = refl
picked_plain choice (tree.Bool b) h = refl
picked_plain choice (BitPackedGlobal parts width) h = refl
picked_plain choice (BitPackedBlocked parts boundaries) h = refl
picked_plain choice (FoRGlobal encoded reference) h = cc
picked_plain choice (FoRChunked encoded references offset) h = refl
picked_plain choice (Delta bases deltas parts) h = refl
picked_plain choice (RLE values indices offsets window) h = refl
