-- FoR arrays: what is known of their parts, their items and slices.
use Rattle.std.proofs.Common.{◌≡◌, ◌==◌, ◌&&◌, ℕ, ℤ, pos, ◌+◌, ◌*◌, ◌/◌, ◌%◌, ◌<◌, ◌≤◌, ◌^◌, not, Bool, length, get_or, refl, ap, sym, ◌∙◌, true, false, None, Some, Ok, Option, arith}
use Rattle.std.specs.Prelude.{Result, option_map, unwrap_or, is_none, if◌then◌else◌}
use Rattle.std.proofs.lemmas.Bool.{eqb-true}
use Rattle.std.proofs.lemmas.List.{get_or-map}
use Rattle.fl_types.specs.declared.error.FastLanesError.{FastLanesError}
use Rattle.fl_types.specs.declared.error.FastLanesError.TheVariants.{NotInteger, NullReference, TypeMismatch, ReferenceCount}
use Rattle.fl_types.specs.declared.dtype.DType.{DType}
use Rattle.fl_types.specs.declared.dtype.DType.TheVariants as dtypes
use Rattle.fl_types.specs.declared.dtype.PType.{PType}
use Rattle.fl_types.specs.declared.dtype.Nullability.{Nullability}
use Rattle.fl_types.specs.declared.dtype.Nullability.TheVariants.{NonNullable, Nullable}
use Rattle.fl_types.specs.Types.{can_be_null, integer_type, is_integer, is_nullable, same_type}
use Rattle.fl_types.specs.Values.{ScalarParts}
use Rattle.fl_column.specs.Columns.{Column, ConstantParts, PrimitiveParts, column_of_primitive, integers_in, ptype_of_column}
use Rattle.fl_column.specs.Operations.{slice_of}
use Rattle.fl_column.specs.Queries.{scalar_in}
use Rattle.fl_column.specs.Chunks.{chunk_count}
use Rattle.fl_codec.specs.FoRColumns.{chunked_for, global_for, plus_reference}
use Rattle.fl_bitpacking.proofs.SoundParts.{neither, positions, same_ptype_is}
use Rattle.fl_codec.proofs.FoRSlices.{scalar_plus, integers_of-slice, item_of_chunked, item_of_global, slice_of_chunked, slice_of_global}
use Rattle.fl_bitpacking.specs.Refusals.{otherwise, positions_refusal}
use Rattle.fl_codec.specs.ChunkSlices.{end_chunk, first_chunk}
use Rattle.fl_array.proofs.FoRLaws.{for_dtype}
use Rattle.fl_array.specs.FoRArrays.{ChunkReferences, FoRArrayParts, FoRReferencesParts, GlobalReference, for_chunked_refusal, for_refusal, for_tree, has_no_constant, reference_count_refusal, reference_refusal, reference_type_refusal, references_of, refusal_of_for, tree_of_for}
use Rattle.fl_array.specs.Reads.{constant_in, integer_column}
use Rattle.fl_array.specs.Trees.{Tree, Primitive, Constant, BitPackedGlobal, BitPackedBlocked, FoRGlobal, FoRChunked, Delta, RLE, column}
use Rattle.fl_array.specs.Trees as tree

three : (a b d : Bool) (e f g : FastLanesError) → (if not a then Some e else if b then Some f else if not d then Some g else None) ≡ None → (a ≡ true) × (b ≡ false) × (d ≡ true)
three true false true e f g h = (refl, refl, refl)
three true false false e f g h = cc
three true true d e f g h = cc
three false b d e f g h = cc

two : (a b : Bool) (e f : FastLanesError) → (if not a then Some e else if not b then Some f else None) ≡ None → (a ≡ true) × (b ≡ true)
two true true e f h = (refl, refl)
two true false e f h = cc
two false b e f h = cc

one : (a b : Bool) (e : FastLanesError) → (if a && not b then None else Some e) ≡ None → (a ≡ true) × (b ≡ false)
one true false e h = (refl, refl)
one true true e h = cc
one false b e h = cc

-- two types of integers that are the same
pub same_integer : (d e : DType) → is_integer d ≡ true → same_type e d ≡ true → integer_type e ≡ integer_type d
same_integer (dtypes.Primitive p m) (dtypes.Primitive q n) i h = ap (λ (t : PType). Some t) (same_ptype_is q p h)
same_integer (dtypes.Primitive p m) (dtypes.Bool n) i h = cc
same_integer (dtypes.Bool m) e i h = cc

-- one reference
pub record HasReference (c : Column) (reference : ScalarParts) : Type 0 where
  pub integer : is_integer c.dtype ≡ true
  pub some : is_none reference.value ≡ false
  pub typed : integer_type reference.dtype ≡ integer_type c.dtype

pub has_reference : (a : FoRArrayParts) (reference : ScalarParts) → refusal_of_for a ≡ None → GlobalReference reference ≡ a.references → HasReference (column a.encoded) reference
has_reference a reference h same =
    let c = column a.encoded in
    let refusal : reference_refusal c.dtype reference ≡ None = ap (for_refusal c) same ∙ h in
    let all = three (is_integer c.dtype) (is_none reference.value) (same_type reference.dtype c.dtype) NotInteger NullReference TypeMismatch refusal in
    record { integer = all.0; some = all.1; typed = same_integer c.dtype reference.dtype all.0 all.2 }

-- a reference for each chunk
pub record HasReferences (c references : Column) (offset : ℕ) : Type 0 where
  pub low : offset < 1024
  pub few : 1024 * chunk_count (offset + length c.items) < 2 ^ 64
  pub integer : is_integer c.dtype ≡ true
  pub count : length references.items ≡ chunk_count (offset + length c.items)
  pub typed : integer_type references.dtype ≡ integer_type c.dtype
  pub non_nullable : is_nullable references.dtype ≡ false

pub has_references : (a : FoRArrayParts) (references : Tree) (offset : ℕ) → refusal_of_for a ≡ None → ChunkReferences references offset ≡ a.references → HasReferences (column a.encoded) (column references) offset
has_references a references offset h same =
    let c = column a.encoded in
    let refusal : for_refusal c (ChunkReferences references offset) ≡ None = ap (for_refusal c) same ∙ h in
    let parts = neither (reference_count_refusal offset (length c.items) c.dtype (length (column references).items)) (reference_type_refusal c.dtype (column references).dtype) refusal in
    let first = neither (positions_refusal offset (length c.items)) _ parts.0 in
    let at = positions offset (length c.items) first.0 in
    let counted = two (is_integer c.dtype) (length (column references).items == chunk_count (offset + length c.items)) NotInteger ReferenceCount first.1 in
    let types = one (same_type (column references).dtype c.dtype) (is_nullable (column references).dtype) TypeMismatch parts.1 in
    record {
      low = at.0;
      few = at.1;
      integer = counted.0;
      count = eqb-true _ _ counted.1;
      typed = same_integer c.dtype (column references).dtype counted.0 types.0;
      non_nullable = types.1;
    }

-- ---- the column
pub global_column : (a : FoRArrayParts) (reference : ScalarParts) → GlobalReference reference ≡ a.references → column (tree_of_for a) ≡ global_for (unwrap_or reference.value (pos 0)) (column a.encoded)
global_column a reference same = ap (λ (r : FoRReferencesParts). column (for_tree a.encoded r)) (sym same)

pub chunked_column : (a : FoRArrayParts) (references : Tree) (offset : ℕ) → ChunkReferences references offset ≡ a.references → column (tree_of_for a) ≡ chunked_for (integers_in (column references)) offset (column a.encoded)
chunked_column a references offset same = ap (λ (r : FoRReferencesParts). column (for_tree a.encoded r)) (sym same)

-- what an integer column answers
pub answered_column : (c : Column) (p : PrimitiveParts) → is_integer c.dtype ≡ true → Ok (column_of_primitive p) ≡ integer_column c → column_of_primitive p ≡ c
answered_column c p h e =
    let is : integer_column c ≡ Ok c = rw h refl in
    let ok : Result Column FastLanesError = Ok c in
    let same : (let left : Result Column FastLanesError = Ok (column_of_primitive p) in left) ≡ Ok c = e ∙ is in
    cc

pub non_nullable_is : (n : Nullability) → can_be_null n ≡ false → n ≡ NonNullable
non_nullable_is NonNullable h = refl
non_nullable_is Nullable h = cc

-- ---- items

pub global_item : (a : FoRArrayParts) (reference : ScalarParts) (i : ℕ) (item : ScalarParts) → GlobalReference reference ≡ a.references → i < length (column a.encoded).items → item ≡ scalar_in (column a.encoded) i
    → scalar_in (column (tree_of_for a)) i ≡ scalar_plus (unwrap_or reference.value (pos 0)) (ptype_of_column (column a.encoded)) item
global_item a reference i item same h e =
    ap (λ (c : Column). scalar_in c i) (global_column a reference same) ∙ item_of_global (unwrap_or reference.value (pos 0)) (column a.encoded) i h ∙ ap (scalar_plus (unwrap_or reference.value (pos 0)) (ptype_of_column (column a.encoded))) (sym e)

pub chunked_item : (a : FoRArrayParts) (references : Tree) (offset i : ℕ) (item reference : ScalarParts) → ChunkReferences references offset ≡ a.references → refusal_of_for a ≡ None → i < length (column a.encoded).items → item ≡ scalar_in (column a.encoded) i → reference ≡ scalar_in (column references) ((offset + i) / 1024)
    → scalar_in (column (tree_of_for a)) i ≡ scalar_plus (unwrap_or reference.value (pos 0)) (ptype_of_column (column a.encoded)) item
chunked_item a references offset i item reference same refused h e f =
    let s = has_references a references offset refused same in
    let count = s.count in
    let k = (offset + i) / 1024 in
    let at : get_or (integers_in (column references)) k (pos 0) ≡ unwrap_or reference.value (pos 0) = get_or-map (λ x. unwrap_or x (pos 0)) (column references).items k None (pos 0) (omega arith) ∙ ap (λ (x : ScalarParts). unwrap_or x.value (pos 0)) (sym f) in
    ap (λ (c : Column). scalar_in c i) (chunked_column a references offset same) ∙ item_of_chunked (integers_in (column references)) offset (column a.encoded) i h
    ∙ ap (λ (r : ℤ). scalar_plus r (ptype_of_column (column a.encoded)) (scalar_in (column a.encoded) i)) at
    ∙ ap (scalar_plus (unwrap_or reference.value (pos 0)) (ptype_of_column (column a.encoded))) (sym e)

-- ---- slices
pub global_slice : (a : FoRArrayParts) (reference : ScalarParts) (part : Tree) (start end : ℕ) → GlobalReference reference ≡ a.references → column part ≡ slice_of start end (column a.encoded) → column (for_tree part a.references) ≡ slice_of start end (column (tree_of_for a))
global_slice a reference part start end same e =
    ap (λ (r : FoRReferencesParts). column (for_tree part r)) (sym same) ∙ ap (global_for (unwrap_or reference.value (pos 0))) e ∙ sym (slice_of_global (unwrap_or reference.value (pos 0)) (column a.encoded) start end) ∙ ap (slice_of start end) (sym (global_column a reference same))

pub chunked_slice : (a : FoRArrayParts) (references part kept : Tree) (offset start end : ℕ) → ChunkReferences references offset ≡ a.references → start ≤ end → end ≤ length (column a.encoded).items → column part ≡ slice_of start end (column a.encoded)
    → column kept ≡ slice_of (first_chunk offset start) (end_chunk offset end) (column references)
    → chunked_for (integers_in (column kept)) ((offset + start) % 1024) (column part) ≡ slice_of start end (column (tree_of_for a))
chunked_slice a references part kept offset start end same o r e f =
    let cut = slice_of_chunked (integers_in (column references)) offset (column a.encoded) start end o r in
    let rest = ap integers_in f ∙ integers_of-slice (column references) (first_chunk offset start) (end_chunk offset end) in
    rw (rest, e) (sym (ap (slice_of start end) (chunked_column a references offset same) ∙ cut))

-- what is no constant array is a reference for each chunk
pub no_constant : (t : Tree) (offset : ℕ) → constant_in t ≡ None → references_of t offset ≡ ChunkReferences t offset
no_constant (Primitive p) offset h = refl
no_constant (Constant c) offset h = cc
no_constant (tree.Bool b) offset h = refl
no_constant (BitPackedGlobal parts width) offset h = refl
no_constant (BitPackedBlocked parts boundaries) offset h = refl
no_constant (FoRGlobal encoded reference) offset h = refl
no_constant (FoRChunked encoded references o) offset h = refl
no_constant (Delta bases deltas parts) offset h = refl
no_constant (RLE values indices offsets window) offset h = refl

-- what is kept of references is no constant array
pub no_constant_kept : (t : Tree) (offset : ℕ) → has_no_constant (references_of t offset) ≡ true
no_constant_kept (Primitive p) offset = refl
no_constant_kept (Constant c) offset = refl
no_constant_kept (tree.Bool b) offset = refl
no_constant_kept (BitPackedGlobal parts width) offset = refl
no_constant_kept (BitPackedBlocked parts boundaries) offset = refl
no_constant_kept (FoRGlobal encoded reference) offset = refl
no_constant_kept (FoRChunked encoded references o) offset = refl
no_constant_kept (Delta bases deltas parts) offset = refl
no_constant_kept (RLE values indices offsets window) offset = refl

integer_by : (c : Column) (r : FoRReferencesParts) → for_refusal c r ≡ None → is_integer c.dtype ≡ true
integer_by c (GlobalReference reference) h = (three (is_integer c.dtype) (is_none reference.value) (same_type reference.dtype c.dtype) NotInteger NullReference TypeMismatch h).0
integer_by c (ChunkReferences references offset) h =
    let parts = neither (reference_count_refusal offset (length c.items) c.dtype (length (column references).items)) (reference_type_refusal c.dtype (column references).dtype) h in
    let first = neither (positions_refusal offset (length c.items)) _ parts.0 in
    (two (is_integer c.dtype) (length (column references).items == chunk_count (offset + length c.items)) NotInteger ReferenceCount first.1).0

-- an item plus a reference that was read
pub scalar_restored : (c : Column) (item reference : ScalarParts) (p : PType) (z : ℤ) → reference.value ≡ Some z → integer_type c.dtype ≡ Some p → record { dtype = item.dtype; value = plus_reference p z item.value } ≡ scalar_plus (unwrap_or reference.value (pos 0)) (ptype_of_column c) item
scalar_restored c item reference p z e t = rw (e, t) refl

-- the encoded items are integers
pub for_is_integer : (a : FoRArrayParts) → refusal_of_for a ≡ None → is_integer (column a.encoded).dtype ≡ true
for_is_integer a h = integer_by (column a.encoded) a.references h

pub for_integers : (a : FoRArrayParts) → refusal_of_for a ≡ None → integer_column (column (tree_of_for a)) ≡ Ok (column (tree_of_for a))
for_integers a h =
    let typed = ap is_integer (for_dtype a) ∙ for_is_integer a h in
    rw typed refl

-- constant references are one, and all others one for each chunk
some_constant : (t : Tree) (offset : ℕ) (c : ConstantParts) → constant_in t ≡ Some c → references_of t offset ≡ GlobalReference c.scalar
some_constant (Primitive p) offset c h = cc
some_constant (Constant d) offset c h = let same : d ≡ c = cc in ap (λ (x : ConstantParts). GlobalReference x.scalar) same
some_constant (tree.Bool b) offset c h = cc
some_constant (BitPackedGlobal parts width) offset c h = cc
some_constant (BitPackedBlocked parts boundaries) offset c h = cc
some_constant (FoRGlobal encoded reference) offset c h = cc
some_constant (FoRChunked encoded references o) offset c h = cc
some_constant (Delta bases deltas parts) offset c h = cc
some_constant (RLE values indices offsets window) offset c h = cc

no_scalar : (x : Option ConstantParts) → (let none : Option ScalarParts = None in none) ≡ option_map (λ constant. constant.scalar) x → x ≡ None
no_scalar None h = refl
no_scalar (Some c) h = cc

scalar_there : (x : Option ConstantParts) (scalar : ScalarParts) → (let some : Option ScalarParts = Some scalar in some) ≡ option_map (λ constant. constant.scalar) x → (c : ConstantParts) × (x ≡ Some c) × (c.scalar ≡ scalar)
scalar_there None scalar h = cc
scalar_there (Some c) scalar h = (c, refl, cc)

pub held_none : (t : Tree) (offset : ℕ) → (let none : Option ScalarParts = None in none) ≡ option_map (λ constant. constant.scalar) (constant_in t) → references_of t offset ≡ ChunkReferences t offset
held_none t offset h = no_constant t offset (no_scalar (constant_in t) h)

pub held_some : (t : Tree) (offset : ℕ) (scalar : ScalarParts) → (let some : Option ScalarParts = Some scalar in some) ≡ option_map (λ constant. constant.scalar) (constant_in t) → references_of t offset ≡ GlobalReference scalar
held_some t offset scalar h = let there = scalar_there (constant_in t) scalar h in some_constant t offset there.0 there.1 ∙ ap GlobalReference there.2

pub ruleset references_by_constant = (held_none, held_some)

-- why items and the references of their chunks make no array, by what was read of the references
pub refused_by_count : (encoded : Column) (references : Tree) (offset : ℕ) (r : Option FastLanesError) (e : FastLanesError) → r ≡ reference_count_refusal offset (length encoded.items) encoded.dtype (length (column references).items) → r ≡ Some e → Some e ≡ for_chunked_refusal encoded references offset
refused_by_count encoded references offset r e counted is = ap (λ (x : Option FastLanesError). otherwise x (for_refusal encoded (references_of references offset))) (sym is ∙ counted)

pub refused_as_one : (encoded : Column) (references : Tree) (offset : ℕ) (reference : ScalarParts) (r : Option FastLanesError) → r ≡ reference_count_refusal offset (length encoded.items) encoded.dtype (length (column references).items) → r ≡ None → references_of references offset ≡ GlobalReference reference → reference_refusal encoded.dtype reference ≡ for_chunked_refusal encoded references offset
refused_as_one encoded references offset reference r counted is one =
    sym (ap (λ (x : Option FastLanesError). otherwise x (for_refusal encoded (references_of references offset))) (sym counted ∙ is) ∙ ap (for_refusal encoded) one)

pub refused_by_type : (encoded : Column) (references : Tree) (offset : ℕ) (r : Option FastLanesError) → r ≡ reference_count_refusal offset (length encoded.items) encoded.dtype (length (column references).items) → r ≡ None → references_of references offset ≡ ChunkReferences references offset → reference_type_refusal encoded.dtype (column references).dtype ≡ for_chunked_refusal encoded references offset
refused_by_type encoded references offset r counted is chunks =
    let none = sym counted ∙ is in
    sym (ap (λ (x : Option FastLanesError). otherwise x (for_refusal encoded (references_of references offset))) none ∙ (ap (for_refusal encoded) chunks ∙ ap (λ (x : Option FastLanesError). otherwise x (reference_type_refusal encoded.dtype (column references).dtype)) none))
