-- What is read where an array was written has its column and its kind.
use Rattle.std.proofs.Common.{◌≡◌, ◌∙◌, ℕ, ℤ, pos, ◌+◌, ◌<◌, false, cond, List, [], ◌∷◌, length, map, replicate, Option, Some, None, refl, ap}
use Rattle.std.specs.Prelude.{IsTrue, option_map, unwrap_or}
use Rattle.std.proofs.lemmas.Bool.{eq-eqb}
use Rattle.std.proofs.lemmas.List.{get_or-replicate, length-replicate}
use Rattle.fl_types.specs.declared.dtype.DType.{DType}
use Rattle.fl_types.specs.declared.dtype.DType.TheVariants as dtypes
use Rattle.fl_types.specs.declared.dtype.Nullability.{Nullability}
use Rattle.fl_types.specs.declared.dtype.Nullability.TheVariants.{NonNullable, Nullable}
use Rattle.fl_types.specs.declared.validity.Validity.{Validity}
use Rattle.fl_types.specs.declared.validity.Validity.TheVariants as valid
use Rattle.fl_types.specs.Validities.{covers, is_valid_at, items_of, masked, nullability_of}
use Rattle.fl_types.specs.Values.{bool_number}
use Rattle.fl_types.proofs.BitLists.{same_tables}
use Rattle.fl_column.specs.Columns.{Column, PrimitiveParts, integers_in, numbers_of, ptype_of_column}
use Rattle.fl_patches.specs.PatchMaps.{PatchesParts, patched_in}
use Rattle.fl_bitpacking.specs.Blocks.{Blocks, boundary_blocks, global_blocks}
use Rattle.fl_bitpacking.specs.Columns.{BitPackedParts, column_of_packed, packed_item, stored}
use Rattle.fl_codec.specs.Deltas.{delta_integer}
use Rattle.fl_codec.specs.FoRColumns.{chunked_for, global_for}
use Rattle.fl_array.specs.Trees.{BitPackedBlocked, BitPackedGlobal, Constant, Delta, DeltaParts, FoRChunked, FoRGlobal, Primitive, RLE, Tree, column, column_of_delta, column_of_rle}
use Rattle.fl_array.specs.Trees as tree
use Rattle.fl_array.specs.Kinds.{IsBitPackedBlocked, IsDelta, IsFoR, IsFoRChunked, IsRLE, kind}
use Rattle.fl_serde.specs.Plain.{plain_of}
use Rattle.fl_serde.specs.RoundTrip.{read_back, read_parts, read_patches, read_slots, read_validity}
use Rattle.fl_serde.proofs.PlainLaws.{integers_again}

-- ---- validities
pub read_valid : (v : Validity) (len i : ℕ) → i < len → is_valid_at (read_validity len v) i ≡ is_valid_at v i
read_valid valid.NonNullable len i lt = refl
read_valid valid.AllValid len i lt = refl
read_valid valid.AllInvalid len i lt = get_or-replicate len i false false lt
read_valid (valid.Array bits) len i lt = refl

pub read_nullable : (v : Validity) (len : ℕ) → nullability_of (read_validity len v) ≡ nullability_of v
read_nullable valid.NonNullable len = refl
read_nullable valid.AllValid len = refl
read_nullable valid.AllInvalid len = refl
read_nullable (valid.Array bits) len = refl

pub read_covers : (v : Validity) (len : ℕ) → IsTrue (covers v len) → IsTrue (covers (read_validity len v) len)
read_covers valid.NonNullable len covered = refl
read_covers valid.AllValid len covered = refl
read_covers valid.AllInvalid len covered = eq-eqb _ _ (length-replicate len false)
read_covers (valid.Array bits) len covered = covered

none_kept : {A : Type 0} (xs : List A) → masked (replicate (length xs) false) xs ≡ map (λ x. None) xs
none_kept [] = refl
none_kept (x ∷ xs) = ap (λ ys. None ∷ ys) (none_kept xs)

pub read_items : {A : Type 0} (v : Validity) (xs : List A) → items_of (read_validity (length xs) v) xs ≡ items_of v xs
read_items valid.NonNullable xs = refl
read_items valid.AllValid xs = refl
read_items valid.AllInvalid xs = none_kept xs
read_items (valid.Array bits) xs = refl

-- ---- columns of parts
pub same_column : (make : Nullability → DType) (m n : Nullability) (xs ys : List (Option ℤ)) → m ≡ n → xs ≡ ys → (let c : Column = record { dtype = make m; items = xs } in c) ≡ record { dtype = make n; items = ys }
same_column make m n xs ys e f = ap (λ k. record { dtype = make k; items = xs }) e ∙ ap (λ zs. record { dtype = make n; items = zs }) f

-- the slots that are read are those that were written
pub read_slots_slots : (n : Nullability) (p : PrimitiveParts) → (read_slots n p).slots ≡ p.slots
unfolding plain_of
read_slots_slots NonNullable p = integers_again p.slots
read_slots_slots Nullable p = integers_again p.slots

same_patches : (n : Nullability) (patches : Option PatchesParts) (i : ℕ) → patched_in (option_map (read_patches n) patches) i ≡ patched_in patches i
same_patches n None i = refl
same_patches n (Some p) i = rw (read_slots_slots NonNullable p.indices, read_slots_slots n p.values) refl

packed_column : (parts : BitPackedParts) (blocks : Blocks) → column_of_packed (read_parts parts) blocks ≡ column_of_packed parts blocks
unfolding packed_item
packed_column parts blocks = same_column (dtypes.Primitive parts.ptype) _ _ _ _ (read_nullable parts.validity parts.len)
    (same_tables (packed_item (read_parts parts) blocks) (packed_item parts blocks) parts.len
    (λ i h. ap (λ b. cond b (Some (unwrap_or (patched_in (option_map (read_patches (nullability_of parts.validity)) parts.patches) i) (stored parts blocks i))) None) (read_valid parts.validity parts.len i h)
    ∙ ap (λ patch. cond (is_valid_at parts.validity i) (Some (unwrap_or patch (stored parts blocks i))) None) (same_patches (nullability_of parts.validity) parts.patches i)))

-- item i of a delta array
abbrev shown_delta : Column → Column → ℕ → Validity → ℕ → Option ℤ
shown_delta bases deltas offset v i = cond (is_valid_at v i) (Some (delta_integer (ptype_of_column bases) (integers_in bases) (integers_in deltas) (offset + i))) None

-- the column of a delta array under the validity that is read
pub read_deltas : (bases deltas : Column) (parts : DeltaParts) → column_of_delta bases deltas (record { validity = read_validity parts.len parts.validity; offset = parts.offset; len = parts.len }) ≡ column_of_delta bases deltas parts
read_deltas bases deltas parts = same_column (dtypes.Primitive (ptype_of_column bases)) _ _ _ _ (read_nullable parts.validity parts.len)
    (same_tables (shown_delta bases deltas parts.offset (read_validity parts.len parts.validity)) (shown_delta bases deltas parts.offset parts.validity) parts.len
    (λ i lt. ap (λ b. cond b (Some (delta_integer (ptype_of_column bases) (integers_in bases) (integers_in deltas) (parts.offset + i))) None) (read_valid parts.validity parts.len i lt)))

-- ---- whole arrays
pub column_back : (t : Tree) → column (read_back t) ≡ column t
column_back (Primitive p) = same_column (dtypes.Primitive p.ptype) _ _ _ _ (read_nullable p.validity (length p.slots)) (read_items p.validity p.slots)
column_back (Constant c) = refl
column_back (tree.Bool b) = same_column (λ n. dtypes.Bool n) _ _ _ _ (read_nullable b.validity (length b.bits)) (ap (map (option_map bool_number)) (read_items b.validity b.bits))
column_back (BitPackedGlobal parts width) = packed_column parts (global_blocks width)
column_back (BitPackedBlocked parts boundaries) =
    packed_column parts (boundary_blocks (numbers_of (column (read_back boundaries)))) ∙ ap (λ c. column_of_packed parts (boundary_blocks (numbers_of c))) (column_back boundaries)
column_back (FoRGlobal encoded reference) = ap (global_for (unwrap_or reference.value (pos 0))) (column_back encoded)
column_back (FoRChunked encoded references offset) =
    ap (λ c. chunked_for (integers_in c) offset (column (read_back encoded))) (column_back references) ∙ ap (chunked_for (integers_in (column references)) offset) (column_back encoded)
column_back (Delta bases deltas parts) =
    read_deltas (column (read_back bases)) (column (read_back deltas)) parts
    ∙ ap (λ c. column_of_delta c (column (read_back deltas)) parts) (column_back bases)
    ∙ ap (λ c. column_of_delta (column bases) c parts) (column_back deltas)
column_back (RLE values indices offsets window) =
    ap (λ c. column_of_rle c (column (read_back indices)) (column (read_back offsets)) window) (column_back values)
    ∙ ap (λ c. column_of_rle (column values) c (column (read_back offsets)) window) (column_back indices)
    ∙ ap (λ c. column_of_rle (column values) (column indices) c window) (column_back offsets)

pub kind_back : (t : Tree) → kind (read_back t) ≡ kind t
kind_back (Primitive p) = refl
kind_back (Constant c) = refl
kind_back (tree.Bool b) = refl
kind_back (BitPackedGlobal parts width) = refl
kind_back (BitPackedBlocked parts boundaries) = ap IsBitPackedBlocked (kind_back boundaries)
kind_back (FoRGlobal encoded reference) = ap IsFoR (kind_back encoded)
kind_back (FoRChunked encoded references offset) = ap (λ k. IsFoRChunked k (kind (read_back references))) (kind_back encoded) ∙ ap (IsFoRChunked (kind encoded)) (kind_back references)
kind_back (Delta bases deltas parts) = ap (λ k. IsDelta k (kind (read_back deltas))) (kind_back bases) ∙ ap (IsDelta (kind bases)) (kind_back deltas)
kind_back (RLE values indices offsets window) =
    ap (λ k. IsRLE k (kind (read_back indices)) (kind (read_back offsets))) (kind_back values) ∙ ap (λ k. IsRLE (kind values) k (kind (read_back offsets))) (kind_back indices) ∙ ap (IsRLE (kind values) (kind indices)) (kind_back offsets)
