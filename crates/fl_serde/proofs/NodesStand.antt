-- What is read of a node stands for the node's column.
use Rattle.std.proofs.Common.{◌≡◌, ◌∙◌, ℕ, ℤ, pos, zero, suc, ◌+◌, ◌-◌, ◌<◌, ◌/◌, Bool, true, false, cond, List, [], ◌∷◌, ◌++◌, length, map, replicate, get_or, slice_get, Option, Some, None, Result, Ok, Err, refl, sym, ap, subst, arith}
use Rattle.std.specs.Prelude.{◌==◌, ◌&&◌, ◌||◌, IfOk, if◌then◌else◌, option_map, unwrap_or}
use Rattle.std.specs.Ordering.{int_eq}
use Rattle.std.proofs.lemmas.Bool.{eqb-true}
use Rattle.std.proofs.lemmas.List.{get_or-map, get_or-replicate, length-append, length-map, length-replicate}
use Rattle.std.proofs.lemmas.List.FromFn.{fill_by_all}
use Rattle.fl_types.specs.declared.dtype.DType.{DType}
use Rattle.fl_types.specs.declared.dtype.DType.TheVariants as dtypes
use Rattle.fl_types.specs.declared.dtype.Nullability.{Nullability}
use Rattle.fl_types.specs.declared.dtype.Nullability.TheVariants.{NonNullable, Nullable}
use Rattle.fl_types.specs.declared.dtype.PType.{PType}
use Rattle.fl_types.specs.declared.dtype.PType.TheVariants.{U8}
use Rattle.fl_types.specs.declared.error.FastLanesError.{FastLanesError}
use Rattle.fl_types.specs.declared.error.FastLanesError.TheVariants.{ChildMismatch, NotInteger, ValidityLength}
use Rattle.fl_types.specs.declared.validity.Validity.{Validity}
use Rattle.fl_types.specs.declared.validity.Validity.TheVariants as valid
use Rattle.fl_types.specs.Refusals.{Answers}
use Rattle.fl_types.specs.Bits.{tabulate}
use Rattle.fl_types.specs.Types.{integer_type, is_integer, is_nullable}
use Rattle.fl_types.specs.Validities.{covers, full_validity, is_valid_at, items_of, nullability_of}
use Rattle.fl_types.specs.Values.{bool_number}
use Rattle.fl_column.specs.Chunks.{chunk_count}
use Rattle.fl_column.specs.Columns.{Column, PrimitiveParts, integers_in, new_bools, new_constant, new_primitive, numbers_of, ptype_of_column}
use Rattle.fl_column.proofs.ItemLaws.{get_or-items_of, length-items_of}
use Rattle.fl_patches.specs.PatchMaps.{PatchesParts, patched_in, rank_of, refusal_of}
use Rattle.fl_codec.specs.Deltas.{delta_integer}
use Rattle.fl_codec.specs.FoRColumns.{chunked_for, global_for, plus_reference}
use Rattle.fl_codec.specs.RunColumns.{run_item}
use Rattle.fl_bitpacking.specs.Blocks.{Blocks, boundary_blocks, global_blocks, item_of_blocks}
use Rattle.fl_bitpacking.specs.Columns.{BitPackedParts, packed_item}
use Rattle.fl_bitpacking.proofs.Tables.{get_or-table, length-table}
use Rattle.fl_metadata.specs.Schemas.{◌>>=◌}
use Rattle.fl_metadata.specs.declared.patches.PatchesMetadata.{PatchesMetadata}
use Rattle.fl_array.specs.Trees.{DeltaParts, Tree, OffsetLen, column}
use Rattle.fl_array.specs.Trees as tree
use Rattle.fl_array.specs.BitPackedArrays.{BitWidthsParts, BlockBoundaries, GlobalWidth, bit_widths_refusal, blocks_of_widths, new_bitpacked, tree_of_bitpacked}
use Rattle.fl_array.specs.DeltaArrays.{new_delta, tree_of_delta}
use Rattle.fl_array.specs.FoRArrays.{GlobalReference, for_tree, new_for, new_for_chunked, references_of, tree_of_for}
use Rattle.fl_array.specs.RLEArrays.{new_rle, tree_of_rle}
use Rattle.fl_array.specs.Reads.{integer_column}
use Rattle.fl_serialized.specs.Nodes.{And, Head, NoMore, Node, Nodes, Of, head_of}
use Rattle.fl_serde.specs.declared.node_info.NodeInfo.{NodeInfo}
use Rattle.fl_serde.specs.declared.node_info.NodeInfo.TheVariants as infos
use Rattle.fl_serde.specs.declared.children.ExpectedChild.{ExpectedChild}
use Rattle.fl_serde.specs.Checks.{buffers_refusal, checked, count_refusal, info_of, node_refusal, own_bytes}
use Rattle.fl_serde.specs.Leaves.{bit_of_bytes, bits_of_bytes, slot_at, slots_of_bytes}
use Rattle.fl_serde.specs.Children.{back_children, child_count, expected_children, front_children, has_validity, same_dtype, takes_validity, validity_child}
use Rattle.fl_serde.specs.NodeColumns.{HasColumn, StandForEach, StandsFor, child_column, expected_of, is_valid_by, item_said, patch_of, validity_column}
use Rattle.fl_serde.specs.Plain.{decoded, plain_of}
use Rattle.fl_serde.specs.TypeAndLength.{HasTypeAndLength}
use Rattle.fl_serde.specs.Reading.{Child, bitpacked_over, blocked_over, chunk_offsets_in, decoded_offsets, delta_over, fitting, for_chunked_over, for_over, found_children, made, parts_over, patches_found, patches_over, plain_patches, read_children, read_node, reading, rle_over, scalar_over, validity_over}
use Rattle.fl_serde.proofs.NestedAgain.{none_otherwise}
use Rattle.fl_serde.proofs.TypesRead.{AreAsExpected, Says, accepted_is, all_typed_read, as_many, children_have, info_says, let_through, passes, same_ok, step, typed_read}

-- ---- children
-- the column that stands where no child does
abbrev nowhere : Column
nowhere = record { dtype = dtypes.Bool NonNullable; items = [] }

at_map : (trees : List Tree) (k : ℕ) (t : Tree) → slice_get trees k ≡ Some t → get_or (map column trees) k nowhere ≡ column t
at_map [] k t h = absurd cc
at_map (x ∷ trees) zero t h = ap column (some_is x t h)
  where
    some_is : (a b : Tree) → (let o : Option Tree = Some a in o) ≡ Some b → a ≡ b
    some_is a b e = cc
at_map (x ∷ trees) (suc k) t h = at_map trees k t h

get_map : (trees : List Tree) (k : ℕ) (t : Tree) → slice_get trees k ≡ Some t → slice_get (map column trees) k ≡ Some (column t)
get_map [] k t h = absurd cc
get_map (x ∷ trees) zero t h = ap (λ o. option_map column o) h
get_map (x ∷ trees) (suc k) t h = get_map trees k t h

-- the columns are as expected where the arrays are
expected_are : (expected : List ExpectedChild) (trees : List Tree) → AreAsExpected expected trees → map expected_of (map column trees) ≡ expected
expected_are [] [] h = refl
expected_are [] (t ∷ trees) h = absurd h
expected_are (asked ∷ expected) [] h = absurd h
expected_are (asked ∷ expected) (t ∷ trees) h =
    let first : expected_of (column t) ≡ asked = ap (λ d. let s : ExpectedChild = record { dtype = d; len = length (column t).items } in s) h.0.typed ∙ ap (λ n. let s : ExpectedChild = record { dtype = asked.dtype; len = n } in s) h.0.long in
    ap (λ s. s ∷ map expected_of (map column trees)) first ∙ ap (λ ss. asked ∷ ss) (expected_are expected trees h.1)

-- an array of booleans without nulls is a boolean one
abbrev IsPlainlyTrue : Tree → Type 0
IsPlainlyTrue t = (column t).dtype ≡ dtypes.Bool NonNullable → (bits : List Bool) × (t ≡ tree.Bool (record { bits = bits; validity = valid.NonNullable }))

abbrev AllPlainlyTrue : List Tree → Type 0
AllPlainlyTrue [] = Unit {0}
AllPlainlyTrue (t ∷ trees) = IsPlainlyTrue t × AllPlainlyTrue trees

-- an array among others that are as expected
record IsAmong (trees : List Tree) (k : ℕ) (asked : ExpectedChild) : Type 0 where
  array : Tree
  there : slice_get trees k ≡ Some array
  is : HasTypeAndLength array asked.dtype asked.len
  plainly : IsPlainlyTrue array

among : (front : List ExpectedChild) (asked : ExpectedChild) (back : List ExpectedChild) (trees : List Tree) → AreAsExpected (front ++ asked ∷ back) trees → AllPlainlyTrue trees → IsAmong trees (length front) asked
among [] asked back [] h all = absurd h
among [] asked back (t ∷ trees) h all = record { array = t; there = refl; is = h.0; plainly = all.0 }
among (first ∷ front) asked back [] h all = absurd h
among (first ∷ front) asked back (t ∷ trees) h all =
    let rest = among front asked back trees h.1 all.1 in
    record { array = rest.array; there = rest.there; is = rest.is; plainly = rest.plainly }

-- ---- validities
bits_say : (bits : List Bool) (i : ℕ) → int_eq (get_or (integers_in (column (tree.Bool (record { bits = bits; validity = valid.NonNullable })))) i (pos 0)) (pos 1) ≡ get_or bits i false
bits_say [] i = refl
bits_say (true ∷ bits) zero = refl
bits_say (false ∷ bits) zero = refl
bits_say (b ∷ bits) (suc i) = bits_say bits i

full_valid : (n : Nullability) (i : ℕ) → is_valid_at (full_validity n) i ≡ true
full_valid NonNullable i = refl
full_valid Nullable i = refl

-- a validity as it is read says what its column does
valid_same : (head : Head) (m : NodeInfo) (trees : List Tree) (i : ℕ) → AreAsExpected (expected_children head m (length trees)) trees → AllPlainlyTrue trees → is_valid_at (validity_over head m trees) i ≡ is_valid_by (validity_column head m (map column trees)) i
valid_same head m trees i shaped all = cases (has_validity head m (length trees)) refl
  where
    cases : (b : Bool) → has_validity head m (length trees) ≡ b → is_valid_at (validity_over head m trees) i ≡ is_valid_by (validity_column head m (map column trees)) i
    cases false e = rw (length-map trees column, e) (full_valid _ i)
    cases true e =
        let expected : AreAsExpected (front_children head m ++ validity_child head.len ∷ back_children head m) trees = subst (λ b. AreAsExpected (front_children head m ++ ((if b then validity_child head.len ∷ [] else []) ++ back_children head m)) trees) e shaped in
        let found = among (front_children head m) (validity_child head.len) (back_children head m) trees expected all in
        let bools = found.plainly found.is.typed in
        let there : slice_get trees (length (front_children head m)) ≡ Some (tree.Bool (record { bits = bools.0; validity = valid.NonNullable })) = found.there ∙ ap (λ t. Some t) bools.1 in
        rw (length-map trees column, e, there, get_map trees (length (front_children head m)) _ there) (sym (bits_say bools.0 i))

-- ---- the items of each kind
-- a column whose items are a node's
as_said : (c : Column) (head : Head) (m : NodeInfo) (columns : List Column) → c.dtype ≡ head.dtype → length c.items ≡ head.len → ((i : ℕ) → i < head.len → get_or c.items i None ≡ item_said head m columns i)
    → c ≡ record { dtype = head.dtype; items = tabulate (item_said head m columns) head.len }
as_said c head m columns typed long each =
    ap (λ d. let x : Column = record { dtype = d; items = c.items } in x) typed ∙ ap (λ items. let x : Column = record { dtype = head.dtype; items = items } in x) (fill_by_all (item_said head m columns) c.items head.len None long each)

-- an integer where two validities agree
valid_item : (a b : Bool) (x y : ℤ) → a ≡ b → x ≡ y → cond a (Some x) None ≡ cond b (Some y) None
valid_item a b x y e f = rw (e, f) refl

primitive_items : (head : Head) (p : PType) (trees : List Tree) (t : Tree) (i : ℕ) → i < head.len → is_valid_at (validity_over head (infos.Primitive p) trees) i ≡ is_valid_by (validity_column head (infos.Primitive p) (map column trees)) i
    → made head (infos.Primitive p) trees ≡ Ok t → get_or (column t).items i None ≡ item_said head (infos.Primitive p) (map column trees) i
primitive_items head p trees t i lt valids h =
    let v = validity_over head (infos.Primitive p) trees in
    let slots = slots_of_bytes p (own_bytes head) head.len in
    let s = step (new_primitive p slots v) _ t h in
    let parts = let_through (covers v (length slots)) (record { ptype = p; slots = slots; validity = v }) s.value ValidityLength s.made in
    subst (λ x. get_or (column x).items i None ≡ item_said head (infos.Primitive p) (map column trees) i) (ap tree.Primitive parts.1 ∙ same_ok _ t s.rest)
    (get_or-items_of v slots i (pos 0) parts.0 (rw (length-table (slot_at p (own_bytes head)) head.len) lt) ∙ valid_item _ _ _ _ valids (get_or-table (slot_at p (own_bytes head)) head.len i (pos 0) lt))

bool_item : (b : Bool) (x : Bool) → option_map bool_number (cond b (Some x) None) ≡ cond b (Some (bool_number x)) None
bool_item true x = refl
bool_item false x = refl

bool_items : (head : Head) (trees : List Tree) (t : Tree) (i : ℕ) → i < head.len → is_valid_at (validity_over head infos.Bool trees) i ≡ is_valid_by (validity_column head infos.Bool (map column trees)) i
    → made head infos.Bool trees ≡ Ok t → get_or (column t).items i None ≡ item_said head infos.Bool (map column trees) i
bool_items head trees t i lt valids h =
    let v = validity_over head infos.Bool trees in
    let bits = bits_of_bytes (own_bytes head) head.len in
    let s = step (new_bools bits v) _ t h in
    let parts = let_through (covers v (length bits)) (record { bits = bits; validity = v }) s.value ValidityLength s.made in
    let here : i < length bits = rw (length-table (bit_of_bytes (own_bytes head)) head.len) lt in
    let within : i < length (items_of v bits) = rw (length-items_of v bits parts.0) here in
    subst (λ x. get_or (column x).items i None ≡ item_said head infos.Bool (map column trees) i) (ap tree.Bool parts.1 ∙ same_ok _ t s.rest)
    (get_or-map (option_map bool_number) (items_of v bits) i None None within
    ∙ ap (option_map bool_number) (get_or-items_of v bits i false parts.0 here)
    ∙ bool_item (is_valid_at v i) (get_or bits i false)
    ∙ valid_item _ _ _ _ valids (ap bool_number (get_or-table (bit_of_bytes (own_bytes head)) head.len i false lt)))

value_again : (p : PType) (n : Nullability) (value : Option ℤ) → (scalar_over p n value).value ≡ value
value_again p n None = refl
value_again p n (Some z) = refl

constant_items : (head : Head) (p : PType) (n : Nullability) (value : Option ℤ) (t : Tree) (i : ℕ) → i < head.len → (new_constant (scalar_over p n value) head.len >>= λ c. Ok (tree.Constant c)) ≡ Ok t → get_or (column t).items i None ≡ value
constant_items head p n value t i lt h =
    let scalar = scalar_over p n value in
    let s = step (new_constant scalar head.len) _ t h in
    let parts = let_through (is_integer scalar.dtype) (record { scalar = scalar; len = head.len }) s.value NotInteger s.made in
    subst (λ x. get_or (column x).items i None ≡ value) (ap tree.Constant parts.1 ∙ same_ok _ t s.rest) (get_or-replicate head.len i scalar.value None lt ∙ value_again p n value)

-- ---- packed items
-- columns held plain
plain_is : (t : Tree) (p : PrimitiveParts) → decoded t ≡ Ok p → p ≡ plain_of (column t)
plain_is t p h =
    let s = step (integer_column (column t)) _ p h in
    let c = let_through (is_integer (column t).dtype) (column t) s.value NotInteger s.made in
    sym (same_ok _ p s.rest) ∙ ap plain_of (sym c.1)

-- patches of indices and values that are held plain
plain_item : (p : PatchesParts) (indices values : Column) (offset i : ℕ) → p.offset ≡ offset → p.indices ≡ plain_of indices → p.values ≡ plain_of values
    → patched_in (Some p) i ≡ option_map (λ rank. get_or (integers_in values) rank (pos 0)) (rank_of (offset + i) (numbers_of indices))
unfolding plain_of
plain_item p indices values offset i e f g = rw (e, f, g) refl

patch_item : (len offset : ℕ) (indices values : Tree) (offsets : Option Tree) (p : PatchesParts) (i : ℕ) → plain_patches len offset indices values offsets ≡ Ok p
    → patched_in (Some p) i ≡ option_map (λ rank. get_or (integers_in (column values)) rank (pos 0)) (rank_of (offset + i) (numbers_of (column indices)))
patch_item len offset indices values offsets p i h =
    let first = step (decoded indices) _ p h in
    let second = step (decoded values) _ p first.rest in
    let third = step (decoded_offsets offsets) _ p second.rest in
    let parts : PatchesParts = record { array_len = len; offset = offset; indices = first.value; values = second.value; chunk_offsets = third.value } in
    let is = accepted_is parts p (refusal_of parts) third.rest in
    subst (λ q. patched_in (Some q) i ≡ option_map (λ rank. get_or (integers_in (column values)) rank (pos 0)) (rank_of (offset + i) (numbers_of (column indices)))) is.1
    (plain_item parts (column indices) (column values) offset i refl (plain_is indices first.value first.made) (plain_is values second.value second.made))

patches_items : (len : ℕ) (m : Option PatchesMetadata) (trees : List Tree) (patches : Option PatchesParts) (i : ℕ) → patches_found len m trees ≡ Ok patches → patched_in patches i ≡ patch_of m (map column trees) i
patches_items len None trees patches i h = subst (λ q. patched_in q i ≡ None) (same_ok None patches h) refl
patches_items len (Some m) [] patches i h = absurd cc
patches_items len (Some m) (indices ∷ []) patches i h = absurd cc
patches_items len (Some m) (indices ∷ values ∷ others) patches i h =
    let found = step (patches_over len m (indices ∷ values ∷ others)) _ patches h in
    let offsets = step (chunk_offsets_in m.chunk_offsets others) _ found.value found.made in
    subst (λ q. patched_in q i ≡ patch_of (Some m) (map column (indices ∷ values ∷ others)) i) (same_ok _ patches found.rest) (patch_item len m.offset indices values offsets.value found.value i offsets.rest)

packed_items : (parts : BitPackedParts) (widths : BitWidthsParts) (t : Tree) (i : ℕ) → i < parts.len → bitpacked_over parts widths ≡ Ok t → get_or (column t).items i None ≡ packed_item parts (blocks_of_widths widths) i
packed_items parts widths t i lt h =
    let s = step (new_bitpacked parts widths) _ t h in
    let is = accepted_is (record { parts = parts; widths = widths }) s.value (bit_widths_refusal parts widths) s.made in
    subst (λ x. get_or (column x).items i None ≡ packed_item parts (blocks_of_widths widths) i) (ap tree_of_bitpacked is.1 ∙ same_ok _ t s.rest) (cases widths)
  where
    cases : (widths : BitWidthsParts) → get_or (column (tree_of_bitpacked (record { parts = parts; widths = widths }))).items i None ≡ packed_item parts (blocks_of_widths widths) i
    cases (GlobalWidth width) = get_or-table (packed_item parts (global_blocks width)) parts.len i None lt
    cases (BlockBoundaries boundaries) = get_or-table (packed_item parts (boundary_blocks (numbers_of (column boundaries)))) parts.len i None lt

-- a packed item by its validity and its patch
item_is : (parts : BitPackedParts) (blocks : Blocks) (i : ℕ) (valid : Bool) (patch : Option ℤ) → is_valid_at parts.validity i ≡ valid → patched_in parts.patches i ≡ patch
    → packed_item parts blocks i ≡ cond valid (Some (unwrap_or patch (item_of_blocks parts.ptype blocks parts.packed (parts.offset + i)))) None
unfolding packed_item
item_is parts blocks i valid patch e f = rw (e, f) refl

blocked_items : (parts : BitPackedParts) (trees : List Tree) (t : Tree) (i : ℕ) → i < parts.len → blocked_over parts (slice_get trees (length trees - 1)) ≡ Ok t
    → get_or (column t).items i None ≡ packed_item parts (boundary_blocks (numbers_of (child_column (map column trees) (length (map column trees) - 1)))) i
blocked_items parts trees t i lt h = cases (slice_get trees (length trees - 1)) refl h
  where
    cases : (o : Option Tree) → slice_get trees (length trees - 1) ≡ o → blocked_over parts o ≡ Ok t → get_or (column t).items i None ≡ packed_item parts (boundary_blocks (numbers_of (child_column (map column trees) (length (map column trees) - 1)))) i
    cases None e k = absurd cc
    cases (Some boundaries) e k = rw (length-map trees column, at_map trees (length trees - 1) boundaries e) (packed_items parts (BlockBoundaries boundaries) t i lt k)

-- ---- items over encoded ones
ptype_is : (c : Column) (d : DType) (p : PType) (n : Nullability) → c.dtype ≡ d → d ≡ dtypes.Primitive p n → ptype_of_column c ≡ p
ptype_is c d p n e f = ap (λ x. unwrap_or (integer_type x) U8) (e ∙ f)

-- items plus one reference
one_reference : (reference : ℤ) (c : Column) (p : PType) (i : ℕ) → ptype_of_column c ≡ p → i < length c.items → get_or (global_for reference c).items i None ≡ plus_reference p reference (get_or c.items i None)
one_reference reference c p i e lt = get_or-map (plus_reference (ptype_of_column c) reference) c.items i None None lt ∙ ap (λ q. plus_reference q reference (get_or c.items i None)) e

for_items : (encoded : Tree) (others : List Tree) (p : PType) (n : Nullability) (value : Option ℤ) (t : Tree) (i : ℕ) → ptype_of_column (column encoded) ≡ p → i < length (column encoded).items → for_over (scalar_over p n value) (encoded ∷ others) ≡ Ok t
    → get_or (column t).items i None ≡ plus_reference p (unwrap_or value (pos 0)) (get_or (column encoded).items i None)
for_items encoded others p n value t i typed lt h =
    let s = step (new_for encoded (scalar_over p n value)) _ t h in
    let is = accepted_is (record { encoded = encoded; references = GlobalReference (scalar_over p n value) }) s.value _ s.made in
    subst (λ x. get_or (column x).items i None ≡ plus_reference p (unwrap_or value (pos 0)) (get_or (column encoded).items i None)) (ap tree_of_for is.1 ∙ same_ok _ t s.rest)
    (one_reference (unwrap_or (scalar_over p n value).value (pos 0)) (column encoded) p i typed lt ∙ ap (λ r. plus_reference p (unwrap_or r (pos 0)) (get_or (column encoded).items i None)) (value_again p n value))

-- the item of a chunked array by that of the encoded one
abbrev IsPlusItsChunks : PType → Column → Column → ℕ → ℕ → Column → Type 0
IsPlusItsChunks p encoded references offset i c = get_or c.items i None ≡ plus_reference p (get_or (integers_in references) ((offset + i) / 1024) (pos 0)) (get_or encoded.items i None)

chunked_items : (encoded references : Column) (offset : ℕ) (p : PType) (i : ℕ) → ptype_of_column encoded ≡ p → i < length encoded.items → IsPlusItsChunks p encoded references offset i (chunked_for (integers_in references) offset encoded)
chunked_items encoded references offset p i typed lt =
    get_or-table (λ i. plus_reference (ptype_of_column encoded) (get_or (integers_in references) ((offset + i) / 1024) (pos 0)) (get_or encoded.items i None)) (length encoded.items) i None lt
    ∙ ap (λ q. plus_reference q (get_or (integers_in references) ((offset + i) / 1024) (pos 0)) (get_or encoded.items i None)) typed

-- one reference that stands for those of all chunks
repeated : (value : Option ℤ) (count k : ℕ) → k < count → get_or (map (λ item. unwrap_or item (pos 0)) (replicate count value)) k (pos 0) ≡ unwrap_or value (pos 0)
repeated value count k lt = get_or-map (λ item. unwrap_or item (pos 0)) (replicate count value) k None (pos 0) (rw (length-replicate count value) lt) ∙ ap (λ item. unwrap_or item (pos 0)) (get_or-replicate count k value None lt)

in_chunks : (offset i len : ℕ) → i < len → (offset + i) / 1024 < chunk_count (offset + len)
in_chunks offset i len lt = omega (arith, lt)

references_items : (encoded : Column) (references : Tree) (offset : ℕ) (p : PType) (i : ℕ) (e : Tree) → column e ≡ encoded → ptype_of_column encoded ≡ p → i < length encoded.items → length (column references).items ≡ chunk_count (offset + length encoded.items)
    → IsPlusItsChunks p encoded (column references) offset i (column (for_tree e (references_of references offset)))
references_items encoded (tree.Constant c) offset p i e is typed lt count =
    let few : c.len ≡ chunk_count (offset + length encoded.items) = sym (length-replicate c.len c.scalar.value) ∙ count in
    let here : (offset + i) / 1024 < c.len = rw few (in_chunks offset i (length encoded.items) lt) in
    rw (is, repeated c.scalar.value c.len ((offset + i) / 1024) here) (one_reference (unwrap_or c.scalar.value (pos 0)) encoded p i typed lt)
references_items encoded (tree.Primitive q) offset p i e is typed lt count = rw is (chunked_items encoded (column (tree.Primitive q)) offset p i typed lt)
references_items encoded (tree.Bool b) offset p i e is typed lt count = rw is (chunked_items encoded (column (tree.Bool b)) offset p i typed lt)
references_items encoded (tree.BitPackedGlobal parts width) offset p i e is typed lt count = rw is (chunked_items encoded (column (tree.BitPackedGlobal parts width)) offset p i typed lt)
references_items encoded (tree.BitPackedBlocked parts boundaries) offset p i e is typed lt count = rw is (chunked_items encoded (column (tree.BitPackedBlocked parts boundaries)) offset p i typed lt)
references_items encoded (tree.FoRGlobal x r) offset p i e is typed lt count = rw is (chunked_items encoded (column (tree.FoRGlobal x r)) offset p i typed lt)
references_items encoded (tree.FoRChunked x r o) offset p i e is typed lt count = rw is (chunked_items encoded (column (tree.FoRChunked x r o)) offset p i typed lt)
references_items encoded (tree.Delta x y parts) offset p i e is typed lt count = rw is (chunked_items encoded (column (tree.Delta x y parts)) offset p i typed lt)
references_items encoded (tree.RLE x y z window) offset p i e is typed lt count = rw is (chunked_items encoded (column (tree.RLE x y z window)) offset p i typed lt)

for_chunked_items : (encoded references : Tree) (others : List Tree) (offset : ℕ) (p : PType) (t : Tree) (i : ℕ) → ptype_of_column (column encoded) ≡ p → i < length (column encoded).items → length (column references).items ≡ chunk_count (offset + length (column encoded).items)
    → for_chunked_over offset (encoded ∷ references ∷ others) ≡ Ok t → IsPlusItsChunks p (column encoded) (column references) offset i (column t)
for_chunked_items encoded references others offset p t i typed lt count h =
    let s = step (new_for_chunked encoded references offset) _ t h in
    let is = accepted_is (record { encoded = encoded; references = references_of references offset }) s.value _ s.made in
    subst (λ x. IsPlusItsChunks p (column encoded) (column references) offset i (column x)) (ap tree_of_for is.1 ∙ same_ok _ t s.rest) (references_items (column encoded) references offset p i encoded refl typed lt count)

delta_items_are : (bases deltas : Tree) (others : List Tree) (parts : DeltaParts) (p : PType) (t : Tree) (i : ℕ) (valid : Bool) → ptype_of_column (column bases) ≡ p → i < parts.len → is_valid_at parts.validity i ≡ valid → delta_over parts (bases ∷ deltas ∷ others) ≡ Ok t
    → get_or (column t).items i None ≡ cond valid (Some (delta_integer p (integers_in (column bases)) (integers_in (column deltas)) (parts.offset + i))) None
delta_items_are bases deltas others parts p t i valid typed lt valids h =
    let s = step (new_delta bases deltas parts) _ t h in
    let is = accepted_is (record { bases = bases; deltas = deltas; parts = parts }) s.value _ s.made in
    subst (λ x. get_or (column x).items i None ≡ cond valid (Some (delta_integer p (integers_in (column bases)) (integers_in (column deltas)) (parts.offset + i))) None) (ap tree_of_delta is.1 ∙ same_ok _ t s.rest)
    (get_or-table (λ i. cond (is_valid_at parts.validity i) (Some (delta_integer (ptype_of_column (column bases)) (integers_in (column bases)) (integers_in (column deltas)) (parts.offset + i))) None) parts.len i None lt
    ∙ valid_item _ _ _ _ valids (ap (λ q. delta_integer q (integers_in (column bases)) (integers_in (column deltas)) (parts.offset + i)) typed))

rle_items : (values indices offsets : Tree) (others : List Tree) (window : OffsetLen) (t : Tree) (i : ℕ) → i < window.len → rle_over window (values ∷ indices ∷ offsets ∷ others) ≡ Ok t
    → get_or (column t).items i None ≡ run_item (integers_in (column values)) (column indices).items (numbers_of (column offsets)) (window.offset + i)
rle_items values indices offsets others window t i lt h =
    let s = step (new_rle values indices offsets window) _ t h in
    let is = accepted_is (record { values = values; indices = indices; offsets = offsets; window = window }) s.value _ s.made in
    subst (λ x. get_or (column x).items i None ≡ run_item (integers_in (column values)) (column indices).items (numbers_of (column offsets)) (window.offset + i)) (ap tree_of_rle is.1 ∙ same_ok _ t s.rest)
    (get_or-table (λ i. run_item (integers_in (column values)) (column indices).items (numbers_of (column offsets)) (window.offset + i)) window.len i None lt)

-- ---- any node
-- a length that is expected
long_as : (encoded : Tree) (len : ℕ) (i : ℕ) → length (column encoded).items ≡ len → i < len → i < length (column encoded).items
long_as encoded len i e lt = rw e lt

made_items : (head : Head) (m : NodeInfo) (trees : List Tree) (t : Tree) (i : ℕ) → i < head.len → Says m head.dtype → AreAsExpected (expected_children head m (length trees)) trees → AllPlainlyTrue trees → made head m trees ≡ Ok t
    → get_or (column t).items i None ≡ item_said head m (map column trees) i
made_items head (infos.Primitive p) trees t i lt typed expected plainly h = primitive_items head p trees t i lt (valid_same head (infos.Primitive p) trees i expected plainly) h
made_items head (infos.Constant p value) trees t i lt typed expected plainly h = constant_items head p _ value t i lt h
made_items head infos.Bool trees t i lt typed expected plainly h = bool_items head trees t i lt (valid_same head infos.Bool trees i expected plainly) h
made_items head (infos.BitPacked p m) trees t i lt typed expected plainly h =
    let v = validity_over head (infos.BitPacked p m) trees in
    let s = step (patches_found head.len m.patches trees) _ t h in
    let parts = parts_over head p v s.value m.offset in
    packed_items parts (GlobalWidth m.bit_width) t i lt s.rest
    ∙ item_is parts (global_blocks m.bit_width) i _ _ (valid_same head (infos.BitPacked p m) trees i expected plainly) (patches_items head.len m.patches trees s.value i s.made)
made_items head (infos.BitPackedBlocked p m) trees t i lt typed expected plainly h =
    let v = validity_over head (infos.BitPackedBlocked p m) trees in
    let s = step (patches_found head.len m.patches trees) _ t h in
    let parts = parts_over head p v s.value m.offset in
    blocked_items parts trees t i lt s.rest
    ∙ item_is parts _ i _ _ (valid_same head (infos.BitPackedBlocked p m) trees i expected plainly) (patches_items head.len m.patches trees s.value i s.made)
made_items head (infos.FoR p value) [] t i lt typed expected plainly h = absurd cc
made_items head (infos.FoR p value) (encoded ∷ others) t i lt typed expected plainly h =
    for_items encoded others p NonNullable value t i (ptype_is (column encoded) head.dtype p typed.0 expected.0.typed typed.1) (long_as encoded head.len i expected.0.long lt) h
made_items head (infos.FoRChunked p m) [] t i lt typed expected plainly h = absurd cc
made_items head (infos.FoRChunked p m) (encoded ∷ []) t i lt typed expected plainly h = absurd cc
made_items head (infos.FoRChunked p m) (encoded ∷ references ∷ others) t i lt typed expected plainly h =
    for_chunked_items encoded references others m.offset p t i (ptype_is (column encoded) head.dtype p typed.0 expected.0.typed typed.1) (long_as encoded head.len i expected.0.long lt)
    (expected.1.0.long ∙ ap (λ n. chunk_count (m.offset + n)) (sym expected.0.long)) h
made_items head (infos.Delta p m) [] t i lt typed expected plainly h = absurd cc
made_items head (infos.Delta p m) (bases ∷ []) t i lt typed expected plainly h = absurd cc
made_items head (infos.Delta p m) (bases ∷ deltas ∷ others) t i lt typed expected plainly h =
    let trees : List Tree = bases ∷ deltas ∷ others in
    delta_items_are bases deltas others (record { validity = validity_over head (infos.Delta p m) trees; offset = m.offset; len = head.len }) p t i _ (ptype_is (column bases) (dtypes.Primitive p NonNullable) p NonNullable expected.0.typed refl) lt
    (valid_same head (infos.Delta p m) trees i expected plainly) h
made_items head (infos.RLE p m) [] t i lt typed expected plainly h = absurd cc
made_items head (infos.RLE p m) (values ∷ []) t i lt typed expected plainly h = absurd cc
made_items head (infos.RLE p m) (values ∷ indices ∷ []) t i lt typed expected plainly h = absurd cc
made_items head (infos.RLE p m) (values ∷ indices ∷ offsets ∷ others) t i lt typed expected plainly h = rle_items values indices offsets others (record { offset = m.offset; len = head.len }) t i lt h

-- ---- what is read of a node
-- as many children are asked for as there are
all_asked : (head : Head) (m : NodeInfo) (count : ℕ) → count_refusal head m count ≡ None → length (expected_children head m count) ≡ count
all_asked head m count fine = cases (has_validity head m count) refl
  where
    cases : (b : Bool) → has_validity head m count ≡ b → length (expected_children head m count) ≡ count
    cases true e =
        let counted : count ≡ child_count head m + 1 = eqb-true _ _ e in
        let front : length (front_children head m ++ validity_child head.len ∷ back_children head m) ≡ length (front_children head m) + length (validity_child head.len ∷ back_children head m) = length-append (front_children head m) (validity_child head.len ∷ back_children head m) in
        rw e (omega (arith, counted, front))
    cases false e =
        let all : (count == child_count head m) ≡ true = counted_all (count == child_count head m) (has_validity head m count) (takes_validity m && is_nullable head.dtype) e (passes _ _ fine) in
        rw e (length-append (front_children head m) (back_children head m) ∙ sym (eqb-true _ _ all))
      where
        counted_all : (a b c : Bool) → b ≡ false → (a || (b && c)) ≡ true → a ≡ true
        counted_all true b c f h = refl
        counted_all false true c f h = absurd cc
        counted_all false false c f h = absurd cc

-- what a node that is read says, and the arrays of its children
record IsReadOver (head : Head) (children : List Child) (t : Tree) : Type 0 where
  info : NodeInfo
  trees : List Tree
  said : checked head (length children) ≡ Ok info
  typed : Says info head.dtype
  counted : count_refusal head info (length children) ≡ None
  read : read_children (expected_children head info (length children)) children ≡ Ok trees
  result : made head info trees ≡ Ok t

read_over : (head : Head) (children : List Child) (t : Tree) → read_node head children ≡ Ok t → IsReadOver head children t
read_over head children t h =
    let check = step (checked head (length children)) _ t h in
    let rest = step (read_children (expected_children head check.value (length children)) children) _ t check.rest in
    let said = step (info_of head) _ check.value check.made in
    let fine = accepted_is said.value check.value (node_refusal head said.value (length children)) said.rest in
    let none : node_refusal head check.value (length children) ≡ None = ap (λ m. node_refusal head m (length children)) (sym fine.1) ∙ fine.0 in
    let counted = none_otherwise (count_refusal head check.value (length children)) _ (none_otherwise (buffers_refusal head check.value) _ none).1 in
    record {
      info = check.value;
      trees = rest.value;
      said = check.made;
      typed = info_says head check.value (said.made ∙ ap (λ m. Ok m) fine.1);
      counted = counted.0;
      read = rest.made;
      result = rest.rest;
    }

-- an array that is not of booleans
never_bool : (t : Tree) (d : DType) (p : PType) (n : Nullability) → (column t).dtype ≡ d → d ≡ dtypes.Primitive p n → IsPlainlyTrue t
never_bool t d p n e f g = absurd (differ (sym (e ∙ f) ∙ g))
  where
    differ : dtypes.Primitive p n ≡ dtypes.Bool NonNullable → ⊥
    differ h = absurd cc

no_nulls : (v : Validity) → nullability_of v ≡ NonNullable → v ≡ valid.NonNullable
no_nulls valid.NonNullable h = refl
no_nulls valid.AllValid h = absurd cc
no_nulls valid.AllInvalid h = absurd cc
no_nulls (valid.Array bits) h = absurd cc

bool_nulls : (a b : Nullability) → dtypes.Bool a ≡ dtypes.Bool b → a ≡ b
bool_nulls a b h = cc

made_plainly : (head : Head) (m : NodeInfo) (trees : List Tree) (t : Tree) → Says m head.dtype → (column t).dtype ≡ head.dtype → made head m trees ≡ Ok t → IsPlainlyTrue t
made_plainly head (infos.Primitive p) trees t typed is h = never_bool t head.dtype p typed.0 is typed.1
made_plainly head (infos.Constant p value) trees t typed is h = never_bool t head.dtype p typed.0 is typed.1
made_plainly head (infos.BitPacked p m) trees t typed is h = never_bool t head.dtype p typed.0 is typed.1
made_plainly head (infos.BitPackedBlocked p m) trees t typed is h = never_bool t head.dtype p typed.0 is typed.1
made_plainly head (infos.FoR p value) trees t typed is h = never_bool t head.dtype p typed.0 is typed.1
made_plainly head (infos.FoRChunked p m) trees t typed is h = never_bool t head.dtype p typed.0 is typed.1
made_plainly head (infos.Delta p m) trees t typed is h = never_bool t head.dtype p typed.0 is typed.1
made_plainly head (infos.RLE p m) trees t typed is h = never_bool t head.dtype p typed.0 is typed.1
made_plainly head infos.Bool trees t typed is h =
    let v = validity_over head infos.Bool trees in
    let bits = bits_of_bytes (own_bytes head) head.len in
    let s = step (new_bools bits v) _ t h in
    let parts = let_through (covers v (length bits)) (record { bits = bits; validity = v }) s.value ValidityLength s.made in
    let whole : tree.Bool (record { bits = bits; validity = v }) ≡ t = ap tree.Bool parts.1 ∙ same_ok _ t s.rest in
    λ bool.
    let none : v ≡ valid.NonNullable = no_nulls v (bool_nulls _ _ (ap (λ x. (column x).dtype) whole ∙ bool)) in
    (bits, sym whole ∙ ap (λ w. tree.Bool (record { bits = bits; validity = w })) none)

plainly_read : (node : Node) (t : Tree) → reading node ≡ Ok t → IsPlainlyTrue t
plainly_read (Of head children) t h =
    let over = read_over head (found_children children) t h in
    made_plainly head over.info over.trees t over.typed (typed_read (Of head children) t h).typed over.result

-- the array of a child
child_read : (asked : ExpectedChild) (child : Child) (t : Tree) → fitting asked child ≡ Ok t → child.tree ≡ Ok t
child_read asked child t h = cases (same_dtype asked.dtype child.dtype && (asked.len == child.len)) h
  where
    cases : (b : Bool) → (if b then child.tree else Err ChildMismatch) ≡ Ok t → child.tree ≡ Ok t
    cases true h = h
    cases false h = absurd cc

all_plainly : (nodes : Nodes) (expected : List ExpectedChild) (trees : List Tree) → read_children expected (found_children nodes) ≡ Ok trees → AllPlainlyTrue trees
all_plainly nodes [] trees h = subst AllPlainlyTrue (same_ok [] trees h) tt
all_plainly NoMore (asked ∷ expected) trees h = absurd cc
all_plainly (And node nodes) (asked ∷ expected) trees h =
    let child : Child = record { dtype = (head_of node).dtype; len = (head_of node).len; tree = reading node } in
    let first = step (fitting asked child) _ trees h in
    let rest = step (read_children expected (found_children nodes)) _ trees first.rest in
    subst AllPlainlyTrue (same_ok _ trees rest.rest) (plainly_read node first.value (child_read asked child first.value first.made), all_plainly nodes expected rest.value rest.made)

-- a node has the column of the array that is read of it
has_column : (head : Head) (children : Nodes) (t : Tree) (over : IsReadOver head (found_children children) t) → HasTypeAndLength t head.dtype head.len → HasColumn head (map column over.trees) (column t)
has_column head children t over is =
    let expected = children_have (expected_children head over.info (length (found_children children))) (found_children children) over.trees (all_typed_read children) over.read in
    let all : length over.trees ≡ length (found_children children) = as_many _ over.trees expected ∙ all_asked head over.info (length (found_children children)) over.counted in
    let count : length (map column over.trees) ≡ length (found_children children) = length-map over.trees column ∙ all in
    let here : AreAsExpected (expected_children head over.info (length over.trees)) over.trees = subst (λ n. AreAsExpected (expected_children head over.info n) over.trees) (sym all) expected in
    record {
      info = over.info;
      said = subst (λ n. checked head n ≡ Ok over.info) (sym count) over.said;
      expected = expected_are _ over.trees expected ∙ ap (expected_children head over.info) (sym count);
      items = as_said (column t) head over.info (map column over.trees) is.typed is.long (λ i lt. made_items head over.info over.trees t i lt over.typed here (all_plainly children _ over.trees over.read) over.result);
    }

mutual
  pub stands_read : (node : Node) (t : Tree) → reading node ≡ Ok t → StandsFor node (column t)
  stands_read (Of head children) t h =
      let over = read_over head (found_children children) t h in
      let counted = all_asked head over.info (length (found_children children)) over.counted in
      (map column over.trees, each_stands children _ over.trees counted over.read, has_column head children t over (typed_read (Of head children) t h))

  each_stands : (nodes : Nodes) (expected : List ExpectedChild) (trees : List Tree) → length expected ≡ length (found_children nodes) → read_children expected (found_children nodes) ≡ Ok trees → StandForEach nodes (map column trees)
  each_stands NoMore [] trees e h = subst (λ ts. StandForEach NoMore (map column ts)) (same_ok [] trees h) tt
  each_stands NoMore (asked ∷ expected) trees e h = absurd cc
  each_stands (And node nodes) [] trees e h = absurd (omega (arith, e))
  each_stands (And node nodes) (asked ∷ expected) trees e h =
      let child : Child = record { dtype = (head_of node).dtype; len = (head_of node).len; tree = reading node } in
      let first = step (fitting asked child) _ trees h in
      let rest = step (read_children expected (found_children nodes)) _ trees first.rest in
      subst (λ ts. StandForEach (And node nodes) (map column ts)) (same_ok _ trees rest.rest)
      (stands_read node first.value (child_read asked child first.value first.made), each_stands nodes expected rest.value (omega (arith, e)) rest.made)

-- what a call answers that reads a node
pub answer_stands : (r : Result Tree FastLanesError) (node : Node) → Answers (λ a. a) r (reading node) → IfOk r (λ a. StandsFor node (column a))
answer_stands (Ok a) node h = stands_read node a h
answer_stands (Err e) node h = tt
