-- Bit-packed arrays are read as they were written.
use Rattle.std.proofs.Common.{◌≡◌, ◌∙◌, ℕ, ℤ, ◌+◌, ◌-◌, true, false, cond, eqb, List, [], ◌∷◌, ◌++◌, append_assoc, length, map, Option, Some, None, Ok, refl, sym, ap, arith}
use Rattle.std.specs.Prelude.{◌&&◌, IfSome, IsTrue, is_none, is_some, nat_lt, not, option_map, slice_get, unwrap_or}
use Rattle.std.specs.List.{list_all, list_any}
use Rattle.std.proofs.lemmas.Bool.{eq-eqb, eqb-true}
use Rattle.std.proofs.lemmas.List.{length-append}
use Rattle.fl_types.specs.declared.dtype.DType.TheVariants as dtypes
use Rattle.fl_types.specs.declared.dtype.Nullability.{Nullability}
use Rattle.fl_types.specs.declared.dtype.Nullability.TheVariants.{NonNullable, Nullable}
use Rattle.fl_types.specs.declared.dtype.PType.{PType}
use Rattle.fl_types.specs.declared.validity.Validity.{Validity}
use Rattle.fl_types.specs.declared.validity.Validity.TheVariants as valid
use Rattle.fl_types.specs.declared.error.FastLanesError.TheVariants.{PatchContent, PatchLength, PatchType, WidthTooLarge}
use Rattle.fl_types.specs.Integers.{bits_of_type, fits, same_ptype}
use Rattle.fl_types.specs.Types.{is_index_type}
use Rattle.fl_types.specs.Validities.{covers, full_validity, items_of, masked, nullability_of}
use Rattle.fl_column.specs.Columns.{PrimitiveParts, column_of_primitive, numbers_of, option_all}
use Rattle.fl_column.specs.Chunks.{chunk_count}
use Rattle.fl_column.specs.Numbers as column_numbers
use Rattle.fl_column.proofs.ListLaws.{and_first, and_second}
use Rattle.fl_patches.specs.PatchMaps.{PatchesParts, are_chunk_offsets, is_index_within, is_rising, new_patches, patch_contents_fit, patch_lengths_fit, patch_types_fit, refusal_of}
use Rattle.fl_bitpacking.specs.Columns.{BitPackedParts, block_count}
use Rattle.fl_bitpacking.specs.Refusals.{accepted, block_offsets_refusal, blocked_refusal, boundaries_refusal, global_refusal, positions_refusal, validity_and_patches_refusal}
use Rattle.fl_bitpacking.proofs.Tables.{length-table}
use Rattle.fl_metadata.specs.WireReading.{fields_of, fields_up_to}
use Rattle.fl_metadata.specs.Messages.{bit_packed_blocked_of, bit_packed_blocked_slots, bit_packed_of, bit_packed_slots}
use Rattle.fl_metadata.specs.WrittenText.{message_text}
use Rattle.fl_array.specs.Trees.{BitPackedBlocked, BitPackedGlobal, Primitive, Tree, column}
use Rattle.fl_serde.specs.declared.node_info.NodeInfo.{NodeInfo}
use Rattle.fl_serde.specs.declared.node_info.NodeInfo.TheVariants as infos
use Rattle.fl_serde.specs.declared.children.ExpectedChild.{ExpectedChild}
use Rattle.fl_serde.specs.Children.{chunk_offset_children, numbers, patch_children}
use Rattle.fl_serde.specs.Plain.{plain_of}
use Rattle.fl_serde.specs.Reading.{patches_found, reading}
use Rattle.fl_serde.specs.RoundTrip.{ArePatchesOfTypes, read_back, read_parts, read_patches, read_slots}
use Rattle.fl_serde.specs.Writing.{chunk_offset_nodes, head_written, item_count, numbers_node, patch_nodes, patches_message, slots_node, validity_nodes, written}
use Rattle.fl_serde.proofs.ChildrenAgain.{index_types}
use Rattle.fl_serde.proofs.ColumnsAgain.{column_back, read_covers}
use Rattle.fl_serde.proofs.LeavesAgain.{slots_again, slots_sized}
use Rattle.fl_serde.proofs.NestedAgain.{code_once, fit, fit_written, holds, node_read, none_else, none_otherwise}
use Rattle.fl_serde.proofs.PlainAgain.{append_none, none_of_three}
use Rattle.fl_serde.proofs.PlainLaws.{integers_again}
use Rattle.fl_serde.proofs.ValiditiesAgain.{Reads, at_end, validity_trees, with_validity}

-- ---- the children that are patches
numbers_node_again : (q : PrimitiveParts) → list_all (fits q.ptype) q.slots ≡ true → reading (numbers_node q) ≡ Ok (Primitive (record { ptype = q.ptype; slots = q.slots; validity = valid.NonNullable }))
unfolding fields_of fields_up_to
numbers_node_again q all = rw (eq-eqb _ _ (slots_sized q.ptype q.slots), slots_again q.ptype q.slots all) refl

slots_node_again : (n : Nullability) (q : PrimitiveParts) → list_all (fits q.ptype) q.slots ≡ true → reading (slots_node (dtypes.Primitive q.ptype n) q) ≡ Ok (Primitive (record { ptype = q.ptype; slots = q.slots; validity = full_validity n }))
unfolding fields_of fields_up_to
slots_node_again NonNullable q all = rw (eq-eqb _ _ (slots_sized q.ptype q.slots), slots_again q.ptype q.slots all) refl
slots_node_again Nullable q all = rw (eq-eqb _ _ (slots_sized q.ptype q.slots), slots_again q.ptype q.slots all) refl

-- the arrays of chunk offsets, if there are any
abbrev pub chunk_trees : Option PrimitiveParts → List Tree
chunk_trees None = []
chunk_trees (Some c) = Primitive (record { ptype = c.ptype; slots = c.slots; validity = valid.NonNullable }) ∷ []

-- the arrays of patches, if there are any
abbrev pub patch_trees : Nullability → Option PatchesParts → List Tree
patch_trees n None = []
patch_trees n (Some q) =
    Primitive (record { ptype = q.indices.ptype; slots = q.indices.slots; validity = valid.NonNullable })
    ∷ Primitive (record { ptype = q.values.ptype; slots = q.values.slots; validity = full_validity n }) ∷ chunk_trees q.chunk_offsets

-- there is a value for each index
patches_even : (q : PatchesParts) → refusal_of q ≡ None → length q.indices.slots ≡ length q.values.slots
patches_even q none =
    let types = none_else (not (patch_types_fit q)) PatchType _ none in
    let lengths = none_else (not (patch_lengths_fit q)) PatchLength _ types.1 in
    eqb-true _ _ (and_first (eqb (length q.indices.slots) (length q.values.slots)) _ (holds _ lengths.0))

reads_chunks : (c : Option PrimitiveParts) → option_all (λ o. list_all (fits o.ptype) o.slots) c ≡ true → Reads (chunk_offset_children (option_map (λ o. o.ptype) c) (unwrap_or (option_map (λ o. length o.slots) c) 0)) (chunk_offset_nodes c) (chunk_trees c)
reads_chunks None all = tt
reads_chunks (Some c) all = (fit (numbers c.ptype (length c.slots)) (numbers_node c) (Primitive (record { ptype = c.ptype; slots = c.slots; validity = valid.NonNullable })) refl refl (numbers_node_again c all), tt)

reads_patches : (p : PType) (n : Nullability) (patches : Option PatchesParts) → IfSome patches ArePatchesOfTypes → option_all (λ q. same_ptype q.values.ptype p) patches ≡ true
    → Reads (patch_children (dtypes.Primitive p n) (option_map patches_message patches)) (patch_nodes (dtypes.Primitive p n) patches) (patch_trees n patches)
reads_patches p n None fitting typed = tt
reads_patches p n (Some q) fitting typed =
    let same : dtypes.Primitive p n ≡ dtypes.Primitive q.values.ptype n = ap (λ x. dtypes.Primitive x n) (sym (code_once q.values.ptype p typed)) in
    let values : reading (slots_node (dtypes.Primitive p n) q.values) ≡ Ok (Primitive (record { ptype = q.values.ptype; slots = q.values.slots; validity = full_validity n })) = ap (λ d. reading (slots_node d q.values)) same ∙ slots_node_again n q.values fitting.values in (
      fit (numbers q.indices.ptype (length q.indices.slots)) (numbers_node q.indices) (Primitive (record { ptype = q.indices.ptype; slots = q.indices.slots; validity = valid.NonNullable })) refl refl (numbers_node_again q.indices fitting.indices),
      (
        fit (record { dtype = dtypes.Primitive p n; len = length q.indices.slots }) (slots_node (dtypes.Primitive p n) q.values) (Primitive (record { ptype = q.values.ptype; slots = q.values.slots; validity = full_validity n })) refl (patches_even q fitting.none) values,
        reads_chunks q.chunk_offsets fitting.offsets,
      ),
    )

-- ---- what is decoded of them
-- the validity of what is decoded
abbrev decoded_validity : Nullability → List ℤ → Validity
decoded_validity NonNullable xs = valid.NonNullable
decoded_validity Nullable xs = valid.Array (map (λ item. is_some item) (map (λ x. Some x) xs))

slots_are : (n : Nullability) (p : PrimitiveParts) → read_slots n p ≡ record { ptype = p.ptype; slots = p.slots; validity = decoded_validity n p.slots }
unfolding plain_of
slots_are NonNullable p = rw (integers_again p.slots) refl
slots_are Nullable p = rw (integers_again p.slots) refl

some_each : (xs : List ℤ) → masked (map (λ item. is_some item) (map (λ x. Some x) xs)) xs ≡ map (λ x. Some x) xs
some_each [] = refl
some_each (x ∷ xs) = ap (λ ys. Some x ∷ ys) (some_each xs)

none_null : (xs : List ℤ) → list_any is_none (map (λ x. Some x) xs) ≡ false
none_null [] = refl
none_null (x ∷ xs) = none_null xs

decoded_without_null : (n : Nullability) (xs : List ℤ) → list_any is_none (items_of (decoded_validity n xs) xs) ≡ false
decoded_without_null NonNullable xs = none_null xs
decoded_without_null Nullable xs = ap (list_any is_none) (some_each xs) ∙ none_null xs

index_solid : (p : PType) (v : Validity) → is_index_type (dtypes.Primitive p (nullability_of v)) ≡ true → is_index_type (dtypes.Primitive p NonNullable) ≡ true
index_solid p valid.NonNullable h = h
index_solid p valid.AllValid h = absurd cc
index_solid p valid.AllInvalid h = absurd cc
index_solid p (valid.Array bits) h = absurd cc

-- the same integers without nulls
abbrev solid_of : PrimitiveParts → PrimitiveParts
solid_of q = record { ptype = q.ptype; slots = q.slots; validity = valid.NonNullable }

-- the patches that are read, in full
abbrev solid_patches : Nullability → PatchesParts → PatchesParts
solid_patches n q = record { array_len = q.array_len; offset = q.offset; indices = solid_of q.indices; values = record { ptype = q.values.ptype; slots = q.values.slots; validity = decoded_validity n q.values.slots }; chunk_offsets = option_map solid_of q.chunk_offsets }

chunks_are : (c : Option PrimitiveParts) → option_map (read_slots NonNullable) c ≡ option_map solid_of c
chunks_are None = refl
chunks_are (Some c) = rw (slots_are NonNullable c) refl

patches_are : (n : Nullability) (q : PatchesParts) → read_patches n q ≡ solid_patches n q
patches_are n q = rw (slots_are NonNullable q.indices, slots_are n q.values, chunks_are q.chunk_offsets) refl

none_refused : (n : Nullability) (array_len offset : ℕ) (indices values : PrimitiveParts) (c : Option PrimitiveParts)
    → refusal_of (record { array_len = array_len; offset = offset; indices = indices; values = values; chunk_offsets = c }) ≡ None
    → refusal_of (solid_patches n (record { array_len = array_len; offset = offset; indices = indices; values = values; chunk_offsets = c })) ≡ None
none_refused n array_len offset indices values None h =
    let p : PatchesParts = record { array_len = array_len; offset = offset; indices = indices; values = values; chunk_offsets = None } in
    let types = none_else (not (patch_types_fit p)) PatchType _ h in
    let lengths = none_else (not (patch_lengths_fit p)) PatchLength _ types.1 in
    let contents = none_else (not (patch_contents_fit p)) PatchContent _ lengths.1 in
    let typed : patch_types_fit p ≡ true = holds _ types.0 in
    let long : patch_lengths_fit p ≡ true = holds _ lengths.0 in
    let held : patch_contents_fit p ≡ true = holds _ contents.0 in
    let rising : is_rising (column_numbers.numbers indices) ≡ true = and_first _ _ held in
    let within : list_all (is_index_within offset array_len) (column_numbers.numbers indices) ≡ true = and_first _ _ (and_second _ _ held) in
    let of_index : is_index_type (dtypes.Primitive indices.ptype (nullability_of indices.validity)) ≡ true = and_first _ _ typed in
    rw (index_solid indices.ptype indices.validity of_index, long, rising, within, decoded_without_null n values.slots) refl
none_refused n array_len offset indices values (Some c) h =
    let p : PatchesParts = record { array_len = array_len; offset = offset; indices = indices; values = values; chunk_offsets = Some c } in
    let types = none_else (not (patch_types_fit p)) PatchType _ h in
    let lengths = none_else (not (patch_lengths_fit p)) PatchLength _ types.1 in
    let contents = none_else (not (patch_contents_fit p)) PatchContent _ lengths.1 in
    let typed : patch_types_fit p ≡ true = holds _ types.0 in
    let long : patch_lengths_fit p ≡ true = holds _ lengths.0 in
    let held : patch_contents_fit p ≡ true = holds _ contents.0 in
    let rising : is_rising (column_numbers.numbers indices) ≡ true = and_first _ _ held in
    let within : list_all (is_index_within offset array_len) (column_numbers.numbers indices) ≡ true = and_first _ _ (and_second _ _ held) in
    let counted : (eqb offset 0 && are_chunk_offsets (column_numbers.numbers indices) (column_numbers.numbers c)) ≡ true =
    and_second (not (list_any is_none (column_of_primitive values).items)) _ (and_second (list_all (is_index_within offset array_len) (column_numbers.numbers indices)) _ (and_second (is_rising (column_numbers.numbers indices)) _ held)) in
    let of_index : is_index_type (dtypes.Primitive indices.ptype (nullability_of indices.validity)) ≡ true = and_first _ _ typed in
    let of_offset : is_index_type (dtypes.Primitive c.ptype (nullability_of c.validity)) ≡ true = and_second _ _ typed in
    rw (index_solid indices.ptype indices.validity of_index, index_solid c.ptype c.validity of_offset, long, rising, within, decoded_without_null n values.slots, counted) refl

-- patches of these parts are accepted
patches_accepted : (n : Nullability) (q : PatchesParts) → refusal_of q ≡ None → new_patches q.array_len q.offset (read_slots NonNullable q.indices) (read_slots n q.values) (option_map (read_slots NonNullable) q.chunk_offsets) ≡ Ok (read_patches n q)
patches_accepted n q none =
    let fine : refusal_of (read_patches n q) ≡ None = ap refusal_of (patches_are n q) ∙ none_refused n q.array_len q.offset q.indices q.values q.chunk_offsets none in
    ap (accepted (read_patches n q)) fine

found_with : (n : Nullability) (len array_len offset : ℕ) (indices values : PrimitiveParts) (c : Option PrimitiveParts) (others : List Tree) → array_len ≡ len
    → refusal_of (record { array_len = array_len; offset = offset; indices = indices; values = values; chunk_offsets = c }) ≡ None
    → patches_found len (Some (patches_message (record { array_len = array_len; offset = offset; indices = indices; values = values; chunk_offsets = c }))) (patch_trees n (Some (record { array_len = array_len; offset = offset; indices = indices; values = values; chunk_offsets = c })) ++ others)
    ≡ Ok (Some (read_patches n (record { array_len = array_len; offset = offset; indices = indices; values = values; chunk_offsets = c })))
found_with n len array_len offset indices values None others long none = rw (← long, patches_accepted n (record { array_len = array_len; offset = offset; indices = indices; values = values; chunk_offsets = None }) none) refl
found_with n len array_len offset indices values (Some c) others long none = rw (← long, patches_accepted n (record { array_len = array_len; offset = offset; indices = indices; values = values; chunk_offsets = Some c }) none) refl

found_again : (n : Nullability) (len : ℕ) (patches : Option PatchesParts) (others : List Tree) → IfSome patches ArePatchesOfTypes → option_all (λ q. eqb q.array_len len) patches ≡ true
    → patches_found len (option_map patches_message patches) (patch_trees n patches ++ others) ≡ Ok (option_map (read_patches n) patches)
found_again n len None others fitting long = refl
found_again n len (Some q) others fitting long = found_with n len q.array_len q.offset q.indices q.values q.chunk_offsets others (eqb-true _ _ long) fitting.none

-- ---- constructors
types_back : (n : Nullability) (p : PType) (patches : Option PatchesParts) → option_all (λ q. same_ptype q.values.ptype p) (option_map (read_patches n) patches) ≡ option_all (λ q. same_ptype q.values.ptype p) patches
unfolding plain_of
types_back n p None = refl
types_back n p (Some q) = refl

lengths_back : (n : Nullability) (len : ℕ) (patches : Option PatchesParts) → option_all (λ q. eqb q.array_len len) (option_map (read_patches n) patches) ≡ option_all (λ q. eqb q.array_len len) patches
lengths_back n len None = refl
lengths_back n len (Some q) = refl

-- what a constructor asks of validity and patches
record Sound (parts : BitPackedParts) : Type 0 where
  covered : IsTrue (covers parts.validity parts.len)
  typed : option_all (λ q. same_ptype q.values.ptype parts.ptype) parts.patches ≡ true
  long : option_all (λ q. eqb q.array_len parts.len) parts.patches ≡ true

sound_of : (parts : BitPackedParts) → validity_and_patches_refusal parts ≡ None → Sound parts
sound_of parts none =
    let s1 = none_else (not (covers parts.validity parts.len)) _ _ none in
    let s2 = none_else (not (option_all (λ q. same_ptype q.values.ptype parts.ptype) parts.patches)) _ _ s1.1 in
    let s3 = none_else (not (option_all (λ q. eqb q.array_len parts.len) parts.patches)) _ _ s2.1 in
    record { covered = holds _ s1.0; typed = holds _ s2.0; long = holds _ s3.0 }

sound_back : (parts : BitPackedParts) → Sound parts → validity_and_patches_refusal (read_parts parts) ≡ None
sound_back parts is =
    rw (
      read_covers parts.validity parts.len is.covered,
      types_back (nullability_of parts.validity) parts.ptype parts.patches ∙ is.typed,
      lengths_back (nullability_of parts.validity) parts.len parts.patches ∙ is.long,
    ) refl

-- ---- one width
global_node : (parts : BitPackedParts) (width : ℕ) → Sound parts → IfSome parts.patches ArePatchesOfTypes → global_refusal (read_parts parts) width ≡ None
    → bit_packed_of (message_text (bit_packed_slots (record { bit_width = width; offset = parts.offset; patches = option_map patches_message parts.patches }))) ≡ Ok (record { bit_width = width; offset = parts.offset; patches = option_map patches_message parts.patches })
    → reading (written (BitPackedGlobal parts width)) ≡ Ok (read_back (BitPackedGlobal parts width))
global_node parts width is fitting made_it message =
    let t : Tree = BitPackedGlobal parts width in
    let n = nullability_of parts.validity in
    let m : NodeInfo = infos.BitPacked parts.ptype (record { bit_width = width; offset = parts.offset; patches = option_map patches_message parts.patches }) in
    let long : item_count t ≡ parts.len = length-table _ parts.len in
    let front = patch_nodes (dtypes.Primitive parts.ptype n) parts.patches in
    let vn = validity_nodes parts.len parts.validity in
    let trees = patch_trees n parts.patches ++ (validity_trees parts.len parts.validity ++ []) in
    let w = with_validity (head_written t) m parts.len parts.validity front [] (patch_trees n parts.patches) [] refl refl long is.covered (reads_patches parts.ptype n parts.patches fitting is.typed) tt in
    rw (← append_none vn) (node_read t (read_back t) (front ++ (vn ++ [])) m trees (rw message refl) (none_of_three (head_written t) m (length (front ++ (vn ++ []))) refl w.counted refl) w.reads
    (rw (long, found_again n parts.len parts.patches (validity_trees parts.len parts.validity ++ []) fitting is.long, w.validity, made_it) refl))

pub global_back : (parts : BitPackedParts) (width : ℕ) → global_refusal parts width ≡ None → IfSome parts.patches ArePatchesOfTypes
    → bit_packed_of (message_text (bit_packed_slots (record { bit_width = width; offset = parts.offset; patches = option_map patches_message parts.patches }))) ≡ Ok (record { bit_width = width; offset = parts.offset; patches = option_map patches_message parts.patches })
    → reading (written (BitPackedGlobal parts width)) ≡ Ok (read_back (BitPackedGlobal parts width))
global_back parts width none fitting message =
    let s1 = none_otherwise (positions_refusal parts.offset parts.len) _ none in
    let s2 = none_otherwise (cond (nat_lt (bits_of_type parts.ptype) width) (Some WidthTooLarge) None) _ s1.1 in
    let s3 = none_otherwise (validity_and_patches_refusal parts) _ s2.1 in
    global_node parts width (sound_of parts s3.0) fitting (rw (s1.0, s2.0, sound_back parts (sound_of parts s3.0), s3.1) refl) message

-- ---- a width for each block
-- the last of arrays
at_last : (xs ys : List Tree) (x : Tree) → slice_get (xs ++ (ys ++ x ∷ [])) (length (xs ++ (ys ++ x ∷ [])) - 1) ≡ Some x
at_last xs ys x =
    let joined : xs ++ (ys ++ x ∷ []) ≡ (xs ++ ys) ++ x ∷ [] = sym (append_assoc xs ys (x ∷ [])) in
    let place : length (xs ++ (ys ++ x ∷ [])) - 1 ≡ length (xs ++ ys) = omega (arith, length-append xs (ys ++ x ∷ []), length-append ys (x ∷ []), length-append xs ys) in
    ap (λ k. slice_get (xs ++ (ys ++ x ∷ [])) k) place ∙ ap (λ l. slice_get l (length (xs ++ ys))) joined ∙ at_end (xs ++ ys) x []

blocked_node : (parts : BitPackedParts) (boundaries : Tree) (o : PType) → Sound parts → IfSome parts.patches ArePatchesOfTypes → blocked_refusal (read_parts parts) (column (read_back boundaries)) ≡ None
    → (column boundaries).dtype ≡ dtypes.Primitive o NonNullable → item_count boundaries ≡ chunk_count (parts.offset + parts.len) + 1 → positions_refusal parts.offset parts.len ≡ None
    → bit_packed_blocked_of (message_text (bit_packed_blocked_slots (record { offset = parts.offset; block_offsets = o; patches = option_map patches_message parts.patches }))) ≡ Ok (record { offset = parts.offset; block_offsets = o; patches = option_map patches_message parts.patches })
    → reading (written boundaries) ≡ Ok (read_back boundaries) → reading (written (BitPackedBlocked parts boundaries)) ≡ Ok (read_back (BitPackedBlocked parts boundaries))
blocked_node parts boundaries o is fitting made_it typed counted near message reads =
    let t : Tree = BitPackedBlocked parts boundaries in
    let n = nullability_of parts.validity in
    let m : NodeInfo = infos.BitPackedBlocked parts.ptype (record { offset = parts.offset; block_offsets = o; patches = option_map patches_message parts.patches }) in
    let long : item_count t ≡ parts.len = length-table _ parts.len in
    let front = patch_nodes (dtypes.Primitive parts.ptype n) parts.patches in
    let vn = validity_nodes parts.len parts.validity in
    let vt = validity_trees parts.len parts.validity in
    let trees = patch_trees n parts.patches ++ (vt ++ read_back boundaries ∷ []) in
    let last : ExpectedChild = numbers o (chunk_count (parts.offset + item_count t) + 1) in
    let behind = fit_written last boundaries (read_back boundaries) (sym typed) (rw long (sym counted)) reads in
    let w = with_validity (head_written t) m parts.len parts.validity front (written boundaries ∷ []) (patch_trees n parts.patches) (read_back boundaries ∷ []) refl refl long is.covered (reads_patches parts.ptype n parts.patches fitting is.typed) (behind, tt) in
    let children : (front ++ vn) ++ written boundaries ∷ [] ≡ front ++ (vn ++ written boundaries ∷ []) = append_assoc front vn (written boundaries ∷ []) in
    rw children (node_read t (read_back t) (front ++ (vn ++ written boundaries ∷ [])) m trees (rw (typed, message) refl)
    (none_of_three (head_written t) m (length (front ++ (vn ++ written boundaries ∷ []))) refl w.counted (rw long near)) w.reads
    (rw (long, found_again n parts.len parts.patches (vt ++ read_back boundaries ∷ []) fitting is.long, w.validity, at_last (patch_trees n parts.patches) vt (read_back boundaries), made_it) refl))

pub blocked_back : (parts : BitPackedParts) (boundaries : Tree) → blocked_refusal parts (column boundaries) ≡ None → IfSome parts.patches ArePatchesOfTypes
    → ((o : PType) → bit_packed_blocked_of (message_text (bit_packed_blocked_slots (record { offset = parts.offset; block_offsets = o; patches = option_map patches_message parts.patches }))) ≡ Ok (record { offset = parts.offset; block_offsets = o; patches = option_map patches_message parts.patches }))
    → reading (written boundaries) ≡ Ok (read_back boundaries) → reading (written (BitPackedBlocked parts boundaries)) ≡ Ok (read_back (BitPackedBlocked parts boundaries))
blocked_back parts boundaries none fitting message reads =
    let c = column boundaries in
    let s1 = none_otherwise (positions_refusal parts.offset parts.len) _ none in
    let s2 = none_otherwise (block_offsets_refusal (block_count parts) c.dtype (length c.items)) _ s1.1 in
    let s3 = none_otherwise (boundaries_refusal parts (numbers_of c)) (validity_and_patches_refusal parts) s2.1 in
    let s4 = none_else (not (is_index_type c.dtype)) _ _ s2.0 in
    let s5 = none_else (not (eqb (length c.items) (block_count parts + 1))) _ _ s4.1 in
    let of_index = index_types c.dtype (holds _ s4.0) in
    let is : Sound parts = sound_of parts s3.1 in
    let here : blocked_refusal (read_parts parts) c ≡ None = rw (s1.0, s2.0, s3.0, sound_back parts is) refl in
    blocked_node parts boundaries of_index.0 is fitting (ap (blocked_refusal (read_parts parts)) (column_back boundaries) ∙ here) of_index.1 (eqb-true _ _ (holds _ s5.0)) s1.0 (message of_index.0) reads
