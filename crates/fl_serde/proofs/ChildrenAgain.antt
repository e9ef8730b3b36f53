-- FoR arrays of references for each chunk, delta arrays and run-length encoded arrays are read as they were written, once the arrays in them are.
use Rattle.std.proofs.Common.{◌≡◌, ◌∙◌, ℕ, ◌+◌, ◌*◌, ◌/◌, ◌%◌, ◌<◌, ◌^◌, Bool, true, false, cond, eqb, [], ◌∷◌, ◌++◌, length, Option, Some, None, Ok, refl, sym, ap, arith}
use Rattle.std.specs.Prelude.{◌&&◌, ◌||◌, IsTrue, nat_le, nat_lt, not, unwrap_or}
use Rattle.std.proofs.lemmas.Bool.{eqb-true, leb-false}
use Rattle.fl_types.specs.declared.dtype.DType.{DType}
use Rattle.fl_types.specs.declared.dtype.DType.TheVariants as dtypes
use Rattle.fl_types.specs.declared.dtype.Nullability.{Nullability}
use Rattle.fl_types.specs.declared.dtype.Nullability.TheVariants.{NonNullable, Nullable}
use Rattle.fl_types.specs.declared.dtype.PType.{PType}
use Rattle.fl_types.specs.declared.dtype.PType.TheVariants.{U8}
use Rattle.fl_types.specs.declared.error.FastLanesError.{FastLanesError}
use Rattle.fl_types.specs.declared.error.FastLanesError.TheVariants as refusals
use Rattle.fl_types.specs.Integers.{lanes_of_type}
use Rattle.fl_types.specs.Types.{integer_type, is_index_type, is_integer, is_nullable, nullability_in, same_type}
use Rattle.fl_types.specs.Validities.{covers}
use Rattle.fl_column.specs.Columns.{Column}
use Rattle.fl_column.specs.Chunks.{chunk_count}
use Rattle.fl_column.proofs.ListLaws.{and_first, and_second}
use Rattle.fl_bitpacking.specs.Refusals.{otherwise, positions_refusal}
use Rattle.fl_bitpacking.proofs.Tables.{length-table}
use Rattle.fl_codec.specs.DeltaRefusals.{delta_refusal, lanes_of_dtype}
use Rattle.fl_codec.specs.RunRefusals.{is_run_index_dtype, rle_refusal, rle_types_refusal}
use Rattle.fl_codec.specs.Refusals as codec
use Rattle.fl_metadata.specs.Messages.{delta_metadata_of, delta_slots, for_chunked_of, for_chunked_slots, rle_of, rle_slots}
use Rattle.fl_metadata.specs.WrittenText.{message_text}
use Rattle.fl_array.specs.Trees.{BitPackedBlocked, BitPackedGlobal, Constant, Delta, DeltaParts, FoRChunked, FoRGlobal, Primitive, RLE, Tree, OffsetLen, column}
use Rattle.fl_array.specs.Trees as tree
use Rattle.fl_array.specs.FoRArrays.{ChunkReferences, for_chunked_refusal, for_refusal, reference_count_refusal, reference_type_refusal, references_of}
use Rattle.fl_array.specs.Reads.{constant_in}
use Rattle.fl_serde.specs.declared.node_info.NodeInfo.{NodeInfo}
use Rattle.fl_serde.specs.declared.node_info.NodeInfo.TheVariants as infos
use Rattle.fl_serde.specs.declared.children.ExpectedChild.{ExpectedChild}
use Rattle.fl_serde.specs.Children.{encoded_child, numbers}
use Rattle.fl_serde.specs.Reading.{reading}
use Rattle.fl_serde.proofs.ReadLaws.{child_of}
use Rattle.fl_serde.specs.RoundTrip.{read_back, read_validity}
use Rattle.fl_serde.specs.Writing.{head_written, item_count, validity_nodes, written}
use Rattle.fl_serde.proofs.ColumnsAgain.{column_back, read_covers}
use Rattle.fl_serde.proofs.NestedAgain.{code_once, fit_written, holds, integers, node_read, none_else, none_otherwise, read_one, same_type_is}
use Rattle.fl_serde.proofs.PlainAgain.{append_none, none_of_three}
use Rattle.fl_serde.proofs.ValiditiesAgain.{validity_trees, with_validity}

-- ---- tests
then_none : (b : Bool) (e : FastLanesError) → cond b None (Some e) ≡ None → b ≡ true
then_none true e h = refl
then_none false e h = absurd cc

not_true : (b : Bool) → not b ≡ true → b ≡ false
not_true false h = refl
not_true true h = absurd cc

or_false : (b c : Bool) → (b || c) ≡ false → (b ≡ false) × (c ≡ false)
or_false false c h = (refl, h)
or_false true c h = absurd cc

pub solid_type : (d : DType) (p : PType) (m : Nullability) → d ≡ dtypes.Primitive p m → is_nullable d ≡ false → d ≡ dtypes.Primitive p NonNullable
solid_type d p NonNullable e h = e
solid_type d p Nullable e h = absurd (let wrong : is_nullable (dtypes.Primitive p Nullable) ≡ false = sym (ap is_nullable e) ∙ h in cc)

same_type_turned : (p : PType) (d : DType) → same_type (dtypes.Primitive p NonNullable) d ≡ true → (m : Nullability) × (d ≡ dtypes.Primitive p m)
same_type_turned p (dtypes.Primitive q m) h = (m, ap (λ x. dtypes.Primitive x m) (sym (code_once p q h)))
same_type_turned p (dtypes.Bool m) h = absurd cc

run_index_types : (d : DType) → is_run_index_dtype d ≡ true → (p : PType) × (n : Nullability) × (d ≡ dtypes.Primitive p n)
run_index_types (dtypes.Primitive p n) h = (p, n, refl)
run_index_types (dtypes.Bool n) h = absurd cc

pub index_types : (d : DType) → is_index_type d ≡ true → (p : PType) × (d ≡ dtypes.Primitive p NonNullable)
index_types (dtypes.Primitive p NonNullable) h = (p, refl)
index_types (dtypes.Primitive p Nullable) h = absurd cc
index_types (dtypes.Bool n) h = absurd cc

-- an offset in the first block
pub near_offset : (offset len : ℕ) → positions_refusal offset len ≡ None → offset < 1024
near_offset offset len none =
    let s = none_else (nat_le 1024 offset) refusals.OffsetTooLarge _ none in
    let less = leb-false 1024 offset s.0 in
    omega (arith, less)

-- ---- FoR arrays of a reference for each chunk
constant_back : (t : Tree) → constant_in t ≡ None → constant_in (read_back t) ≡ None
constant_back (Primitive p) e = refl
constant_back (Constant c) e = absurd cc
constant_back (tree.Bool b) e = refl
constant_back (BitPackedGlobal parts width) e = refl
constant_back (BitPackedBlocked parts boundaries) e = refl
constant_back (FoRGlobal encoded reference) e = refl
constant_back (FoRChunked encoded references offset) e = refl
constant_back (Delta bases deltas parts) e = refl
constant_back (RLE values indices offsets window) e = refl

varied : (t : Tree) (offset : ℕ) → constant_in t ≡ None → references_of t offset ≡ ChunkReferences t offset
varied (Primitive p) offset e = refl
varied (Constant c) offset e = absurd cc
varied (tree.Bool b) offset e = refl
varied (BitPackedGlobal parts width) offset e = refl
varied (BitPackedBlocked parts boundaries) offset e = refl
varied (FoRGlobal encoded reference) offset e = refl
varied (FoRChunked encoded references o) offset e = refl
varied (Delta bases deltas parts) offset e = refl
varied (RLE values indices offsets window) offset e = refl

-- why columns make no such array
abbrev chunked_refusal : Column → Column → ℕ → Option FastLanesError
chunked_refusal encoded references offset = otherwise (reference_count_refusal offset (length encoded.items) encoded.dtype (length references.items)) (reference_type_refusal encoded.dtype references.dtype)

chunked_made : (e r : Tree) (offset : ℕ) → chunked_refusal (column e) (column r) offset ≡ None → constant_in r ≡ None → for_chunked_refusal (column (read_back e)) (read_back r) offset ≡ None
chunked_made e r offset none kept =
    let same : chunked_refusal (column (read_back e)) (column (read_back r)) offset ≡ None = ap (λ c. chunked_refusal c (column (read_back r)) offset) (column_back e) ∙ ap (λ c. chunked_refusal (column e) c offset) (column_back r) ∙ none in
    let c = column (read_back e) in
    let d = column (read_back r) in
    let parts = none_otherwise (reference_count_refusal offset (length c.items) c.dtype (length d.items)) (reference_type_refusal c.dtype d.dtype) same in
    rw (varied (read_back r) offset (constant_back r kept), parts.0, parts.1) refl

chunked_node : (e r : Tree) (offset : ℕ) (p : PType) (n : Nullability) → chunked_refusal (column e) (column r) offset ≡ None → constant_in r ≡ None → (column e).dtype ≡ dtypes.Primitive p n → (column r).dtype ≡ dtypes.Primitive p NonNullable
    → positions_refusal offset (item_count e) ≡ None → item_count r ≡ chunk_count (offset + item_count e) → for_chunked_of (message_text (for_chunked_slots (record { offset = offset }))) ≡ Ok (record { offset = offset })
    → reading (written e) ≡ Ok (read_back e) → reading (written r) ≡ Ok (read_back r) → reading (written (FoRChunked e r offset)) ≡ Ok (read_back (FoRChunked e r offset))
chunked_node e r offset p n none kept typed of_reference near counted message reads_e reads_r =
    let t : Tree = FoRChunked e r offset in
    let m : NodeInfo = infos.FoRChunked p (record { offset = offset }) in
    let long : item_count t ≡ item_count e = length-table _ (item_count e) in
    let encoded : ExpectedChild = encoded_child (head_written t) in
    let references : ExpectedChild = numbers p (chunk_count (offset + item_count t)) in
    node_read t (read_back t) (written e ∷ written r ∷ []) m (read_back e ∷ read_back r ∷ []) (rw (typed, message) refl)
    (none_of_three (head_written t) m 2 refl refl (rw long near))
    (read_one encoded (references ∷ []) (child_of (written e)) (child_of (written r) ∷ []) (read_back e) (read_back r ∷ []) (fit_written encoded e (read_back e) refl long reads_e)
    (read_one references [] (child_of (written r)) [] (read_back r) [] (fit_written references r (read_back r) (sym of_reference) (rw long (sym counted)) reads_r) refl))
    (rw (chunked_made e r offset none kept, varied (read_back r) offset (constant_back r kept)) refl)

pub for_chunked_back : (e r : Tree) (offset : ℕ) → for_refusal (column e) (ChunkReferences r offset) ≡ None → constant_in r ≡ None
    → (offset < 2 ^ 32 → for_chunked_of (message_text (for_chunked_slots (record { offset = offset }))) ≡ Ok (record { offset = offset }))
    → reading (written e) ≡ Ok (read_back e) → reading (written r) ≡ Ok (read_back r) → reading (written (FoRChunked e r offset)) ≡ Ok (read_back (FoRChunked e r offset))
for_chunked_back e r offset none kept message reads_e reads_r =
    let parts = none_otherwise (reference_count_refusal offset (item_count e) (column e).dtype (item_count r)) (reference_type_refusal (column e).dtype (column r).dtype) none in
    let places = none_otherwise (positions_refusal offset (item_count e)) _ parts.0 in
    let s1 = none_else (not (is_integer (column e).dtype)) _ _ places.1 in
    let s2 = none_else (not (eqb (item_count r) (chunk_count (offset + item_count e)))) _ _ s1.1 in
    let of_type = integers (column e).dtype (holds _ s1.0) in
    let test : (same_type (column r).dtype (column e).dtype && not (is_nullable (column r).dtype)) ≡ true = then_none _ refusals.TypeMismatch parts.1 in
    let of_reference = same_type_is (column r).dtype of_type.0 of_type.1 (ap (same_type (column r).dtype) (sym of_type.2) ∙ and_first _ _ test) in
    let solid = solid_type (column r).dtype of_type.0 of_reference.0 of_reference.1 (not_true _ (and_second _ _ test)) in
    let near = near_offset offset (item_count e) places.0 in
    chunked_node e r offset of_type.0 of_type.1 none kept of_type.2 solid places.0 (eqb-true _ _ (holds _ s2.0)) (message (omega (arith, near))) reads_e reads_r

-- ---- delta arrays
delta_node : (bases deltas : Tree) (parts : DeltaParts) (p : PType) → delta_refusal (column bases) (column deltas) parts.validity parts.offset parts.len ≡ None → IsTrue (covers parts.validity parts.len)
    → (column bases).dtype ≡ dtypes.Primitive p NonNullable → (column deltas).dtype ≡ dtypes.Primitive p NonNullable → item_count deltas % 1024 ≡ 0 → item_count bases ≡ lanes_of_type p * (item_count deltas / 1024)
    → delta_metadata_of (message_text (delta_slots (record { deltas_len = item_count deltas; offset = parts.offset }))) ≡ Ok (record { deltas_len = item_count deltas; offset = parts.offset })
    → reading (written bases) ≡ Ok (read_back bases) → reading (written deltas) ≡ Ok (read_back deltas) → reading (written (Delta bases deltas parts)) ≡ Ok (read_back (Delta bases deltas parts))
delta_node bases deltas parts p none covered of_base of_delta whole lanes message reads_b reads_d =
    let t : Tree = Delta bases deltas parts in
    let m : NodeInfo = infos.Delta p (record { deltas_len = item_count deltas; offset = parts.offset }) in
    let long : item_count t ≡ parts.len = length-table _ parts.len in
    let first : ExpectedChild = numbers p (lanes_of_type p * (item_count deltas / 1024)) in
    let second : ExpectedChild = numbers p (item_count deltas) in
    let vn = validity_nodes parts.len parts.validity in
    let w = with_validity (head_written t) m parts.len parts.validity (written bases ∷ written deltas ∷ []) [] (read_back bases ∷ read_back deltas ∷ []) [] refl refl long covered
    (fit_written first bases (read_back bases) (sym of_base) (sym lanes) reads_b, (fit_written second deltas (read_back deltas) (sym of_delta) refl reads_d, tt)) tt in
    let back : delta_refusal (column (read_back bases)) (column (read_back deltas)) (read_validity parts.len parts.validity) parts.offset parts.len ≡ None =
    ap (λ c. delta_refusal c (column (read_back deltas)) (read_validity parts.len parts.validity) parts.offset parts.len) (column_back bases)
    ∙ ap (λ c. delta_refusal (column bases) c (read_validity parts.len parts.validity) parts.offset parts.len) (column_back deltas)
    ∙ covered_too (column bases) (column deltas) none covered (read_covers parts.validity parts.len covered) in
    rw (← append_none vn) (node_read t (read_back t) (written bases ∷ written deltas ∷ (vn ++ [])) m (read_back bases ∷ read_back deltas ∷ (validity_trees parts.len parts.validity ++ [])) (rw (of_base, message) refl)
    (none_of_three (head_written t) m (length (written bases ∷ written deltas ∷ (vn ++ []))) refl w.counted (rw whole refl)) w.reads
    (rw (w.validity, long, back) refl))
  where
    covered_too : (b d : Column) → delta_refusal b d parts.validity parts.offset parts.len ≡ None → IsTrue (covers parts.validity parts.len) → IsTrue (covers (read_validity parts.len parts.validity) parts.len)
        → delta_refusal b d (read_validity parts.len parts.validity) parts.offset parts.len ≡ None
    covered_too b d none before after = rw (after ∙ sym before) none

pub delta_back : (bases deltas : Tree) (parts : DeltaParts) → delta_refusal (column bases) (column deltas) parts.validity parts.offset parts.len ≡ None
    → (parts.offset < 2 ^ 32 → delta_metadata_of (message_text (delta_slots (record { deltas_len = item_count deltas; offset = parts.offset }))) ≡ Ok (record { deltas_len = item_count deltas; offset = parts.offset }))
    → reading (written bases) ≡ Ok (read_back bases) → reading (written deltas) ≡ Ok (read_back deltas) → reading (written (Delta bases deltas parts)) ≡ Ok (read_back (Delta bases deltas parts))
delta_back bases deltas parts none message reads_b reads_d =
    let s1 = none_else (nat_le 1024 parts.offset) _ _ none in
    let s2 = none_else (nat_lt (item_count deltas) (parts.offset + parts.len)) _ _ s1.1 in
    let s3 = none_else (is_nullable (column bases).dtype || is_nullable (column deltas).dtype) _ _ s2.1 in
    let s4 = none_else (not (same_type (column bases).dtype (column deltas).dtype)) _ _ s3.1 in
    let s5 = none_else (not (is_integer (column bases).dtype)) _ _ s4.1 in
    let s6 = none_else (not (covers parts.validity parts.len)) _ _ s5.1 in
    let s7 = none_else (not (eqb (item_count deltas % 1024) 0 && eqb (item_count bases) (lanes_of_dtype (column bases).dtype * (item_count deltas / 1024)))) _ _ s6.1 in
    let whole = holds _ s7.0 in
    let solid = or_false _ _ s3.0 in
    let of_base = integers (column bases).dtype (holds _ s5.0) in
    let base_solid = solid_type (column bases).dtype of_base.0 of_base.1 of_base.2 solid.0 in
    let turned : same_type (dtypes.Primitive of_base.0 NonNullable) (column deltas).dtype ≡ true = ap (λ d. same_type d (column deltas).dtype) (sym base_solid) ∙ holds _ s4.0 in
    let of_delta = same_type_turned of_base.0 (column deltas).dtype turned in
    let delta_solid = solid_type (column deltas).dtype of_base.0 of_delta.0 of_delta.1 solid.1 in
    let lanes : item_count bases ≡ lanes_of_type of_base.0 * (item_count deltas / 1024) = eqb-true _ _ (and_second (eqb (item_count deltas % 1024) 0) _ whole) ∙ ap (λ d. lanes_of_type (unwrap_or (integer_type d) U8) * (item_count deltas / 1024)) base_solid in
    let less = leb-false 1024 parts.offset s1.0 in
    delta_node bases deltas parts of_base.0 none (holds _ s6.0) base_solid delta_solid (eqb-true _ _ (and_first (eqb (item_count deltas % 1024) 0) _ whole)) lanes (message (omega (arith, less))) reads_b reads_d

-- ---- run-length encoded arrays
rle_node : (values indices offsets : Tree) (window : OffsetLen) (p i o : PType) (n : Nullability) → rle_refusal (column values) (column indices) (column offsets) window.offset window.len ≡ None
    → (column values).dtype ≡ dtypes.Primitive p NonNullable → (column indices).dtype ≡ dtypes.Primitive i n → (column offsets).dtype ≡ dtypes.Primitive o NonNullable
    → rle_of (message_text (rle_slots (record { values_len = item_count values; indices_len = item_count indices; indices = i; values_idx_offsets_len = item_count offsets; values_idx_offsets = o; offset = window.offset })))
    ≡ Ok (record { values_len = item_count values; indices_len = item_count indices; indices = i; values_idx_offsets_len = item_count offsets; values_idx_offsets = o; offset = window.offset })
    → reading (written values) ≡ Ok (read_back values) → reading (written indices) ≡ Ok (read_back indices) → reading (written offsets) ≡ Ok (read_back offsets)
    → reading (written (RLE values indices offsets window)) ≡ Ok (read_back (RLE values indices offsets window))
rle_node values indices offsets window p i o n none of_value of_index of_offset message reads_v reads_i reads_o =
    let t : Tree = RLE values indices offsets window in
    let m : NodeInfo = infos.RLE p (record { values_len = item_count values; indices_len = item_count indices; indices = i; values_idx_offsets_len = item_count offsets; values_idx_offsets = o; offset = window.offset }) in
    let long : item_count t ≡ window.len = length-table _ window.len in
    let first : ExpectedChild = numbers p (item_count values) in
    let second : ExpectedChild = record { dtype = dtypes.Primitive i (nullability_in (column indices).dtype); len = item_count indices } in
    let third : ExpectedChild = numbers o (item_count offsets) in
    let typed : dtypes.Primitive i (nullability_in (column indices).dtype) ≡ (column indices).dtype = rw of_index refl in
    let back : rle_refusal (column (read_back values)) (column (read_back indices)) (column (read_back offsets)) window.offset window.len ≡ None =
    ap (λ c. rle_refusal c (column (read_back indices)) (column (read_back offsets)) window.offset window.len) (column_back values)
    ∙ ap (λ c. rle_refusal (column values) c (column (read_back offsets)) window.offset window.len) (column_back indices)
    ∙ ap (λ c. rle_refusal (column values) (column indices) c window.offset window.len) (column_back offsets) ∙ none in
    node_read t (read_back t) (written values ∷ written indices ∷ written offsets ∷ []) m (read_back values ∷ read_back indices ∷ read_back offsets ∷ []) (rw (of_value, of_index, of_offset, message) refl)
    (none_of_three (head_written t) m 3 refl refl refl)
    (read_one first (second ∷ third ∷ []) (child_of (written values)) (child_of (written indices) ∷ child_of (written offsets) ∷ []) (read_back values) (read_back indices ∷ read_back offsets ∷ []) (fit_written first values (read_back values) (sym of_value) refl reads_v)
    (read_one second (third ∷ []) (child_of (written indices)) (child_of (written offsets) ∷ []) (read_back indices) (read_back offsets ∷ []) (fit_written second indices (read_back indices) typed refl reads_i)
    (read_one third [] (child_of (written offsets)) [] (read_back offsets) [] (fit_written third offsets (read_back offsets) (sym of_offset) refl reads_o) refl)))
    (rw (long, back) refl)

none_behind : (a b : Option FastLanesError) → codec.otherwise a b ≡ None → (a ≡ None) × (b ≡ None)
none_behind (Some e) b h = absurd cc
none_behind None b h = (refl, h)

pub rle_back : (values indices offsets : Tree) (window : OffsetLen) → rle_refusal (column values) (column indices) (column offsets) window.offset window.len ≡ None
    → ((i o : PType) → window.offset < 1024 → rle_of (message_text (rle_slots (record { values_len = item_count values; indices_len = item_count indices; indices = i; values_idx_offsets_len = item_count offsets; values_idx_offsets = o; offset = window.offset })))
    ≡ Ok (record { values_len = item_count values; indices_len = item_count indices; indices = i; values_idx_offsets_len = item_count offsets; values_idx_offsets = o; offset = window.offset }))
    → reading (written values) ≡ Ok (read_back values) → reading (written indices) ≡ Ok (read_back indices) → reading (written offsets) ≡ Ok (read_back offsets)
    → reading (written (RLE values indices offsets window)) ≡ Ok (read_back (RLE values indices offsets window))
rle_back values indices offsets window none message reads_v reads_i reads_o =
    let types = none_behind (rle_types_refusal (column values).dtype (column indices).dtype (column offsets).dtype (item_count indices) (item_count offsets) window.offset window.len) _ none in
    let s1 = none_else (nat_le 1024 window.offset) _ _ types.0 in
    let s2 = none_else (not (is_integer (column values).dtype)) _ _ s1.1 in
    let s3 = none_else (is_nullable (column values).dtype) _ _ s2.1 in
    let s4 = none_else (not (is_run_index_dtype (column indices).dtype)) _ _ s3.1 in
    let s5 = none_else (not (is_index_type (column offsets).dtype)) _ _ s4.1 in
    let less = leb-false 1024 window.offset s1.0 in
    let of_value = integers (column values).dtype (holds _ s2.0) in
    let solid = solid_type (column values).dtype of_value.0 of_value.1 of_value.2 s3.0 in
    let of_index = run_index_types (column indices).dtype (holds _ s4.0) in
    let of_offset = index_types (column offsets).dtype (holds _ s5.0) in
    rle_node values indices offsets window of_value.0 of_index.0 of_offset.0 of_index.1 none solid of_index.2 of_offset.1 (message of_index.0 of_offset.0 (omega (arith, less))) reads_v reads_i reads_o
