-- What is read of a node has the node's type and its length.
use Rattle.std.proofs.Common.{◌≡◌, ◌∙◌, ℕ, ℤ, ◌+◌, ◌-◌, ◌*◌, ◌/◌, Bool, true, false, eqb, List, [], ◌∷◌, length, Option, Some, None, Result, Ok, Err, refl, sym, ap, subst, arith}
use Rattle.std.specs.Prelude.{◌==◌, ◌&&◌, ◌||◌, IfOk, if◌then◌else◌, is_none, is_some, not, ok_or, option_map, slice_get, unwrap_or}
use Rattle.std.proofs.lemmas.Bool.{eqb-true, ne_eqb}
use Rattle.std.proofs.lemmas.List.{length-append, length-map, length-replicate}
use Rattle.fl_types.specs.declared.dtype.DType.{DType}
use Rattle.fl_types.specs.declared.dtype.DType.TheVariants as dtypes
use Rattle.fl_types.specs.declared.dtype.Nullability.{Nullability}
use Rattle.fl_types.specs.declared.dtype.Nullability.TheVariants.{NonNullable, Nullable}
use Rattle.fl_types.specs.declared.dtype.PType.{PType}
use Rattle.fl_types.specs.declared.dtype.PType.TheVariants.{U8}
use Rattle.fl_types.specs.declared.error.FastLanesError.{FastLanesError}
use Rattle.fl_types.specs.declared.error.FastLanesError.TheVariants.{BadMetadata, ChildMismatch, NotInteger, UnknownId, ValidityLength}
use Rattle.fl_types.specs.declared.validity.Validity.{Validity}
use Rattle.fl_types.specs.declared.validity.Validity.TheVariants as valid
use Rattle.fl_types.specs.Integers.{code_of, lanes_of_type}
use Rattle.fl_types.specs.Refusals.{Answers}
use Rattle.fl_types.specs.Types.{integer_type, is_integer, is_nullable, nullability_in}
use Rattle.fl_types.specs.Validities.{covers, full_validity, items_of, nullability_of}
use Rattle.fl_types.specs.Values.{ScalarParts}
use Rattle.fl_column.specs.Columns.{new_bools, new_constant, new_primitive}
use Rattle.fl_column.proofs.ItemLaws.{length-items_of}
use Rattle.fl_column.proofs.ListLaws.{and_first, and_second}
use Rattle.fl_bitpacking.specs.Columns.{BitPackedParts}
use Rattle.fl_bitpacking.specs.Refusals.{accepted}
use Rattle.fl_bitpacking.proofs.Tables.{length-table}
use Rattle.fl_metadata.specs.Schemas.{◌>>=◌}
use Rattle.fl_metadata.specs.WireReading.{fields_of}
use Rattle.fl_metadata.specs.Messages.{bit_packed_blocked_of, bit_packed_of, delta_metadata_of, for_chunked_of, rle_of}
use Rattle.fl_metadata.specs.Scalars.{scalar_of}
use Rattle.fl_array.specs.Trees.{DeltaParts, Tree, OffsetLen, column}
use Rattle.fl_array.specs.Trees as tree
use Rattle.fl_array.specs.BitPackedArrays.{BitWidthsParts, BlockBoundaries, GlobalWidth, bit_widths_refusal, bitpacked_tree, new_bitpacked, tree_of_bitpacked}
use Rattle.fl_array.specs.DeltaArrays.{new_delta, tree_of_delta}
use Rattle.fl_array.specs.FoRArrays.{ChunkReferences, FoRReferencesParts, GlobalReference, for_tree, new_for, new_for_chunked, references_of, tree_of_for}
use Rattle.fl_array.specs.RLEArrays.{new_rle, tree_of_rle}
use Rattle.fl_serialized.specs.Nodes.{And, Head, NoMore, Node, Nodes, Of, head_of}
use Rattle.fl_serde.specs.declared.kinds.NodeKind.{NodeKind}
use Rattle.fl_serde.specs.declared.kinds.NodeKind.TheVariants as kinds
use Rattle.fl_serde.specs.declared.node_info.NodeInfo.{NodeInfo}
use Rattle.fl_serde.specs.declared.node_info.NodeInfo.TheVariants as infos
use Rattle.fl_serde.specs.declared.children.ExpectedChild.{ExpectedChild}
use Rattle.fl_serde.specs.Checks.{buffers_refusal, checked, count_refusal, info_of, info_of_type, integer_info, node_refusal, own_bytes}
use Rattle.fl_serde.specs.Kinds.{kind_of_id}
use Rattle.fl_serde.specs.Leaves.{bits_of_bytes, slots_of_bytes}
use Rattle.fl_serde.specs.Children.{back_children, child_count, expected_children, front_children, has_validity, same_dtype, takes_validity}
use Rattle.fl_serde.specs.TypeAndLength.{HasTypeAndLength}
use Rattle.fl_serde.specs.Reading.{Child, bitpacked_over, blocked_over, delta_over, fitting, for_chunked_over, for_over, found_children, made, parts_over, patches_found, read_children, read_node, reading, rle_over, scalar_over, validity_of, validity_over}
use Rattle.fl_serde.proofs.NestedAgain.{code_once, holds, none_otherwise}

-- ---- steps that do not refuse
pub record Step {A B : Type 0} (r : Result A FastLanesError) (f : A → Result B FastLanesError) (y : B) : Type 0 where
  pub value : A
  pub made : r ≡ Ok value
  pub rest : f value ≡ Ok y

pub step : {A B : Type 0} (r : Result A FastLanesError) (f : A → Result B FastLanesError) (y : B) → (r >>= f) ≡ Ok y → Step r f y
step (Ok x) f y h = record { value = x; made = refl; rest = h }
step (Err e) f y h = absurd cc

pub same_ok : {A : Type 0} (x y : A) → (let r : Result A FastLanesError = Ok x in r) ≡ Ok y → x ≡ y
same_ok x y h = cc

pub accepted_is : {A : Type 0} (x y : A) (o : Option FastLanesError) → accepted x o ≡ Ok y → (o ≡ None) × (x ≡ y)
accepted_is x y None h = (refl, same_ok x y h)
accepted_is x y (Some e) h = absurd cc

-- a test that lets a value through
pub let_through : {A : Type 0} (b : Bool) (x y : A) (e : FastLanesError) → (if b then Ok x else Err e) ≡ Ok y → (b ≡ true) × (x ≡ y)
let_through true x y e h = (refl, same_ok x y h)
let_through false x y e h = absurd cc

kept_back : {A : Type 0} (b : Bool) (x y : A) (e : FastLanesError) → (if b then Err e else Ok x) ≡ Ok y → (b ≡ false) × (x ≡ y)
kept_back true x y e h = absurd cc
kept_back false x y e h = (refl, same_ok x y h)

-- ---- what a node's info says of the type
abbrev pub Says : NodeInfo → DType → Type 0
Says (infos.Primitive p) d = (n : Nullability) × (d ≡ dtypes.Primitive p n)
Says (infos.Constant p value) d = (n : Nullability) × (d ≡ dtypes.Primitive p n) × ((is_none value && not (is_nullable d)) ≡ false)
Says infos.Bool d = (n : Nullability) × (d ≡ dtypes.Bool n)
Says (infos.BitPacked p m) d = (n : Nullability) × (d ≡ dtypes.Primitive p n)
Says (infos.BitPackedBlocked p m) d = (n : Nullability) × (d ≡ dtypes.Primitive p n)
Says (infos.FoR p value) d = (n : Nullability) × (d ≡ dtypes.Primitive p n)
Says (infos.FoRChunked p m) d = (n : Nullability) × (d ≡ dtypes.Primitive p n)
Says (infos.Delta p m) d = (n : Nullability) × (d ≡ dtypes.Primitive p n)
Says (infos.RLE p m) d = (n : Nullability) × (d ≡ dtypes.Primitive p n)

of_integers : (kind : NodeKind) (p : PType) (n : Nullability) (head : Head) (m : NodeInfo) → head.dtype ≡ dtypes.Primitive p n → integer_info kind p head ≡ Ok m → Says m (dtypes.Primitive p n)
of_integers kinds.Primitive p n head m typed h = subst (λ k. Says k (dtypes.Primitive p n)) (let_through (is_some (fields_of head.metadata)) (infos.Primitive p) m BadMetadata h).1 (n, refl)
of_integers kinds.Constant p n head m typed h =
    let s = step (scalar_of p head.metadata) _ m h in
    let t = kept_back (is_none s.value && not (is_nullable head.dtype)) (infos.Constant p s.value) m BadMetadata s.rest in
    subst (λ k. Says k (dtypes.Primitive p n)) t.1 (n, refl, ap (λ d. is_none s.value && not (is_nullable d)) (sym typed) ∙ t.0)
of_integers kinds.Bool p n head m typed h = absurd cc
of_integers kinds.BitPacked p n head m typed h = let s = step (bit_packed_of head.metadata) _ m h in subst (λ k. Says k (dtypes.Primitive p n)) (same_ok _ m s.rest) (n, refl)
of_integers kinds.BitPackedBlocked p n head m typed h = let s = step (bit_packed_blocked_of head.metadata) _ m h in subst (λ k. Says k (dtypes.Primitive p n)) (same_ok _ m s.rest) (n, refl)
of_integers kinds.FoR p n head m typed h = let s = step (scalar_of p head.metadata) _ m h in subst (λ k. Says k (dtypes.Primitive p n)) (same_ok _ m s.rest) (n, refl)
of_integers kinds.FoRChunked p n head m typed h = let s = step (for_chunked_of head.metadata) _ m h in subst (λ k. Says k (dtypes.Primitive p n)) (same_ok _ m s.rest) (n, refl)
of_integers kinds.Delta p n head m typed h = let s = step (delta_metadata_of head.metadata) _ m h in subst (λ k. Says k (dtypes.Primitive p n)) (same_ok _ m s.rest) (n, refl)
of_integers kinds.RLE p n head m typed h = let s = step (rle_of head.metadata) _ m h in subst (λ k. Says k (dtypes.Primitive p n)) (same_ok _ m s.rest) (n, refl)

of_booleans : (kind : NodeKind) (n : Nullability) (head : Head) (m : NodeInfo) → info_of_type kind head (dtypes.Bool n) ≡ Ok m → Says m (dtypes.Bool n)
of_booleans kinds.Bool n head m h = subst (λ k. Says k (dtypes.Bool n)) (let_through (is_some (fields_of head.metadata)) infos.Bool m BadMetadata h).1 (n, refl)
of_booleans kinds.Primitive n head m h = absurd cc
of_booleans kinds.Constant n head m h = absurd cc
of_booleans kinds.BitPacked n head m h = absurd cc
of_booleans kinds.BitPackedBlocked n head m h = absurd cc
of_booleans kinds.FoR n head m h = absurd cc
of_booleans kinds.FoRChunked n head m h = absurd cc
of_booleans kinds.Delta n head m h = absurd cc
of_booleans kinds.RLE n head m h = absurd cc

of_type : (d : DType) (kind : NodeKind) (head : Head) (m : NodeInfo) → head.dtype ≡ d → info_of_type kind head d ≡ Ok m → Says m d
of_type (dtypes.Primitive p n) kind head m typed h = of_integers kind p n head m typed h
of_type (dtypes.Bool n) kind head m typed h = of_booleans kind n head m h

pub info_says : (head : Head) (m : NodeInfo) → info_of head ≡ Ok m → Says m head.dtype
info_says head m h = let s = step (ok_or (kind_of_id head.id) UnknownId) _ m h in of_type head.dtype s.value head m refl s.rest

-- ---- children that are as expected
-- what is read of a child has the type and the length that its node says
abbrev pub Found : Child → Type 0
Found child = (t : Tree) → child.tree ≡ Ok t → HasTypeAndLength t child.dtype child.len

abbrev pub AllFound : List Child → Type 0
AllFound [] = Unit {0}
AllFound (child ∷ children) = Found child × AllFound children

-- arrays are as expected, one by one
abbrev pub AreAsExpected : List ExpectedChild → List Tree → Type 0
AreAsExpected [] [] = Unit {0}
AreAsExpected [] (tree ∷ trees) = ⊥
AreAsExpected (asked ∷ expected) [] = ⊥
AreAsExpected (asked ∷ expected) (tree ∷ trees) = HasTypeAndLength tree asked.dtype asked.len × AreAsExpected expected trees

never : (b : Bool) → (b && false) ≡ true → ⊥
never true h = absurd cc
never false h = absurd cc

same_dtype_is : (a b : DType) → same_dtype a b ≡ true → a ≡ b
same_dtype_is (dtypes.Primitive p NonNullable) (dtypes.Primitive q NonNullable) h = ap (λ x. dtypes.Primitive x NonNullable) (code_once p q (and_first _ _ h))
same_dtype_is (dtypes.Primitive p Nullable) (dtypes.Primitive q Nullable) h = ap (λ x. dtypes.Primitive x Nullable) (code_once p q (and_first _ _ h))
same_dtype_is (dtypes.Primitive p NonNullable) (dtypes.Primitive q Nullable) h = absurd (never (eqb (code_of p) (code_of q)) h)
same_dtype_is (dtypes.Primitive p Nullable) (dtypes.Primitive q NonNullable) h = absurd (never (eqb (code_of p) (code_of q)) h)
same_dtype_is (dtypes.Primitive p n) (dtypes.Bool m) h = absurd cc
same_dtype_is (dtypes.Bool n) (dtypes.Primitive q m) h = absurd cc
same_dtype_is (dtypes.Bool NonNullable) (dtypes.Bool NonNullable) h = refl
same_dtype_is (dtypes.Bool Nullable) (dtypes.Bool Nullable) h = refl
same_dtype_is (dtypes.Bool NonNullable) (dtypes.Bool Nullable) h = absurd cc
same_dtype_is (dtypes.Bool Nullable) (dtypes.Bool NonNullable) h = absurd cc

-- a child that fits is of the type and the length that are asked
fitting_typed : (asked : ExpectedChild) (child : Child) (t : Tree) → Found child → fitting asked child ≡ Ok t → HasTypeAndLength t asked.dtype asked.len
fitting_typed asked child t found h = cases (same_dtype asked.dtype child.dtype && (asked.len == child.len)) refl h
  where
    cases : (b : Bool) → (same_dtype asked.dtype child.dtype && (asked.len == child.len)) ≡ b → (if b then child.tree else Err ChildMismatch) ≡ Ok t → HasTypeAndLength t asked.dtype asked.len
    cases false e h = absurd cc
    cases true e h =
        let is = found t h in
        record { typed = is.typed ∙ sym (same_dtype_is asked.dtype child.dtype (and_first _ _ e)); long = is.long ∙ sym (eqb-true _ _ (and_second (same_dtype asked.dtype child.dtype) _ e)) }

pub children_have : (expected : List ExpectedChild) (children : List Child) (trees : List Tree) → AllFound children → read_children expected children ≡ Ok trees → AreAsExpected expected trees
children_have [] children trees found h = subst (AreAsExpected []) (same_ok [] trees h) tt
children_have (asked ∷ expected) [] trees found h = absurd cc
children_have (asked ∷ expected) (child ∷ children) trees found h =
    let first = step (fitting asked child) _ trees h in
    let rest = step (read_children expected children) _ trees first.rest in
    subst (AreAsExpected (asked ∷ expected)) (same_ok _ trees rest.rest) (fitting_typed asked child first.value found.0 first.made, children_have expected children rest.value found.1 rest.made)

pub as_many : (expected : List ExpectedChild) (trees : List Tree) → AreAsExpected expected trees → length trees ≡ length expected
as_many [] [] h = refl
as_many [] (tree ∷ trees) h = absurd h
as_many (asked ∷ expected) [] h = absurd h
as_many (asked ∷ expected) (tree ∷ trees) h = let others = as_many expected trees h.1 in omega (arith, others)

-- ---- validities
nullable_is : (d : DType) → is_nullable d ≡ true → nullability_in d ≡ Nullable
nullable_is (dtypes.Primitive p NonNullable) h = absurd cc
nullable_is (dtypes.Primitive p Nullable) h = refl
nullable_is (dtypes.Bool NonNullable) h = absurd cc
nullable_is (dtypes.Bool Nullable) h = refl

full_nulls : (n : Nullability) → nullability_of (full_validity n) ≡ n
full_nulls NonNullable = refl
full_nulls Nullable = refl

found_nulls : (o : Option Tree) → nullability_of (unwrap_or (option_map validity_of o) (valid.Array [])) ≡ Nullable
found_nulls None = refl
found_nulls (Some t) = refl

pub passes : (b : Bool) (e : FastLanesError) → (if b then None else Some e) ≡ None → b ≡ true
passes true e h = refl
passes false e h = absurd cc

pub or_second : (a b : Bool) → a ≡ false → (a || b) ≡ true → b ≡ true
or_second true b e h = absurd cc
or_second false b e h = h

one_more : (n : ℕ) → eqb (n + 1) n ≡ false
one_more n = ne_eqb (n + 1) n (λ e. absurd (omega (arith, e)))

-- no child too many and no validity: the arrays are the children beside it
without_validity : (head : Head) (m : NodeInfo) (count : ℕ) → has_validity head m count ≡ false → length (expected_children head m count) ≡ child_count head m
without_validity head m count e = rw e (length-append (front_children head m) (back_children head m))

nullable_where : (head : Head) (m : NodeInfo) (count : ℕ) (trees : List Tree) → count_refusal head m count ≡ None → length trees ≡ length (expected_children head m count) → has_validity head m (length trees) ≡ true → nullability_in head.dtype ≡ Nullable
nullable_where head m count trees fine long has = cases (has_validity head m count) refl
  where
    cases : (b : Bool) → has_validity head m count ≡ b → nullability_in head.dtype ≡ Nullable
    cases false e =
        let some : length trees ≡ child_count head m + 1 = eqb-true _ _ has in
        let none : length trees ≡ child_count head m = long ∙ without_validity head m count e in
        absurd (omega (arith, some, none))
    cases true e =
        let counted : count ≡ child_count head m + 1 = eqb-true _ _ e in
        let differs : (count == child_count head m) ≡ false = ap (λ n. eqb n (child_count head m)) counted ∙ one_more (child_count head m) in
        let may = or_second (count == child_count head m) _ differs (passes _ _ fine) in
        nullable_is head.dtype (and_second (takes_validity m) _ (and_second (has_validity head m count) _ may))

-- nulls may stand where the type says so
nulls_over : (head : Head) (m : NodeInfo) (count : ℕ) (trees : List Tree) → count_refusal head m count ≡ None → length trees ≡ length (expected_children head m count) → nullability_of (validity_over head m trees) ≡ nullability_in head.dtype
nulls_over head m count trees fine long = cases (has_validity head m (length trees)) refl
  where
    cases : (b : Bool) → has_validity head m (length trees) ≡ b → nullability_of (validity_over head m trees) ≡ nullability_in head.dtype
    cases true e = rw e (found_nulls (slice_get trees (length (front_children head m))) ∙ sym (nullable_where head m count trees fine long e))
    cases false e = rw e (full_nulls (nullability_in head.dtype))

-- ---- arrays of each kind
-- a type and its nulls
typed_by : (d : DType) (p : PType) (n k : Nullability) → d ≡ dtypes.Primitive p n → k ≡ nullability_in d → dtypes.Primitive p k ≡ d
typed_by d p n k is nulls = ap (dtypes.Primitive p) (nulls ∙ ap nullability_in is) ∙ sym is

primitive_typed : (d : DType) (len : ℕ) (p : PType) (n : Nullability) (bytes : List ℕ) (v : Validity) (t : Tree) → d ≡ dtypes.Primitive p n → nullability_of v ≡ nullability_in d
    → (new_primitive p (slots_of_bytes p bytes len) v >>= λ q. Ok (tree.Primitive q)) ≡ Ok t → HasTypeAndLength t d len
primitive_typed d len p n bytes v t is nulls h =
    let s = step (new_primitive p (slots_of_bytes p bytes len) v) _ t h in
    let made = let_through (covers v (length (slots_of_bytes p bytes len))) (record { ptype = p; slots = slots_of_bytes p bytes len; validity = v }) s.value ValidityLength s.made in
    subst (λ x. HasTypeAndLength x d len) (ap tree.Primitive made.1 ∙ same_ok _ t s.rest) (record {
      typed = typed_by d p n (nullability_of v) is nulls;
      long = length-items_of v (slots_of_bytes p bytes len) made.0 ∙ length-table _ len;
    })

bools_typed : (d : DType) (len : ℕ) (n : Nullability) (bytes : List ℕ) (v : Validity) (t : Tree) → d ≡ dtypes.Bool n → nullability_of v ≡ nullability_in d
    → (new_bools (bits_of_bytes bytes len) v >>= λ b. Ok (tree.Bool b)) ≡ Ok t → HasTypeAndLength t d len
bools_typed d len n bytes v t is nulls h =
    let s = step (new_bools (bits_of_bytes bytes len) v) _ t h in
    let made = let_through (covers v (length (bits_of_bytes bytes len))) (record { bits = bits_of_bytes bytes len; validity = v }) s.value ValidityLength s.made in
    subst (λ x. HasTypeAndLength x d len) (ap tree.Bool made.1 ∙ same_ok _ t s.rest) (record {
      typed = ap dtypes.Bool (nulls ∙ ap nullability_in is) ∙ sym is;
      long = length-map (items_of v (bits_of_bytes bytes len)) _ ∙ (length-items_of v (bits_of_bytes bytes len) made.0 ∙ length-table _ len);
    })

scalar_typed : (d : DType) (p : PType) (n : Nullability) (value : Option ℤ) → d ≡ dtypes.Primitive p n → (is_none value && not (is_nullable d)) ≡ false → (scalar_over p (nullability_in d) value).dtype ≡ d
scalar_typed d p n (Some z) is may = typed_by d p n (nullability_in d) is refl
scalar_typed d p n None is may = typed_by d p n Nullable is (sym (nullable_is d (holds (is_nullable d) may)))

constant_typed : (d : DType) (len : ℕ) (p : PType) (n : Nullability) (value : Option ℤ) (t : Tree) → d ≡ dtypes.Primitive p n → (is_none value && not (is_nullable d)) ≡ false
    → (new_constant (scalar_over p (nullability_in d) value) len >>= λ c. Ok (tree.Constant c)) ≡ Ok t → HasTypeAndLength t d len
constant_typed d len p n value t is may h =
    let s = step (new_constant (scalar_over p (nullability_in d) value) len) _ t h in
    let made = let_through (is_integer (scalar_over p (nullability_in d) value).dtype) (record { scalar = scalar_over p (nullability_in d) value; len = len }) s.value NotInteger s.made in
    subst (λ x. HasTypeAndLength x d len) (ap tree.Constant made.1 ∙ same_ok _ t s.rest) (record { typed = scalar_typed d p n value is may; long = length-replicate len _ })

packed_typed : (parts : BitPackedParts) (widths : BitWidthsParts) (t : Tree) → bitpacked_over parts widths ≡ Ok t → HasTypeAndLength t (dtypes.Primitive parts.ptype (nullability_of parts.validity)) parts.len
packed_typed parts widths t h =
    let s = step (new_bitpacked parts widths) _ t h in
    let made = accepted_is (record { parts = parts; widths = widths }) s.value (bit_widths_refusal parts widths) s.made in
    subst (λ x. HasTypeAndLength x (dtypes.Primitive parts.ptype (nullability_of parts.validity)) parts.len) (ap tree_of_bitpacked made.1 ∙ same_ok _ t s.rest) (cases widths)
  where
    cases : (widths : BitWidthsParts) → HasTypeAndLength (bitpacked_tree parts widths) (dtypes.Primitive parts.ptype (nullability_of parts.validity)) parts.len
    cases (GlobalWidth width) = record { typed = refl; long = length-table _ parts.len }
    cases (BlockBoundaries boundaries) = record { typed = refl; long = length-table _ parts.len }

blocked_typed : (parts : BitPackedParts) (o : Option Tree) (t : Tree) → blocked_over parts o ≡ Ok t → HasTypeAndLength t (dtypes.Primitive parts.ptype (nullability_of parts.validity)) parts.len
blocked_typed parts None t h = absurd cc
blocked_typed parts (Some boundaries) t h = packed_typed parts (BlockBoundaries boundaries) t h

-- items less references have the type and the length of the encoded ones
less_typed : (encoded : Tree) (references : FoRReferencesParts) (d : DType) (len : ℕ) → HasTypeAndLength encoded d len → HasTypeAndLength (for_tree encoded references) d len
less_typed encoded (GlobalReference reference) d len is = record { typed = is.typed; long = length-map (column encoded).items _ ∙ is.long }
less_typed encoded (ChunkReferences references offset) d len is = record { typed = is.typed; long = length-table _ (length (column encoded).items) ∙ is.long }

for_typed : (encoded : Tree) (others : List Tree) (reference : ScalarParts) (d : DType) (len : ℕ) (t : Tree) → HasTypeAndLength encoded d len → for_over reference (encoded ∷ others) ≡ Ok t → HasTypeAndLength t d len
for_typed encoded others reference d len t is h =
    let s = step (new_for encoded reference) _ t h in
    let made = accepted_is (record { encoded = encoded; references = GlobalReference reference }) s.value _ s.made in
    subst (λ x. HasTypeAndLength x d len) (ap tree_of_for made.1 ∙ same_ok _ t s.rest) (less_typed encoded (GlobalReference reference) d len is)

chunked_typed : (encoded references : Tree) (others : List Tree) (offset : ℕ) (d : DType) (len : ℕ) (t : Tree) → HasTypeAndLength encoded d len → for_chunked_over offset (encoded ∷ references ∷ others) ≡ Ok t → HasTypeAndLength t d len
chunked_typed encoded references others offset d len t is h =
    let s = step (new_for_chunked encoded references offset) _ t h in
    let made = accepted_is (record { encoded = encoded; references = references_of references offset }) s.value _ s.made in
    subst (λ x. HasTypeAndLength x d len) (ap tree_of_for made.1 ∙ same_ok _ t s.rest) (less_typed encoded (references_of references offset) d len is)

delta_typed : (bases deltas : Tree) (others : List Tree) (parts : DeltaParts) (p : PType) (n : Nullability) (d : DType) (few : ℕ) (t : Tree) → d ≡ dtypes.Primitive p n → nullability_of parts.validity ≡ nullability_in d
    → HasTypeAndLength bases (dtypes.Primitive p NonNullable) few → delta_over parts (bases ∷ deltas ∷ others) ≡ Ok t → HasTypeAndLength t d parts.len
delta_typed bases deltas others parts p n d few t is nulls of_base h =
    let s = step (new_delta bases deltas parts) _ t h in
    let made = accepted_is (record { bases = bases; deltas = deltas; parts = parts }) s.value _ s.made in
    subst (λ x. HasTypeAndLength x d parts.len) (ap tree_of_delta made.1 ∙ same_ok _ t s.rest) (record {
      typed = ap (λ x. dtypes.Primitive (unwrap_or (integer_type x) U8) (nullability_of parts.validity)) of_base.typed ∙ typed_by d p n (nullability_of parts.validity) is nulls;
      long = length-table _ parts.len;
    })

rle_typed : (values indices offsets : Tree) (others : List Tree) (window : OffsetLen) (p i : PType) (n : Nullability) (d : DType) (few many : ℕ) (t : Tree) → d ≡ dtypes.Primitive p n
    → HasTypeAndLength values (dtypes.Primitive p NonNullable) few → HasTypeAndLength indices (dtypes.Primitive i (nullability_in d)) many → rle_over window (values ∷ indices ∷ offsets ∷ others) ≡ Ok t → HasTypeAndLength t d window.len
rle_typed values indices offsets others window p i n d few many t is of_value of_index h =
    let s = step (new_rle values indices offsets window) _ t h in
    let made = accepted_is (record { values = values; indices = indices; offsets = offsets; window = window }) s.value _ s.made in
    subst (λ x. HasTypeAndLength x d window.len) (ap tree_of_rle made.1 ∙ same_ok _ t s.rest) (record {
      typed = ap (λ x. dtypes.Primitive (unwrap_or (integer_type x) U8) (nullability_in (column indices).dtype)) of_value.typed ∙ typed_by d p n (nullability_in (column indices).dtype) is (ap nullability_in of_index.typed);
      long = length-table _ window.len;
    })

-- ---- any node
made_typed : (head : Head) (m : NodeInfo) (count : ℕ) (trees : List Tree) (t : Tree) → Says m head.dtype → count_refusal head m count ≡ None → AreAsExpected (expected_children head m count) trees → made head m trees ≡ Ok t → HasTypeAndLength t head.dtype head.len
made_typed head (infos.Primitive p) count trees t says_type fine expected h =
    primitive_typed head.dtype head.len p says_type.0 (own_bytes head) (validity_over head (infos.Primitive p) trees) t says_type.1 (nulls_over head (infos.Primitive p) count trees fine (as_many (expected_children head (infos.Primitive p) count) trees expected)) h
made_typed head (infos.Constant p value) count trees t says_type fine expected h = constant_typed head.dtype head.len p says_type.0 value t says_type.1 says_type.2 h
made_typed head infos.Bool count trees t says_type fine expected h =
    bools_typed head.dtype head.len says_type.0 (own_bytes head) (validity_over head infos.Bool trees) t says_type.1 (nulls_over head infos.Bool count trees fine (as_many (expected_children head infos.Bool count) trees expected)) h
made_typed head (infos.BitPacked p m) count trees t says_type fine expected h =
    let v = validity_over head (infos.BitPacked p m) trees in
    let s = step (patches_found head.len m.patches trees) _ t h in
    subst (λ d. HasTypeAndLength t d head.len) (typed_by head.dtype p says_type.0 (nullability_of v) says_type.1 (nulls_over head (infos.BitPacked p m) count trees fine (as_many (expected_children head (infos.BitPacked p m) count) trees expected)))
    (packed_typed (parts_over head p v s.value m.offset) (GlobalWidth m.bit_width) t s.rest)
made_typed head (infos.BitPackedBlocked p m) count trees t says_type fine expected h =
    let v = validity_over head (infos.BitPackedBlocked p m) trees in
    let s = step (patches_found head.len m.patches trees) _ t h in
    subst (λ d. HasTypeAndLength t d head.len) (typed_by head.dtype p says_type.0 (nullability_of v) says_type.1 (nulls_over head (infos.BitPackedBlocked p m) count trees fine (as_many (expected_children head (infos.BitPackedBlocked p m) count) trees expected)))
    (blocked_typed (parts_over head p v s.value m.offset) (slice_get trees (length trees - 1)) t s.rest)
made_typed head (infos.FoR p value) count [] t says_type fine expected h = absurd cc
made_typed head (infos.FoR p value) count (encoded ∷ others) t says_type fine expected h = for_typed encoded others (scalar_over p NonNullable value) head.dtype head.len t expected.0 h
made_typed head (infos.FoRChunked p m) count [] t says_type fine expected h = absurd cc
made_typed head (infos.FoRChunked p m) count (encoded ∷ []) t says_type fine expected h = absurd cc
made_typed head (infos.FoRChunked p m) count (encoded ∷ references ∷ others) t says_type fine expected h = chunked_typed encoded references others m.offset head.dtype head.len t expected.0 h
made_typed head (infos.Delta p m) count [] t says_type fine expected h = absurd cc
made_typed head (infos.Delta p m) count (bases ∷ []) t says_type fine expected h = absurd cc
made_typed head (infos.Delta p m) count (bases ∷ deltas ∷ others) t says_type fine expected h =
    let trees : List Tree = bases ∷ deltas ∷ others in
    delta_typed bases deltas others (record { validity = validity_over head (infos.Delta p m) trees; offset = m.offset; len = head.len }) p says_type.0 head.dtype (lanes_of_type p * (m.deltas_len / 1024)) t says_type.1
    (nulls_over head (infos.Delta p m) count trees fine (as_many (expected_children head (infos.Delta p m) count) trees expected)) expected.0 h
made_typed head (infos.RLE p m) count [] t says_type fine expected h = absurd cc
made_typed head (infos.RLE p m) count (values ∷ []) t says_type fine expected h = absurd cc
made_typed head (infos.RLE p m) count (values ∷ indices ∷ []) t says_type fine expected h = absurd cc
made_typed head (infos.RLE p m) count (values ∷ indices ∷ offsets ∷ others) t says_type fine expected h =
    rle_typed values indices offsets others (record { offset = m.offset; len = head.len }) p m.indices says_type.0 head.dtype m.values_len m.indices_len t says_type.1 expected.0 expected.1.0 h

node_typed : (head : Head) (children : List Child) (t : Tree) → AllFound children → read_node head children ≡ Ok t → HasTypeAndLength t head.dtype head.len
node_typed head children t found h =
    let check = step (checked head (length children)) _ t h in
    let rest = step (read_children (expected_children head check.value (length children)) children) _ t check.rest in
    let said = step (info_of head) _ check.value check.made in
    let fine = accepted_is said.value check.value (node_refusal head said.value (length children)) said.rest in
    let none : node_refusal head check.value (length children) ≡ None = ap (λ m. node_refusal head m (length children)) (sym fine.1) ∙ fine.0 in
    let counted = none_otherwise (count_refusal head check.value (length children)) _ (none_otherwise (buffers_refusal head check.value) _ none).1 in
    made_typed head check.value (length children) rest.value t (info_says head check.value (said.made ∙ ap (λ m. Ok m) fine.1)) counted.0
    (children_have (expected_children head check.value (length children)) children rest.value found rest.made) rest.rest

mutual
  pub typed_read : (node : Node) (t : Tree) → reading node ≡ Ok t → HasTypeAndLength t (head_of node).dtype (head_of node).len
  typed_read (Of head children) t h = node_typed head (found_children children) t (all_typed_read children) h

  pub all_typed_read : (nodes : Nodes) → AllFound (found_children nodes)
  all_typed_read NoMore = tt
  all_typed_read (And node nodes) = (λ t h. typed_read node t h, all_typed_read nodes)

-- what a call answers that reads a node
pub answer_typed : (r : Result Tree FastLanesError) (node : Node) → Answers (λ a. a) r (reading node) → IfOk r (λ a. HasTypeAndLength a (head_of node).dtype (head_of node).len)
answer_typed (Ok a) node h = typed_read node a h
answer_typed (Err e) node h = tt
