-- Nodes over others are read as they were written, once these are.
use Rattle.std.proofs.Common.{◌≡◌, ◌∙◌, ℕ, ℤ, Bool, true, false, cond, eqb, List, [], ◌∷◌, length, map, Option, Some, None, Result, Ok, refl, sym, ap, subst}
use Rattle.std.specs.Prelude.{IfSome, is_none, not}
use Rattle.std.proofs.lemmas.Bool.{eq-eqb, eqb-true}
use Rattle.std.proofs.lemmas.List.{length-map}
use Rattle.fl_types.specs.declared.dtype.DType.{DType}
use Rattle.fl_types.specs.declared.dtype.DType.TheVariants as dtypes
use Rattle.fl_types.specs.declared.dtype.Nullability.{Nullability}
use Rattle.fl_types.specs.declared.dtype.Nullability.TheVariants.{NonNullable, Nullable}
use Rattle.fl_types.specs.declared.dtype.PType.{PType}
use Rattle.fl_types.specs.declared.dtype.PType.TheVariants.{U8, U16, U32, U64, I8, I16, I32, I64}
use Rattle.fl_types.specs.declared.error.FastLanesError.{FastLanesError}
use Rattle.fl_types.specs.Integers.{FitsIn, code_of}
use Rattle.fl_types.specs.Types.{integer_type, is_integer, same_type}
use Rattle.fl_types.specs.Values.{ScalarParts}
use Rattle.fl_bitpacking.specs.Refusals.{otherwise}
use Rattle.fl_metadata.specs.Messages.{type_numbered}
use Rattle.fl_metadata.specs.Scalars.{scalar_of, scalar_slots}
use Rattle.fl_metadata.specs.WrittenText.{message_text}
use Rattle.fl_array.specs.Trees.{BitPackedBlocked, BitPackedGlobal, Constant, Delta, DeltaParts, FoRChunked, FoRGlobal, Primitive, RLE, Tree, OffsetLen, column}
use Rattle.fl_array.specs.Trees as tree
use Rattle.fl_array.specs.FoRArrays.{GlobalReference, for_refusal}
use Rattle.fl_serialized.specs.Nodes.{Node, head_of, listed, nodes_of}
use Rattle.fl_serde.specs.declared.node_info.NodeInfo.{NodeInfo}
use Rattle.fl_serde.specs.declared.node_info.NodeInfo.TheVariants as infos
use Rattle.fl_serde.specs.declared.children.ExpectedChild.{ExpectedChild}
use Rattle.fl_serde.specs.Checks.{checked, info_of, node_refusal}
use Rattle.fl_serde.specs.Children.{expected_children, same_dtype}
use Rattle.fl_serde.specs.Reading.{Child, fitting, for_over, made, read_children, reading, scalar_over}
use Rattle.fl_serde.specs.RoundTrip.{read_back, read_reference}
use Rattle.fl_serde.specs.Writing.{head_written, item_count, node_over, scalar_bytes, written}
use Rattle.fl_serde.proofs.ColumnsAgain.{column_back}
use Rattle.fl_serde.proofs.ReadLaws.{after_check, child_of}

-- ---- tests that pass
pub same_dtype_itself : (d : DType) → same_dtype d d ≡ true
same_dtype_itself (dtypes.Primitive p NonNullable) = rw (eq-eqb (code_of p) (code_of p) refl) refl
same_dtype_itself (dtypes.Primitive p Nullable) = rw (eq-eqb (code_of p) (code_of p) refl) refl
same_dtype_itself (dtypes.Bool NonNullable) = refl
same_dtype_itself (dtypes.Bool Nullable) = refl

pub equal : (n : ℕ) → eqb n n ≡ true
equal n = eq-eqb n n refl

-- a refusal that is none, and the ones behind it
pub none_else : (b : Bool) (e : FastLanesError) (rest : Option FastLanesError) → cond b (Some e) rest ≡ None → (b ≡ false) × (rest ≡ None)
none_else true e rest h = absurd cc
none_else false e rest h = (refl, h)

pub none_otherwise : (a b : Option FastLanesError) → otherwise a b ≡ None → (a ≡ None) × (b ≡ None)
none_otherwise (Some e) b h = absurd cc
none_otherwise None b h = (refl, h)

pub holds : (b : Bool) → not b ≡ false → b ≡ true
holds true h = refl
holds false h = absurd cc

-- ---- types
type_again : (p : PType) → type_numbered (code_of p) ≡ Ok p
type_again U8 = refl
type_again U16 = refl
type_again U32 = refl
type_again U64 = refl
type_again I8 = refl
type_again I16 = refl
type_again I32 = refl
type_again I64 = refl

pub code_once : (p q : PType) → eqb (code_of p) (code_of q) ≡ true → p ≡ q
code_once p q e = same_ok p q (sym (type_again p) ∙ ap type_numbered (eqb-true _ _ e) ∙ type_again q)
  where
    same_ok : (a b : PType) → (let r : Result PType FastLanesError = Ok a in r) ≡ Ok b → a ≡ b
    same_ok a b h = cc

pub integers : (d : DType) → is_integer d ≡ true → (p : PType) × (n : Nullability) × (d ≡ dtypes.Primitive p n)
integers (dtypes.Primitive p n) h = (p, n, refl)
integers (dtypes.Bool n) h = absurd cc

pub same_type_is : (d : DType) (p : PType) (n : Nullability) → same_type d (dtypes.Primitive p n) ≡ true → (m : Nullability) × (d ≡ dtypes.Primitive p m)
same_type_is (dtypes.Primitive q m) p n h = (m, ap (λ x. dtypes.Primitive x m) (code_once q p h))
same_type_is (dtypes.Bool m) p n h = absurd cc

some_value : (o : Option ℤ) → is_none o ≡ false → (z : ℤ) × (o ≡ Some z)
some_value None h = absurd cc
some_value (Some z) h = (z, refl)

-- ---- nodes and their children
listed_again : (nodes : List Node) → listed (nodes_of nodes) ≡ nodes
listed_again [] = refl
listed_again (node ∷ nodes) = ap (λ l. node ∷ l) (listed_again nodes)

pub head_is_written : (t : Tree) → head_of (written t) ≡ head_written t
head_is_written (Primitive p) = refl
head_is_written (Constant c) = refl
head_is_written (tree.Bool b) = refl
head_is_written (BitPackedGlobal parts width) = refl
head_is_written (BitPackedBlocked parts boundaries) = refl
head_is_written (FoRGlobal encoded reference) = refl
head_is_written (FoRChunked encoded references offset) = refl
head_is_written (Delta bases deltas parts) = refl
head_is_written (RLE values indices offsets window) = refl

-- a child that is as expected
pub fit : (asked : ExpectedChild) (node : Node) (u : Tree) → asked.dtype ≡ (head_of node).dtype → asked.len ≡ (head_of node).len → reading node ≡ Ok u → fitting asked (child_of node) ≡ Ok u
fit asked node u typed long reads = rw (typed, long, same_dtype_itself (head_of node).dtype, equal (head_of node).len, reads) refl

-- the node of an array as a child
pub fit_written : (asked : ExpectedChild) (t u : Tree) → asked.dtype ≡ (column t).dtype → asked.len ≡ item_count t → reading (written t) ≡ Ok u → fitting asked (child_of (written t)) ≡ Ok u
fit_written asked t u typed long reads = fit asked (written t) u (typed ∙ sym (ap (λ h. h.dtype) (head_is_written t))) (long ∙ sym (ap (λ h. h.len) (head_is_written t))) reads

pub read_one : (asked : ExpectedChild) (expected : List ExpectedChild) (child : Child) (children : List Child) (t : Tree) (ts : List Tree) → fitting asked child ≡ Ok t → read_children expected children ≡ Ok ts → read_children (asked ∷ expected) (child ∷ children) ≡ Ok (t ∷ ts)
read_one asked expected child children t ts first others = rw (first, others) refl

-- a node whose parts are read
pub node_read : (t u : Tree) (children : List Node) (m : NodeInfo) (trees : List Tree) → info_of (head_written t) ≡ Ok m → node_refusal (head_written t) m (length children) ≡ None
    → read_children (expected_children (head_written t) m (length children)) (map child_of children) ≡ Ok trees → made (head_written t) m trees ≡ Ok u → reading (node_over t children) ≡ Ok u
node_read t u children m trees message none read is =
    let accepted_it : checked (head_written t) (length children) ≡ Ok m = rw (message, none) refl in
    let here : checked (head_written t) (length (listed (nodes_of children))) ≡ Ok m = ap (λ l. checked (head_written t) (length l)) (listed_again children) ∙ accepted_it in
    after_check (node_over t children) m here ∙ rw (listed_again children, read) is

-- ---- a FoR array of one reference
for_made : (e : Tree) (reference : ScalarParts) (p : PType) (n m : Nullability) (z : ℤ) → (column e).dtype ≡ dtypes.Primitive p n → reference.dtype ≡ dtypes.Primitive p m → reference.value ≡ Some z
    → for_over (scalar_over p NonNullable reference.value) (read_back e ∷ []) ≡ Ok (FoRGlobal (read_back e) (read_reference reference))
for_made e reference p n m z typed of_reference valued = rw (valued, ap (λ c. c.dtype) (column_back e) ∙ typed, equal (code_of p), of_reference) refl

pub for_back : (e : Tree) (reference : ScalarParts) → for_refusal (column e) (GlobalReference reference) ≡ None → IfSome reference.value (λ z. (p : PType) → integer_type reference.dtype ≡ Some p → FitsIn p z)
    → ((p : PType) (value : Option ℤ) → IfSome value (FitsIn p) → scalar_of p (message_text (scalar_slots p value)) ≡ Ok value) → reading (written e) ≡ Ok (read_back e) → reading (written (FoRGlobal e reference)) ≡ Ok (read_back (FoRGlobal e reference))
for_back e reference none fits scalar reads =
    let s1 = none_else (not (is_integer (column e).dtype)) _ _ none in
    let s2 = none_else (is_none reference.value) _ _ s1.1 in
    let s3 = none_else (not (same_type reference.dtype (column e).dtype)) _ _ s2.1 in
    let of_type = integers (column e).dtype (holds _ s1.0) in
    let valued = some_value reference.value s2.0 in
    let of_reference = same_type_is reference.dtype of_type.0 of_type.1 (ap (same_type reference.dtype) (sym of_type.2) ∙ holds _ s3.0) in
    for_node e reference of_type.0 of_type.1 of_reference.0 valued.0 of_type.2 of_reference.1 valued.1 (scalar_bytes_again reference of_type.0 of_reference.0 valued.0 of_reference.1 valued.1 fits scalar) reads
  where
    scalar_bytes_again : (reference : ScalarParts) (p : PType) (m : Nullability) (z : ℤ) → reference.dtype ≡ dtypes.Primitive p m → reference.value ≡ Some z → IfSome reference.value (λ z. (p : PType) → integer_type reference.dtype ≡ Some p → FitsIn p z)
        → ((p : PType) (value : Option ℤ) → IfSome value (FitsIn p) → scalar_of p (message_text (scalar_slots p value)) ≡ Ok value) → scalar_of p (scalar_bytes reference) ≡ Ok reference.value
    scalar_bytes_again reference p m z typed valued fits scalar =
        let at_value : (z : ℤ) → reference.value ≡ Some z → FitsIn p z = λ z e. (subst (λ v. IfSome v (λ z. (p : PType) → integer_type reference.dtype ≡ Some p → FitsIn p z)) e fits) p (ap integer_type typed) in
        rw typed (scalar p reference.value (rw valued (at_value z valued)))

    for_node : (e : Tree) (reference : ScalarParts) (p : PType) (n m : Nullability) (z : ℤ) → (column e).dtype ≡ dtypes.Primitive p n → reference.dtype ≡ dtypes.Primitive p m → reference.value ≡ Some z → scalar_of p (scalar_bytes reference) ≡ Ok reference.value
        → reading (written e) ≡ Ok (read_back e) → reading (written (FoRGlobal e reference)) ≡ Ok (read_back (FoRGlobal e reference))
    for_node e reference p n m z typed of_reference valued text reads =
        node_read (FoRGlobal e reference) (read_back (FoRGlobal e reference)) (written e ∷ []) (infos.FoR p reference.value) (read_back e ∷ [])
        (rw (typed, text) refl) refl
        (read_one (record { dtype = (column (FoRGlobal e reference)).dtype; len = item_count (FoRGlobal e reference) }) [] (child_of (written e)) [] (read_back e) []
        (fit_written (record { dtype = (column (FoRGlobal e reference)).dtype; len = item_count (FoRGlobal e reference) }) e (read_back e) refl (length-map (column e).items _) reads) refl)
        (for_made e reference p n m z typed of_reference valued)
