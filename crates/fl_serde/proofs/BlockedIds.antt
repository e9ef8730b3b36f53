-- An array that is given a width for each block is written without a node of one width.
use Rattle.std.proofs.Common.{◌≡◌, ◌∙◌, ℕ, true, false, Option, Some, None, Ok, Err, IfOk, refl, subst, sym, ap}
use Rattle.std.specs.Prelude.{◌≢◌, ◌++◌, List, [], ◌∷◌, Result, bytes_eq, length}
use Rattle.std.specs.List.{All}
use Rattle.std.proofs.lemmas.List.Elements.{All-append, All-cons, All-nil}
use Rattle.fl_types.specs.declared.dtype.DType.{DType}
use Rattle.fl_types.specs.declared.dtype.DType.TheVariants as dtypes
use Rattle.fl_types.specs.Validities.{nullability_of}
use Rattle.fl_types.specs.Refusals.{Answers}
use Rattle.fl_types.specs.declared.error.FastLanesError.{FastLanesError}
use Rattle.fl_types.specs.declared.validity.Validity.{Validity}
use Rattle.fl_types.specs.declared.validity.Validity.TheVariants as valid
use Rattle.fl_column.specs.Columns.{PrimitiveParts}
use Rattle.fl_patches.specs.PatchMaps.{PatchesParts}
use Rattle.fl_bitpacking.specs.BlockedWidths.{width_per_block}
use Rattle.fl_bitpacking.specs.Blocks.{boundary_array}
use Rattle.fl_bitpacking.specs.Columns.{BitPackedParts}
use Rattle.fl_array.specs.ToBlocked.{to_blocked_tree}
use Rattle.fl_array.specs.Trees.{Tree}
use Rattle.fl_array.specs.Trees as tree
use Rattle.fl_serialized.specs.Nodes.{Node, nodes_of}
use Rattle.fl_serialized.specs.Nodes as ids
use Rattle.fl_serde.specs.NodeIds.{ids_in, ids_in_all}
use Rattle.fl_serde.specs.Writing.{chunk_offset_nodes, id_of, node_over, packed_nodes, patch_nodes, validity_nodes, written}

-- it isn't that of a bit-packed array of one width
abbrev IsOther : List ℕ → Type 0
IsOther id = id ≢ ids.bitpacked_v1_id

is_other : (id : List ℕ) → bytes_eq id ids.bitpacked_v1_id ≡ false → bytes_eq ids.bitpacked_v1_id ids.bitpacked_v1_id ≡ true → IsOther id
is_other id differs same e = let both : false ≡ true = sym differs ∙ (ap (λ x. bytes_eq x ids.bitpacked_v1_id) e ∙ same) in absurd cc

primitive_is_other : IsOther ids.primitive_id
primitive_is_other = is_other ids.primitive_id refl refl

bool_is_other : IsOther ids.bool_id
bool_is_other = is_other ids.bool_id refl refl

-- ---- the nodes in front of an array's children
abbrev AreOthers : List Node → Type 0
AreOthers nodes = All IsOther (ids_in_all (nodes_of nodes))

in_front : (node : Node) (nodes : List Node) → All IsOther (ids_in node) → AreOthers nodes → AreOthers (node ∷ nodes)
in_front node nodes first rest = All-append IsOther (ids_in node) (ids_in_all (nodes_of nodes)) first rest

validity_in_front : (len : ℕ) (v : Validity) (rest : List Node) → AreOthers rest → AreOthers (validity_nodes len v ++ rest)
validity_in_front len valid.NonNullable rest h = h
validity_in_front len valid.AllValid rest h = h
validity_in_front len valid.AllInvalid rest h = All-cons IsOther ids.bool_id (ids_in_all (nodes_of rest)) bool_is_other h
validity_in_front len (valid.Array bits) rest h = All-cons IsOther ids.bool_id (ids_in_all (nodes_of rest)) bool_is_other h

validity_alone : (len : ℕ) (v : Validity) → AreOthers (validity_nodes len v)
validity_alone len valid.NonNullable = All-nil IsOther
validity_alone len valid.AllValid = All-nil IsOther
validity_alone len valid.AllInvalid = All-cons IsOther ids.bool_id [] bool_is_other (All-nil IsOther)
validity_alone len (valid.Array bits) = All-cons IsOther ids.bool_id [] bool_is_other (All-nil IsOther)

offsets_in_front : (offsets : Option PrimitiveParts) (len : ℕ) (v : Validity) (rest : List Node) → AreOthers rest → AreOthers ((chunk_offset_nodes offsets ++ validity_nodes len v) ++ rest)
offsets_in_front None len v rest h = validity_in_front len v rest h
offsets_in_front (Some offsets) len v rest h = All-cons IsOther ids.primitive_id (ids_in_all (nodes_of (validity_nodes len v ++ rest))) primitive_is_other (validity_in_front len v rest h)

-- patches and a validity, in front of nodes
packed_in_front : (dtype : DType) (patches : Option PatchesParts) (len : ℕ) (v : Validity) (rest : List Node) → AreOthers rest → AreOthers ((patch_nodes dtype patches ++ validity_nodes len v) ++ rest)
packed_in_front dtype None len v rest h = validity_in_front len v rest h
packed_in_front dtype (Some p) len v rest h =
    let offsets : AreOthers ((chunk_offset_nodes p.chunk_offsets ++ validity_nodes len v) ++ rest) = offsets_in_front p.chunk_offsets len v rest h in
    let after : List Node = (chunk_offset_nodes p.chunk_offsets ++ validity_nodes len v) ++ rest in
    All-cons IsOther ids.primitive_id (ids.primitive_id ∷ ids_in_all (nodes_of after)) primitive_is_other (All-cons IsOther ids.primitive_id (ids_in_all (nodes_of after)) primitive_is_other offsets)

-- ---- whole arrays
over : (t : Tree) (children : List Node) → IsOther (id_of t) → AreOthers children → All IsOther (ids_in (node_over t children))
over t children here below = All-cons IsOther (id_of t) (ids_in_all (nodes_of children)) here below

packed : (t boundaries : Tree) (parts : BitPackedParts) → IsOther (id_of t) → All IsOther (ids_in (written boundaries)) → All IsOther (ids_in (node_over t (packed_nodes parts ++ written boundaries ∷ [])))
packed t boundaries parts here below =
    let last : List Node = written boundaries ∷ [] in
    over t (packed_nodes parts ++ last) here (packed_in_front (dtypes.Primitive parts.ptype (nullability_of parts.validity)) parts.patches parts.len parts.validity last (in_front (written boundaries) [] below (All-nil IsOther)))

plain : (p : PrimitiveParts) → All IsOther (ids_in (written (tree.Primitive p)))
plain p = over (tree.Primitive p) (validity_nodes (length p.slots) p.validity) primitive_is_other (validity_alone (length p.slots) p.validity)

pub no_global_id : (t : Tree) → All (λ id. id ≢ ids.bitpacked_v1_id) (ids_in (written (to_blocked_tree t)))
no_global_id (tree.Primitive p) = plain p
no_global_id (tree.Constant c) = over (tree.Constant c) [] (is_other ids.constant_id refl refl) (All-nil IsOther)
no_global_id (tree.Bool b) = over (tree.Bool b) (validity_nodes (length b.bits) b.validity) bool_is_other (validity_alone (length b.bits) b.validity)
no_global_id (tree.BitPackedGlobal parts width) =
    let b : PrimitiveParts = boundary_array (width_per_block parts width) in
    packed (tree.BitPackedBlocked parts (tree.Primitive b)) (tree.Primitive b) parts (is_other ids.bitpacked_v2_id refl refl) (plain b)
no_global_id (tree.BitPackedBlocked parts boundaries) = packed (tree.BitPackedBlocked parts (to_blocked_tree boundaries)) (to_blocked_tree boundaries) parts (is_other ids.bitpacked_v2_id refl refl) (no_global_id boundaries)
no_global_id (tree.FoRGlobal encoded reference) =
    over (tree.FoRGlobal (to_blocked_tree encoded) reference) (written (to_blocked_tree encoded) ∷ []) (is_other ids.for_v1_id refl refl) (in_front _ [] (no_global_id encoded) (All-nil IsOther))
no_global_id (tree.FoRChunked encoded references offset) =
    over (tree.FoRChunked (to_blocked_tree encoded) (to_blocked_tree references) offset) (written (to_blocked_tree encoded) ∷ written (to_blocked_tree references) ∷ []) (is_other ids.for_v2_id refl refl)
    (in_front _ (written (to_blocked_tree references) ∷ []) (no_global_id encoded) (in_front _ [] (no_global_id references) (All-nil IsOther)))
no_global_id (tree.Delta bases deltas parts) =
    over (tree.Delta (to_blocked_tree bases) (to_blocked_tree deltas) parts) (written (to_blocked_tree bases) ∷ written (to_blocked_tree deltas) ∷ validity_nodes parts.len parts.validity) (is_other ids.delta_id refl refl)
    (in_front _ (written (to_blocked_tree deltas) ∷ validity_nodes parts.len parts.validity) (no_global_id bases) (in_front _ (validity_nodes parts.len parts.validity) (no_global_id deltas) (validity_alone parts.len parts.validity)))
no_global_id (tree.RLE values indices offsets window) =
    over (tree.RLE (to_blocked_tree values) (to_blocked_tree indices) (to_blocked_tree offsets) window) (written (to_blocked_tree values) ∷ written (to_blocked_tree indices) ∷ written (to_blocked_tree offsets) ∷ []) (is_other ids.rle_id refl refl)
    (in_front _ (written (to_blocked_tree indices) ∷ written (to_blocked_tree offsets) ∷ []) (no_global_id values) (in_front _ (written (to_blocked_tree offsets) ∷ []) (no_global_id indices) (in_front _ [] (no_global_id offsets) (All-nil IsOther))))

-- the node of a blocked array
pub blocked_node : (t blocked : Tree) (r : Result Node FastLanesError) → Answers (λ a. a) (Ok blocked) (Ok (to_blocked_tree t)) → Answers (λ node. node) r (Ok (written blocked)) → IfOk r (λ node. All (λ id. id ≢ ids.bitpacked_v1_id) (ids_in node))
blocked_node t blocked (Ok node) same answer =
    let b : blocked ≡ to_blocked_tree t = cc in
    let n : node ≡ written blocked = cc in
    subst (λ (m : Node). All IsOther (ids_in m)) (sym n) (subst (λ (u : Tree). All IsOther (ids_in (written u))) (sym b) (no_global_id t))
blocked_node t blocked (Err e) same answer = tt
