-- Arrays that hold no others are read as they were written.
use Rattle.std.proofs.Common.{◌≡◌, ◌∙◌, ℕ, ℤ, true, List, [], ◌∷◌, ◌++◌, length, Option, Some, None, Ok, refl, ap}
use Rattle.std.specs.Prelude.{IsTrue, option_map}
use Rattle.std.specs.List.{list_all}
use Rattle.std.proofs.lemmas.Bool.{eq-eqb}
use Rattle.std.proofs.lemmas.List.{length-map, length-replicate}
use Rattle.fl_types.specs.declared.dtype.DType.TheVariants as dtypes
use Rattle.fl_types.specs.declared.dtype.Nullability.{Nullability}
use Rattle.fl_types.specs.declared.dtype.Nullability.TheVariants.{Nullable}
use Rattle.fl_types.specs.declared.dtype.PType.{PType}
use Rattle.fl_types.specs.Integers.{fits}
use Rattle.fl_types.specs.Validities.{covers, items_of}
use Rattle.fl_types.specs.Values.{bool_number}
use Rattle.fl_column.specs.Columns.{BoolParts, PrimitiveParts}
use Rattle.fl_column.proofs.ItemLaws.{length-items_of}
use Rattle.fl_metadata.specs.Scalars.{scalar_of, scalar_slots}
use Rattle.fl_metadata.specs.WireReading.{fields_of, fields_up_to}
use Rattle.fl_metadata.specs.WrittenText.{message_text}
use Rattle.fl_array.specs.Trees.{Constant, Primitive, Tree}
use Rattle.fl_array.specs.Trees as tree
use Rattle.fl_serialized.specs.Nodes.{Head}
use Rattle.fl_serde.specs.declared.node_info.NodeInfo.{NodeInfo}
use Rattle.fl_serde.specs.declared.node_info.NodeInfo.TheVariants as infos
use Rattle.fl_serde.specs.Checks.{bounds_refusal, buffers_refusal, count_refusal, info_of, node_refusal}
use Rattle.fl_serde.specs.Reading.{reading}
use Rattle.fl_serde.specs.RoundTrip.{read_back}
use Rattle.fl_serde.specs.Writing.{head_written, item_count, validity_nodes, written}
use Rattle.fl_serde.proofs.ColumnsAgain.{read_covers}
use Rattle.fl_serde.proofs.LeavesAgain.{bits_again, bits_sized, slots_again, slots_sized}
use Rattle.fl_serde.proofs.NestedAgain.{node_read}
use Rattle.fl_serde.proofs.ValiditiesAgain.{validity_trees, with_validity}

-- ---- lists
pub append_none : {A : Type 0} (xs : List A) → xs ++ [] ≡ xs
append_none [] = refl
append_none (x ∷ xs) = ap (λ l. x ∷ l) (append_none xs)

pub none_of_three : (head : Head) (m : NodeInfo) (n : ℕ) → buffers_refusal head m ≡ None → count_refusal head m n ≡ None → bounds_refusal head m ≡ None → node_refusal head m n ≡ None
none_of_three head m n buffers count bounds = rw (buffers, count, bounds) refl

-- ---- stored integers
primitive_message : (p : PrimitiveParts) → info_of (head_written (Primitive p)) ≡ Ok (infos.Primitive p.ptype)
unfolding fields_of fields_up_to
primitive_message p = refl

pub primitive_back : (p : PrimitiveParts) → IsTrue (covers p.validity (length p.slots)) → list_all (fits p.ptype) p.slots ≡ true → reading (written (Primitive p)) ≡ Ok (read_back (Primitive p))
primitive_back p covered all =
    let t : Tree = Primitive p in
    let m : NodeInfo = infos.Primitive p.ptype in
    let long : item_count t ≡ length p.slots = length-items_of p.validity p.slots covered in
    let w = with_validity (head_written t) m (length p.slots) p.validity [] [] [] [] refl refl long covered tt tt in
    let nodes : validity_nodes (length p.slots) p.validity ++ [] ≡ validity_nodes (length p.slots) p.validity = append_none (validity_nodes (length p.slots) p.validity) in
    let sized : buffers_refusal (head_written t) m ≡ None = rw (long, eq-eqb _ _ (slots_sized p.ptype p.slots)) refl in
    rw (← nodes) (node_read t (read_back t) (validity_nodes (length p.slots) p.validity ++ []) m (validity_trees (length p.slots) p.validity ++ []) (primitive_message p)
    (none_of_three (head_written t) m (length (validity_nodes (length p.slots) p.validity ++ [])) sized w.counted refl) w.reads
    (rw (w.validity, long, slots_again p.ptype p.slots all, read_covers p.validity (length p.slots) covered) refl))

-- ---- booleans
bool_info : (b : BoolParts) → info_of (head_written (tree.Bool b)) ≡ Ok infos.Bool
unfolding fields_of fields_up_to
bool_info b = refl

pub bool_back : (b : BoolParts) → IsTrue (covers b.validity (length b.bits)) → reading (written (tree.Bool b)) ≡ Ok (read_back (tree.Bool b))
bool_back b covered =
    let t : Tree = tree.Bool b in
    let long : item_count t ≡ length b.bits = length-map (items_of b.validity b.bits) (option_map bool_number) ∙ length-items_of b.validity b.bits covered in
    let w = with_validity (head_written t) infos.Bool (length b.bits) b.validity [] [] [] [] refl refl long covered tt tt in
    let nodes : validity_nodes (length b.bits) b.validity ++ [] ≡ validity_nodes (length b.bits) b.validity = append_none (validity_nodes (length b.bits) b.validity) in
    let sized : buffers_refusal (head_written t) infos.Bool ≡ None = rw (long, eq-eqb _ _ (bits_sized b.bits)) refl in
    rw (← nodes) (node_read t (read_back t) (validity_nodes (length b.bits) b.validity ++ []) infos.Bool (validity_trees (length b.bits) b.validity ++ []) (bool_info b)
    (none_of_three (head_written t) infos.Bool (length (validity_nodes (length b.bits) b.validity ++ [])) sized w.counted refl) w.reads
    (rw (w.validity, long, bits_again b.bits, read_covers b.validity (length b.bits) covered) refl))

-- ---- constants
pub constant_back : (p : PType) (n : Nullability) (z : ℤ) (len : ℕ) → scalar_of p (message_text (scalar_slots p (Some z))) ≡ Ok (Some z)
    → reading (written (Constant (record { scalar = record { dtype = dtypes.Primitive p n; value = Some z }; len = len }))) ≡ Ok (Constant (record { scalar = record { dtype = dtypes.Primitive p n; value = Some z }; len = len }))
constant_back p n z len scalar = rw (scalar, length-replicate len (Some z)) refl

pub null_back : (p : PType) (len : ℕ) → scalar_of p (message_text (scalar_slots p None)) ≡ Ok None
    → reading (written (Constant (record { scalar = record { dtype = dtypes.Primitive p Nullable; value = None }; len = len }))) ≡ Ok (Constant (record { scalar = record { dtype = dtypes.Primitive p Nullable; value = None }; len = len }))
null_back p len scalar = rw (scalar, length-replicate len (let v : Option ℤ = None in v)) refl
