-- Whether an array is stored depends on no slot under a null.
use Rattle.std.proofs.Common.{◌≡◌, ◌∙◌, ℕ, suc, refl, ap, sym}
use Rattle.std.specs.Prelude.{max}
use Rattle.fl_types.specs.declared.validity.Validity.{Validity}
use Rattle.fl_types.specs.declared.validity.Validity.TheVariants as valid
use Rattle.fl_array.specs.Trees.{BitPackedBlocked, BitPackedGlobal, Constant, Delta, FoRChunked, FoRGlobal, Primitive, RLE, Tree}
use Rattle.fl_array.specs.Trees as tree
use Rattle.fl_array.specs.ToBlocked.{to_blocked_tree}
use Rattle.fl_serialized.specs.Nodes.{depth, depth_of, nodes_of}
use Rattle.fl_serde.specs.Writing.{validity_nodes, written}
use Rattle.fl_ops.specs.Normalized.{SameShown, normalized}

plain_depth : (n m : ℕ) (v : Validity) → depth_of (nodes_of (validity_nodes n v)) ≡ depth_of (nodes_of (validity_nodes m v))
plain_depth n m valid.NonNullable = refl
plain_depth n m valid.AllValid = refl
plain_depth n m valid.AllInvalid = refl
plain_depth n m (valid.Array bits) = refl

stored_depth : (t : Tree) → depth (written t) ≡ depth (written (normalized t))
stored_depth (Primitive p) = ap suc (plain_depth _ _ p.validity)
stored_depth (Constant c) = refl
stored_depth (tree.Bool b) = refl
stored_depth (BitPackedGlobal parts width) = refl
stored_depth (BitPackedBlocked parts boundaries) = refl
stored_depth (FoRGlobal encoded reference) = ap (λ n. suc (max n 0)) (stored_depth encoded)
stored_depth (FoRChunked encoded references offset) = ap (λ n. suc (max n (max (depth (written references)) 0))) (stored_depth encoded)
stored_depth (Delta bases deltas parts) = refl
stored_depth (RLE values indices offsets window) =
    ap (λ n. suc (max n (max (depth (written indices)) (max (depth (written offsets)) 0)))) (stored_depth values)
    ∙ ap (λ n. suc (max (depth (written (normalized values))) (max n (max (depth (written offsets)) 0)))) (stored_depth indices)

migrated_depth : (t : Tree) → depth (written (to_blocked_tree t)) ≡ depth (written (to_blocked_tree (normalized t)))
migrated_depth (Primitive p) = ap suc (plain_depth _ _ p.validity)
migrated_depth (Constant c) = refl
migrated_depth (tree.Bool b) = refl
migrated_depth (BitPackedGlobal parts width) = refl
migrated_depth (BitPackedBlocked parts boundaries) = refl
migrated_depth (FoRGlobal encoded reference) = ap (λ n. suc (max n 0)) (migrated_depth encoded)
migrated_depth (FoRChunked encoded references offset) = ap (λ n. suc (max n (max (depth (written (to_blocked_tree references))) 0))) (migrated_depth encoded)
migrated_depth (Delta bases deltas parts) = refl
migrated_depth (RLE values indices offsets window) =
    ap (λ n. suc (max n (max (depth (written (to_blocked_tree indices))) (max (depth (written (to_blocked_tree offsets))) 0)))) (migrated_depth values)
    ∙ ap (λ n. suc (max (depth (written (to_blocked_tree (normalized values)))) (max n (max (depth (written (to_blocked_tree offsets))) 0)))) (migrated_depth indices)

pub as_deep_stored : (a b : Tree) → SameShown a b → depth (written a) ≡ depth (written b)
as_deep_stored a b same = stored_depth a ∙ ap (λ t. depth (written t)) same ∙ sym (stored_depth b)

pub as_deep_migrated : (a b : Tree) → SameShown a b → depth (written (to_blocked_tree a)) ≡ depth (written (to_blocked_tree b))
as_deep_migrated a b same = migrated_depth a ∙ ap (λ t. depth (written (to_blocked_tree t))) same ∙ sym (migrated_depth b)
