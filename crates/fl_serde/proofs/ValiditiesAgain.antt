-- Nodes that may have a validity among their children: these are read as they were written.
use Rattle.std.proofs.Common.{◌≡◌, ◌∙◌, ℕ, suc, ◌+◌, Bool, true, false, eqb, List, [], ◌∷◌, ◌++◌, length, map, replicate, Some, None, Ok, refl, sym, ap, arith}
use Rattle.std.specs.Prelude.{IsTrue, slice_get}
use Rattle.std.proofs.lemmas.Bool.{eq-eqb, eqb-true, ne_eqb}
use Rattle.std.proofs.lemmas.List.{length-append, length-replicate}
use Rattle.fl_types.specs.declared.dtype.Nullability.TheVariants.{Nullable}
use Rattle.fl_types.specs.declared.validity.Validity.{Validity}
use Rattle.fl_types.specs.declared.validity.Validity.TheVariants as valid
use Rattle.fl_types.specs.Types.{nullability_in}
use Rattle.fl_types.specs.Validities.{covers, full_validity, nullability_of}
use Rattle.fl_metadata.specs.WireReading.{fields_of, fields_up_to}
use Rattle.fl_array.specs.Trees.{Tree}
use Rattle.fl_array.specs.Trees as tree
use Rattle.fl_serialized.specs.Nodes.{Head, Node}
use Rattle.fl_serde.specs.declared.node_info.NodeInfo.{NodeInfo}
use Rattle.fl_serde.specs.declared.children.ExpectedChild.{ExpectedChild}
use Rattle.fl_serde.specs.Checks.{count_refusal}
use Rattle.fl_serde.specs.Children.{back_children, child_count, expected_children, front_children, takes_validity, validity_child}
use Rattle.fl_serde.proofs.ReadLaws.{child_of}
use Rattle.fl_serde.specs.Reading.{fitting, read_children, reading, validity_over}
use Rattle.fl_serde.specs.RoundTrip.{read_validity}
use Rattle.fl_serde.specs.Writing.{bits_node, validity_nodes}
use Rattle.fl_serde.proofs.LeavesAgain.{bits_again, bits_sized}
use Rattle.fl_serde.proofs.NestedAgain.{equal, fit, read_one}

-- ---- lists of children
-- the nodes are as expected, and are read as these arrays
abbrev pub Reads : List ExpectedChild → List Node → List Tree → Type 0
Reads [] [] [] = Unit {0}
Reads [] [] (t ∷ ts) = ⊥
Reads [] (n ∷ ns) ts = ⊥
Reads (s ∷ ss) [] ts = ⊥
Reads (s ∷ ss) (n ∷ ns) [] = ⊥
Reads (s ∷ ss) (n ∷ ns) (t ∷ ts) = (fitting s (child_of n) ≡ Ok t) × Reads ss ns ts

pub read_all : (ss : List ExpectedChild) (ns : List Node) (ts : List Tree) → Reads ss ns ts → read_children ss (map child_of ns) ≡ Ok ts
read_all [] [] [] r = refl
read_all [] [] (t ∷ ts) r = absurd r
read_all [] (n ∷ ns) ts r = absurd r
read_all (s ∷ ss) [] ts r = absurd r
read_all (s ∷ ss) (n ∷ ns) [] r = absurd r
read_all (s ∷ ss) (n ∷ ns) (t ∷ ts) r = read_one s ss (child_of n) (map child_of ns) t ts r.0 (read_all ss ns ts r.1)

pub reads_append : (ss : List ExpectedChild) (ns : List Node) (ts : List Tree) (ss' : List ExpectedChild) (ns' : List Node) (ts' : List Tree) → Reads ss ns ts → Reads ss' ns' ts' → Reads (ss ++ ss') (ns ++ ns') (ts ++ ts')
reads_append [] [] [] ss' ns' ts' r r' = r'
reads_append [] [] (t ∷ ts) ss' ns' ts' r r' = absurd r
reads_append [] (n ∷ ns) ts ss' ns' ts' r r' = absurd r
reads_append (s ∷ ss) [] ts ss' ns' ts' r r' = absurd r
reads_append (s ∷ ss) (n ∷ ns) [] ss' ns' ts' r r' = absurd r
reads_append (s ∷ ss) (n ∷ ns) (t ∷ ts) ss' ns' ts' r r' = (r.0, reads_append ss ns ts ss' ns' ts' r.1 r')

pub reads_nodes : (ss : List ExpectedChild) (ns : List Node) (ts : List Tree) → Reads ss ns ts → length ns ≡ length ss
reads_nodes [] [] [] r = refl
reads_nodes [] [] (t ∷ ts) r = absurd r
reads_nodes [] (n ∷ ns) ts r = absurd r
reads_nodes (s ∷ ss) [] ts r = absurd r
reads_nodes (s ∷ ss) (n ∷ ns) [] r = absurd r
reads_nodes (s ∷ ss) (n ∷ ns) (t ∷ ts) r = ap suc (reads_nodes ss ns ts r.1)

pub reads_trees : (ss : List ExpectedChild) (ns : List Node) (ts : List Tree) → Reads ss ns ts → length ts ≡ length ss
reads_trees [] [] [] r = refl
reads_trees [] [] (t ∷ ts) r = absurd r
reads_trees [] (n ∷ ns) ts r = absurd r
reads_trees (s ∷ ss) [] ts r = absurd r
reads_trees (s ∷ ss) (n ∷ ns) [] r = absurd r
reads_trees (s ∷ ss) (n ∷ ns) (t ∷ ts) r = ap suc (reads_trees ss ns ts r.1)

-- ---- the validity among them
pub bits_node_again : (bits : List Bool) → reading (bits_node bits) ≡ Ok (tree.Bool (record { bits = bits; validity = valid.NonNullable }))
unfolding fields_of fields_up_to
bits_node_again bits = rw (eq-eqb _ _ (bits_sized bits), bits_again bits) refl

-- the array of a validity that has nulls by its form
abbrev pub validity_trees : ℕ → Validity → List Tree
validity_trees len valid.NonNullable = []
validity_trees len valid.AllValid = []
validity_trees len valid.AllInvalid = tree.Bool (record { bits = replicate len false; validity = valid.NonNullable }) ∷ []
validity_trees len (valid.Array bits) = tree.Bool (record { bits = bits; validity = valid.NonNullable }) ∷ []

-- the children are as many as asked, are read, and say the validity
pub record WithValidity (head : Head) (m : NodeInfo) (children : List Node) (trees : List Tree) (v : Validity) : Type 0 where
  pub counted : count_refusal head m (length children) ≡ None
  pub reads : read_children (expected_children head m (length children)) (map child_of children) ≡ Ok trees
  pub validity : validity_over head m trees ≡ v

one_less : (k : ℕ) → eqb k (k + 1) ≡ false
one_less k = ne_eqb k (k + 1) (λ e. omega (arith, e))

one_more : (k : ℕ) → eqb (k + 1) k ≡ false
one_more k = ne_eqb (k + 1) k (λ e. omega (arith, e))

pub at_end : {A : Type 0} (xs : List A) (x : A) (ys : List A) → slice_get (xs ++ x ∷ ys) (length xs) ≡ Some x
at_end [] x ys = refl
at_end (a ∷ xs) x ys = at_end xs x ys

without_bits : (head : Head) (m : NodeInfo) (v : Validity) (front back : List Node) (fts bts : List Tree) → full_validity (nullability_in head.dtype) ≡ v
    → Reads (front_children head m) front fts → Reads (back_children head m) back bts → WithValidity head m (front ++ back) (fts ++ bts) v
without_bits head m v front back fts bts says f b =
    let nodes : length (front ++ back) ≡ child_count head m = omega (arith, length-append front back, reads_nodes _ _ _ f, reads_nodes _ _ _ b) in
    let trees : length (fts ++ bts) ≡ child_count head m = omega (arith, length-append fts bts, reads_trees _ _ _ f, reads_trees _ _ _ b) in
    record {
      counted = rw (nodes, equal (child_count head m)) refl;
      reads = rw (nodes, one_less (child_count head m)) (read_all _ _ _ (reads_append _ _ _ _ _ _ f b));
      validity = rw (trees, one_less (child_count head m)) says;
    }

with_bits : (head : Head) (m : NodeInfo) (bits : List Bool) (front back : List Node) (fts bts : List Tree) → takes_validity m ≡ true → nullability_in head.dtype ≡ Nullable → head.len ≡ length bits
    → Reads (front_children head m) front fts → Reads (back_children head m) back bts → WithValidity head m (front ++ bits_node bits ∷ back) (fts ++ tree.Bool (record { bits = bits; validity = valid.NonNullable }) ∷ bts) (valid.Array bits)
with_bits head m bits front back fts bts takes nullable long f b =
    let t : Tree = tree.Bool (record { bits = bits; validity = valid.NonNullable }) in
    let nodes : length (front ++ bits_node bits ∷ back) ≡ child_count head m + 1 = omega (arith, length-append front (bits_node bits ∷ back), reads_nodes _ _ _ f, reads_nodes _ _ _ b) in
    let trees : length (fts ++ t ∷ bts) ≡ child_count head m + 1 = omega (arith, length-append fts (t ∷ bts), reads_trees _ _ _ f, reads_trees _ _ _ b) in
    let place : slice_get (fts ++ t ∷ bts) (length (front_children head m)) ≡ Some t = rw (← reads_trees _ _ _ f) (at_end fts t bts) in
    let fits : fitting (validity_child head.len) (child_of (bits_node bits)) ≡ Ok t = fit (validity_child head.len) (bits_node bits) t refl long (bits_node_again bits) in
    record {
      counted = rw (nodes, one_more (child_count head m), equal (child_count head m + 1), takes, nullable) refl;
      reads = rw (nodes, equal (child_count head m + 1)) (read_all _ _ _ (reads_append (front_children head m) front fts (validity_child head.len ∷ back_children head m) (bits_node bits ∷ back) (t ∷ bts) f (fits, b)));
      validity = rw (trees, equal (child_count head m + 1), place) refl;
    }

pub with_validity : (head : Head) (m : NodeInfo) (len : ℕ) (v : Validity) (front back : List Node) (fts bts : List Tree) → takes_validity m ≡ true → nullability_in head.dtype ≡ nullability_of v → head.len ≡ len → IsTrue (covers v len)
    → Reads (front_children head m) front fts → Reads (back_children head m) back bts → WithValidity head m (front ++ (validity_nodes len v ++ back)) (fts ++ (validity_trees len v ++ bts)) (read_validity len v)
with_validity head m len valid.NonNullable front back fts bts takes nullable long covered f b = without_bits head m valid.NonNullable front back fts bts (ap full_validity nullable) f b
with_validity head m len valid.AllValid front back fts bts takes nullable long covered f b = without_bits head m valid.AllValid front back fts bts (ap full_validity nullable) f b
with_validity head m len valid.AllInvalid front back fts bts takes nullable long covered f b = with_bits head m (replicate len false) front back fts bts takes nullable (long ∙ sym (length-replicate len false)) f b
with_validity head m len (valid.Array bits) front back fts bts takes nullable long covered f b = with_bits head m bits front back fts bts takes nullable (long ∙ sym (eqb-true _ _ covered)) f b
