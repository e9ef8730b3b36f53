-- Each node has a number tree of its own.
use Rattle.std.specs.Prelude.{◌≡◌, ℕ, zero, suc, List, Option, Some, None, refl}
use Rattle.std.specs.Coded.{Coded, code_by, coded×, coded_ℕ, coded_list, coded_option}
use Rattle.std.proofs.Common.{ap, ◌∙◌}
use base.Stored.{Gv, gnil, gnum, gcons}
use Rattle.fl_types.specs.declared.dtype.PType.{PType}
use Rattle.fl_types.specs.declared.dtype.PType.TheVariants.{U8, U16, U32, U64, I8, I16, I32, I64}
use Rattle.fl_types.specs.declared.dtype.DType.{DType}
use Rattle.fl_types.specs.declared.dtype.DType.TheVariants as dtypes
use Rattle.fl_types.specs.declared.dtype.Nullability.{Nullability}
use Rattle.fl_types.specs.declared.dtype.Nullability.TheVariants.{NonNullable, Nullable}
use Rattle.fl_types.specs.Integers.{code_of}
use Rattle.fl_serialized.specs.Nodes.{And, Head, NoMore, Node, Nodes, Of}

-- the integer type of a number
abbrev pub ptype_at : ℕ → PType
ptype_at zero = U8
ptype_at (suc zero) = U16
ptype_at (suc (suc zero)) = U32
ptype_at (suc (suc (suc zero))) = U64
ptype_at (suc (suc (suc (suc zero)))) = I8
ptype_at (suc (suc (suc (suc (suc zero))))) = I16
ptype_at (suc (suc (suc (suc (suc (suc zero)))))) = I32
ptype_at (suc (suc (suc (suc (suc (suc (suc n))))))) = I64

pub ptype_back : (p : PType) → ptype_at (code_of p) ≡ p
ptype_back U8 = refl
ptype_back U16 = refl
ptype_back U32 = refl
ptype_back U64 = refl
ptype_back I8 = refl
ptype_back I16 = refl
ptype_back I32 = refl
ptype_back I64 = refl

-- the number of a nullability
abbrev pub nullability_number : Nullability → ℕ
nullability_number NonNullable = 0
nullability_number Nullable = 1

-- the nullability of a number
abbrev pub nullability_at : ℕ → Nullability
nullability_at zero = NonNullable
nullability_at (suc n) = Nullable

pub nullability_back : (n : Nullability) → nullability_at (nullability_number n) ≡ n
nullability_back NonNullable = refl
nullability_back Nullable = refl

-- the number of a type's integers, if it has one, and that of its nullability
abbrev pub dtype_pair : DType → Option ℕ × ℕ
dtype_pair (dtypes.Primitive ptype nullability) = (Some (code_of ptype), nullability_number nullability)
dtype_pair (dtypes.Bool nullability) = (None, nullability_number nullability)

-- the type of such a pair
abbrev pub dtype_at : Option ℕ → ℕ → DType
dtype_at (Some ptype) nullability = dtypes.Primitive (ptype_at ptype) (nullability_at nullability)
dtype_at None nullability = dtypes.Bool (nullability_at nullability)

pub dtype_back : (d : DType) → dtype_at (dtype_pair d).0 (dtype_pair d).1 ≡ d
dtype_back (dtypes.Primitive ptype nullability) = ap (λ p. dtypes.Primitive p (nullability_at (nullability_number nullability))) (ptype_back ptype) ∙ ap (λ n. dtypes.Primitive ptype n) (nullability_back nullability)
dtype_back (dtypes.Bool nullability) = ap (λ n. dtypes.Bool n) (nullability_back nullability)

-- types as such pairs
abbrev pub coded_dtype : Coded DType
coded_dtype = code_by (Option ℕ × ℕ) (coded× (coded_option coded_ℕ) coded_ℕ) dtype_pair (λ p. dtype_at p.0 p.1) dtype_back

-- what a node says of itself, as its parts
abbrev pub coded_head : Coded Head
coded_head = code_by (List ℕ × (DType × (ℕ × (List ℕ × List (List ℕ))))) (coded× (coded_list coded_ℕ) (coded× coded_dtype (coded× coded_ℕ (coded× (coded_list coded_ℕ) (coded_list (coded_list coded_ℕ)))))) (λ h. (h.id, (h.dtype, (h.len, (h.metadata, h.buffers))))) (λ t. record { id = t.0; dtype = t.1.0; len = t.1.1.0; metadata = t.1.1.1.0; buffers = t.1.1.1.1 }) (λ _. refl)

abbrev left : Gv → Gv
left gnil = gnil
left (gnum n) = gnil
left (gcons a b) = a

abbrev right : Gv → Gv
right gnil = gnil
right (gnum n) = gnil
right (gcons a b) = b

abbrev mutual
  -- the number tree of a node
  pub code_of_node : Node → Gv
  code_of_node (Of head children) = gcons (coded_head.code head) (code_of_nodes children)

  -- the number tree of nodes
  pub code_of_nodes : Nodes → Gv
  code_of_nodes NoMore = gnil
  code_of_nodes (And node nodes) = gcons (code_of_node node) (code_of_nodes nodes)

mutual
  pub code_of_node_inj : (a b : Node) → code_of_node a ≡ code_of_node b → a ≡ b
  code_of_node_inj (Of head children) (Of head' children') e =
      let same_head : head ≡ head' = coded_head.inj head head' (ap (λ g. left g) e) in
      let same_children : children ≡ children' = code_of_nodes_inj children children' (ap (λ g. right g) e) in
      cc

  pub code_of_nodes_inj : (a b : Nodes) → code_of_nodes a ≡ code_of_nodes b → a ≡ b
  code_of_nodes_inj NoMore NoMore e = refl
  code_of_nodes_inj NoMore (And node' nodes') e = cc
  code_of_nodes_inj (And node nodes) NoMore e = cc
  code_of_nodes_inj (And node nodes) (And node' nodes') e =
      let same_node : node ≡ node' = code_of_node_inj node node' (ap (λ g. left g) e) in
      let same_nodes : nodes ≡ nodes' = code_of_nodes_inj nodes nodes' (ap (λ g. right g) e) in
      cc

-- nodes as number trees
abbrev pub coded_node : Coded Node
coded_node = record { code = code_of_node; inj = code_of_node_inj }
