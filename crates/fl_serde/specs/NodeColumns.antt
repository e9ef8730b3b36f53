-- The column that a node stands for: what each id says, by the node's type, its length, its message and its bytes, over the columns that its children stand for.
use Rattle.std.specs.Prelude.{◌≡◌, ◌+◌, ◌-◌, ◌/◌, ℕ, ℤ, pos, Bool, true, List, [], ◌∷◌, length, map, slice_get, slice_index_or, Option, Some, None, option_map, unwrap_or, Ok, if◌then◌else◌}
use Rattle.std.specs.Ordering.{int_eq}
use Rattle.fl_types.specs.declared.dtype.DType.TheVariants as dtypes
use Rattle.fl_types.specs.declared.dtype.Nullability.TheVariants.{NonNullable}
use Rattle.fl_types.specs.Bits.{tabulate}
use Rattle.fl_types.specs.Values.{bool_number}
use Rattle.fl_column.specs.Columns.{Column, integers_in, numbers_of}
use Rattle.fl_patches.specs.PatchMaps.{rank_of}
use Rattle.fl_bitpacking.specs.Blocks.{boundary_blocks, global_blocks, item_of_blocks}
use Rattle.fl_codec.specs.Deltas.{delta_integer}
use Rattle.fl_codec.specs.FoRColumns.{plus_reference}
use Rattle.fl_codec.specs.RunColumns.{run_item}
use Rattle.fl_metadata.specs.declared.patches.PatchesMetadata.{PatchesMetadata}
use Rattle.fl_serialized.specs.Nodes.{And, Head, NoMore, Node, Nodes, Of}
use Rattle.fl_serde.specs.declared.node_info.NodeInfo.{NodeInfo}
use Rattle.fl_serde.specs.declared.node_info.NodeInfo.TheVariants as infos
use Rattle.fl_serde.specs.declared.children.ExpectedChild.{ExpectedChild}
use Rattle.fl_serde.specs.Checks.{checked, own_bytes}
use Rattle.fl_serde.specs.Leaves.{bit_of_bytes, slot_at}
use Rattle.fl_serde.specs.Children.{expected_children, front_children, has_validity}

-- ---- the columns of children
-- the type and the length of a column
abbrev pub expected_of : Column → ExpectedChild
expected_of c = record { dtype = c.dtype; len = length c.items }

-- the column of the child at a place, one without items where there is no such child
abbrev pub child_column : List Column → ℕ → Column
child_column columns k = slice_index_or columns k (record { dtype = dtypes.Bool NonNullable; items = [] })

-- the column of the validity, if it is among a node's children: it stands behind all but the boundaries of blocks
abbrev pub validity_column : Head → NodeInfo → List Column → Option Column
validity_column head m columns = if has_validity head m (length columns) then slice_get columns (length (front_children head m)) else None

-- item i is not null: the validity is true there, or there is none
abbrev pub is_valid_by : Option Column → ℕ → Bool
is_valid_by None i = true
is_valid_by (Some validity) i = int_eq (slice_index_or (integers_in validity) i (pos 0)) (pos 1)

-- an integer as item i, or a null where the validity among the children is false
abbrev pub unless_null : Head → NodeInfo → List Column → ℕ → ℤ → Option ℤ
unless_null head m columns i z = if is_valid_by (validity_column head m columns) i then Some z else None

-- the patch of item i, if it has one: the value of the second child beside the index offset + i of the first
abbrev pub patch_of : Option PatchesMetadata → List Column → ℕ → Option ℤ
patch_of None columns i = None
patch_of (Some m) columns i = option_map (λ rank. slice_index_or (integers_in (child_column columns 1)) rank (pos 0)) (rank_of (m.offset + i) (numbers_of (child_column columns 0)))

-- ---- nodes
-- item i of a node: a slot, a constant, a truth value, a packed item or its patch, an encoded item plus the one reference or plus that of its chunk, a base plus the deltas of its lane down to the item, a run value
abbrev pub item_said : Head → NodeInfo → List Column → ℕ → Option ℤ
item_said head (infos.Primitive ptype) columns i = unless_null head (infos.Primitive ptype) columns i (slot_at ptype (own_bytes head) i)
item_said head (infos.Constant ptype value) columns i = value
item_said head infos.Bool columns i = unless_null head infos.Bool columns i (bool_number (bit_of_bytes (own_bytes head) i))
item_said head (infos.BitPacked ptype m) columns i =
    unless_null head (infos.BitPacked ptype m) columns i (unwrap_or (patch_of m.patches columns i) (item_of_blocks ptype (global_blocks m.bit_width) (own_bytes head) (m.offset + i)))
item_said head (infos.BitPackedBlocked ptype m) columns i =
    unless_null head (infos.BitPackedBlocked ptype m) columns i
    (unwrap_or (patch_of m.patches columns i) (item_of_blocks ptype (boundary_blocks (numbers_of (child_column columns (length columns - 1)))) (own_bytes head) (m.offset + i)))
item_said head (infos.FoR ptype reference) columns i = plus_reference ptype (unwrap_or reference (pos 0)) (slice_index_or (child_column columns 0).items i None)
item_said head (infos.FoRChunked ptype m) columns i =
    plus_reference ptype (slice_index_or (integers_in (child_column columns 1)) ((m.offset + i) / 1024) (pos 0)) (slice_index_or (child_column columns 0).items i None)
item_said head (infos.Delta ptype m) columns i = unless_null head (infos.Delta ptype m) columns i (delta_integer ptype (integers_in (child_column columns 0)) (integers_in (child_column columns 1)) (m.offset + i))
item_said head (infos.RLE ptype m) columns i = run_item (integers_in (child_column columns 0)) (child_column columns 1).items (numbers_of (child_column columns 2)) (m.offset + i)

-- A node has a column over those of its children: it says what it is, the children have the types and the lengths that this asks for, and the column has the node's type and its number of items.
pub record HasColumn (head : Head) (columns : List Column) (c : Column) : Type 0 where
  pub info : NodeInfo
  pub said : checked head (length columns) ≡ Ok info
  pub expected : map expected_of columns ≡ expected_children head info (length columns)
  pub items : c ≡ record { dtype = head.dtype; items = tabulate (item_said head info columns) head.len }

abbrev mutual
  -- a node stands for the column that it has over those that its children stand for
  pub StandsFor : Node → Column → Type 0
  StandsFor (Of head children) c = (columns : List Column) × StandForEach children columns × HasColumn head columns c

  -- nodes stand for columns, one by one
  pub StandForEach : Nodes → List Column → Type 0
  StandForEach NoMore [] = Unit {0}
  StandForEach NoMore (c ∷ columns) = ⊥
  StandForEach (And node nodes) [] = ⊥
  StandForEach (And node nodes) (c ∷ columns) = StandsFor node c × StandForEach nodes columns
