-- What a node says of its array, and the refusals before its children are read.
use Rattle.std.specs.Prelude.{◌≡◌, ◌%◌, ◌==◌, ◌&&◌, ◌||◌, ℕ, not, List, [], length, Option, Some, None, ok_or, is_none, is_some, Result, Ok, Err, slice_index_or, IfSome, if◌then◌else◌}
use Rattle.fl_types.specs.declared.dtype.DType.{DType}
use Rattle.fl_types.specs.declared.dtype.DType.TheVariants as dtypes
use Rattle.fl_types.specs.declared.dtype.PType.{PType}
use Rattle.fl_types.specs.declared.error.FastLanesError.{FastLanesError}
use Rattle.fl_types.specs.declared.error.FastLanesError.TheVariants.{BadMetadata, BufferCount, ChildCount, ChildLength, NotInteger, PackedLength, TypeMismatch, UnknownId}
use Rattle.fl_types.specs.Integers.{FitsIn}
use Rattle.fl_types.specs.Types.{is_nullable}
use Rattle.fl_column.specs.Columns.{option_all}
use Rattle.fl_bitpacking.specs.Refusals.{accepted, otherwise, positions_refusal}
use Rattle.fl_metadata.specs.Schemas.{◌>>=◌}
use Rattle.fl_metadata.specs.WireReading.{fields_of}
use Rattle.fl_metadata.specs.Messages.{bit_packed_blocked_of, bit_packed_of, delta_metadata_of, for_chunked_of, rle_of}
use Rattle.fl_metadata.specs.Scalars.{scalar_of}
use Rattle.fl_serialized.specs.Nodes.{Head}
use Rattle.fl_serde.specs.declared.kinds.NodeKind.{NodeKind}
use Rattle.fl_serde.specs.declared.kinds.NodeKind.TheVariants as kinds
use Rattle.fl_serde.specs.declared.node_info.NodeInfo.{NodeInfo}
use Rattle.fl_serde.specs.declared.node_info.NodeInfo.TheVariants as infos
use Rattle.fl_serde.specs.Kinds.{kind_of_id}
use Rattle.fl_serde.specs.Leaves.{bits_size, slots_size}
use Rattle.fl_serde.specs.Children.{child_count, has_validity, takes_validity}

-- ---- what a node says by its id, its type and its metadata
-- the info of a leaf: of its metadata nothing is asked but that it is a message
abbrev pub leaf_info : NodeInfo → List ℕ → Result NodeInfo FastLanesError
leaf_info message metadata = if is_some (fields_of metadata) then Ok message else Err BadMetadata

-- the info of a constant of a type: its scalar, which is null only where the type is nullable
abbrev pub constant_info : PType → Head → Result NodeInfo FastLanesError
constant_info ptype head = do
  value ← scalar_of ptype head.metadata
  if is_none value && not (is_nullable head.dtype) then Err BadMetadata else Ok (infos.Constant ptype value)

-- the info of a node of a kind of integers
abbrev pub integer_info : NodeKind → PType → Head → Result NodeInfo FastLanesError
integer_info kinds.Primitive ptype head = leaf_info (infos.Primitive ptype) head.metadata
integer_info kinds.Constant ptype head = constant_info ptype head
integer_info kinds.Bool ptype head = Err TypeMismatch
integer_info kinds.BitPacked ptype head = bit_packed_of head.metadata >>= λ m. Ok (infos.BitPacked ptype m)
integer_info kinds.BitPackedBlocked ptype head = bit_packed_blocked_of head.metadata >>= λ m. Ok (infos.BitPackedBlocked ptype m)
integer_info kinds.FoR ptype head = scalar_of ptype head.metadata >>= λ value. Ok (infos.FoR ptype value)
integer_info kinds.FoRChunked ptype head = for_chunked_of head.metadata >>= λ m. Ok (infos.FoRChunked ptype m)
integer_info kinds.Delta ptype head = delta_metadata_of head.metadata >>= λ m. Ok (infos.Delta ptype m)
integer_info kinds.RLE ptype head = rle_of head.metadata >>= λ m. Ok (infos.RLE ptype m)

-- the info of a node of booleans of a kind
abbrev pub bool_info : NodeKind → Head → Result NodeInfo FastLanesError
bool_info kinds.Bool head = leaf_info infos.Bool head.metadata
bool_info other head = Err NotInteger

-- the info of a node of a kind: its type is judged first
abbrev pub info_of_type : NodeKind → Head → DType → Result NodeInfo FastLanesError
info_of_type kind head (dtypes.Primitive ptype nullability) = integer_info kind ptype head
info_of_type kind head (dtypes.Bool nullability) = bool_info kind head

-- the info of a node: its id is judged first
abbrev pub info_of : Head → Result NodeInfo FastLanesError
info_of head = ok_or (kind_of_id head.id) UnknownId >>= λ kind. info_of_type kind head head.dtype

-- The integer that a node says, if it says one, is one of its type.
abbrev pub HasFittingValue : NodeInfo → Type 0
HasFittingValue (infos.Constant ptype value) = IfSome value (FitsIn ptype)
HasFittingValue (infos.FoR ptype value) = IfSome value (FitsIn ptype)
HasFittingValue (infos.Primitive ptype) = Unit {0}
HasFittingValue infos.Bool = Unit {0}
HasFittingValue (infos.BitPacked ptype m) = Unit {0}
HasFittingValue (infos.BitPackedBlocked ptype m) = Unit {0}
HasFittingValue (infos.FoRChunked ptype m) = Unit {0}
HasFittingValue (infos.Delta ptype m) = Unit {0}
HasFittingValue (infos.RLE ptype m) = Unit {0}

-- ---- buffers, the number of children, and bounds that the lengths of children need
-- how many buffers a node has
abbrev pub buffer_count : NodeInfo → ℕ
buffer_count (infos.Primitive ptype) = 1
buffer_count (infos.Constant ptype value) = 0
buffer_count infos.Bool = 1
buffer_count (infos.BitPacked ptype m) = 1
buffer_count (infos.BitPackedBlocked ptype m) = 1
buffer_count (infos.FoR ptype value) = 0
buffer_count (infos.FoRChunked ptype m) = 0
buffer_count (infos.Delta ptype m) = 0
buffer_count (infos.RLE ptype m) = 0

-- how many bytes the buffer of a leaf has
abbrev pub buffer_size : NodeInfo → ℕ → Option ℕ
buffer_size (infos.Primitive ptype) len = Some (slots_size ptype len)
buffer_size infos.Bool len = Some (bits_size len)
buffer_size (infos.Constant ptype value) len = None
buffer_size (infos.BitPacked ptype m) len = None
buffer_size (infos.BitPackedBlocked ptype m) len = None
buffer_size (infos.FoR ptype value) len = None
buffer_size (infos.FoRChunked ptype m) len = None
buffer_size (infos.Delta ptype m) len = None
buffer_size (infos.RLE ptype m) len = None

-- the first buffer of a node
abbrev pub own_bytes : Head → List ℕ
own_bytes head = slice_index_or head.buffers 0 []

-- why buffers are not those of a node, if they are not
abbrev pub buffers_refusal : Head → NodeInfo → Option FastLanesError
buffers_refusal head m =
    if not (length head.buffers == buffer_count m) then Some BufferCount
    else if not (option_all (λ size. length (own_bytes head) == size) (buffer_size m head.len)) then Some PackedLength
    else None

-- why a node has not so many children, if it has not; a validity is one too many where there are no nulls
abbrev pub count_refusal : Head → NodeInfo → ℕ → Option FastLanesError
count_refusal head m count =
    if (count == child_count head m) || (has_validity head m count && (takes_validity m && is_nullable head.dtype)) then None
    else Some ChildCount

-- why the lengths of children can't be said, if they can't
abbrev pub bounds_refusal : Head → NodeInfo → Option FastLanesError
bounds_refusal head (infos.BitPackedBlocked ptype m) = positions_refusal m.offset head.len
bounds_refusal head (infos.FoRChunked ptype m) = positions_refusal m.offset head.len
bounds_refusal head (infos.Delta ptype m) = if m.deltas_len % 1024 == 0 then None else Some ChildLength
bounds_refusal head (infos.Primitive ptype) = None
bounds_refusal head (infos.Constant ptype value) = None
bounds_refusal head infos.Bool = None
bounds_refusal head (infos.BitPacked ptype m) = None
bounds_refusal head (infos.FoR ptype value) = None
bounds_refusal head (infos.RLE ptype m) = None

-- why a node of this many children is refused before they are read, if it is
abbrev pub node_refusal : Head → NodeInfo → ℕ → Option FastLanesError
node_refusal head m count = otherwise (buffers_refusal head m) (otherwise (count_refusal head m count) (bounds_refusal head m))

-- what a node of this many children says, or its first refusal before they are read
abbrev pub checked : Head → ℕ → Result NodeInfo FastLanesError
checked head count = info_of head >>= λ m. accepted m (node_refusal head m count)

-- A node of this many children is not refused before they are read.
pub record IsChecked (head : Head) (m : NodeInfo) (count : ℕ) : Type 0 where
  pub sized : buffers_refusal head m ≡ None
  pub counted : count_refusal head m count ≡ None
  pub bounded : bounds_refusal head m ≡ None
  pub fits : HasFittingValue m
