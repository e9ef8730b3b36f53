-- The parts that encoders make of plain arrays.
use Rattle.std.specs.Prelude.{◌*◌, ◌&&◌, ℕ, ℤ, pos, List, length, map, Option, Some, None, Result, Ok, Err, nat_lt, is_none, if◌then◌else◌}
use Rattle.std.specs.List.{list_all}
use Rattle.fl_types.specs.declared.dtype.PType.{PType}
use Rattle.fl_types.specs.declared.dtype.PType.TheVariants.{U16, U64}
use Rattle.fl_types.specs.declared.dtype.DType.TheVariants as dtypes
use Rattle.fl_types.specs.declared.dtype.Nullability.TheVariants.{NonNullable, Nullable}
use Rattle.fl_types.specs.declared.error.FastLanesError.{FastLanesError}
use Rattle.fl_types.specs.declared.error.FastLanesError.TheVariants.{NoMinimum}
use Rattle.fl_types.specs.declared.validity.Validity.TheVariants as valid
use Rattle.fl_types.specs.Validities.{items_of}
use Rattle.fl_types.specs.Values.{ScalarParts, scalar_parts}
use Rattle.fl_column.specs.Columns.{ConstantParts, PrimitiveParts}
use Rattle.fl_codec.specs.Chunks.{chunks_of}
use Rattle.fl_codec.specs.Deltas.{delta_bases, delta_deltas}
use Rattle.fl_codec.specs.FoRColumns.{chunk_references, chunked_slots, common_reference, least_by, minus_reference, reading}
use Rattle.fl_codec.specs.Runs.{indices_to, offsets_to, run_validity, values_to}
use Rattle.fl_codec.specs.declared.rle.Runs.{Runs}
use Rattle.fl_codec.specs.declared.for_.GlobalFoR.{GlobalFoR}
use Rattle.fl_codec.specs.declared.for_.ItemOrder.{ItemOrder}
use Rattle.fl_codec.specs.declared.for_.ItemOrder.TheVariants.{Natural}
use Rattle.fl_codec.specs.declared.for_.EncodedFoR.{EncodedFoR}
use Rattle.fl_codec.specs.declared.for_.EncodedFoR.TheVariants as encodings

-- the items and nulls of a plain array
abbrev pub items_of_primitive : PrimitiveParts → List (Option ℤ)
items_of_primitive p = items_of p.validity p.slots

-- a plain array without nulls
abbrev pub non_nullable : PType → List ℤ → PrimitiveParts
non_nullable ptype slots = record { ptype = ptype; slots = slots; validity = valid.NonNullable }

-- these slots under the array's validity
abbrev pub under_validity_of : PrimitiveParts → PType → List ℤ → PrimitiveParts
under_validity_of p ptype slots = record { ptype = ptype; slots = slots; validity = p.validity }

-- ---- frames of reference
-- a child, and its one reference
pub record OneReference : Type 0 where
  pub child : PrimitiveParts
  pub reference : ScalarParts

-- a child with one reference, a child with one for each chunk, or nothing but nulls
pub data FoRParts : Type 0 where
  Whole : OneReference → FoRParts
  ByChunk : PrimitiveParts → PrimitiveParts → FoRParts
  Nulls : ConstantParts → ScalarParts → FoRParts

-- the parts of a FoR with one reference
abbrev pub global_parts : GlobalFoR → OneReference
global_parts encoded = record { child = encoded.child; reference = scalar_parts encoded.reference }

-- the parts of a FoR
abbrev pub for_parts : EncodedFoR → FoRParts
for_parts (encodings.Global encoded) = Whole (global_parts encoded)
for_parts (encodings.Chunked child references) = ByChunk child references
for_parts (encodings.Nulls child reference) = Nulls child (scalar_parts reference)

-- a reference that an encoder makes
abbrev pub reference_scalar : PType → ℤ → ScalarParts
reference_scalar ptype z = record { dtype = dtypes.Primitive ptype NonNullable; value = Some z }

-- the array less one reference, 0 under a null
abbrev pub subtract_reference : PrimitiveParts → ℤ → OneReference
subtract_reference p reference = record {
  child = under_validity_of p p.ptype (map (minus_reference p.ptype reference) (items_of_primitive p));
  reference = reference_scalar p.ptype reference;
}

-- the array less the reference of each chunk, 0 under a null
abbrev pub less_references : PrimitiveParts → List ℤ → FoRParts
less_references p references = ByChunk (under_validity_of p p.ptype (chunked_slots p.ptype references (items_of_primitive p))) (non_nullable p.ptype references)

-- the array less its least valid item, if it has one
abbrev pub subtract_min : PrimitiveParts → Option ℤ → Result OneReference FastLanesError
subtract_min p None = Err NoMinimum
subtract_min p (Some least) = Ok (subtract_reference p least)

-- the array less the least valid item of an order, or why there is none
abbrev pub encode_global_by : ItemOrder → PrimitiveParts → Result OneReference FastLanesError
encode_global_by order p = subtract_min p (least_by (reading order p.ptype) (items_of_primitive p))

-- the array less its least valid item, or why there is none
abbrev pub encode_global : PrimitiveParts → Result OneReference FastLanesError
encode_global p = encode_global_by Natural p

-- the array less these references, or less the one that all of them are
abbrev pub less_common : PrimitiveParts → List ℤ → Option ℤ → FoRParts
less_common p references None = less_references p references
less_common p references (Some reference) = Whole (subtract_reference p reference)

-- a constant null
abbrev pub null_constant : PType → ℕ → ConstantParts
null_constant ptype len = record { scalar = record { dtype = dtypes.Primitive ptype Nullable; value = None }; len = len }

-- the array less the least valid item of each chunk, by an order
abbrev pub less_chunk_leasts : ItemOrder → PrimitiveParts → FoRParts
less_chunk_leasts order p =
    less_common p (chunk_references (reading order p.ptype) (items_of_primitive p)) (common_reference (chunk_references (reading order p.ptype) (items_of_primitive p)))

-- the same, where a column that has items, all of them null, is a constant null
abbrev pub encode_chunked_by : ItemOrder → PrimitiveParts → FoRParts
encode_chunked_by order p =
    if nat_lt 0 (length p.slots) && list_all is_none (items_of_primitive p)
    then Nulls (null_constant p.ptype (length p.slots)) (reference_scalar p.ptype (pos 0))
    else less_chunk_leasts order p

-- the array less the least valid item of each chunk; a column that has items, all of them null, is a constant null
abbrev pub encode_chunked : PrimitiveParts → FoRParts
encode_chunked p = encode_chunked_by Natural p

-- ---- deltas
-- the bases and the deltas of a plain array's blocks
abbrev pub compress_deltas : PrimitiveParts → PrimitiveParts × PrimitiveParts
compress_deltas p = (non_nullable p.ptype (delta_bases p.ptype (items_of_primitive p)), non_nullable p.ptype (delta_deltas p.ptype (items_of_primitive p)))

-- ---- runs
-- run values, the run index of each position, and how many run values stand before each chunk
pub record RunParts : Type 0 where
  pub values : PrimitiveParts
  pub indices : PrimitiveParts
  pub offsets : PrimitiveParts

-- the parts of runs
abbrev pub run_parts : Runs → RunParts
run_parts rle = record { values = rle.values; indices = rle.indices; offsets = rle.offsets }

-- the runs of a plain array
abbrev pub encode_runs : PrimitiveParts → RunParts
encode_runs p = record {
  values = non_nullable p.ptype (values_to (items_of_primitive p) (chunks_of (length p.slots)));
  indices = record { ptype = U16; slots = map (λ n. pos n) (indices_to (items_of_primitive p) (chunks_of (length p.slots))); validity = run_validity p.validity (length p.slots) (1024 * chunks_of (length p.slots)) };
  offsets = non_nullable U64 (map (λ n. pos n) (offsets_to (items_of_primitive p) (chunks_of (length p.slots))));
}
