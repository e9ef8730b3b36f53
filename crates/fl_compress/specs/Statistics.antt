-- Statistics of a primitive array: how many bytes each part takes that an encoding makes of it, by each packed scheme.
use Rattle.std.specs.Prelude.{◌-◌, ◌^◌, ◌&&◌, ℕ, Bool, true, false, length, min, option_map, Option, Some, None, Result, Ok, Err, if◌then◌else◌}
use Rattle.fl_types.specs.declared.error.FastLanesError.{FastLanesError}
use Rattle.fl_column.specs.Columns.{PrimitiveParts, column_of_primitive}
use Rattle.fl_column.specs.Queries.{are_constant}
use Rattle.fl_codec.specs.declared.for_.ItemOrder.{ItemOrder}
use Rattle.fl_codec.specs.declared.for_.ItemOrder.TheVariants.{Natural, Signed}
use Rattle.fl_codec.specs.Dictionaries.{encode_dictionaries}
use Rattle.fl_codec.specs.Parts.{ByChunk, FoRParts, Nulls, OneReference, RunParts, Whole, compress_deltas, encode_chunked_by, encode_global_by, encode_runs}
use Rattle.fl_encode.specs.declared.scheme.Packing.TheVariants.{BestWidth, BestWidths}
use Rattle.fl_encode.specs.Shapes.{BitPacked, Constant, Delta, Dictionary, FoR, FoRChunked, Plain, Primitive, RLE, Runs, Shape}
use Rattle.fl_serde.specs.ByteCounts.{primitive_bytes, validity_bytes}
use Rattle.fl_compress.specs.declared.statistics.BaseSizes.{BaseSizes}
use Rattle.fl_compress.specs.declared.statistics.ChunkSizes.{ChunkSizes}
use Rattle.fl_compress.specs.declared.statistics.ChunkSizes.TheVariants as chunks
use Rattle.fl_compress.specs.declared.statistics.DeltaSizes.{DeltaSizes}
use Rattle.fl_compress.specs.declared.statistics.FrameSizes.{FrameSizes}
use Rattle.fl_compress.specs.declared.statistics.FramedSizes.{FramedSizes}
use Rattle.fl_compress.specs.declared.statistics.PackedSizes.{PackedSizes}
use Rattle.fl_compress.specs.declared.statistics.RunSizes.{RunSizes}
use Rattle.fl_compress.specs.declared.statistics.Statistics.{Statistics}
use Rattle.fl_compress.specs.Cheapest.{both}
use Rattle.fl_compress.specs.EncodedBytes.{encoded_bytes}

-- ---- of an array
-- plain, constant, and bit-packed at the best width and at the best widths
abbrev pub packed_sizes : PrimitiveParts → PackedSizes
packed_sizes p = record {
  plain = primitive_bytes p;
  is_constant = are_constant (column_of_primitive p).items;
  best_width = encoded_bytes p (BitPacked BestWidth);
  best_widths = encoded_bytes p (BitPacked BestWidths);
}

-- those of the array less its least item, if it has one
abbrev pub reference_sizes : Result OneReference FastLanesError → Option PackedSizes
reference_sizes (Ok parts) = Some (packed_sizes parts.child)
reference_sizes (Err refusal) = None

-- those of the array less the least item of each chunk, and of these
abbrev pub chunk_sizes : FoRParts → ChunkSizes
chunk_sizes (Whole parts) = chunks.Whole (packed_sizes parts.child)
chunk_sizes (ByChunk child others) = chunks.ByChunk (packed_sizes child) (packed_sizes others)
chunk_sizes (Nulls child reference) = chunks.Nulls

-- the frames of reference by an order
abbrev pub frame_sizes : ItemOrder → PrimitiveParts → FrameSizes
frame_sizes order p = record { one = reference_sizes (encode_global_by order p); chunks = chunk_sizes (encode_chunked_by order p) }

-- packed, and frames of reference by either order
abbrev pub framed_sizes : PrimitiveParts → FramedSizes
framed_sizes p = record { packed = packed_sizes p; natural = frame_sizes Natural p; signed = frame_sizes Signed p }

-- those, and those of the bases and the deltas
abbrev pub base_sizes : PrimitiveParts → BaseSizes
base_sizes p = record {
  framed = framed_sizes p;
  bases = framed_sizes (compress_deltas p).0;
  deltas = framed_sizes (compress_deltas p).1;
  validity = validity_bytes (length p.slots) p.validity;
}

-- the same, where the bases may be deltas too
abbrev pub delta_sizes : PrimitiveParts → DeltaSizes
delta_sizes p = record {
  framed = framed_sizes p;
  bases = base_sizes (compress_deltas p).0;
  deltas = framed_sizes (compress_deltas p).1;
  validity = validity_bytes (length p.slots) p.validity;
}

-- those of the run values, of the run indices and of the run offsets
abbrev pub run_sizes : RunParts → RunSizes
run_sizes runs = record {
  values = delta_sizes runs.values;
  indices = delta_sizes runs.indices;
  offsets = framed_sizes runs.offsets;
}

-- the statistics of an array: of its items, its bases and its deltas, of its runs, and of its dictionaries
unfoldable pub statistics_of : PrimitiveParts → Statistics
statistics_of p = record { items = delta_sizes p; runs = run_sizes (encode_runs p); dictionaries = run_sizes (encode_dictionaries p) }

-- ---- of a scheme
-- the bytes by a packed scheme, none by another
abbrev pub packed_size : PackedSizes → Shape → Option ℕ
packed_size sizes Plain = Some sizes.plain
packed_size sizes Primitive = Some sizes.plain
packed_size sizes Constant = if sizes.is_constant then Some 0 else None
packed_size sizes (BitPacked BestWidth) = sizes.best_width
packed_size sizes (BitPacked BestWidths) = sizes.best_widths
packed_size sizes other = None

-- over one reference, if there is one
abbrev pub reference_size : Option PackedSizes → Shape → Option ℕ
reference_size None encoded = None
reference_size (Some sizes) encoded = packed_size sizes encoded

-- over the references of chunks
abbrev pub chunk_size : ChunkSizes → Shape → Shape → Option ℕ
chunk_size (chunks.Whole sizes) encoded references = packed_size sizes encoded
chunk_size (chunks.ByChunk sizes others) encoded references = both (packed_size sizes encoded) (packed_size others references)
chunk_size chunks.Nulls encoded references = Some 0

-- those of the frames of reference by an order
abbrev pub by_order : ItemOrder → FramedSizes → FrameSizes
by_order Natural sizes = sizes.natural
by_order Signed sizes = sizes.signed

-- by a packed scheme, or a frame of reference over packed ones
abbrev pub framed_size : FramedSizes → Shape → Option ℕ
framed_size sizes (FoR order encoded) = reference_size (by_order order sizes).one encoded
framed_size sizes (FoRChunked order encoded references) = chunk_size (by_order order sizes).chunks encoded references
framed_size sizes other = packed_size sizes.packed other

-- by one of those, or by deltas over two of them
abbrev pub base_size : BaseSizes → Shape → Option ℕ
base_size sizes (Delta bases deltas) = both (framed_size sizes.bases bases) (both (framed_size sizes.deltas deltas) (Some sizes.validity))
base_size sizes other = framed_size sizes.framed other

-- the same, where the bases may be by deltas too
abbrev pub delta_size : DeltaSizes → Shape → Option ℕ
delta_size sizes (Delta bases deltas) = both (base_size sizes.bases bases) (both (framed_size sizes.deltas deltas) (Some sizes.validity))
delta_size sizes other = framed_size sizes.framed other

-- by runs or dictionaries over three parts
abbrev pub run_size : RunSizes → Shape → Shape → Shape → Option ℕ
run_size sizes values indices offsets = both (delta_size sizes.values values) (both (delta_size sizes.indices indices) (framed_size sizes.offsets offsets))

-- the bytes by a candidate, of an array's statistics, if it is not refused
abbrev pub size_in : Statistics → Shape → Option ℕ
size_in statistics (RLE Runs values indices offsets) = run_size statistics.runs values indices offsets
size_in statistics (RLE Dictionary values indices offsets) = run_size statistics.dictionaries values indices offsets
size_in statistics other = delta_size statistics.items other

-- bytes as a number of 64 bits, the greatest one where there are more
abbrev pub capped : Option ℕ → Option ℕ
capped bytes = option_map (λ n. min n (2 ^ 64 - 1)) bytes

-- ---- the set
-- plain, constant, or bit-packed at the best width or the best widths
abbrev pub is_packed : Shape → Bool
is_packed Plain = true
is_packed Primitive = true
is_packed Constant = true
is_packed (BitPacked BestWidth) = true
is_packed (BitPacked BestWidths) = true
is_packed other = false

-- those, and frames of reference over them
abbrev pub is_framed : Shape → Bool
is_framed (FoR order encoded) = is_packed encoded
is_framed (FoRChunked order encoded references) = is_packed encoded && is_packed references
is_framed other = is_packed other

-- those, and deltas over two of them
abbrev pub is_base : Shape → Bool
is_base (Delta bases deltas) = is_framed bases && is_framed deltas
is_base other = is_framed other

-- those, and deltas over bases of these and framed deltas
abbrev pub is_delta : Shape → Bool
is_delta (Delta bases deltas) = is_base bases && is_framed deltas
is_delta other = is_framed other

-- the scheme may be a candidate: it is packed, a frame of reference over packed ones, deltas over those or over bases that are deltas, or runs or dictionaries over two of these and one without deltas
unfoldable pub is_candidate : Shape → Bool
is_candidate (RLE run_values values indices offsets) = is_delta values && (is_delta indices && is_framed offsets)
is_candidate other = is_delta other
