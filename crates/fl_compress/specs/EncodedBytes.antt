-- How many bytes a primitive array takes when it is encoded by a scheme, before it is.
use Rattle.std.specs.Prelude.{◌+◌, ◌*◌, ◌==◌, ℕ, length, sum, if◌then◌else◌, Option, Some, None, Result, Ok, Err}
use Rattle.fl_types.specs.declared.dtype.PType.{PType}
use Rattle.fl_types.specs.declared.dtype.PType.TheVariants.{U64}
use Rattle.fl_types.specs.declared.error.FastLanesError.{FastLanesError}
use Rattle.fl_column.specs.Chunks.{chunk_count}
use Rattle.fl_column.specs.Columns.{PrimitiveParts}
use Rattle.fl_patches.specs.PatchParts.{blocked_patches, global_patches}
use Rattle.fl_codec.specs.Parts.{ByChunk, FoRParts, Nulls, OneReference, Whole, compress_deltas, encode_chunked_by, encode_global_by}
use Rattle.fl_bitpacking.specs.Blocks.{boundary_array}
use Rattle.fl_bitpacking.specs.Encoders.{best_width_of, best_widths_of}
use Rattle.fl_encode.specs.declared.scheme.Packing.{Packing}
use Rattle.fl_encode.specs.declared.scheme.Packing.TheVariants.{BestWidth, BestWidths, Width}
use Rattle.fl_encode.specs.Encodings.{runs_by}
use Rattle.fl_encode.specs.Packings.{constant_refusal, packing_refusal}
use Rattle.fl_encode.specs.Shapes.{BitPacked, Constant, Delta, FoR, FoRChunked, Plain, Primitive, RLE, Shape}
use Rattle.fl_serde.specs.ByteCounts.{patches_bytes, primitive_bytes, validity_bytes}
use Rattle.fl_serde.specs.Leaves.{slots_size}
use Rattle.fl_compress.specs.Cheapest.{both}

-- ---- packing
-- the bytes of this many patches of an array, whose indices are of this type
abbrev pub bytes_of_count : PrimitiveParts → PType → ℕ → ℕ
bytes_of_count p index_type count = if count == 0 then 0 else slots_size index_type count + slots_size p.ptype count + slots_size U64 (chunk_count (length p.slots))

-- packed at one width: 128 bytes for each block and bit, the patches and the validity
abbrev pub bytes_at : ℕ → PrimitiveParts → ℕ
bytes_at width p = 128 * width * chunk_count (length p.slots) + patches_bytes (global_patches width p) + validity_bytes (length p.slots) p.validity

-- packed at the best width, at a given one, or at a width for each block, where there are boundaries too
abbrev pub bytes_packed : Packing → PrimitiveParts → ℕ
bytes_packed BestWidth p = bytes_at (best_width_of p) p
bytes_packed (Width width) p = bytes_at width p
bytes_packed BestWidths p = 128 * sum (best_widths_of p) + patches_bytes (blocked_patches (best_widths_of p) p) + validity_bytes (length p.slots) p.validity + primitive_bytes (boundary_array (best_widths_of p))

-- ---- schemes
-- so many bytes, unless there is a refusal
abbrev pub unless : Option FastLanesError → ℕ → Option ℕ
unless None bytes = Some bytes
unless (Some refusal) bytes = None

-- those of the child, if there is a reference
abbrev pub over_reference : (PrimitiveParts → Option ℕ) → Result OneReference FastLanesError → Option ℕ
over_reference encoded (Ok parts) = encoded parts.child
over_reference encoded (Err refusal) = None

-- those of the child, and of the references where they differ; nulls alone take none
abbrev pub over_references : (PrimitiveParts → Option ℕ) → (PrimitiveParts → Option ℕ) → FoRParts → Option ℕ
over_references encoded references (Whole parts) = encoded parts.child
over_references encoded references (ByChunk child others) = both (encoded child) (references others)
over_references encoded references (Nulls child reference) = Some 0

-- the bytes of a primitive array that is encoded by a scheme, if it is not refused
unfoldable pub encoded_bytes : PrimitiveParts → Shape → Option ℕ
encoded_bytes p Plain = Some (primitive_bytes p)
encoded_bytes p Primitive = Some (primitive_bytes p)
encoded_bytes p Constant = unless (constant_refusal p) 0
encoded_bytes p (BitPacked packing) = unless (packing_refusal packing p) (bytes_packed packing p)
encoded_bytes p (FoR order encoded) = over_reference (λ q. encoded_bytes q encoded) (encode_global_by order p)
encoded_bytes p (FoRChunked order encoded references) = over_references (λ q. encoded_bytes q encoded) (λ q. encoded_bytes q references) (encode_chunked_by order p)
encoded_bytes p (Delta bases deltas) = both (encoded_bytes (compress_deltas p).0 bases) (both (encoded_bytes (compress_deltas p).1 deltas) (Some (validity_bytes (length p.slots) p.validity)))
encoded_bytes p (RLE run_values values indices offsets) = both (encoded_bytes (runs_by run_values p).values values) (both (encoded_bytes (runs_by run_values p).indices indices) (encoded_bytes (runs_by run_values p).offsets offsets))
