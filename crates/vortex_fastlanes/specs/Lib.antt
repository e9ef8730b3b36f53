pub use Rattle.fastlanes.specs.Compared
pub use Rattle.fastlanes.specs.Counts
pub use Rattle.fastlanes.specs.Deinterleaved
pub use Rattle.fastlanes.specs.Delta
pub use Rattle.fastlanes.specs.Layout
pub use Rattle.fastlanes.specs.Rows
pub use Rattle.fastlanes.specs.Runs
pub use Rattle.fastlanes.specs.SingleItems as SingleWords
pub use Rattle.fl_types.specs.Bits
pub use Rattle.fl_types.specs.Buffers
pub use Rattle.fl_types.specs.Integers
pub use Rattle.fl_types.specs.Masks
pub use Rattle.fl_types.specs.Refusals
pub use Rattle.fl_types.specs.Types
pub use Rattle.fl_types.specs.Validities
pub use Rattle.fl_types.specs.Values
pub use Rattle.fl_column.specs.Builders
pub use Rattle.fl_column.specs.Casts
pub use Rattle.fl_column.specs.Chunks
pub use Rattle.fl_column.specs.Columns
pub use Rattle.fl_column.specs.Numbers
pub use Rattle.fl_column.specs.Operations
pub use Rattle.fl_column.specs.Queries
pub use Rattle.fl_column.specs.Selections
pub use Rattle.fl_patches.specs.Costs
pub use Rattle.fl_patches.specs.Exceptions
pub use Rattle.fl_patches.specs.PatchMaps
pub use Rattle.fl_patches.specs.PatchParts
pub use Rattle.fl_patches.specs.Widths
pub use Rattle.fl_metadata.specs.Fits
pub use Rattle.fl_metadata.specs.Messages
pub use Rattle.fl_metadata.specs.Scalars
pub use Rattle.fl_metadata.specs.Schemas
pub use Rattle.fl_metadata.specs.Wire
pub use Rattle.fl_metadata.specs.WireReading
pub use Rattle.fl_metadata.specs.WrittenText
pub use Rattle.fl_codec.specs.ChunkSlices
pub use Rattle.fl_codec.specs.Chunks as EncodedChunks
pub use Rattle.fl_codec.specs.DeltaRefusals
pub use Rattle.fl_codec.specs.Deltas
pub use Rattle.fl_codec.specs.Dictionaries
pub use Rattle.fl_codec.specs.Distinct
pub use Rattle.fl_codec.specs.FoRColumns
pub use Rattle.fl_codec.specs.FoRValues
pub use Rattle.fl_codec.specs.ForwardFill
pub use Rattle.fl_codec.specs.Parts
pub use Rattle.fl_codec.specs.RunColumns
pub use Rattle.fl_codec.specs.RunRefusals
pub use Rattle.fl_codec.specs.Runs as RunEncodings
pub use Rattle.fl_bitpacking.specs.BlockLends
pub use Rattle.fl_bitpacking.specs.BlockSums
pub use Rattle.fl_bitpacking.specs.BlockedWidths
pub use Rattle.fl_bitpacking.specs.Blocks
pub use Rattle.fl_bitpacking.specs.Casts as PackedCasts
pub use Rattle.fl_bitpacking.specs.ChunksLending
pub use Rattle.fl_bitpacking.specs.Columns as PackedColumns
pub use Rattle.fl_bitpacking.specs.Compared as ComparedColumns
pub use Rattle.fl_bitpacking.specs.Decided
pub use Rattle.fl_bitpacking.specs.Encoders
pub use Rattle.fl_bitpacking.specs.LeastIntegers
pub use Rattle.fl_bitpacking.specs.Lending
pub use Rattle.fl_bitpacking.specs.Lent
pub use Rattle.fl_bitpacking.specs.Parts as PackedParts
pub use Rattle.fl_bitpacking.specs.Placed
pub use Rattle.fl_bitpacking.specs.RangeTests
pub use Rattle.fl_bitpacking.specs.Readers
pub use Rattle.fl_bitpacking.specs.References
pub use Rattle.fl_bitpacking.specs.Refusals as PackedRefusals
pub use Rattle.fl_bitpacking.specs.Restored
pub use Rattle.fl_bitpacking.specs.RoomLends
pub use Rattle.fl_bitpacking.specs.SingleItems
pub use Rattle.fl_bitpacking.specs.SlicedParts
pub use Rattle.fl_bitpacking.specs.Sources
pub use Rattle.fl_bitpacking.specs.Spans
pub use Rattle.fl_bitpacking.specs.Taken
pub use Rattle.fl_bitpacking.specs.UnpackedBlocks
pub use Rattle.fl_bitpacking.specs.WholeBlocks
pub use Rattle.fl_bitpacking.specs.Words
pub use Rattle.fl_array.specs.ArrayCodes
pub use Rattle.fl_array.specs.BitPackedArrays
pub use Rattle.fl_array.specs.BitPackedFields
pub use Rattle.fl_array.specs.Codes
pub use Rattle.fl_array.specs.DeltaArrays
pub use Rattle.fl_array.specs.DeltaCasts
pub use Rattle.fl_array.specs.EncodedBitPacked
pub use Rattle.fl_array.specs.EncodedDelta
pub use Rattle.fl_array.specs.EncodedFoR
pub use Rattle.fl_array.specs.FoRArrays
pub use Rattle.fl_array.specs.FoRDataParts
pub use Rattle.fl_array.specs.Kinds
pub use Rattle.fl_array.specs.OffsetData
pub use Rattle.fl_array.specs.OwnedParts
pub use Rattle.fl_array.specs.ProbeStates
pub use Rattle.fl_array.specs.RLEArrays
pub use Rattle.fl_array.specs.Ranges
pub use Rattle.fl_array.specs.Reads
pub use Rattle.fl_array.specs.Slices
pub use Rattle.fl_array.specs.StoredParts
pub use Rattle.fl_array.specs.ToBlocked
pub use Rattle.fl_array.specs.Trees
pub use Rattle.fl_array.specs.UnpackedBlocks as UnpackedArrays
pub use Rattle.fl_array.specs.Views
pub use Rattle.fl_array.specs.WellFormed
pub use Rattle.fl_encode.specs.Encodings as Schemes
pub use Rattle.fl_encode.specs.Grammar as SchemeGrammar
pub use Rattle.fl_encode.specs.Packings
pub use Rattle.fl_encode.specs.SameShapes
pub use Rattle.fl_encode.specs.SchemeShapes
pub use Rattle.fl_encode.specs.ShapeCodes
pub use Rattle.fl_encode.specs.Shapes
pub use Rattle.fl_encode.specs.Texts
pub use Rattle.fl_ops.specs.CastForms
pub use Rattle.fl_ops.specs.Normalized
pub use Rattle.fl_ops.specs.Operations as ArrayOperations
pub use Rattle.fl_ops.specs.Queries as ArrayQueries
pub use Rattle.fl_ops.specs.Results
pub use Rattle.fl_ops.specs.Selections as ArraySelections
pub use Rattle.fl_ops.specs.Sums
pub use Rattle.fl_ops.specs.Takes
pub use Rattle.fl_ops.specs.Unpacked
pub use Rattle.fl_scan.specs.Bounds as ScanBounds
pub use Rattle.fl_scan.specs.Constants as ScanConstants
pub use Rattle.fl_scan.specs.Indices as ScanIndices
pub use Rattle.fl_scan.specs.Membership
pub use Rattle.fl_scan.specs.Sums as ScanSums
pub use Rattle.fl_scan.specs.Totals
pub use Rattle.fl_serialized.specs.Codes as NodeCodes
pub use Rattle.fl_serialized.specs.Nodes
pub use Rattle.fl_serialized.specs.Sizes
pub use Rattle.fl_serde.specs.ByteCounts
pub use Rattle.fl_serde.specs.Checks
pub use Rattle.fl_serde.specs.Children
pub use Rattle.fl_serde.specs.EarlyRefusals
pub use Rattle.fl_serde.specs.Encodings
pub use Rattle.fl_serde.specs.Firsts
pub use Rattle.fl_serde.specs.Kinds as NodeKinds
pub use Rattle.fl_serde.specs.Leaves
pub use Rattle.fl_serde.specs.NodeColumns
pub use Rattle.fl_serde.specs.NodeIds
pub use Rattle.fl_serde.specs.Plain
pub use Rattle.fl_serde.specs.Reading
pub use Rattle.fl_serde.specs.RoundTrip
pub use Rattle.fl_serde.specs.TypeAndLength
pub use Rattle.fl_serde.specs.Writing
pub use Rattle.fl_compress.specs.Candidates
pub use Rattle.fl_compress.specs.EncodedBytes
pub use Rattle.fl_compress.specs.Smallest
pub use Rattle.fl_compress.specs.Statistics
