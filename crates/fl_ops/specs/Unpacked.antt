-- What a comparison or a range test of an array unpacks of packed bytes.
use Rattle.std.specs.Prelude.{◌+ℤ◌, ℤ, pos, Bool, IfSome, unwrap_or}
use Rattle.fastlanes.specs.Counts.{Counts}
use Rattle.fl_types.specs.Integers.{wrap}
use Rattle.fl_column.specs.Columns.{integers_in, ptype_of_column}
use Rattle.fl_array.specs.BitPackedArrays.{bitpacked_in}
use Rattle.fl_array.specs.FoRArrays.{ChunkReferences, packed_in_chunks}
use Rattle.fl_array.specs.Trees.{Tree, column}
use Rattle.fl_array.specs.Trees as tree
use Rattle.fl_array.specs.UnpackedBlocks.{IsComparisonOf, IsComparisonOfSums}

-- a test of a bit-packed array unpacks what a comparison of it does; that of a FoR array of one reference what the encoded array's test does, which tests each item plus the reference; that of a FoR array whose chunks are the blocks of a bit-packed child each block whose width does not decide the test of its sums; of other arrays nothing is said
abbrev pub IsTestOfArray : Tree → (ℤ → Bool) → Counts → Type 0
IsTestOfArray (tree.FoRGlobal encoded reference) test work = IsTestOfArray encoded (λ z. test (wrap (ptype_of_column (column encoded)) (z +ℤ unwrap_or reference.value (pos 0)))) work
IsTestOfArray (tree.FoRChunked encoded references offset) test work = IfSome (packed_in_chunks (record { encoded = encoded; references = ChunkReferences references offset })) (λ a. IsComparisonOfSums a (integers_in (column references)) test work)
IsTestOfArray other test work = IfSome (bitpacked_in other) (λ a. IsComparisonOf a test work)
