use Rattle.std.proofs.Common.{◌+◌, ◌*◌}
use Rattle.std.specs.Prelude.{max}
use Rattle.fl_array.specs.BitPackedArrays.{size_of_widths}
use Rattle.fl_array.specs.FoRArrays.{size_of_references}
use Rattle.fl_array.specs.Trees.{height}
use Rattle.fl_array.proofs.+reading.Given as goal

abbrev pub decreases-array::ArrayRef::scalar_at : goal.decreases-array::ArrayRef::scalar_at
decreases-array::ArrayRef::scalar_at l = 4 * height l.self.now

abbrev pub decreases-array::ArrayRef::slice : goal.decreases-array::ArrayRef::slice
decreases-array::ArrayRef::slice l = 4 * height l.self.now

abbrev pub decreases-bitpacking::BitPackedArray::extent_between : goal.decreases-bitpacking::BitPackedArray::extent_between
decreases-bitpacking::BitPackedArray::extent_between l = 4 * height l.boundaries.now + 1

abbrev pub decreases-bitpacking::BitPackedArray::extent_of : goal.decreases-bitpacking::BitPackedArray::extent_of
decreases-bitpacking::BitPackedArray::extent_of l = 2 * size_of_widths l.self.now.widths

abbrev pub decreases-bitpacking::BitPackedArray::scalar_at : goal.decreases-bitpacking::BitPackedArray::scalar_at
decreases-bitpacking::BitPackedArray::scalar_at l = 2 * size_of_widths l.self.now.widths + 1

abbrev pub decreases-bitpacking::BitPackedArray::slice : goal.decreases-bitpacking::BitPackedArray::slice
decreases-bitpacking::BitPackedArray::slice l = 2 * size_of_widths l.self.now.widths

abbrev pub decreases-for_::FoRArray::scalar_at : goal.decreases-for_::FoRArray::scalar_at
decreases-for_::FoRArray::scalar_at l = 2 * size_of_references (height l.self.now.encoded) l.self.now.references

abbrev pub decreases-for_::FoRArray::slice : goal.decreases-for_::FoRArray::slice
decreases-for_::FoRArray::slice l = 2 * size_of_references (height l.self.now.encoded) l.self.now.references

abbrev pub decreases-delta::DeltaArray::scalar_at : goal.decreases-delta::DeltaArray::scalar_at
decreases-delta::DeltaArray::scalar_at l = 2 * (2 * max (height l.self.now.bases) (height l.self.now.deltas) + 1)

abbrev pub decreases-delta::DeltaArray::slice : goal.decreases-delta::DeltaArray::slice
decreases-delta::DeltaArray::slice l = 2 * (2 * max (height l.self.now.bases) (height l.self.now.deltas) + 1)

abbrev pub decreases-rle::RLEArray::scalar_at : goal.decreases-rle::RLEArray::scalar_at
decreases-rle::RLEArray::scalar_at l = 2 * (2 * max (height l.self.now.values) (max (height l.self.now.indices) (height l.self.now.offsets)) + 1)

abbrev pub decreases-rle::RLEArray::slice : goal.decreases-rle::RLEArray::slice
decreases-rle::RLEArray::slice l = 2 * (2 * max (height l.self.now.values) (max (height l.self.now.indices) (height l.self.now.offsets)) + 1)
