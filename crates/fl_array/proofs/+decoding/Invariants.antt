use Rattle.std.proofs.Common.{◌+◌, ◌*◌}
use Rattle.std.specs.Prelude.{max}
use Rattle.fl_array.specs.BitPackedArrays.{size_of_widths}
use Rattle.fl_array.specs.FoRArrays.{size_of_references}
use Rattle.fl_array.specs.Trees.{height}
use Rattle.fl_array.proofs.+decoding.Given as goal

abbrev pub decreases-array::ArrayRef::primitive_cow : goal.decreases-array::ArrayRef::primitive_cow
decreases-array::ArrayRef::primitive_cow l = 8 * height l.self.now + 4

abbrev pub decreases-array::ArrayRef::to_primitive : goal.decreases-array::ArrayRef::to_primitive
decreases-array::ArrayRef::to_primitive l = 8 * height l.self.now + 3

abbrev pub decreases-reader::Reader::try_new : goal.decreases-reader::Reader::try_new
decreases-reader::Reader::try_new l = 8 * height l.array.now + 2

abbrev pub decreases-reader::direct::DirectReader::try_new : goal.decreases-reader::direct::DirectReader::try_new
decreases-reader::direct::DirectReader::try_new l = 8 * height l.array.now + 1

abbrev pub decreases-reader::direct::DirectReader::decoded : goal.decreases-reader::direct::DirectReader::decoded
decreases-reader::direct::DirectReader::decoded l = 4 * (2 * max (height l.runs.now.values) (max (height l.runs.now.indices) (height l.runs.now.offsets)) + 1) + 2

abbrev pub decreases-reader::Reader::of_runs : goal.decreases-reader::Reader::of_runs
decreases-reader::Reader::of_runs l = 4 * (2 * max (height l.array.now.values) (max (height l.array.now.indices) (height l.array.now.offsets)) + 1) + 1

abbrev pub decreases-reader::direct::DirectReader::of_deltas : goal.decreases-reader::direct::DirectReader::of_deltas
decreases-reader::direct::DirectReader::of_deltas l = 4 * (2 * max (height l.array.now.bases) (height l.array.now.deltas) + 1) + 1

abbrev pub decreases-reader::direct::DirectReader::of_for : goal.decreases-reader::direct::DirectReader::of_for
decreases-reader::direct::DirectReader::of_for l = 4 * size_of_references (height l.sums.now.encoded) l.sums.now.references + 1

abbrev pub decreases-bitpacking::BitPackedArray::widths : goal.decreases-bitpacking::BitPackedArray::widths
decreases-bitpacking::BitPackedArray::widths l = 4 * size_of_widths l.self.now.widths + 1
