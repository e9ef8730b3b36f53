-- How large schemes are.
use Rattle.std.proofs.Common.{◌+◌, ℕ}
use Rattle.fl_encode.specs.Shapes.{BitPacked, Constant, Delta, FoR, FoRChunked, Plain, Primitive, RLE, Shape}

-- above those of the children, by as many steps as lead from a scheme to a child's
abbrev pub size : Shape → ℕ
size Plain = 0
size Primitive = 1
size Constant = 1
size (BitPacked packing) = 1
size (FoR order encoded) = size encoded + 4
size (FoRChunked order encoded references) = size encoded + size references + 4
size (Delta bases deltas) = size bases + size deltas + 4
size (RLE run_values values indices offsets) = size values + (size indices + size offsets) + 4
