-- The schemes of the code as shapes.
use Rattle.std.specs.Option.{option_map_or}
use Rattle.fl_encode.specs.Shapes.{Plain, Shape}
use Rattle.fl_encode.specs.Shapes as shapes
use Rattle.fl_encode.specs.declared.scheme.Child.TheInside.{Inside}
use Rattle.fl_encode.specs.declared.scheme.Scheme.{Scheme}
use Rattle.fl_encode.specs.declared.scheme.Scheme.TheVariants.{BitPacked, Constant, Delta, Dict, FoR, FoRChunked, Primitive, RLE}

-- a scheme as a shape
abbrev pub shape : Scheme → Shape
shape Primitive = shapes.Primitive
shape Constant = shapes.Constant
shape (BitPacked packing) = shapes.BitPacked packing
shape (FoR order encoded) = shapes.FoR order encoded
shape (FoRChunked order encoded references) = shapes.FoRChunked order encoded references
shape (Delta bases deltas) = shapes.Delta bases deltas
shape (RLE values indices offsets) = shapes.RLE shapes.Runs values indices offsets
shape (Dict values indices offsets) = shapes.RLE shapes.Dictionary values indices offsets

-- a child as a shape, by what it holds: nothing if it is plain
abbrev pub child_shape : Inside → Shape
child_shape child = option_map_or (λ boxed. shape boxed.value) child.scheme Plain
