-- What a bit-packed array keeps beside its children, how it is printed, and its readers.
use Rattle.std.specs.Prelude.{◌++◌, ℕ, Bool, List, [], Option, Some, None, Result, Ok, Err, codes, nat_le, nat_lt, option_map, if◌then◌else◌}
use Rattle.std.specs.Fmt.{decimal}
use Rattle.fl_types.specs.declared.dtype.DType.{DType}
use Rattle.fl_types.specs.declared.dtype.DType.TheVariants as dtypes
use Rattle.fl_types.specs.declared.dtype.PType.{PType}
use Rattle.fl_types.specs.declared.error.FastLanesError.{FastLanesError}
use Rattle.fl_types.specs.declared.error.FastLanesError.TheVariants.{NotGlobal, NotInteger, OffsetTooLarge, WidthTooLarge}
use Rattle.fl_types.specs.declared.validity.Validity.{Validity}
use Rattle.fl_types.specs.declared.validity.Validity.TheVariants.{Array}
use Rattle.fl_bitpacking.specs.Columns.{BitPackedParts}
use Rattle.fl_bitpacking.specs.Readers.{Reader}
use Rattle.fl_bitpacking.specs.Sources.{reader_at}
use Rattle.fl_array.specs.BitPackedArrays.{BitPackedArrayParts, BitWidthsParts, BlockBoundaries, GlobalWidth}
use Rattle.fl_array.specs.Trees.{Tree}

-- the packed bytes, the position of the first item in the first block, the width of all blocks if they have one, and the offset of the patches if there are some
pub record BitPackedFields : Type 0 where
  pub packed : List ℕ
  pub offset : ℕ
  pub bit_width : Option ℕ
  pub patches_offset : Option ℕ

-- the one width of all blocks, if they have one
abbrev pub global_width_in : BitWidthsParts → Option ℕ
global_width_in (GlobalWidth width) = Some width
global_width_in (BlockBoundaries boundaries) = None

-- the array of the boundaries between blocks, if there is one
abbrev pub boundaries_in : BitWidthsParts → Option Tree
boundaries_in (GlobalWidth width) = None
boundaries_in (BlockBoundaries boundaries) = Some boundaries

-- what an array keeps beside its children
abbrev pub fields_of : BitPackedArrayParts → BitPackedFields
fields_of a = record { packed = a.parts.packed; offset = a.parts.offset; bit_width = global_width_in a.widths; patches_offset = option_map (λ p. p.offset) a.parts.patches }

-- these fields, or why there are none
abbrev pub new_fields : List ℕ → Option ℕ → ℕ → ℕ → Result BitPackedFields FastLanesError
new_fields packed patches_offset bit_width offset =
    if nat_lt 64 bit_width then Err WidthTooLarge
    else if nat_le 1024 offset then Err OffsetTooLarge
    else Ok (record { packed = packed; offset = offset; bit_width = Some bit_width; patches_offset = patches_offset })

-- the one width of all blocks, if they have one, and a comma
abbrev pub width_text : Option ℕ → List ℕ
width_text (Some width) = codes "bit_width: " ++ (decimal width ++ codes ", ")
width_text None = []

-- the one width of all blocks, if they have one, and the offset
abbrev pub fields_text : BitPackedFields → List ℕ
fields_text d = width_text d.bit_width ++ (codes "offset: " ++ decimal d.offset)

-- the integer type, or why there is none
abbrev pub ptype_in : DType → Result PType FastLanesError
ptype_in (dtypes.Primitive ptype nullability) = Ok ptype
ptype_in (dtypes.Bool nullability) = Err NotInteger

-- a reader of so many items of a type, or why there is none
abbrev pub typed_reader : Result PType FastLanesError → BitPackedFields → ℕ → Result Reader FastLanesError
typed_reader (Ok ptype) d len = reader_at d.packed d.bit_width d.offset len
typed_reader (Err refusal) d len = Err refusal

-- ---- what an array shows
-- the bits of a validity, if it has one for each item
abbrev pub bits_of_validity : Validity → Option (List Bool)
bits_of_validity (Array bits) = Some bits
bits_of_validity other = None

-- a reader of packed parts that has unpacked nothing, if all blocks have one width
abbrev pub reader_of : BitPackedParts → BitWidthsParts → Result Reader FastLanesError
reader_of parts (GlobalWidth width) = Ok (record { packed = parts.packed; bit_width = width; offset = parts.offset; len = parts.len; work = record { blocks = 0; words = 0 } })
reader_of parts (BlockBoundaries boundaries) = Err NotGlobal

-- a reader of an array, if all its blocks have one width
abbrev pub whole_reader : BitPackedArrayParts → Result Reader FastLanesError
whole_reader a = reader_of a.parts a.widths
