-- What a FoR array keeps beside its children, and how it is printed.
use Rattle.std.specs.Prelude.{◌++◌, ℕ, List, [], Bool, true, false, Option, Some, None, codes}
use Rattle.std.specs.Fmt.{signed_decimal}
use Rattle.fl_types.specs.declared.dtype.PType.{PType}
use Rattle.fl_types.specs.declared.dtype.PType.TheVariants.{U8, U16, U32, U64, I8, I16, I32, I64}
use Rattle.fl_types.specs.declared.scalar.Scalar.{Scalar}
use Rattle.fl_types.specs.declared.scalar.Scalar.TheVariants as scalars
use Rattle.fl_types.specs.Values.{ScalarParts, integer_of, ptype_of_value}
use Rattle.fl_array.specs.FoRArrays.{ChunkReferences, FoRReferencesParts, GlobalReference}
use Rattle.fl_array.specs.OffsetData.{offset_text}

-- the position of the first item in its chunk, and the one reference of all items, if there is one
pub record FoRDataParts : Type 0 where
  pub offset : ℕ
  pub global_reference : Option Scalar

-- the one reference of all items, if there is one
abbrev pub global_reference_in : FoRReferencesParts → Option ScalarParts
global_reference_in (GlobalReference reference) = Some reference
global_reference_in (ChunkReferences references offset) = None

-- the name of an integer type
abbrev pub ptype_text : PType → List ℕ
ptype_text U8 = codes "u8"
ptype_text U16 = codes "u16"
ptype_text U32 = codes "u32"
ptype_text U64 = codes "u64"
ptype_text I8 = codes "i8"
ptype_text I16 = codes "i16"
ptype_text I32 = codes "i32"
ptype_text I64 = codes "i64"

-- a boolean in words
abbrev pub bool_text : Bool → List ℕ
bool_text true = codes "true"
bool_text false = codes "false"

-- an integer and the name of its type, a boolean, or a null
abbrev pub scalar_text : Scalar → List ℕ
scalar_text (scalars.Integer value nullability) = signed_decimal (integer_of value) ++ ptype_text (ptype_of_value value)
scalar_text (scalars.Bool value nullability) = bool_text value
scalar_text (scalars.NullInteger ptype) = codes "null"
scalar_text scalars.NullBool = codes "null"

-- the one reference, if there is one
abbrev pub reference_text : Option Scalar → List ℕ
reference_text (Some reference) = codes "global_reference: " ++ (scalar_text reference ++ codes ", ")
reference_text None = []

-- the one reference, if there is one, and the offset
abbrev pub for_data_text : FoRDataParts → List ℕ
for_data_text d = reference_text d.global_reference ++ offset_text d.offset
