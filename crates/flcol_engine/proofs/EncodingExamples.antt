-- Encodings held against worked examples, by computing.
use Rattle.std.specs.Prelude.{◌≡◌, negsuc, pos, [], ◌∷◌, Ok, Some, None, refl}
use Rattle.fl_types.specs.declared.dtype.PType.TheVariants.{I16, I32, I8, U32, U8}
use Rattle.fl_types.specs.declared.error.FastLanesError.TheVariants.{NegativeValue, NoMinimum, WidthTooLarge}
use Rattle.fl_types.specs.declared.validity.Validity.TheVariants as valid
use Rattle.fl_column.specs.Columns.{PrimitiveParts}
use Rattle.fl_codec.specs.Parts.{non_nullable, null_constant, reference_scalar}
use Rattle.fl_array.specs.Trees.{Constant, FoRGlobal, Primitive}
use Rattle.flcol_engine.specs.declared.commands.Encoding.TheVariants.{BitPacked, ChunkedFoR, FoR}
use Rattle.fl_encode.specs.declared.scheme.Packing.TheVariants.{Width}
use Rattle.fl_encode.specs.Encodings.{encode_refusal}
use Rattle.flcol_engine.specs.Encodings.{EncodesAs, scheme_of}

-- ---- refusals
-- `bitpacked:9` of a negative `i8`: a negative item is judged before the width
negative_first : encode_refusal (scheme_of (BitPacked (Width 9))) (non_nullable I8 (negsuc 0 ∷ [])) ≡ Some NegativeValue
negative_first = refl

-- `for+bitpacked:255` of no items: the outer encoding's refusal is the answer
outer_first : encode_refusal (scheme_of (FoR (Some (Width 255)))) (non_nullable U32 []) ≡ Some NoMinimum
outer_first = refl

-- `for+bitpacked:255` of an item: the packing's
inner_next : encode_refusal (scheme_of (FoR (Some (Width 255)))) (non_nullable U32 (pos 7 ∷ [])) ≡ Some WidthTooLarge
inner_next = refl

-- `for+bitpacked:3` of -128 and 127: their difference of 255 is stored as -1
wide_range : encode_refusal (scheme_of (FoR (Some (Width 3)))) (non_nullable I8 (negsuc 127 ∷ pos 127 ∷ [])) ≡ Some NegativeValue
wide_range = refl

-- ---- arrays
-- `for` of -5, -4, -2
frame_of_negatives : EncodesAs (FoR None) (non_nullable I32 (negsuc 4 ∷ negsuc 3 ∷ negsuc 1 ∷ [])) (Ok (FoRGlobal (Primitive (non_nullable I32 (pos 0 ∷ pos 1 ∷ pos 3 ∷ []))) (reference_scalar I32 (negsuc 4))))
frame_of_negatives = record { refused = tt; form = (Primitive (non_nullable I32 (pos 0 ∷ pos 1 ∷ pos 3 ∷ [])), refl, refl); stands_for = refl }

-- two nulls
abbrev two_nulls : PrimitiveParts
two_nulls = record { ptype = I16; slots = pos 0 ∷ pos 0 ∷ []; validity = valid.AllInvalid }

-- `forc+bitpacked:255` of nothing but nulls: the constant child is not packed, so its width is not refused
only_nulls : EncodesAs (ChunkedFoR (Some (Width 255))) two_nulls (Ok (FoRGlobal (Constant (null_constant I16 2)) (reference_scalar I16 (pos 0))))
only_nulls = record { refused = tt; form = refl; stands_for = refl }

-- `forc` of no items has the reference 0
no_items : EncodesAs (ChunkedFoR None) (non_nullable U8 []) (Ok (FoRGlobal (Primitive (non_nullable U8 [])) (reference_scalar U8 (pos 0))))
no_items = record { refused = tt; form = (Primitive (non_nullable U8 []), refl, refl); stands_for = refl }
