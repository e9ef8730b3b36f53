-- Schemes held against worked examples, by computing.
use Rattle.std.specs.Prelude.{◌≡◌, negsuc, pos, [], ◌∷◌, Ok, Err, Some, None, codes, refl}
use Rattle.fl_types.specs.declared.dtype.DType.TheVariants as dtypes
use Rattle.fl_types.specs.declared.dtype.Nullability.TheVariants.{NonNullable}
use Rattle.fl_types.specs.declared.dtype.PType.TheVariants.{I16, I8, U32, U8}
use Rattle.fl_types.specs.declared.error.FastLanesError.TheVariants.{CastOutOfRange, NegativeValue, NoMinimum, WidthTooLarge}
use Rattle.fl_types.specs.declared.validity.Validity.TheVariants as valid
use Rattle.fl_column.specs.Columns.{PrimitiveParts}
use Rattle.fl_codec.specs.declared.for_.ItemOrder.TheVariants.{Natural}
use Rattle.fl_codec.specs.Parts.{non_nullable, null_constant, reference_scalar}
use Rattle.fl_array.specs.Trees as tree
use Rattle.fl_encode.specs.declared.scheme.Packing.TheVariants.{BestWidth, BestWidths, Width}
use Rattle.fl_encode.specs.Encodings.{EncodesAs, encode_refusal}
use Rattle.fl_encode.specs.Packings.{constant_of}
use Rattle.fl_encode.specs.Shapes.{BitPacked, Constant, Delta, FoR, FoRChunked, Plain, RLE, Runs, scheme_text}
use Rattle.fl_encode.specs.Texts.{scheme_of_text}

-- ---- refusals
-- `for(bitpacked:255)` of no items: the outer encoding's refusal is the answer
outer_first : encode_refusal (FoR Natural (BitPacked (Width 255))) (non_nullable U32 []) ≡ Some NoMinimum
outer_first = refl

-- `for(bitpacked:255)` of an item: the child's
child_next : encode_refusal (FoR Natural (BitPacked (Width 255))) (non_nullable U32 (pos 7 ∷ [])) ≡ Some WidthTooLarge
child_next = refl

-- `for(for(bitpacked:3))` of -128 and 127: their difference of 255 is stored as -1, which the inner frame makes 0
frame_of_a_frame : encode_refusal (FoR Natural (FoR Natural (BitPacked (Width 3)))) (non_nullable I8 (negsuc 127 ∷ pos 127 ∷ [])) ≡ None
frame_of_a_frame = refl

-- `for(bitpacked:3)` of them
frame_alone : encode_refusal (FoR Natural (BitPacked (Width 3))) (non_nullable I8 (negsuc 127 ∷ pos 127 ∷ [])) ≡ Some NegativeValue
frame_alone = refl

-- `constant` of 7 and 9
two_items : encode_refusal Constant (non_nullable U8 (pos 7 ∷ pos 9 ∷ [])) ≡ Some CastOutOfRange
two_items = refl

-- two nulls
abbrev two_nulls : PrimitiveParts
two_nulls = record { ptype = I16; slots = pos 0 ∷ pos 5 ∷ []; validity = valid.AllInvalid }

-- ---- arrays
-- `constant` of two nulls, whatever lies under them
equal_nulls : EncodesAs Constant two_nulls (Ok (tree.Constant (null_constant I16 2)))
equal_nulls = record { refused = tt; form = refl; stands_for = refl }

-- `constant` of no items is 0, no times
no_items : constant_of (non_nullable U8 []) ≡ record { scalar = record { dtype = dtypes.Primitive U8 NonNullable; value = Some (pos 0) }; len = 0 }
no_items = refl

-- `forc(bitpacked:255,constant)` of nothing but nulls: neither scheme is run
only_nulls : EncodesAs (FoRChunked Natural (BitPacked (Width 255)) Constant) two_nulls (Ok (tree.FoRGlobal (tree.Constant (null_constant I16 2)) (reference_scalar I16 (pos 0))))
only_nulls = record { refused = tt; form = refl; stands_for = refl }

-- `for` of -5, -4, -2
frame_of_negatives : EncodesAs (FoR Natural Plain) (non_nullable I8 (negsuc 4 ∷ negsuc 3 ∷ negsuc 1 ∷ [])) (Ok (tree.FoRGlobal (tree.Primitive (non_nullable I8 (pos 0 ∷ pos 1 ∷ pos 3 ∷ []))) (reference_scalar I8 (negsuc 4))))
frame_of_negatives = record { refused = tt; form = (tree.Primitive (non_nullable I8 (pos 0 ∷ pos 1 ∷ pos 3 ∷ [])), refl, refl); stands_for = refl }

-- ---- text
nested_text : scheme_of_text (codes "rle(for(bitpacked),bitpacked:07,delta)") ≡ Ok (RLE Runs (FoR Natural (BitPacked BestWidth)) (BitPacked (Width 7)) (Delta Plain Plain))
nested_text = refl

some_plain : scheme_of_text (codes "delta(_,forc(blocked,_))") ≡ Ok (Delta Plain (FoRChunked Natural (BitPacked BestWidths) Plain))
some_plain = refl

printed_text : scheme_text (Delta Plain (FoRChunked Natural (BitPacked (Width 255)) Plain)) ≡ codes "delta(_,forc(bitpacked:255,_))"
printed_text = refl

-- the text ends inside of a word
cut_word : scheme_of_text (codes "fo") ≡ Err 2
cut_word = refl

-- an x in place of a parenthesis, a comma or the end
wrong_behind : scheme_of_text (codes "forx") ≡ Err 3
wrong_behind = refl

-- a width of 256
wide : scheme_of_text (codes "for(bitpacked:256)") ≡ Err 16
wide = refl

-- one child where there are two
too_few : scheme_of_text (codes "delta(_)") ≡ Err 7
too_few = refl

-- a plain array as a whole has no text of its own
plain_alone : scheme_of_text (codes "_") ≡ Err 0
plain_alone = refl
