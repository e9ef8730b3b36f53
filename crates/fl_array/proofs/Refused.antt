-- What a refused call answers.
use Rattle.std.proofs.Common.{◌≡◌, None, Some, Ok, Err, Option, IsErrAnd, refl}
use Rattle.std.specs.Prelude.{Result}
use Rattle.fl_types.specs.declared.error.FastLanesError.{FastLanesError}
use Rattle.fl_types.specs.declared.error.FastLanesError.TheVariants.{OutOfMemory, NotInteger, NegativeValue, WidthTooLarge, AllBlocksNative, BlockCount, OffsetTooLarge, LengthOverflow, ValidityLength, PatchType, PatchLength, PatchContent, PackedLength, BlockOffsetsType, BlockOffsetsCount, BlockBoundary, BlockSpan, TypeMismatch, NullReference, ReferenceCount, NoMinimum, ChildNullable, ChildLength, RangeBeyondChild, RunIndexType, RunOffsets, RunIndex, TooManyWidths, NotGlobal, IndexOutOfBounds, RangeOutOfBounds, MaskLength, CastNull, CastOutOfRange, UnknownId, BadMetadata, UnknownType, BufferCount, ChildCount, ChildMismatch}
use Rattle.fl_types.specs.Refusals.{Answers, Refuses}
use Rattle.fl_types.proofs.RefusalLaws.{Refuses_map}
use Rattle.fl_bitpacking.specs.Refusals.{accepted}

-- the refusal of the model
pub Refuses_same : (Y : Type 0) (e : FastLanesError) → Refuses {Y = Y} e (Err e)
Refuses_same Y OutOfMemory = tt
Refuses_same Y NotInteger = refl
Refuses_same Y NegativeValue = refl
Refuses_same Y WidthTooLarge = refl
Refuses_same Y AllBlocksNative = refl
Refuses_same Y BlockCount = refl
Refuses_same Y OffsetTooLarge = refl
Refuses_same Y LengthOverflow = refl
Refuses_same Y ValidityLength = refl
Refuses_same Y PatchType = refl
Refuses_same Y PatchLength = refl
Refuses_same Y PatchContent = refl
Refuses_same Y PackedLength = refl
Refuses_same Y BlockOffsetsType = refl
Refuses_same Y BlockOffsetsCount = refl
Refuses_same Y BlockBoundary = refl
Refuses_same Y BlockSpan = refl
Refuses_same Y TypeMismatch = refl
Refuses_same Y NullReference = refl
Refuses_same Y ReferenceCount = refl
Refuses_same Y NoMinimum = refl
Refuses_same Y ChildNullable = refl
Refuses_same Y ChildLength = refl
Refuses_same Y RangeBeyondChild = refl
Refuses_same Y RunIndexType = refl
Refuses_same Y RunOffsets = refl
Refuses_same Y RunIndex = refl
Refuses_same Y TooManyWidths = refl
Refuses_same Y NotGlobal = refl
Refuses_same Y IndexOutOfBounds = refl
Refuses_same Y RangeOutOfBounds = refl
Refuses_same Y MaskLength = refl
Refuses_same Y CastNull = refl
Refuses_same Y CastOutOfRange = refl
Refuses_same Y UnknownId = refl
Refuses_same Y BadMetadata = refl
Refuses_same Y UnknownType = refl
Refuses_same Y BufferCount = refl
Refuses_same Y ChildCount = refl
Refuses_same Y ChildMismatch = refl

-- a call that answers nothing, or the refusal of parts
pub accepted_only : (refusal : Option FastLanesError) (u : Unit {0}) → accepted (let t : Unit {0} = tt in t) refusal ≡ Ok u → refusal ≡ None
accepted_only None u h = refl
accepted_only (Some e) u h = cc

-- what is refused before an array is made is refused
pub refused_first : {A B : Type 0} (x : A) (y : B) (e : FastLanesError) (refusal : Option FastLanesError) → Refuses e (accepted x refusal) → Refuses e (accepted y refusal)
refused_first x y e None h = Refuses_map e (Ok x) (Ok y) (λ g. cc) h
refused_first x y e (Some f) h = Refuses_map e (Err f) (Err f) (λ g. cc) h

-- a call that was refused answers as its callee
pub refused_there : {A B : Type 0} (x : A) (y : B) (r : Result B FastLanesError) (e : FastLanesError) (refusal : Option FastLanesError) → IsErrAnd r (λ f. f ≡ e) → Refuses e (accepted x refusal) → Answers (λ b. b) r (accepted y refusal)
refused_there x y (Ok z) e refusal h m = absurd h
refused_there x y (Err f) e refusal h m = rw h (refused_first x y e refusal m)

-- parts that are accepted
pub accepted_is : {A : Type 0} (x : A) (refusal : Option FastLanesError) → refusal ≡ None → accepted x refusal ≡ Ok x
accepted_is x refusal h = rw h refl
