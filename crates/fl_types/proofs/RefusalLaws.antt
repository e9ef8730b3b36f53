-- An answer that is seen in another way.
use Rattle.std.specs.Prelude.{◌≡◌, ◌⊎◌, Result, Ok, Err, refl}
use Rattle.std.proofs.Common.{ap, inl, inr}
use Rattle.fl_types.specs.declared.error.FastLanesError.{FastLanesError}
use Rattle.fl_types.specs.declared.error.FastLanesError.TheVariants.{OutOfMemory, NotInteger, NegativeValue, WidthTooLarge, AllBlocksNative, BlockCount, OffsetTooLarge, LengthOverflow, ValidityLength, PatchType, PatchLength, PatchContent, PackedLength, BlockOffsetsType, BlockOffsetsCount, BlockBoundary, BlockSpan, TypeMismatch, NullReference, ReferenceCount, NoMinimum, ChildNullable, ChildLength, RangeBeyondChild, RunIndexType, RunOffsets, RunIndex, TooManyWidths, NotGlobal, IndexOutOfBounds, RangeOutOfBounds, MaskLength, CastNull, CastOutOfRange, UnknownId, BadMetadata, UnknownType, BufferCount, ChildCount, ChildMismatch}
use Rattle.fl_types.specs.Refusals.{Answers, Refuses}

-- memory ran out, or the model has the refusal
pub Refuses_cases : {Y : Type 0} (e : FastLanesError) (answer : Result Y FastLanesError) → Refuses e answer → (e ≡ OutOfMemory) ⊎ (answer ≡ Err e)
Refuses_cases OutOfMemory answer h = inl refl
Refuses_cases NotInteger answer h = inr h
Refuses_cases NegativeValue answer h = inr h
Refuses_cases WidthTooLarge answer h = inr h
Refuses_cases AllBlocksNative answer h = inr h
Refuses_cases BlockCount answer h = inr h
Refuses_cases OffsetTooLarge answer h = inr h
Refuses_cases LengthOverflow answer h = inr h
Refuses_cases ValidityLength answer h = inr h
Refuses_cases PatchType answer h = inr h
Refuses_cases PatchLength answer h = inr h
Refuses_cases PatchContent answer h = inr h
Refuses_cases PackedLength answer h = inr h
Refuses_cases BlockOffsetsType answer h = inr h
Refuses_cases BlockOffsetsCount answer h = inr h
Refuses_cases BlockBoundary answer h = inr h
Refuses_cases BlockSpan answer h = inr h
Refuses_cases TypeMismatch answer h = inr h
Refuses_cases NullReference answer h = inr h
Refuses_cases ReferenceCount answer h = inr h
Refuses_cases NoMinimum answer h = inr h
Refuses_cases ChildNullable answer h = inr h
Refuses_cases ChildLength answer h = inr h
Refuses_cases RangeBeyondChild answer h = inr h
Refuses_cases RunIndexType answer h = inr h
Refuses_cases RunOffsets answer h = inr h
Refuses_cases RunIndex answer h = inr h
Refuses_cases TooManyWidths answer h = inr h
Refuses_cases NotGlobal answer h = inr h
Refuses_cases IndexOutOfBounds answer h = inr h
Refuses_cases RangeOutOfBounds answer h = inr h
Refuses_cases MaskLength answer h = inr h
Refuses_cases CastNull answer h = inr h
Refuses_cases CastOutOfRange answer h = inr h
Refuses_cases UnknownId answer h = inr h
Refuses_cases BadMetadata answer h = inr h
Refuses_cases UnknownType answer h = inr h
Refuses_cases BufferCount answer h = inr h
Refuses_cases ChildCount answer h = inr h
Refuses_cases ChildMismatch answer h = inr h

-- a refusal stays where a refused model does
pub Refuses_map : {X Y : Type 0} (e : FastLanesError) (m : Result X FastLanesError) (n : Result Y FastLanesError) → (m ≡ Err e → n ≡ Err e) → Refuses e m → Refuses e n
Refuses_map OutOfMemory m n f h = tt
Refuses_map NotInteger m n f h = f h
Refuses_map NegativeValue m n f h = f h
Refuses_map WidthTooLarge m n f h = f h
Refuses_map AllBlocksNative m n f h = f h
Refuses_map BlockCount m n f h = f h
Refuses_map OffsetTooLarge m n f h = f h
Refuses_map LengthOverflow m n f h = f h
Refuses_map ValidityLength m n f h = f h
Refuses_map PatchType m n f h = f h
Refuses_map PatchLength m n f h = f h
Refuses_map PatchContent m n f h = f h
Refuses_map PackedLength m n f h = f h
Refuses_map BlockOffsetsType m n f h = f h
Refuses_map BlockOffsetsCount m n f h = f h
Refuses_map BlockBoundary m n f h = f h
Refuses_map BlockSpan m n f h = f h
Refuses_map TypeMismatch m n f h = f h
Refuses_map NullReference m n f h = f h
Refuses_map ReferenceCount m n f h = f h
Refuses_map NoMinimum m n f h = f h
Refuses_map ChildNullable m n f h = f h
Refuses_map ChildLength m n f h = f h
Refuses_map RangeBeyondChild m n f h = f h
Refuses_map RunIndexType m n f h = f h
Refuses_map RunOffsets m n f h = f h
Refuses_map RunIndex m n f h = f h
Refuses_map TooManyWidths m n f h = f h
Refuses_map NotGlobal m n f h = f h
Refuses_map IndexOutOfBounds m n f h = f h
Refuses_map RangeOutOfBounds m n f h = f h
Refuses_map MaskLength m n f h = f h
Refuses_map CastNull m n f h = f h
Refuses_map CastOutOfRange m n f h = f h
Refuses_map UnknownId m n f h = f h
Refuses_map BadMetadata m n f h = f h
Refuses_map UnknownType m n f h = f h
Refuses_map BufferCount m n f h = f h
Refuses_map ChildCount m n f h = f h
Refuses_map ChildMismatch m n f h = f h

-- what is exact is exact in each view
pub Answers_view : {X Y : Type 0} (f : X → Y) (result : Result X FastLanesError) (m : X) (n : Y) → f m ≡ n → Answers (λ a. a) result (Ok m) → Answers f result (Ok n)
Answers_view f (Ok x) m n e h = let same : m ≡ x = cc in let seen : f m ≡ f x = ap f same in cc
Answers_view f (Err e) m n k h = Refuses_map e (Ok m) (Ok n) (λ g. cc) h
