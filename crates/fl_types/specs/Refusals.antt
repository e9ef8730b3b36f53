-- What a call that may run out of memory answers.
use Rattle.std.specs.Prelude.{◌≡◌, ℕ, Result, Ok, Err}
use Rattle.fl_types.specs.declared.error.FastLanesError.{FastLanesError}
use Rattle.fl_types.specs.declared.error.FastLanesError.TheVariants.{OutOfMemory, NotInteger, NegativeValue, WidthTooLarge, AllBlocksNative, BlockCount, OffsetTooLarge, LengthOverflow, ValidityLength, PatchType, PatchLength, PatchContent, PackedLength, BlockOffsetsType, BlockOffsetsCount, BlockBoundary, BlockSpan, TypeMismatch, NullReference, ReferenceCount, NoMinimum, ChildNullable, ChildLength, RangeBeyondChild, RunIndexType, RunOffsets, RunIndex, TooManyWidths, NotGlobal, IndexOutOfBounds, RangeOutOfBounds, MaskLength, CastNull, CastOutOfRange, UnknownId, BadMetadata, UnknownType, BufferCount, ChildCount, ChildMismatch}

-- the number that stands for a refusal
abbrev pub number_of : FastLanesError → ℕ
number_of OutOfMemory = 1
number_of NotInteger = 2
number_of NegativeValue = 3
number_of WidthTooLarge = 4
number_of AllBlocksNative = 5
number_of BlockCount = 6
number_of OffsetTooLarge = 7
number_of LengthOverflow = 8
number_of ValidityLength = 9
number_of PatchType = 10
number_of PatchLength = 11
number_of PatchContent = 12
number_of PackedLength = 13
number_of BlockOffsetsType = 14
number_of BlockOffsetsCount = 15
number_of BlockBoundary = 16
number_of BlockSpan = 17
number_of TypeMismatch = 18
number_of NullReference = 19
number_of ReferenceCount = 20
number_of NoMinimum = 21
number_of ChildNullable = 22
number_of ChildLength = 23
number_of RangeBeyondChild = 24
number_of RunIndexType = 25
number_of RunOffsets = 26
number_of RunIndex = 27
number_of TooManyWidths = 28
number_of NotGlobal = 29
number_of IndexOutOfBounds = 30
number_of RangeOutOfBounds = 31
number_of MaskLength = 32
number_of CastNull = 33
number_of CastOutOfRange = 34
number_of UnknownId = 35
number_of BadMetadata = 36
number_of UnknownType = 37
number_of BufferCount = 38
number_of ChildCount = 39
number_of ChildMismatch = 40

-- A refusal is the one that the model has, or memory ran out.
abbrev pub Refuses : {Y : Type 0} → FastLanesError → Result Y FastLanesError → Type 0
Refuses OutOfMemory answer = Unit {0}
Refuses error answer = answer ≡ Err error

-- What a call answered, seen by view, is the model's answer, unless memory ran out.
abbrev pub Answers : {X Y : Type 0} → (X → Y) → Result X FastLanesError → Result Y FastLanesError → Type 0
Answers view (Ok x) answer = answer ≡ Ok (view x)
Answers view (Err e) answer = Refuses e answer
