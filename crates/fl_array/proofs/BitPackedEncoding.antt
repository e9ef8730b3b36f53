-- What packing makes is a bit-packed array.
use Rattle.std.proofs.Common.{◌≡◌, Ok, Err, None, Some, Option, IsErrAnd, List, ℕ, ap, ◌∙◌}
use Rattle.std.specs.Prelude.{Result}
use Rattle.fl_types.specs.declared.error.FastLanesError.{FastLanesError}
use Rattle.fl_types.specs.Refusals.{Refuses}
use Rattle.fl_types.proofs.Refused.{only_memory}
use Rattle.fl_column.specs.Columns.{PrimitiveParts}
use Rattle.fl_bitpacking.specs.Blocks.{boundaries_of, boundary_array, boundary_blocks}
use Rattle.fl_bitpacking.specs.Columns.{BitPackedParts, column_of_packed}
use Rattle.fl_bitpacking.specs.Encoders.{AnswersUnless}
use Rattle.fl_bitpacking.proofs.OneWidth.{numbers_are}
use Rattle.fl_array.specs.BitPackedArrays.{BitPackedArrayParts, BlockBoundaries, tree_of_bitpacked}
use Rattle.fl_array.specs.Trees.{Primitive, Tree, column}

-- a refusal is passed on
pub passed_on : {X : Type 0} {Y : Type 0} (refusal : Option FastLanesError) (s : Result X FastLanesError) (r : Result Y FastLanesError) (e : FastLanesError) → s ≡ Err e → AnswersUnless refusal s → IsErrAnd r (λ f. f ≡ e) → AnswersUnless refusal r
passed_on refusal s (Ok y) e is h g = absurd g
passed_on None s (Err f) e is h g = g ∙ (rw is at h)
passed_on (Some refusal) s (Err f) e is h g = rw g (rw is at h)

-- what one call answered, another may answer
pub also_answered : {X : Type 0} {Y : Type 0} (refusal : Option FastLanesError) (s : Result X FastLanesError) (x : X) (r : Result Y FastLanesError) (y : Y) → s ≡ Ok x → AnswersUnless refusal s → r ≡ Ok y → AnswersUnless refusal r
also_answered None s x r y is h g = rw g tt
also_answered (Some refusal) s x r y is h g = absurd (rw is at h)

-- where memory ran out after it, one says no more than the other
pub still_refused : {X Y Z : Type 0} (refusal : Option FastLanesError) (x : X) (r : Result Y FastLanesError) (e : FastLanesError) (z : Z) → (let s : Result X FastLanesError = Ok x in AnswersUnless refusal s) → IsErrAnd r (λ f. f ≡ e)
    → (let m : Result Z FastLanesError = Ok z in Refuses e m) → AnswersUnless refusal r
still_refused refusal x (Ok y) e z h g m = absurd g
still_refused None x (Err f) e z h g m = g ∙ only_memory e z m
still_refused (Some refusal) x (Err f) e z h g m = absurd h

-- an array of these parts between boundaries of these widths has their column
pub column_between : (a : BitPackedArrayParts) (parts : BitPackedParts) (b : Tree) (p : PrimitiveParts) (widths : List ℕ) → a ≡ record { parts = parts; widths = BlockBoundaries b } → b ≡ Primitive p → p ≡ boundary_array widths
    → column (tree_of_bitpacked a) ≡ column_of_packed parts (boundary_blocks (boundaries_of widths))
column_between a parts b p widths is tree are =
    rw (is, tree, are) (ap (λ (bs : List ℕ). column_of_packed parts (boundary_blocks bs)) (numbers_are widths))
