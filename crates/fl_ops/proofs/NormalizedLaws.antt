-- Arrays that show the same have one column and one kind.
use Rattle.std.proofs.Common.{◌≡◌, ◌∙◌, pos, refl, sym, ap}
use Rattle.std.specs.Prelude.{unwrap_or}
use Rattle.fl_types.specs.declared.mask.Mask.{Mask}
use Rattle.fl_types.specs.declared.mask.Mask.TheVariants.{AllFalse, AllTrue, Values}
use Rattle.fl_column.specs.Columns.{integers_in}
use Rattle.fl_codec.specs.FoRColumns.{chunked_for, global_for}
use Rattle.fl_array.specs.Trees.{BitPackedBlocked, BitPackedGlobal, Constant, Delta, FoRChunked, FoRGlobal, Primitive, RLE, Tree, column, column_of_rle}
use Rattle.fl_array.specs.Trees as tree
use Rattle.fl_array.specs.Kinds.{IsFoR, IsFoRChunked, IsRLE, kind}
use Rattle.fl_ops.specs.Normalized.{SameShown, normalized}
use Rattle.fl_ops.specs.Operations.{Cast, Filter, Slice, Step, Take, TakeRanges}
use Rattle.fl_ops.specs.Results.{IsFiltered, IsMade, filtered, result_of}
use Rattle.fl_ops.proofs.Shown.{zeros_column}

-- ---- whole arrays
pub normalized_column : (t : Tree) → column (normalized t) ≡ column t
normalized_column (Primitive p) = zeros_column p
normalized_column (Constant c) = refl
normalized_column (tree.Bool b) = refl
normalized_column (BitPackedGlobal parts width) = refl
normalized_column (BitPackedBlocked parts boundaries) = refl
normalized_column (FoRGlobal encoded reference) = ap (global_for (unwrap_or reference.value (pos 0))) (normalized_column encoded)
normalized_column (FoRChunked encoded references offset) = ap (chunked_for (integers_in (column references)) offset) (normalized_column encoded)
normalized_column (Delta bases deltas parts) = refl
normalized_column (RLE values indices offsets window) =
    ap (λ c. column_of_rle c (column (normalized indices)) (column offsets) window) (normalized_column values)
    ∙ ap (λ c. column_of_rle (column values) c (column offsets) window) (normalized_column indices)

pub normalized_kind : (t : Tree) → kind (normalized t) ≡ kind t
normalized_kind (Primitive p) = refl
normalized_kind (Constant c) = refl
normalized_kind (tree.Bool b) = refl
normalized_kind (BitPackedGlobal parts width) = refl
normalized_kind (BitPackedBlocked parts boundaries) = refl
normalized_kind (FoRGlobal encoded reference) = ap IsFoR (normalized_kind encoded)
normalized_kind (FoRChunked encoded references offset) = ap (λ k. IsFoRChunked k (kind references)) (normalized_kind encoded)
normalized_kind (Delta bases deltas parts) = refl
normalized_kind (RLE values indices offsets window) =
    ap (λ k. IsRLE k (kind (normalized indices)) (kind offsets)) (normalized_kind values) ∙ ap (λ k. IsRLE (kind values) k (kind offsets)) (normalized_kind indices)

pub same_columns : (a b : Tree) → SameShown a b → column a ≡ column b
same_columns a b e = sym (normalized_column a) ∙ ap column e ∙ normalized_column b

pub same_kinds : (a b : Tree) → SameShown a b → kind a ≡ kind b
same_kinds a b e = sym (normalized_kind a) ∙ ap kind e ∙ normalized_kind b

-- ---- the array that an operation makes
filtered_shown : (mask : Mask) (t next : Tree) → IsFiltered mask t next → SameShown next (filtered mask t)
filtered_shown (AllTrue len) t next h = ap normalized h
filtered_shown (AllFalse len) t next h = h
filtered_shown (Values bits) t next h = h

pub made_shown : (step : Step) (t next : Tree) → IsMade step t next → SameShown next (result_of step t)
made_shown (Slice start end) t next h = ap normalized h
made_shown (Take indices) t next h = h
made_shown (TakeRanges ranges) t next h = h
made_shown (Filter mask) t next h = filtered_shown mask t next h
made_shown (Cast target) t next h = h

pub made_columns : (step : Step) (t next : Tree) → IsMade step t next → column (result_of step t) ≡ column next
made_columns step t next h = sym (same_columns next (result_of step t) (made_shown step t next h))

pub made_kinds : (step : Step) (t next : Tree) → IsMade step t next → kind (result_of step t) ≡ kind next
made_kinds step t next h = sym (same_kinds next (result_of step t) (made_shown step t next h))
