-- The array that an operation makes of one depends on no slot under a null, so the last array of operations is one.
use Rattle.std.proofs.Common.{◌≡◌, ◌∙◌, ℕ, ℤ, pos, ◌+◌, ◌*◌, ◌%◌, Bool, true, false, List, [], ◌∷◌, length, map, refl, sym, ap}
use Rattle.std.specs.Prelude.{◌&&◌, ◌-◌, if◌then◌else◌, is_ok, unwrap_or}
use Rattle.fl_types.specs.declared.dtype.DType.{DType}
use Rattle.fl_types.specs.declared.mask.Mask.{Mask}
use Rattle.fl_types.specs.declared.mask.Mask.TheVariants.{AllFalse, AllTrue, Values}
use Rattle.fl_types.specs.Bits.{between}
use Rattle.fl_types.specs.Types.{nullability_in, same_type, with_nullability}
use Rattle.fl_types.specs.Validities.{items_of, validity_between}
use Rattle.fl_column.specs.Columns.{Column, PrimitiveParts, numbers_of, slice_primitive}
use Rattle.fl_column.specs.Operations.{cast_column, filter_of, ranges_of, take_of}
use Rattle.fl_column.proofs.ItemLaws.{items_of-between}
use Rattle.fl_codec.specs.ChunkSlices.{end_chunk, first_chunk}
use Rattle.fl_codec.specs.RunRefusals.{kept_values_end, kept_values_start}
use Rattle.fl_array.specs.Trees.{BitPackedBlocked, BitPackedGlobal, Constant, Delta, FoRChunked, FoRGlobal, Primitive, RLE, Tree, OffsetLen, column}
use Rattle.fl_array.specs.Trees as tree
use Rattle.fl_array.specs.Slices.{slice_tree}
use Rattle.fl_ops.specs.Normalized.{SameShown, normalized, plain_of, zero_under_nulls}
use Rattle.fl_ops.specs.Operations.{Cast, Filter, Slice, Step, Take, TakeRanges}
use Rattle.fl_ops.specs.Results.{IsMade, IsResult, cast_to, filtered, indices_target, parts_cast, picked, plain_cast, result_of, values_target}
use Rattle.fl_ops.proofs.NormalizedLaws.{made_shown, normalized_column}
use Rattle.fl_ops.proofs.Shown.{zeros, zeros_again}

pub twice : (t : Tree) → normalized (normalized t) ≡ normalized t
twice (Primitive p) = ap Primitive (zeros_again p)
twice (Constant c) = refl
twice (tree.Bool b) = refl
twice (BitPackedGlobal parts width) = refl
twice (BitPackedBlocked parts boundaries) = refl
twice (FoRGlobal encoded reference) = ap (λ x. FoRGlobal x reference) (twice encoded)
twice (FoRChunked encoded references offset) = ap (λ x. FoRChunked x references offset) (twice encoded)
twice (Delta bases deltas parts) = refl
twice (RLE values indices offsets window) = ap (λ x. RLE x (normalized (normalized indices)) offsets window) (twice values) ∙ ap (λ x. RLE (normalized values) x offsets window) (twice indices)

-- ---- slices
sliced_zeros : (start end : ℕ) (p : PrimitiveParts) → zero_under_nulls (slice_primitive start end p) ≡ zero_under_nulls (slice_primitive start end (zero_under_nulls p))
sliced_zeros start end p =
    let zeroed : List ℤ = map (λ item. unwrap_or item (pos 0)) (items_of p.validity p.slots) in
    ap (λ items. record { ptype = p.ptype; slots = map (λ item. unwrap_or item (pos 0)) items; validity = validity_between start end p.validity })
    (items_of-between p.validity p.slots start end ∙ ap (between start end) (sym (zeros p.validity p.slots)) ∙ sym (items_of-between p.validity zeroed start end))

pub sliced : (start end : ℕ) (t : Tree) → normalized (slice_tree start end t) ≡ normalized (slice_tree start end (normalized t))
sliced start end (Primitive p) = ap Primitive (sliced_zeros start end p)
sliced start end (Constant c) = refl
sliced start end (tree.Bool b) = refl
sliced start end (BitPackedGlobal parts width) = refl
sliced start end (BitPackedBlocked parts boundaries) = refl
sliced start end (FoRGlobal encoded reference) = ap (λ x. FoRGlobal x reference) (sliced start end encoded)
sliced start end (FoRChunked encoded references offset) =
    ap (λ x. FoRChunked x (slice_tree (first_chunk offset start) (end_chunk offset end) references) ((offset + start) % 1024)) (sliced start end encoded)
sliced start end (Delta bases deltas parts) = refl
sliced start end (RLE values indices offsets window) =
    let first : ℕ = first_chunk window.offset start in
    let last : ℕ = end_chunk window.offset end in
    let starts : List ℕ = numbers_of (column offsets) in
    let from : ℕ = kept_values_start starts first last in
    let to : Tree → ℕ = λ vs. kept_values_end starts (length (column vs).items) first last in
    let cut : Tree → Tree → Tree = λ vs is. RLE vs is (slice_tree first last offsets) (record { offset = (window.offset + start) % 1024; len = end - start }) in
    let same : to values ≡ to (normalized values) = ap (λ (c : Column). kept_values_end starts (length c.items) first last) (sym (normalized_column values)) in
    ap (λ x. cut x (normalized (slice_tree (1024 * first) (1024 * last) indices))) (sliced from (to values) values ∙ ap (λ n. normalized (slice_tree from n (normalized values))) same)
    ∙ ap (cut (normalized (slice_tree from (to (normalized values)) (normalized values)))) (sliced (1024 * first) (1024 * last) indices)

-- ---- what is picked
pub picks : (choice : Column → Column) (t : Tree) → normalized (picked choice t) ≡ normalized (picked choice (normalized t))
picks choice (FoRGlobal encoded reference) = ap (λ x. FoRGlobal x reference) (picks choice encoded)
picks choice (Primitive p) = ap (λ c. normalized (Primitive (plain_of (choice c)))) (sym (normalized_column (Primitive p)))
picks choice (Constant c) = refl
picks choice (tree.Bool b) = refl
picks choice (BitPackedGlobal parts width) = refl
picks choice (BitPackedBlocked parts boundaries) = refl
picks choice (FoRChunked encoded references offset) = ap (λ c. normalized (Primitive (plain_of (choice c)))) (sym (normalized_column (FoRChunked encoded references offset)))
picks choice (Delta bases deltas parts) = refl
picks choice (RLE values indices offsets window) = ap (λ c. normalized (Primitive (plain_of (choice c)))) (sym (normalized_column (RLE values indices offsets window)))

-- ---- casts
either : {A : Type 0} (f : A → Tree) (b c : Bool) (x y u v : A) → b ≡ c → f x ≡ f u → f y ≡ f v → f (if b then x else y) ≡ f (if c then u else v)
either f b c x y u v same then_same else_same = ap (λ t. f (if t then x else y)) same ∙ each c
  where
    each : (t : Bool) → f (if t then x else y) ≡ f (if t then u else v)
    each true = then_same
    each false = else_same

plain_cast_shown : (target : DType) (t : Tree) → normalized (plain_cast target (column t)) ≡ normalized (plain_cast target (column (normalized t)))
plain_cast_shown target t = ap (λ c. normalized (plain_cast target c)) (sym (normalized_column t))

pub casts : (target : DType) (t : Tree) → normalized (cast_to target t) ≡ normalized (cast_to target (normalized t))
casts target (Primitive p) = plain_cast_shown target (Primitive p)
casts target (Constant c) = refl
casts target (tree.Bool b) = refl
casts target (BitPackedGlobal parts width) = refl
casts target (BitPackedBlocked parts boundaries) = refl
casts target (FoRGlobal encoded reference) =
    either normalized (same_type (column encoded).dtype target) (same_type (column (normalized encoded)).dtype target) (FoRGlobal (cast_to target encoded) reference) (plain_cast target (column (FoRGlobal encoded reference)))
    (FoRGlobal (cast_to target (normalized encoded)) reference) (plain_cast target (column (normalized (FoRGlobal encoded reference))))
    (ap (λ (c : Column). same_type c.dtype target) (sym (normalized_column encoded))) (ap (λ x. FoRGlobal x reference) (casts target encoded)) (plain_cast_shown target (FoRGlobal encoded reference))
casts target (FoRChunked encoded references offset) =
    either normalized (same_type (column encoded).dtype target) (same_type (column (normalized encoded)).dtype target) (FoRChunked (cast_to target encoded) references offset) (plain_cast target (column (FoRChunked encoded references offset)))
    (FoRChunked (cast_to target (normalized encoded)) references offset) (plain_cast target (column (normalized (FoRChunked encoded references offset))))
    (ap (λ (c : Column). same_type c.dtype target) (sym (normalized_column encoded))) (ap (λ x. FoRChunked x references offset) (casts target encoded)) (plain_cast_shown target (FoRChunked encoded references offset))
casts target (Delta bases deltas parts) = refl
casts target (RLE values indices offsets window) =
    let values_to : DType = values_target target in
    let indices_to : Tree → DType = λ is. indices_target target is in
    let same_target : indices_to indices ≡ indices_to (normalized indices) = ap (λ (c : Column). with_nullability (nullability_in target) c.dtype) (sym (normalized_column indices)) in
    let fits_cast : DType → Column → Column → Bool = λ d v i. is_ok (cast_column values_to v) && is_ok (cast_column d i) in
    let same_parts : parts_cast target values indices ≡ parts_cast target (normalized values) (normalized indices) =
    ap (λ d. fits_cast d (column values) (column indices)) same_target ∙ ap (λ v. fits_cast (indices_to (normalized indices)) v (column indices)) (sym (normalized_column values)) ∙ ap (fits_cast (indices_to (normalized indices)) (column (normalized values))) (sym (normalized_column indices)) in
    either normalized (parts_cast target values indices) (parts_cast target (normalized values) (normalized indices))
    (RLE (cast_to values_to values) (cast_to (indices_to indices) indices) offsets window) (plain_cast target (column (RLE values indices offsets window)))
    (RLE (cast_to values_to (normalized values)) (cast_to (indices_to (normalized indices)) (normalized indices)) offsets window) (plain_cast target (column (normalized (RLE values indices offsets window))))
    same_parts
    (ap (λ x. RLE x (normalized (cast_to (indices_to indices) indices)) offsets window) (casts values_to values)
    ∙ ap (λ x. RLE (normalized (cast_to values_to (normalized values))) x offsets window) (casts (indices_to indices) indices ∙ ap (λ d. normalized (cast_to d (normalized indices))) same_target))
    (plain_cast_shown target (RLE values indices offsets window))

-- ---- one operation, and all
filters : (mask : Mask) (t : Tree) → normalized (filtered mask t) ≡ normalized (filtered mask (normalized t))
filters (AllTrue len) t = sym (twice t)
filters (AllFalse len) t = picks (filter_of (AllFalse len)) t
filters (Values bits) t = picks (filter_of (Values bits)) t

of_normalized : (step : Step) (t : Tree) → normalized (result_of step t) ≡ normalized (result_of step (normalized t))
of_normalized (Slice start end) t = sliced start end t
of_normalized (Take indices) t = picks (take_of (column indices)) t
of_normalized (TakeRanges ranges) t = picks (ranges_of ranges) t
of_normalized (Filter mask) t = filters mask t
of_normalized (Cast target) t = casts target t

pub next_same : (step : Step) (a b x y : Tree) → SameShown a b → IsMade step a x → IsMade step b y → SameShown x y
next_same step a b x y same made_x made_y =
    made_shown step a x made_x ∙ of_normalized step a ∙ ap (λ t. normalized (result_of step t)) same ∙ sym (of_normalized step b) ∙ sym (made_shown step b y made_y)

-- what operations make of arrays that show the same shows the same
pub results_same : (steps : List Step) (a b x y : Tree) → SameShown a b → IsResult a steps x → IsResult b steps y → SameShown x y
results_same [] a b x y same made_x made_y = ap normalized made_x ∙ same ∙ sym (ap normalized made_y)
results_same (step ∷ steps) a b x y same made_x made_y = results_same steps made_x.0 made_y.0 x y (next_same step a b made_x.0 made_y.0 same made_x.1.0 made_y.1.0) made_x.1.1 made_y.1.1

-- the last array of operations is one, slots under nulls aside
pub one_result : (first : Tree) (steps : List Step) (a b : Tree) → IsResult first steps a → IsResult first steps b → SameShown a b
one_result first steps a b made_a made_b = results_same steps first first a b refl made_a made_b
