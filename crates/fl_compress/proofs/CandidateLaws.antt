-- Each candidate is one of those whose bytes statistics have.
use Rattle.std.proofs.Common.{◌≡◌, ℕ, ◌-◌, ◌&&◌, Bool, true, false, List, [], ◌∷◌, map, IsTrue, refl}
use Rattle.std.specs.Prelude.{flat_map}
use Rattle.std.specs.List.{All}
use Rattle.std.proofs.lemmas.List.Elements.{All-append, All-cons, All-head, All-map, All-nil, All-tail, All-weaker}
use Rattle.fl_codec.specs.declared.for_.ItemOrder.TheVariants.{Natural, Signed}
use Rattle.fl_encode.specs.declared.scheme.Packing.TheVariants.{BestWidth, BestWidths}
use Rattle.fl_encode.specs.Shapes.{BitPacked, Constant, Delta, Dictionary, FoR, FoRChunked, Plain, Primitive, RLE, Runs, RunValues, Shape}
use Rattle.fl_compress.specs.declared.limits.Limits.{Limits}
use Rattle.fl_compress.specs.Candidates.{candidates, delta_schemes, framed_schemes, has_level, over_deltas, over_frames, over_runs, packed_schemes, run_schemes, where_allowed}
use Rattle.fl_compress.specs.Statistics.{is_base, is_candidate, is_delta, is_framed, is_packed}

-- ---- lists
all_allowed : (P : Shape → Type 0) (allowed : Bool) (schemes : List Shape) → All P schemes → All P (where_allowed allowed schemes)
all_allowed P true schemes all = all
all_allowed P false schemes all = All-nil P

all_pairs : {A B : Type 0} (X : A → Type 0) (Y : B → Type 0) (P : Shape → Type 0) (f : A → B → Shape) → ((x : A) (y : B) → X x → Y y → P (f x y)) → (xs : List A) (ys : List B) → All X xs → All Y ys → All P (flat_map (λ x. map (f x) ys) xs)
all_pairs X Y P f each [] ys all others = All-nil P
all_pairs X Y P f each (x ∷ xs) ys all others =
    All-append P (map (f x) ys) (flat_map (λ x. map (f x) ys) xs)
    (All-map P (f x) ys (All-weaker Y (λ y. P (f x y)) (λ y h. each x y (All-head X x xs all) h) ys others))
    (all_pairs X Y P f each xs ys (All-tail X x xs all) others)

all_threes : (X Y Z P : Shape → Type 0) (f : Shape → Shape → Shape → Shape) → ((x y z : Shape) → X x → Y y → Z z → P (f x y z)) → (xs ys zs : List Shape) → All X xs → All Y ys → All Z zs → All P (flat_map (λ x. flat_map (λ y. map (f x y) zs) ys) xs)
all_threes X Y Z P f each [] ys zs all second third = All-nil P
all_threes X Y Z P f each (x ∷ xs) ys zs all second third =
    All-append P (flat_map (λ y. map (f x y) zs) ys) (flat_map (λ x. flat_map (λ y. map (f x y) zs) ys) xs)
    (all_pairs Y Z P (f x) (λ y z h k. each x y z (All-head X x xs all) h k) ys zs second third)
    (all_threes X Y Z P f each xs ys zs (All-tail X x xs all) second third)

both_true : (a b : Bool) → a ≡ true → b ≡ true → (a && b) ≡ true
both_true true b e f = f
both_true false b e f = cc

-- ---- schemes
abbrev IsPacked : Shape → Type 0
IsPacked s = is_packed s ≡ true

abbrev IsFramed : Shape → Type 0
IsFramed s = is_framed s ≡ true

abbrev IsBase : Shape → Type 0
IsBase s = is_base s ≡ true

abbrev IsDelta : Shape → Type 0
IsDelta s = is_delta s ≡ true

abbrev IsCandidate : Shape → Type 0
IsCandidate s = is_candidate s ≡ true

all_packed : (limits : Limits) (depth : ℕ) → All IsPacked (packed_schemes limits depth)
unfolding packed_schemes
all_packed limits depth =
    All-cons IsPacked Primitive _ refl
    (All-append IsPacked _ _ (all_allowed IsPacked limits.constant (Constant ∷ []) (All-cons IsPacked Constant [] refl (All-nil IsPacked)))
    (all_allowed IsPacked (has_level limits.bitpacked depth) (BitPacked BestWidth ∷ BitPacked BestWidths ∷ []) (All-cons IsPacked (BitPacked BestWidth) (BitPacked BestWidths ∷ []) refl (All-cons IsPacked (BitPacked BestWidths) [] refl (All-nil IsPacked)))))

packed_framed : (s : Shape) → IsPacked s → IsFramed s
packed_framed Plain e = refl
packed_framed Primitive e = refl
packed_framed Constant e = refl
packed_framed (BitPacked packing) e = e
packed_framed (FoR order encoded) e = cc
packed_framed (FoRChunked order encoded references) e = cc
packed_framed (Delta bases deltas) e = cc
packed_framed (RLE run_values values indices offsets) e = cc

all_frames : (children : List Shape) → All IsPacked children → All IsFramed (over_frames children)
all_frames children all =
    All-append IsFramed _ _ (All-map IsFramed (FoR Natural) children all)
    (All-append IsFramed _ _ (all_pairs IsPacked IsPacked IsFramed (FoRChunked Natural) (λ x y e f. both_true (is_packed x) (is_packed y) e f) children children all all)
    (All-append IsFramed _ _ (All-map IsFramed (FoR Signed) children all) (all_pairs IsPacked IsPacked IsFramed (FoRChunked Signed) (λ x y e f. both_true (is_packed x) (is_packed y) e f) children children all all)))

all_framed : (limits : Limits) (depth : ℕ) → All IsFramed (framed_schemes limits depth)
unfolding framed_schemes
all_framed limits depth =
    All-append IsFramed _ _ (All-weaker IsPacked IsFramed packed_framed (packed_schemes limits depth) (all_packed limits depth))
    (all_allowed IsFramed (has_level limits.for_ depth) (over_frames (packed_schemes limits (depth - 1))) (all_frames (packed_schemes limits (depth - 1)) (all_packed limits (depth - 1))))

framed_base : (s : Shape) → IsFramed s → IsBase s
framed_base Plain e = refl
framed_base Primitive e = refl
framed_base Constant e = refl
framed_base (BitPacked packing) e = e
framed_base (FoR order encoded) e = e
framed_base (FoRChunked order encoded references) e = e
framed_base (Delta bases deltas) e = cc
framed_base (RLE run_values values indices offsets) e = cc

framed_delta : (s : Shape) → IsFramed s → IsDelta s
framed_delta Plain e = refl
framed_delta Primitive e = refl
framed_delta Constant e = refl
framed_delta (BitPacked packing) e = e
framed_delta (FoR order encoded) e = e
framed_delta (FoRChunked order encoded references) e = e
framed_delta (Delta bases deltas) e = cc
framed_delta (RLE run_values values indices offsets) e = cc

all_bases : (limits : Limits) (depth : ℕ) → All IsBase (delta_schemes 1 limits depth)
unfolding delta_schemes
all_bases limits depth =
    let children = framed_schemes limits (depth - 1) in
    let all = all_framed limits (depth - 1) in
    All-append IsBase _ _ (All-weaker IsFramed IsBase framed_base (framed_schemes limits depth) (all_framed limits depth))
    (all_allowed IsBase (has_level limits.delta depth) (over_deltas children children) (all_pairs IsFramed IsFramed IsBase Delta (λ x y e f. both_true (is_framed x) (is_framed y) e f) children children all all))

all_deltas : (limits : Limits) (depth : ℕ) → All IsDelta (delta_schemes 2 limits depth)
unfolding delta_schemes
all_deltas limits depth =
    let bases = delta_schemes 1 limits (depth - 1) in
    let children = framed_schemes limits (depth - 1) in
    All-append IsDelta _ _ (All-weaker IsFramed IsDelta framed_delta (framed_schemes limits depth) (all_framed limits depth))
    (all_allowed IsDelta (has_level limits.delta depth) (over_deltas bases children) (all_pairs IsBase IsFramed IsDelta Delta (λ x y e f. both_true (is_base x) (is_framed y) e f) bases children (all_bases limits (depth - 1)) (all_framed limits (depth - 1))))

delta_candidate : (s : Shape) → IsDelta s → IsCandidate s
unfolding is_candidate
delta_candidate Plain e = refl
delta_candidate Primitive e = refl
delta_candidate Constant e = refl
delta_candidate (BitPacked packing) e = e
delta_candidate (FoR order encoded) e = e
delta_candidate (FoRChunked order encoded references) e = e
delta_candidate (Delta bases deltas) e = e
delta_candidate (RLE run_values values indices offsets) e = cc

run_candidate : (which : RunValues) (x y z : Shape) → IsDelta x → IsDelta y → IsFramed z → IsCandidate (RLE which x y z)
unfolding is_candidate
run_candidate which x y z e f g = both_true (is_delta x) (is_delta y && is_framed z) e (both_true (is_delta y) (is_framed z) f g)

all_runs : (which : RunValues) (allowed : Bool) (limits : Limits) (depth : ℕ) → All IsCandidate (run_schemes which allowed limits depth)
unfolding run_schemes
all_runs which allowed limits depth =
    let parts = delta_schemes 2 limits (depth - 1) in
    let offsets = framed_schemes limits (depth - 1) in
    let are_deltas = all_deltas limits (depth - 1) in
    all_allowed IsCandidate (has_level allowed depth) (over_runs which parts parts offsets)
    (all_threes IsDelta IsDelta IsFramed IsCandidate (RLE which) (run_candidate which) parts parts offsets are_deltas are_deltas (all_framed limits (depth - 1)))

pub all_candidates : (limits : Limits) → All (λ s. IsTrue (is_candidate s)) (candidates limits)
unfolding candidates
all_candidates limits =
    All-append IsCandidate _ _ (All-weaker IsDelta IsCandidate delta_candidate (delta_schemes 2 limits limits.depth) (all_deltas limits limits.depth))
    (All-append IsCandidate _ _ (all_runs Runs limits.rle limits limits.depth) (all_runs Dictionary limits.dict limits limits.depth))
