-- With fewer levels there are no other schemes, so none is cheaper.
use Rattle.std.proofs.Common.{◌≡◌, ℕ, ◌-◌, ◌<◌, ◌≤◌, Bool, true, false, List, [], ◌∷◌, ◌++◌, map, Option, Some, None, refl, ap, sym, subst, ◌∙◌, arith, zero, suc}
use Rattle.std.specs.Prelude.{flat_map}
use Rattle.std.specs.List.{All}
use Rattle.std.proofs.lemmas.Bool.Decides.{nat_tests}
use Rattle.std.proofs.lemmas.List.Elements.{All-append, All-cons, All-head, All-map, All-nil, All-same, All-tail, All-weaker}
use Rattle.fl_column.specs.Columns.{PrimitiveParts}
use Rattle.fl_codec.specs.declared.for_.ItemOrder.TheVariants.{Natural, Signed}
use Rattle.fl_codec.specs.Dictionaries.{encode_dictionaries}
use Rattle.fl_codec.specs.Parts.{RunParts, encode_runs}
use Rattle.fl_array.proofs.EncodedRLE.{ok_is}
use Rattle.fl_encode.specs.declared.scheme.Packing.TheVariants.{BestWidth, BestWidths}
use Rattle.fl_encode.specs.Encodings.{runs_by}
use Rattle.fl_encode.specs.Shapes.{BitPacked, Constant, Delta, Dictionary, FoR, FoRChunked, Primitive, Runs, RunValues, Shape}
use Rattle.fl_compress.specs.declared.limits.Limits.{Limits}
use Rattle.fl_compress.specs.Candidates.{delta_schemes, framed_schemes, has_level, over_deltas, over_frames, packed_schemes, run_schemes, where_allowed}
use Rattle.fl_compress.specs.Cheapest.{cheaper, cheapest, combined}
use Rattle.fl_compress.specs.Choices.{CostsNoMore, runs_of, two}
use Rattle.fl_compress.specs.EncodedBytes.{encoded_bytes}
use Rattle.fl_compress.proofs.AnswerLaws.{Gives, gives}
use Rattle.fl_compress.proofs.CheapestLaws.{first_cheapest}
use Rattle.fl_compress.proofs.ListLaws.{run_list, runs_list}

-- ---- parts of lists
all_first : {A : Type 0} (Q : A → Type 0) (xs ys : List A) → All Q (xs ++ ys) → All Q xs
all_first Q [] ys h = All-nil Q
all_first Q (x ∷ xs) ys h = All-cons Q x xs (All-head Q x (xs ++ ys) h) (all_first Q xs ys (All-tail Q x (xs ++ ys) h))

all_second : {A : Type 0} (Q : A → Type 0) (xs ys : List A) → All Q (xs ++ ys) → All Q ys
all_second Q [] ys h = h
all_second Q (x ∷ xs) ys h = all_second Q xs ys (All-tail Q x (xs ++ ys) h)

all_of_map : {A B : Type 0} (Q : B → Type 0) (f : A → B) (xs : List A) → All Q (map f xs) → All (λ x. Q (f x)) xs
all_of_map Q f [] h = All-nil (λ x. Q (f x))
all_of_map Q f (x ∷ xs) h = All-cons (λ y. Q (f y)) x xs (All-head Q (f x) (map f xs) h) (all_of_map Q f xs (All-tail Q (f x) (map f xs) h))

-- what holds of all of the other list holds of all of this one
abbrev IsWithin : List Shape → List Shape → Type 1
IsWithin few many = (Q : Shape → Type 0) → All Q many → All Q few

within_append : (a b c d : List Shape) → IsWithin a b → IsWithin c d → IsWithin (a ++ c) (b ++ d)
within_append a b c d first other = λ Q h. All-append Q a c (first Q (all_first Q b d h)) (other Q (all_second Q b d h))

within_map : (f : Shape → Shape) (a b : List Shape) → IsWithin a b → IsWithin (map f a) (map f b)
within_map f a b within = λ Q h. All-map Q f a (within (λ s. Q (f s)) (all_of_map Q f b h))

pairs_of : (Q : Shape → Type 0) (f : Shape → Shape → Shape) (xs ys : List Shape) → All Q (flat_map (λ x. map (f x) ys) xs) → All (λ x. All (λ y. Q (f x y)) ys) xs
pairs_of Q f [] ys h = All-nil (λ x. All (λ y. Q (f x y)) ys)
pairs_of Q f (x ∷ xs) ys h =
    All-cons (λ s. All (λ y. Q (f s y)) ys) x xs (all_of_map Q (f x) ys (all_first Q (map (f x) ys) (flat_map (λ s. map (f s) ys) xs) h))
    (pairs_of Q f xs ys (all_second Q (map (f x) ys) (flat_map (λ s. map (f s) ys) xs) h))

all_pairs : (Q : Shape → Type 0) (f : Shape → Shape → Shape) (xs ys : List Shape) → All (λ x. All (λ y. Q (f x y)) ys) xs → All Q (flat_map (λ x. map (f x) ys) xs)
all_pairs Q f [] ys h = All-nil Q
all_pairs Q f (x ∷ xs) ys h =
    All-append Q (map (f x) ys) (flat_map (λ s. map (f s) ys) xs) (All-map Q (f x) ys (All-head (λ s. All (λ y. Q (f s y)) ys) x xs h)) (all_pairs Q f xs ys (All-tail (λ s. All (λ y. Q (f s y)) ys) x xs h))

within_pairs : (f : Shape → Shape → Shape) (a b c d : List Shape) → IsWithin a b → IsWithin c d → IsWithin (flat_map (λ x. map (f x) c) a) (flat_map (λ x. map (f x) d) b)
within_pairs f a b c d within other = λ Q h.
    all_pairs Q f a c (All-weaker (λ x. All (λ y. Q (f x y)) d) (λ x. All (λ y. Q (f x y)) c) (λ x k. other (λ y. Q (f x y)) k) a (within (λ x. All (λ y. Q (f x y)) d) (pairs_of Q f b d h)))

within_allowed : (less more : Bool) (a b : List Shape) → (less ≡ true → more ≡ true) → IsWithin a b → IsWithin (where_allowed less a) (where_allowed more b)
within_allowed true true a b h within = within
within_allowed true false a b h within = let no = h refl in cc
within_allowed false more a b h within = λ Q k. All-nil Q

more_levels : (allowed : Bool) (depth other : ℕ) → depth ≤ other → has_level allowed depth ≡ true → has_level allowed other ≡ true
more_levels true depth other h e = grind (arith, nat_tests)
more_levels false depth other h e = cc

-- ---- schemes
within_frames : (a b : List Shape) → IsWithin a b → IsWithin (over_frames a) (over_frames b)
within_frames a b within =
    within_append _ _ _ _ (within_map (FoR Natural) a b within)
    (within_append _ _ _ _ (within_pairs (FoRChunked Natural) a b a b within within)
    (within_append _ _ _ _ (within_map (FoR Signed) a b within) (within_pairs (FoRChunked Signed) a b a b within within)))

same_list : (a : List Shape) → IsWithin a a
same_list a = λ Q h. h

packed_within : (limits : Limits) (depth other : ℕ) → depth ≤ other → IsWithin (packed_schemes limits depth) (packed_schemes limits other)
unfolding packed_schemes
packed_within limits depth other h =
    let two : List Shape = BitPacked BestWidth ∷ BitPacked BestWidths ∷ [] in
    let constant : List Shape = where_allowed limits.constant (Constant ∷ []) in
    within_append (Primitive ∷ []) (Primitive ∷ []) (constant ++ where_allowed (has_level limits.bitpacked depth) two) (constant ++ where_allowed (has_level limits.bitpacked other) two) (same_list (Primitive ∷ []))
    (within_append constant constant (where_allowed (has_level limits.bitpacked depth) two) (where_allowed (has_level limits.bitpacked other) two) (same_list constant)
    (within_allowed (has_level limits.bitpacked depth) (has_level limits.bitpacked other) two two (more_levels limits.bitpacked depth other h) (same_list two)))

framed_within : (limits : Limits) (depth other : ℕ) → depth ≤ other → IsWithin (framed_schemes limits depth) (framed_schemes limits other)
unfolding framed_schemes
framed_within limits depth other h =
    let few = packed_schemes limits (depth - 1) in
    let many = packed_schemes limits (other - 1) in
    within_append (packed_schemes limits depth) (packed_schemes limits other) (where_allowed (has_level limits.for_ depth) (over_frames few)) (where_allowed (has_level limits.for_ other) (over_frames many)) (packed_within limits depth other h)
    (within_allowed (has_level limits.for_ depth) (has_level limits.for_ other) (over_frames few) (over_frames many) (more_levels limits.for_ depth other h) (within_frames few many (packed_within limits (depth - 1) (other - 1) (omega arith))))

delta_within : (nested : ℕ) (limits : Limits) (depth other : ℕ) → depth ≤ other → IsWithin (delta_schemes nested limits depth) (delta_schemes nested limits other)
unfolding delta_schemes
delta_within zero limits depth other h = framed_within limits depth other h
delta_within (suc nested) limits depth other h =
    let few = over_deltas (delta_schemes nested limits (depth - 1)) (framed_schemes limits (depth - 1)) in
    let many = over_deltas (delta_schemes nested limits (other - 1)) (framed_schemes limits (other - 1)) in
    within_append (framed_schemes limits depth) (framed_schemes limits other) (where_allowed (has_level limits.delta depth) few) (where_allowed (has_level limits.delta other) many) (framed_within limits depth other h)
    (within_allowed (has_level limits.delta depth) (has_level limits.delta other) few many (more_levels limits.delta depth other h)
    (within_pairs Delta _ _ _ _ (delta_within nested limits (depth - 1) (other - 1) (omega arith)) (framed_within limits (depth - 1) (other - 1) (omega arith))))

-- ---- the cheapest
some_cost : (m n : ℕ) → (let o : Option ℕ = Some m in o) ≡ Some n → m ≡ n
some_cost m n e = cc

none_cheaper : (cost : Shape → Option ℕ) (few many : List Shape) (best other : Shape × ℕ) → IsWithin few many → cheapest cost many ≡ Some best → cheapest cost few ≡ Some other → best.1 ≤ other.1
none_cheaper cost few many best other within e f =
    let Q : Shape → Type 0 = λ s. (m : ℕ) → cost s ≡ Some m → best.1 ≤ m in
    let first = first_cheapest cost many best e in
    let second = first_cheapest cost few other f in
    let here : Q best.0 = λ m g. (let same : best.1 ≡ m = some_cost best.1 m (sym first.own ∙ g) in omega arith) in
    let before : All Q first.before = All-weaker (λ s. (m : ℕ) → cost s ≡ Some m → best.1 < m) Q (λ s h m g. (let more = h m g in omega arith)) first.before first.dearer in
    let all : All Q many = All-same Q many (first.before ++ best.0 ∷ first.behind) first.place (All-append Q first.before (best.0 ∷ first.behind) before (All-cons Q best.0 first.behind here first.no_cheaper)) in
    let at : All Q (other.0 ∷ second.behind) = all_second Q second.before (other.0 ∷ second.behind) (subst (All Q) second.place (within Q all)) in
    All-head Q other.0 second.behind at other.1 second.own

dear_values : (which : RunValues) (best : Shape × ℕ) (values : Option (Shape × ℕ)) (rest : Option ((Shape × Shape) × ℕ)) → ((v : Shape × ℕ) → values ≡ Some v → best.1 ≤ v.1) → cheaper (Some best) (combined (runs_of which) values rest) ≡ Some best
dear_values which best None rest h = refl
dear_values which best (Some v) None h = refl
dear_values which best (Some v) (Some r) h = let dear = h v refl in grind (arith, nat_tests)

no_more : (n : ℕ) (choice : Option (Shape × ℕ)) (v : Shape × ℕ) → CostsNoMore n choice → choice ≡ Some v → n ≤ v.1
no_more n None v most e = cc
no_more n (Some c) v most e = subst (CostsNoMore n) e most

-- where the run values are the array itself, no array of runs or dictionaries is cheaper than what costs no more than the array with a level less
pub single_runs : (which : RunValues) (allowed : Bool) (limits : Limits) (p : PrimitiveParts) (s : Shape) (n : ℕ) → has_level allowed limits.depth ≡ true → CostsNoMore n (cheapest (encoded_bytes p) (delta_schemes 2 limits (limits.depth - 1))) → (runs_by which p).values ≡ p
    → Gives (cheaper (Some (s, n)) (cheapest (encoded_bytes p) (run_schemes which allowed limits limits.depth))) (Some (s, n))
single_runs which allowed limits p s n e most same =
    let values = delta_schemes 2 limits (limits.depth - 1) in
    let offsets = framed_schemes limits (limits.depth - 1) in
    let rest = combined two (cheapest (encoded_bytes (runs_by which p).indices) values) (cheapest (encoded_bytes (runs_by which p).offsets) offsets) in
    gives _ _ (ap (cheaper (Some (s, n))) (run_list which allowed limits limits.depth p e ∙ (runs_list which p values values offsets ∙ ap (λ q. combined (runs_of which) (cheapest (encoded_bytes q) values) rest) same))
    ∙ dear_values which (s, n) (cheapest (encoded_bytes p) values) rest (λ v g. no_more n (cheapest (encoded_bytes p) values) v most g))

-- where the dictionaries are the runs, they cost as much
as_dear : (first : Shape × ℕ) (values : Option (Shape × ℕ)) (rest : Option ((Shape × Shape) × ℕ)) → CostsNoMore first.1 (combined (runs_of Runs) values rest) → cheaper (Some first) (combined (runs_of Dictionary) values rest) ≡ Some first
as_dear first None rest most = refl
as_dear first (Some v) None most = refl
as_dear first (Some v) (Some r) most = grind (arith, nat_tests)

pub same_runs : (limits : Limits) (p : PrimitiveParts) (s : Shape) (n : ℕ) → limits.rle ≡ true → has_level limits.dict limits.depth ≡ true → CostsNoMore n (cheapest (encoded_bytes p) (run_schemes Runs limits.rle limits limits.depth)) → encode_dictionaries p ≡ encode_runs p
    → Gives (cheaper (Some (s, n)) (cheapest (encoded_bytes p) (run_schemes Dictionary limits.dict limits limits.depth))) (Some (s, n))
same_runs limits p s n allowed e most same =
    let parts = delta_schemes 2 limits (limits.depth - 1) in
    let offsets = framed_schemes limits (limits.depth - 1) in
    let level : has_level limits.rle limits.depth ≡ true = other_level limits.rle limits.dict limits.depth allowed e in
    let values = cheapest (encoded_bytes (encode_runs p).values) parts in
    let rest = combined two (cheapest (encoded_bytes (encode_runs p).indices) parts) (cheapest (encoded_bytes (encode_runs p).offsets) offsets) in
    gives _ _ (ap (cheaper (Some (s, n))) (run_list Dictionary limits.dict limits limits.depth p e ∙ (runs_list Dictionary p parts parts offsets
    ∙ ap (λ (x : RunParts). combined (runs_of Dictionary) (cheapest (encoded_bytes x.values) parts) (combined two (cheapest (encoded_bytes x.indices) parts) (cheapest (encoded_bytes x.offsets) offsets))) same))
    ∙ as_dear (s, n) values rest (subst (CostsNoMore n) (run_list Runs limits.rle limits limits.depth p level ∙ runs_list Runs p parts parts offsets) most))
  where
    other_level : (a b : Bool) (depth : ℕ) → a ≡ true → has_level b depth ≡ true → has_level a depth ≡ true
    other_level true true depth f g = g
    other_level true false depth f g = cc
    other_level false b depth f g = cc

-- the cheaper of two costs no more than the second one
pub no_dearer : (best other : Option (Shape × ℕ)) (c : Shape × ℕ) → Gives (cheaper best other) (Some c) → CostsNoMore c.1 other
no_dearer best other c e = costs best other c (ok_is _ _ e)
  where
    costs : (best other : Option (Shape × ℕ)) (c : Shape × ℕ) → cheaper best other ≡ Some c → CostsNoMore c.1 other
    costs best None c e = tt
    costs None (Some o) c e = (let same : o ≡ c = cc in subst (λ (x : Shape × ℕ). x.1 ≤ o.1) same (omega arith))
    costs (Some b) (Some o) c e = grind (arith, nat_tests)

-- what costs no more than the cheapest of these costs no more than that of fewer
costs_within : (cost : Shape → Option ℕ) (few many : List Shape) (s : Shape) (n m : ℕ) → IsWithin few many → m ≤ n → cheapest cost many ≡ Some (s, n) → CostsNoMore m (cheapest cost few)
costs_within cost few many s n m within most best = by_choice (cheapest cost few) refl
  where
    by_choice : (c : Option (Shape × ℕ)) → cheapest cost few ≡ c → CostsNoMore m c
    by_choice None e = tt
    by_choice (Some c) e =
        let low : n ≤ c.1 = none_cheaper cost few many (s, n) c within best e in
        omega arith

-- with a level less
pub delta_costs : (limits : Limits) (p : PrimitiveParts) (s : Shape) (n m : ℕ) → m ≤ n → Gives (cheapest (encoded_bytes p) (delta_schemes 2 limits limits.depth)) (Some (s, n)) → CostsNoMore m (cheapest (encoded_bytes p) (delta_schemes 2 limits (limits.depth - 1)))
delta_costs limits p s n m most best =
    costs_within (encoded_bytes p) (delta_schemes 2 limits (limits.depth - 1)) (delta_schemes 2 limits limits.depth) s n m (delta_within 2 limits (limits.depth - 1) limits.depth (omega arith)) most (ok_is _ _ best)

-- what costs no more than the cheapest packed array costs no more than that of fewer levels
pub packed_costs : (limits : Limits) (p : PrimitiveParts) (depth other : ℕ) (s : Shape) (n m : ℕ) → depth ≤ other → m ≤ n → Some (s, n) ≡ cheapest (encoded_bytes p) (packed_schemes limits other) → CostsNoMore m (cheapest (encoded_bytes p) (packed_schemes limits depth))
packed_costs limits p depth other s n m h most best = costs_within (encoded_bytes p) (packed_schemes limits depth) (packed_schemes limits other) s n m (packed_within limits depth other h) most (sym best)
