-- What the steps of the search answer, by what the calls in them answered.
use Rattle.std.proofs.lemmas.Bool.Decides.{nat_tests}
use Rattle.std.proofs.Common.{◌≡◌, ◌≤◌, ◌<◌, ℕ, ◌+◌, ◌-◌, Bool, true, false, List, [], ◌∷◌, ◌++◌, length, Option, Some, None, Ok, Err, ap, sym, subst, ◌∙◌, refl, arith, zero, suc}
use Rattle.std.specs.Prelude.{IfErr, IfOk, IsErrAnd, IsTrue, Result}
use Rattle.fl_types.specs.declared.error.FastLanesError.{FastLanesError}
use Rattle.fl_types.specs.declared.error.FastLanesError.TheVariants.{OutOfMemory}
use Rattle.fl_types.specs.Refusals.{Answers, Refuses}
use Rattle.fl_types.proofs.RefusalLaws.{Refuses_map}
use Rattle.fl_types.specs.Validities.{covers}
use Rattle.fl_types.specs.Values.{ScalarParts}
use Rattle.fl_column.specs.Columns.{ConstantParts, PrimitiveParts, column_of_primitive}
use Rattle.fl_column.specs.Queries.{are_constant}
use Rattle.fl_codec.specs.declared.for_.ItemOrder.{ItemOrder}
use Rattle.fl_codec.specs.declared.for_.ItemOrder.TheVariants.{Natural, Signed}
use Rattle.fl_codec.specs.Parts.{ByChunk, Nulls, OneReference, RunParts, Whole, compress_deltas, encode_chunked_by, encode_global_by}
use Rattle.fl_bitpacking.specs.Encoders.{AnswersUnless}
use Rattle.fl_array.specs.Trees.{Tree, column}
use Rattle.fl_array.specs.Trees as tree
use Rattle.fl_array.proofs.EncodedRLE.{ok_is}
use Rattle.fl_encode.specs.declared.scheme.Packing.TheVariants.{BestWidth, BestWidths}
use Rattle.fl_encode.specs.Encodings.{EncodesAs, runs_by}
use Rattle.fl_encode.specs.Packings.{constant_of}
use Rattle.fl_encode.specs.Shapes.{BitPacked, Constant, Delta, Dictionary, FoR, FoRChunked, Primitive, Runs, RunValues, Shape}
use Rattle.fl_serde.specs.ByteCounts.{primitive_bytes, tree_bytes, validity_bytes}
use Rattle.fl_compress.specs.declared.choice.Choice.{Choice}
use Rattle.fl_compress.specs.declared.limits.Limits.{Limits}
use Rattle.fl_compress.specs.Candidates.{candidates, delta_schemes, framed_schemes, has_level, over_chunk_references, over_deltas, over_one_reference, packed_schemes, run_schemes, where_allowed}
use Rattle.fl_compress.specs.Cheapest.{cheaper, cheapest, combined}
use Rattle.fl_compress.specs.Choices.{chosen, or_frames, runs_of, two, with_bytes}
use Rattle.fl_compress.specs.EncodedBytes.{encoded_bytes}
use Rattle.fl_compress.specs.Smallest.{IsSmallest}
use Rattle.fl_compress.proofs.AlikeLaws.{AreAlike, frames_alike}
use Rattle.fl_compress.proofs.CheapestLaws.{beside, cheaper_none, cheapest_append, first_cheapest, free_first, wrapped}
use Rattle.fl_compress.proofs.ListLaws.{candidate_list, chunk_list, delta_list, deltas_list, framed_list, no_delta_list, no_list, no_run_list, not_framed_list, nulls_list, one_list, packed_list, packings_there, run_list, runs_list, whole_list}
use Rattle.fl_compress.proofs.MadeBytes.{free_of_refusal}
use Rattle.fl_compress.proofs.SmallestLaws.{constant_is_constant, empty_is_plain, never_larger, smallest_is}

-- ---- answers
-- a call answered this, and that is it
abbrev pub Gives : {X : Type 0} → X → X → Type 0
Gives {X} a b = (let r : Result X FastLanesError = Ok a in r) ≡ Ok b

pub gives : {X : Type 0} (a b : X) → a ≡ b → Gives a b
gives {X} a b e = ap (λ x. let r : Result X FastLanesError = Ok x in r) e

-- where a call in it is refused, a call is refused alike
pub passed_on : {X Y Z : Type 0} (view : X → Y) (r : Result X FastLanesError) (e : FastLanesError) (z : Z) (y : Y) → IsErrAnd r (λ f. f ≡ e) → (let m : Result Z FastLanesError = Ok z in Refuses e m) → Answers view r (Ok y)
passed_on view (Ok x) e z y h m = absurd h
passed_on view (Err f) e z y h m = rw h (Refuses_map e (Ok z) (Ok y) (λ g. cc) m)

-- a call that answers one thing answers what is the same
pub answers_same : (r : Result Choice FastLanesError) (x y : Option (Shape × ℕ)) → x ≡ y → Answers chosen r (Ok x) → Answers chosen r (Ok y)
answers_same r x y e h = subst (λ z. Answers chosen r (Ok z)) e h

-- ---- packed
pub packing_choice : (p : PrimitiveParts) (allowed : Bool) (global blocked : Option ℕ) (choice : Option (Shape × ℕ)) → allowed ≡ true → global ≡ encoded_bytes p (BitPacked BestWidth) → blocked ≡ encoded_bytes p (BitPacked BestWidths)
    → choice ≡ cheaper (with_bytes (BitPacked BestWidth) global) (with_bytes (BitPacked BestWidths) blocked)
    → choice ≡ cheapest (encoded_bytes p) (where_allowed allowed (BitPacked BestWidth ∷ BitPacked BestWidths ∷ []))
packing_choice p allowed global blocked choice e g h c =
    sym (packings_there p allowed e
    ∙ (ap (λ b. cheaper (with_bytes (BitPacked BestWidth) b) (with_bytes (BitPacked BestWidths) (encoded_bytes p (BitPacked BestWidths)))) (sym g)
    ∙ (ap (λ b. cheaper (with_bytes (BitPacked BestWidth) global) (with_bytes (BitPacked BestWidths) b)) (sym h) ∙ sym c)))

pub whole_choice_is : (p : PrimitiveParts) (limits : Limits) (n : ℕ) (plain constant choice : Option (Shape × ℕ)) → n ≡ primitive_bytes p → plain ≡ Some (Primitive, n) → constant ≡ cheapest (encoded_bytes p) (where_allowed limits.constant (Constant ∷ [])) → choice ≡ cheaper plain constant
    → choice ≡ cheaper (Some (Primitive, primitive_bytes p)) (cheapest (encoded_bytes p) (where_allowed limits.constant (Constant ∷ [])))
whole_choice_is p limits n plain constant choice e f g c =
    let first : plain ≡ Some (Primitive, primitive_bytes p) = f ∙ ap (λ m. let o : Option (Shape × ℕ) = Some (Primitive, m) in o) e in
    c ∙ (ap (λ a. cheaper a constant) first ∙ ap (cheaper (Some (Primitive, primitive_bytes p))) g)

-- what takes no bytes is the cheapest of all
pub free_choice : (limits : Limits) (depth : ℕ) (p : PrimitiveParts) (s : Shape) (n : ℕ) → Some (s, n) ≡ cheaper (Some (Primitive, primitive_bytes p)) (cheapest (encoded_bytes p) (where_allowed limits.constant (Constant ∷ []))) → n ≡ 0
    → Some (s, n) ≡ cheapest (encoded_bytes p) (packed_schemes limits depth)
free_choice limits depth p s n e none =
    let packed = cheapest (encoded_bytes p) (where_allowed (has_level limits.bitpacked depth) (BitPacked BestWidth ∷ BitPacked BestWidths ∷ [])) in
    sym (packed_list limits depth p ∙ (ap (λ a. cheaper a packed) (sym e) ∙ free s n packed none))
  where
    free : (s : Shape) (n : ℕ) (rest : Option (Shape × ℕ)) → n ≡ 0 → cheaper (Some (s, n)) rest ≡ Some (s, n)
    free s n rest e = rw e (free_first s rest)

pub packed_choice : (limits : Limits) (depth : ℕ) (p : PrimitiveParts) (best packing choice : Option (Shape × ℕ)) → best ≡ cheaper (Some (Primitive, primitive_bytes p)) (cheapest (encoded_bytes p) (where_allowed limits.constant (Constant ∷ [])))
    → packing ≡ cheapest (encoded_bytes p) (where_allowed (has_level limits.bitpacked depth) (BitPacked BestWidth ∷ BitPacked BestWidths ∷ [])) → choice ≡ cheaper best packing
    → choice ≡ cheapest (encoded_bytes p) (packed_schemes limits depth)
packed_choice limits depth p best packing choice g k c =
    let lists = packed_list limits depth p in
    cc

-- where nothing may be packed
pub unpacked_choice : (limits : Limits) (depth : ℕ) (p : PrimitiveParts) (best : Option (Shape × ℕ)) → has_level limits.bitpacked depth ≡ false → best ≡ cheaper (Some (Primitive, primitive_bytes p)) (cheapest (encoded_bytes p) (where_allowed limits.constant (Constant ∷ [])))
    → best ≡ cheapest (encoded_bytes p) (packed_schemes limits depth)
unpacked_choice limits depth p best none g =
    packed_choice limits depth p best None best g (sym (no_list p (has_level limits.bitpacked depth) (BitPacked BestWidth ∷ BitPacked BestWidths ∷ []) none)) (sym (cheaper_none best))

-- ---- frames of reference
pub one_choice : (order : ItemOrder) (p q : PrimitiveParts) (parts : OneReference) (schemes : List Shape) (s : Shape) (n : ℕ) (choice : Option (Shape × ℕ)) → encode_global_by order p ≡ Ok parts → q ≡ parts.child
    → Some (s, n) ≡ cheapest (encoded_bytes q) schemes → Gives (Some (FoR order s, n)) choice → Gives (cheapest (encoded_bytes p) (over_one_reference order schemes)) choice
one_choice order p q parts schemes s n choice e f g h =
    gives _ _ (one_list order p parts schemes e ∙ (ap (wrapped (FoR order)) (ap (λ r. cheapest (encoded_bytes r) schemes) (sym f) ∙ sym g) ∙ ok_is _ _ h))

-- two choices that are the cheapest, beside each other
pub over_two : (order : ItemOrder) (child others first other : Option (Shape × ℕ)) (r : Result Choice FastLanesError) → child ≡ first → others ≡ other
    → Answers chosen r (Ok (combined (FoRChunked order) child others)) → Answers chosen r (Ok (combined (FoRChunked order) first other))
over_two order child others first other r e f a = answers_same r _ _ (ap (λ c. combined (FoRChunked order) c others) e ∙ ap (combined (FoRChunked order) first) f) a

pub common_choice : (order : ItemOrder) (p : PrimitiveParts) (parts : OneReference) (limits : Limits) (depth : ℕ) (r : Result Choice FastLanesError) → encode_chunked_by order p ≡ Whole parts
    → Answers chosen r (Ok (combined (FoRChunked order) (cheapest (encoded_bytes parts.child) (packed_schemes limits depth)) (Some (Primitive, 0)))) → Answers chosen r (Ok (cheapest (encoded_bytes p) (over_chunk_references order (packed_schemes limits depth))))
common_choice order p parts limits depth r e a = answers_same r _ _ (sym (whole_list order p parts limits depth e)) a

pub chunks_choice : (order : ItemOrder) (p child others : PrimitiveParts) (schemes : List Shape) (r : Result Choice FastLanesError) → encode_chunked_by order p ≡ ByChunk child others
    → Answers chosen r (Ok (combined (FoRChunked order) (cheapest (encoded_bytes child) schemes) (cheapest (encoded_bytes others) schemes))) → Answers chosen r (Ok (cheapest (encoded_bytes p) (over_chunk_references order schemes)))
chunks_choice order p child others schemes r e a = answers_same r _ _ (sym (chunk_list order p child others schemes e)) a

pub nulls_choice : (order : ItemOrder) (p : PrimitiveParts) (constant : ConstantParts) (reference : ScalarParts) (limits : Limits) (depth : ℕ) (child others : Option (Shape × ℕ)) (r : Result Choice FastLanesError) → encode_chunked_by order p ≡ Nulls constant reference → child ≡ Some (Primitive, 0) → others ≡ Some (Primitive, 0)
    → Answers chosen r (Ok (combined (FoRChunked order) child others)) → Answers chosen r (Ok (cheapest (encoded_bytes p) (over_chunk_references order (packed_schemes limits depth))))
nulls_choice order p constant reference limits depth child others r e f g a =
    answers_same r _ _ (sym (nulls_list order p constant reference limits depth e ∙ (ap (λ c. combined (FoRChunked order) c (Some (Primitive, 0))) (sym f) ∙ ap (combined (FoRChunked order) child) (sym g)))) a

pub frames_choice : (order : ItemOrder) (p : PrimitiveParts) (children : List Shape) (first one many choice : Option (Shape × ℕ)) → Gives (cheaper first (cheapest (encoded_bytes p) (over_one_reference order children))) one → Gives (cheapest (encoded_bytes p) (over_chunk_references order children)) many
    → choice ≡ cheaper one many → Gives (or_frames order p children first) choice
frames_choice order p children first one many choice g h c =
    gives _ _ (ap (λ a. cheaper a (cheapest (encoded_bytes p) (over_chunk_references order children))) (ok_is _ _ g) ∙ (ap (cheaper one) (ok_is _ _ h) ∙ sym c))

-- another choice, and what was made with one reference
pub or_one : (a b made choice : Option (Shape × ℕ)) → Gives b made → choice ≡ cheaper a made → Gives (cheaper a b) choice
or_one a b made choice g c = gives _ _ (ap (cheaper a) (ok_is _ _ g) ∙ sym c)

-- what takes no bytes is the cheapest of a longer list
free_longer : (p : PrimitiveParts) (xs ys : List Shape) (s : Shape) (n : ℕ) → Some (s, n) ≡ cheapest (encoded_bytes p) xs → n ≡ 0 → cheapest (encoded_bytes p) (xs ++ ys) ≡ Some (s, n)
free_longer p xs ys s n e none =
    cheapest_append (encoded_bytes p) xs ys ∙ (ap (λ a. cheaper a (cheapest (encoded_bytes p) ys)) (sym e ∙ ap (λ m. let o : Option (Shape × ℕ) = Some (s, m) in o) none) ∙ (free_first s (cheapest (encoded_bytes p) ys) ∙ ap (λ m. let o : Option (Shape × ℕ) = Some (s, m) in o) (sym none)))

pub free_framed : (limits : Limits) (depth : ℕ) (p : PrimitiveParts) (s : Shape) (n : ℕ) → Some (s, n) ≡ cheapest (encoded_bytes p) (packed_schemes limits depth) → n ≡ 0 → Gives (cheapest (encoded_bytes p) (framed_schemes limits depth)) (Some (s, n))
unfolding framed_schemes
free_framed limits depth p s n e none = gives _ _ (free_longer p (packed_schemes limits depth) _ s n e none)

pub free_deltas : (nested : ℕ) (limits : Limits) (depth : ℕ) (p : PrimitiveParts) (s : Shape) (n : ℕ) → Gives (cheapest (encoded_bytes p) (framed_schemes limits depth)) (Some (s, n)) → n ≡ 0 → Gives (cheapest (encoded_bytes p) (delta_schemes nested limits depth)) (Some (s, n))
unfolding delta_schemes
free_deltas zero limits depth p s n e none = e
free_deltas (suc nested) limits depth p s n e none = gives _ _ (free_longer p (framed_schemes limits depth) _ s n (sym (ok_is _ _ e)) none)

pub free_candidate : (limits : Limits) (p : PrimitiveParts) (s : Shape) (n : ℕ) → Gives (cheapest (encoded_bytes p) (delta_schemes 2 limits limits.depth)) (Some (s, n)) → n ≡ 0 → Gives (cheapest (encoded_bytes p) (candidates limits)) (Some (s, n))
unfolding candidates
free_candidate limits p s n e none = gives _ _ (free_longer p (delta_schemes 2 limits limits.depth) _ s n (sym (ok_is _ _ e)) none)

-- where both orders are one, the wrapped one finds nothing cheaper
pub alike_choice : (limits : Limits) (depth : ℕ) (p : PrimitiveParts) (packed natural : Option (Shape × ℕ)) → has_level limits.for_ depth ≡ true → packed ≡ cheapest (encoded_bytes p) (packed_schemes limits depth)
    → Gives (or_frames Natural p (packed_schemes limits (depth - 1)) packed) natural → AreAlike p → Gives (cheapest (encoded_bytes p) (framed_schemes limits depth)) natural
alike_choice limits depth p packed natural e f g same =
    let children = packed_schemes limits (depth - 1) in
    gives _ _ (framed_list limits depth p e ∙ (ap (λ c. or_frames Signed p children (or_frames Natural p children c)) (sym f) ∙ (frames_alike p children packed same ∙ ok_is _ _ g)))

pub framed_choice : (limits : Limits) (depth : ℕ) (p : PrimitiveParts) (packed natural : Option (Shape × ℕ)) (r : Result Choice FastLanesError) → has_level limits.for_ depth ≡ true → packed ≡ cheapest (encoded_bytes p) (packed_schemes limits depth)
    → Gives (or_frames Natural p (packed_schemes limits (depth - 1)) packed) natural → Answers chosen r (Ok (or_frames Signed p (packed_schemes limits (depth - 1)) natural)) → Answers chosen r (Ok (cheapest (encoded_bytes p) (framed_schemes limits depth)))
framed_choice limits depth p packed natural r e f g a =
    let children = packed_schemes limits (depth - 1) in
    answers_same r _ _ (sym (framed_list limits depth p e ∙ (ap (λ c. or_frames Signed p children (or_frames Natural p children c)) (sym f) ∙ ap (or_frames Signed p children) (ok_is _ _ g)))) a

pub unframed_choice : (limits : Limits) (depth : ℕ) (p : PrimitiveParts) (packed : Option (Shape × ℕ)) → has_level limits.for_ depth ≡ false → packed ≡ cheapest (encoded_bytes p) (packed_schemes limits depth) → Gives (cheapest (encoded_bytes p) (framed_schemes limits depth)) packed
unframed_choice limits depth p packed e f = gives _ _ (not_framed_list limits depth p e ∙ sym f)

-- ---- deltas
-- the cheapest of arrays of deltas, by those of the parts
deltas_are : (p : PrimitiveParts) (own : ℕ) (bases deltas : List Shape) (d : Shape × ℕ) → own ≡ validity_bytes (length p.slots) p.validity → Gives (cheapest (encoded_bytes (compress_deltas p).1) deltas) (Some d)
    → cheapest (encoded_bytes p) (over_deltas bases deltas) ≡ combined Delta (cheapest (encoded_bytes (compress_deltas p).0) bases) (beside own (Some d))
deltas_are p own bases deltas d e f =
    let over = cheapest (encoded_bytes (compress_deltas p).0) bases in
    deltas_list p bases deltas ∙ (ap (λ n. combined Delta over (beside n (cheapest (encoded_bytes (compress_deltas p).1) deltas))) (sym e) ∙ ap (λ c. combined Delta over (beside own c)) (ok_is _ _ f))

dear_two : (first : Shape × ℕ) (bases : Option (Shape × ℕ)) (d : Shape × ℕ) (own : ℕ) → first.1 ≤ d.1 + own → cheaper (Some first) (combined Delta bases (beside own (Some d))) ≡ Some first
dear_two first None d own h = refl
dear_two first (Some b) d own h = grind (arith, nat_tests)

-- a framed choice, and another one that deltas were compared with
delta_choice : (nested : ℕ) (limits : Limits) (depth : ℕ) (p : PrimitiveParts) (framed choice : Option (Shape × ℕ)) → 0 < nested → has_level limits.delta depth ≡ true → Gives (cheapest (encoded_bytes p) (framed_schemes limits depth)) framed
    → cheaper framed (cheapest (encoded_bytes p) (over_deltas (delta_schemes (nested - 1) limits (depth - 1)) (framed_schemes limits (depth - 1)))) ≡ choice → Gives (cheapest (encoded_bytes p) (delta_schemes nested limits depth)) choice
delta_choice nested limits depth p framed choice some e f h =
    gives _ _ (delta_list nested limits depth p some e ∙ (ap (λ c. cheaper c (cheapest (encoded_bytes p) (over_deltas (delta_schemes (nested - 1) limits (depth - 1)) (framed_schemes limits (depth - 1))))) (ok_is _ _ f) ∙ h))

-- deltas that take as many bytes as a framed array
pub dear_deltas : (nested : ℕ) (limits : Limits) (depth : ℕ) (p : PrimitiveParts) (framed d : Shape × ℕ) (own : ℕ) → 0 < nested → has_level limits.delta depth ≡ true → Gives (cheapest (encoded_bytes p) (framed_schemes limits depth)) (Some framed)
    → own ≡ validity_bytes (length p.slots) p.validity → Gives (cheapest (encoded_bytes (compress_deltas p).1) (framed_schemes limits (depth - 1))) (Some d) → framed.1 ≤ d.1 + own → Gives (cheapest (encoded_bytes p) (delta_schemes nested limits depth)) (Some framed)
dear_deltas nested limits depth p framed d own some e f g h dear =
    let bases = delta_schemes (nested - 1) limits (depth - 1) in
    delta_choice nested limits depth p (Some framed) (Some framed) some e f
    (ap (cheaper (Some framed)) (deltas_are p own bases (framed_schemes limits (depth - 1)) d g h) ∙ dear_two framed (cheapest (encoded_bytes (compress_deltas p).0) bases) d own dear)

-- an array of deltas that was made
pub deltas_choice : (nested : ℕ) (limits : Limits) (depth : ℕ) (p bases : PrimitiveParts) (framed b made choice : Option (Shape × ℕ)) (d : Shape × ℕ) (own : ℕ) → 0 < nested → has_level limits.delta depth ≡ true → Gives (cheapest (encoded_bytes p) (framed_schemes limits depth)) framed
    → own ≡ validity_bytes (length p.slots) p.validity → Gives (cheapest (encoded_bytes (compress_deltas p).1) (framed_schemes limits (depth - 1))) (Some d) → (compress_deltas p).0 ≡ bases
    → Gives (cheapest (encoded_bytes bases) (delta_schemes (nested - 1) limits (depth - 1))) b → Gives (combined Delta b (beside own (Some d))) made → choice ≡ cheaper framed made
    → Gives (cheapest (encoded_bytes p) (delta_schemes nested limits depth)) choice
deltas_choice nested limits depth p bases framed b made choice d own some e f g h is k l c =
    let over = delta_schemes (nested - 1) limits (depth - 1) in
    delta_choice nested limits depth p framed choice some e f
    (ap (cheaper framed) (deltas_are p own over (framed_schemes limits (depth - 1)) d g h
    ∙ (ap (λ q. combined Delta (cheapest (encoded_bytes q) over) (beside own (Some d))) is
    ∙ (ap (λ x. combined Delta x (beside own (Some d))) (ok_is _ _ k) ∙ ok_is _ _ l))) ∙ sym c)

pub no_delta_choice : (nested : ℕ) (limits : Limits) (depth : ℕ) (p : PrimitiveParts) (framed : Option (Shape × ℕ)) → has_level limits.delta depth ≡ false → Gives (cheapest (encoded_bytes p) (framed_schemes limits depth)) framed → Gives (cheapest (encoded_bytes p) (delta_schemes nested limits depth)) framed
no_delta_choice nested limits depth p framed e f = gives _ _ (no_delta_list nested limits depth p e ∙ ok_is _ _ f)

-- where no deltas may stand in one another
pub not_nested : (nested : ℕ) (limits : Limits) (depth : ℕ) (p : PrimitiveParts) (framed : Option (Shape × ℕ)) → nested ≡ 0 → Gives (cheapest (encoded_bytes p) (framed_schemes limits depth)) framed → Gives (cheapest (encoded_bytes p) (delta_schemes nested limits depth)) framed
unfolding delta_schemes
not_nested zero limits depth p framed e f = f
not_nested (suc nested) limits depth p framed e f = absurd (omega arith)

-- ---- runs
-- run indices that take as many bytes as another choice
dear_first : (which : RunValues) (first : Shape × ℕ) (values : Option (Shape × ℕ)) (i : Shape × ℕ) (offsets : Option (Shape × ℕ)) → first.1 ≤ i.1 → cheaper (Some first) (combined (runs_of which) values (combined two (Some i) offsets)) ≡ Some first
dear_first which first None i None h = refl
dear_first which first None i (Some o) h = refl
dear_first which first (Some v) i None h = refl
dear_first which first (Some v) i (Some o) h = grind (arith, nat_tests)

pub dear_indices : (which : RunValues) (first : Shape) (n : ℕ) (values indices offsets : Option (Shape × ℕ)) (i : Shape × ℕ) → Gives indices (Some i) → n ≤ i.1
    → Gives (cheaper (Some (first, n)) (combined (runs_of which) values (combined two indices offsets))) (Some (first, n))
dear_indices which first n values indices offsets i e h =
    gives _ _ (ap (λ x. cheaper (Some (first, n)) (combined (runs_of which) values (combined two x offsets))) (ok_is _ _ e) ∙ dear_first which (first, n) values i offsets h)

-- two parts that take as many bytes as another choice
dear_parts : (which : RunValues) (first : Shape × ℕ) (values : Option (Shape × ℕ)) (i o : Shape × ℕ) → first.1 ≤ i.1 + o.1 → cheaper (Some first) (combined (runs_of which) values (combined two (Some i) (Some o))) ≡ Some first
dear_parts which first None i o h = refl
dear_parts which first (Some v) i o h = grind (arith, nat_tests)

pub dear_runs : (which : RunValues) (first : Shape) (n : ℕ) (values indices offsets : Option (Shape × ℕ)) (i o : Shape × ℕ) → Gives indices (Some i) → Gives offsets (Some o) → n ≤ i.1 + o.1
    → Gives (cheaper (Some (first, n)) (combined (runs_of which) values (combined two indices offsets))) (Some (first, n))
dear_runs which first n values indices offsets i o e f h =
    gives _ _ (ap (λ x. cheaper (Some (first, n)) (combined (runs_of which) values (combined two x offsets))) (ok_is _ _ e)
    ∙ (ap (λ x. cheaper (Some (first, n)) (combined (runs_of which) values (combined two (Some i) x))) (ok_is _ _ f) ∙ dear_parts which (first, n) values i o h))

pub runs_choice : (which : RunValues) (first values indices offsets v i o made choice : Option (Shape × ℕ)) → Gives values v → Gives indices i → Gives offsets o → Gives (combined (runs_of which) v (combined two i o)) made → choice ≡ cheaper first made
    → Gives (cheaper first (combined (runs_of which) values (combined two indices offsets))) choice
runs_choice which first values indices offsets v i o made choice d e f g c =
    gives _ _ (ap (λ x. cheaper first (combined (runs_of which) x (combined two indices offsets))) (ok_is _ _ d)
    ∙ (ap (λ x. cheaper first (combined (runs_of which) v (combined two x offsets))) (ok_is _ _ e)
    ∙ (ap (λ x. cheaper first (combined (runs_of which) v (combined two i x))) (ok_is _ _ f) ∙ (ap (cheaper first) (ok_is _ _ g) ∙ sym c))))

-- where run-length encoded arrays of some runs are allowed, and where they are not
pub allowed_runs : (which : RunValues) (allowed : Bool) (limits : Limits) (p : PrimitiveParts) (runs : RunParts) (first : Option (Shape × ℕ)) (r : Result Choice FastLanesError) → has_level allowed limits.depth ≡ true → runs_by which p ≡ runs
    → Answers chosen r (Ok (cheaper first (combined (runs_of which) (cheapest (encoded_bytes runs.values) (delta_schemes 2 limits (limits.depth - 1))) (combined two (cheapest (encoded_bytes runs.indices) (delta_schemes 2 limits (limits.depth - 1))) (cheapest (encoded_bytes runs.offsets) (framed_schemes limits (limits.depth - 1)))))))
    → Answers chosen r (Ok (cheaper first (cheapest (encoded_bytes p) (run_schemes which allowed limits limits.depth))))
allowed_runs which allowed limits p runs first r e is a =
    let parts = delta_schemes 2 limits (limits.depth - 1) in
    let offsets = framed_schemes limits (limits.depth - 1) in
    answers_same r _ _ (ap (cheaper first) (sym (run_list which allowed limits limits.depth p e ∙ (runs_list which p parts parts offsets
    ∙ ap (λ (x : RunParts). combined (runs_of which) (cheapest (encoded_bytes x.values) parts) (combined two (cheapest (encoded_bytes x.indices) parts) (cheapest (encoded_bytes x.offsets) offsets))) is)))) a

pub no_runs : (which : RunValues) (allowed : Bool) (limits : Limits) (p : PrimitiveParts) (first : Option (Shape × ℕ)) → has_level allowed limits.depth ≡ false → Gives (cheaper first (cheapest (encoded_bytes p) (run_schemes which allowed limits limits.depth))) first
no_runs which allowed limits p first e = gives _ _ (ap (cheaper first) (no_run_list which allowed limits limits.depth p e) ∙ cheaper_none first)

-- the choice that all steps of the search find
pub whole_search : (limits : Limits) (p : PrimitiveParts) (best with_runs : Option (Shape × ℕ)) (r : Result Choice FastLanesError) → Gives (cheapest (encoded_bytes p) (delta_schemes 2 limits limits.depth)) best
    → Gives (cheaper best (cheapest (encoded_bytes p) (run_schemes Runs limits.rle limits limits.depth))) with_runs
    → Answers chosen r (Ok (cheaper with_runs (cheapest (encoded_bytes p) (run_schemes Dictionary limits.dict limits limits.depth))))
    → Answers chosen r (Ok (cheapest (encoded_bytes p) (candidates limits)))
whole_search limits p best with_runs r f g a =
    let runs = cheapest (encoded_bytes p) (run_schemes Runs limits.rle limits limits.depth) in
    let dictionaries = cheapest (encoded_bytes p) (run_schemes Dictionary limits.dict limits limits.depth) in
    answers_same r _ _ (sym (candidate_list limits p ∙ (ap (λ c. cheaper (cheaper c runs) dictionaries) (ok_is _ _ f) ∙ ap (λ c. cheaper c dictionaries) (ok_is _ _ g)))) a

-- ---- the array
pub smallest_made : (limits : Limits) (p : PrimitiveParts) (scheme : Shape) (n : ℕ) (r : Result Tree FastLanesError) → Gives (cheapest (encoded_bytes p) (candidates limits)) (Some (scheme, n)) → EncodesAs scheme p r → IfOk r (IsSmallest (candidates limits) p)
smallest_made limits p scheme n (Ok t) e h = smallest_is (candidates limits) p scheme n t (ok_is _ _ e) h.form
smallest_made limits p scheme n (Err f) e h = tt

pub memory_alone : (limits : Limits) (p : PrimitiveParts) (scheme : Shape) (n : ℕ) (r : Result Tree FastLanesError) → Gives (cheapest (encoded_bytes p) (candidates limits)) (Some (scheme, n)) → EncodesAs scheme p r → IfErr r (λ e. e ≡ OutOfMemory)
memory_alone limits p scheme n (Ok t) e h = tt
memory_alone limits p scheme n (Err f) e h =
    let none = free_of_refusal scheme p n (first_cheapest (encoded_bytes p) (candidates limits) (scheme, n) (ok_is _ _ e)).own in
    subst (λ (o : Option FastLanesError). AnswersUnless {X = Tree} o (Err f)) none h.refused

pub no_larger_made : (limits : Limits) (p : PrimitiveParts) (scheme : Shape) (n : ℕ) (r : Result Tree FastLanesError) → Gives (cheapest (encoded_bytes p) (candidates limits)) (Some (scheme, n)) → EncodesAs scheme p r → IfOk r (λ t. tree_bytes t ≤ primitive_bytes p)
no_larger_made limits p scheme n (Ok t) e h = never_larger limits p t (smallest_is (candidates limits) p scheme n t (ok_is _ _ e) h.form)
no_larger_made limits p scheme n (Err f) e h = tt

pub plain_made : (limits : Limits) (p : PrimitiveParts) (scheme : Shape) (n : ℕ) (r : Result Tree FastLanesError) → IsTrue (covers p.validity (length p.slots)) → Gives (cheapest (encoded_bytes p) (candidates limits)) (Some (scheme, n)) → EncodesAs scheme p r
    → length p.slots ≡ 0 → IfOk r (λ t. t ≡ tree.Primitive p)
plain_made limits p scheme n (Ok t) c e h none = empty_is_plain limits p scheme n t c (ok_is _ _ e) h.form none
plain_made limits p scheme n (Err f) c e h none = tt

pub constant_made : (limits : Limits) (p : PrimitiveParts) (scheme : Shape) (n : ℕ) (r : Result Tree FastLanesError) → Gives (cheapest (encoded_bytes p) (candidates limits)) (Some (scheme, n)) → EncodesAs scheme p r
    → limits.constant ≡ true → 0 < length p.slots → are_constant (column_of_primitive p).items ≡ true → IfOk r (λ t. t ≡ tree.Constant (constant_of p))
constant_made limits p scheme n (Ok t) e h allowed some same = constant_is_constant limits p scheme n t (ok_is _ _ e) h.form allowed some same
constant_made limits p scheme n (Err f) e h allowed some same = tt
