-- What encoding by a scheme answers, by what encoding the children answers.
use Rattle.std.proofs.Common.{◌≡◌, ℕ, length, Option, Some, None, Ok, Err, refl, ap, sym, subst, ◌∙◌, inl, inr}
use Rattle.std.specs.Prelude.{IsErrAnd, Result, pos, unwrap_or}
use Rattle.fl_types.specs.declared.error.FastLanesError.{FastLanesError}
use Rattle.fl_types.specs.declared.error.FastLanesError.TheVariants.{OutOfMemory}
use Rattle.fl_types.specs.declared.validity.Validity.{Validity}
use Rattle.fl_types.specs.Refusals.{Answers, Refuses}
use Rattle.fl_types.specs.Values.{ScalarParts}
use Rattle.fl_types.proofs.RefusalLaws.{Refuses_cases}
use Rattle.fl_column.specs.Columns.{Column, ConstantParts, PrimitiveParts, column_of_primitive, integers_in}
use Rattle.fl_codec.specs.DeltaRefusals.{delta_refusal}
use Rattle.fl_codec.specs.FoRColumns.{chunked_for, global_for}
use Rattle.fl_codec.specs.Parts.{ByChunk, FoRParts, Nulls, OneReference, RunParts, Whole, compress_deltas, encode_chunked_by, encode_global_by}
use Rattle.fl_codec.specs.declared.for_.ItemOrder.{ItemOrder}
use Rattle.fl_codec.specs.RunRefusals.{rle_refusal}
use Rattle.fl_bitpacking.specs.Encoders.{AnswersUnless}
use Rattle.fl_bitpacking.specs.Refusals.{accepted, otherwise}
use Rattle.fl_array.specs.FoRArrays.{ChunkReferences, FoRArrayParts, FoRReferencesParts, for_chunked_refusal, for_refusal, new_for_chunked, reference_count_refusal, reference_refusal, reference_type_refusal, references_of}
use Rattle.fl_array.specs.Reads.{constant_in}
use Rattle.fl_array.specs.Trees.{DeltaParts, OffsetLen, Tree, column, column_of_delta, column_of_rle}
use Rattle.fl_array.specs.Trees as tree
use Rattle.fl_array.proofs.EncodedRLE.{ok_is}
use Rattle.fl_array.proofs.FoRSound.{no_constant}
use Rattle.fl_encode.specs.Encodings.{EncodesAs, HasChunkReferences, HasDeltas, HasOneReference, HasReference, HasReferences, HasRuns, IsEncodedAs, Makes, encode_refusal, one_reference_refusal, references_refusal, run_children_refusal, runs_by}
use Rattle.fl_encode.specs.Shapes.{Delta, FoR, FoRChunked, RLE, RunValues, Shape}

-- ---- refusals
-- memory ran out
pub by_memory : (refusal : Option FastLanesError) (e : FastLanesError) → e ≡ OutOfMemory → AnswersUnless {X = Tree} refusal (Err e)
by_memory None e h = h
by_memory (Some f) e h = λ n. absurd (n h)

-- the first of two
pub by_first : (first other : Option FastLanesError) (e : FastLanesError) → AnswersUnless {X = Tree} first (Err e) → AnswersUnless {X = Tree} (otherwise first other) (Err e)
by_first None other e h = by_memory other e h
by_first (Some f) other e h = h

-- the second, where there is no first
pub by_second : (first other : Option FastLanesError) (e : FastLanesError) → first ≡ None → AnswersUnless {X = Tree} other (Err e) → AnswersUnless {X = Tree} (otherwise first other) (Err e)
by_second None other e none h = h
by_second (Some f) other e none h = cc

-- what answers is not refused
pub none_of : (refusal : Option FastLanesError) (t : Tree) → AnswersUnless {X = Tree} refusal (Ok t) → refusal ≡ None
none_of None t h = refl
none_of (Some f) t h = absurd h

pub neither_of : (first other : Option FastLanesError) → first ≡ None → other ≡ None → otherwise first other ≡ None
neither_of None other e f = f
neither_of (Some g) other e f = cc

-- a call that is refused in nothing may run out of memory
only_memory : {X : Type 0} (e : FastLanesError) (t : X) → Refuses e (let r : Result X FastLanesError = Ok t in r) → e ≡ OutOfMemory
only_memory e t h = elim (Refuses_cases e (Ok t) h) [
  | inl is ↦ is
  | inr other ↦ absurd cc
]

pub refused : (refusal : Option FastLanesError) (Is : Tree → Type 0) (c : Column) (e : FastLanesError) → AnswersUnless {X = Tree} refusal (Err e) → Makes refusal Is c (Err e)
refused refusal Is c e h = record { refused = h; form = tt; stands_for = tt }

-- ---- what is made
pub made : (refusal : Option FastLanesError) (Is : Tree → Type 0) (c : Column) (t : Tree) (r : Result Tree FastLanesError) → refusal ≡ None → Is t → column t ≡ c → Answers (λ (s : Tree). s) r (Ok t) → Makes refusal Is c r
made refusal Is c t (Ok s) none is same h =
    let own : t ≡ s = ok_is _ _ h in
    record {
      refused = rw none tt;
      form = subst Is own is;
      stands_for = subst (λ (u : Tree). column u ≡ c) own same;
    }
made refusal Is c t (Err e) none is same h = record { refused = by_memory refusal e (only_memory e t h); form = tt; stands_for = tt }

-- ---- one reference
pub reference_accepted : (p : PrimitiveParts) (reference : ScalarParts) (t : Tree) → column t ≡ column_of_primitive p → reference_refusal (column_of_primitive p).dtype reference ≡ None → reference_refusal (column t).dtype reference ≡ None
reference_accepted p reference t same h = subst (λ (c : Column). reference_refusal c.dtype reference ≡ None) (sym same) h

pub over_reference_made : (scheme : Shape) (p : PrimitiveParts) (reference : ScalarParts) (t : Tree) (r : Result Tree FastLanesError) → EncodesAs scheme p (Ok t) → Answers (λ (s : Tree). s) r (Ok (tree.FoRGlobal t reference))
    → Makes (encode_refusal scheme p) (HasOneReference (IsEncodedAs scheme) (record { child = p; reference = reference })) (column (tree.FoRGlobal (tree.Primitive p) reference)) r
over_reference_made scheme p reference t r h a =
    made (encode_refusal scheme p) (HasOneReference (IsEncodedAs scheme) (record { child = p; reference = reference })) (column (tree.FoRGlobal (tree.Primitive p) reference)) (tree.FoRGlobal t reference) r
    (none_of (encode_refusal scheme p) t h.refused) (t, h.form, refl) (ap (global_for (unwrap_or reference.value (pos 0))) h.stands_for) a

pub one_reference_made : (order : ItemOrder) (scheme : Shape) (p : PrimitiveParts) (parts : OneReference) (r : Result Tree FastLanesError) → encode_global_by order p ≡ Ok parts
    → column (tree.FoRGlobal (tree.Primitive parts.child) parts.reference) ≡ column_of_primitive p
    → Makes (encode_refusal scheme parts.child) (HasOneReference (IsEncodedAs scheme) parts) (column (tree.FoRGlobal (tree.Primitive parts.child) parts.reference)) r
    → EncodesAs (FoR order scheme) p r
one_reference_made order scheme p parts r e back h =
    let there = subst (λ (c : Column). Makes (encode_refusal scheme parts.child) (HasOneReference (IsEncodedAs scheme) parts) c r) back h in
    subst (λ (o : Result OneReference FastLanesError). Makes (one_reference_refusal (encode_refusal scheme) o) (HasReference (IsEncodedAs scheme) o) (column_of_primitive p) r) (sym e) there

pub no_reference : (order : ItemOrder) (scheme : Shape) (p : PrimitiveParts) (e : FastLanesError) → Refuses e (encode_global_by order p) → EncodesAs (FoR order scheme) p (Err e)
no_reference order scheme p e h = refused (one_reference_refusal (encode_refusal scheme) (encode_global_by order p)) (HasReference (IsEncodedAs scheme) (encode_global_by order p)) (column_of_primitive p) e (elim (Refuses_cases e (encode_global_by order p) h) [
  | inl is ↦ by_memory (one_reference_refusal (encode_refusal scheme) (encode_global_by order p)) e is
  | inr is ↦ rw is (λ n. refl)
])

-- ---- a reference for each chunk
first_none : (first other : Option FastLanesError) → otherwise first other ≡ None → first ≡ None
first_none None other h = refl
first_none (Some f) other h = cc

chunked_accepted : (t u : Tree) → for_refusal (column t) (ChunkReferences u 0) ≡ None → constant_in u ≡ None → new_for_chunked t u 0 ≡ Ok (record { encoded = t; references = ChunkReferences u 0 })
chunked_accepted t u h k =
    let count = reference_count_refusal 0 (length (column t).items) (column t).dtype (length (column u).items) in
    let kept : references_of u 0 ≡ ChunkReferences u 0 = no_constant u 0 k in
    let counted : count ≡ None = first_none count (reference_type_refusal (column t).dtype (column u).dtype) h in
    let none : for_chunked_refusal (column t) u 0 ≡ None = ap (λ (r : FoRReferencesParts). otherwise count (for_refusal (column t) r)) kept ∙ neither_of count (for_refusal (column t) (ChunkReferences u 0)) counted h in
    ap (λ (r : FoRReferencesParts). accepted (let a : FoRArrayParts = record { encoded = t; references = r } in a) (for_chunked_refusal (column t) u 0)) kept ∙ ap (accepted (let a : FoRArrayParts = record { encoded = t; references = ChunkReferences u 0 } in a)) none

pub chunked_memory : (t u : Tree) (r : Result Tree FastLanesError) (e : FastLanesError) → for_refusal (column t) (ChunkReferences u 0) ≡ None → constant_in u ≡ None → IsErrAnd r (λ f. f ≡ e) → Refuses e (new_for_chunked t u 0) → Answers (λ (s : Tree). s) r (Ok (tree.FoRChunked t u 0))
chunked_memory t u (Ok s) e h k is refuses = absurd is
chunked_memory t u (Err f) e h k is refuses =
    let there = subst (λ (m : Result FoRArrayParts FastLanesError). Refuses e m) (chunked_accepted t u h k) refuses in
    let memory : e ≡ OutOfMemory = only_memory e (let a : FoRArrayParts = record { encoded = t; references = ChunkReferences u 0 } in a) there in
    rw (is, memory) tt

pub references_accepted : (p others : PrimitiveParts) (t u : Tree) → column t ≡ column_of_primitive p → column u ≡ column_of_primitive others → for_refusal (column_of_primitive p) (ChunkReferences (tree.Primitive others) 0) ≡ None → for_refusal (column t) (ChunkReferences u 0) ≡ None
references_accepted p others t u same also h =
    let judged : Column → Column → Option FastLanesError = λ c d. otherwise (reference_count_refusal 0 (length c.items) c.dtype (length d.items)) (reference_type_refusal c.dtype d.dtype) in
    let both : judged (column t) (column u) ≡ judged (column_of_primitive p) (column_of_primitive others) = ap (λ c. judged c (column u)) same ∙ ap (judged (column_of_primitive p)) also in
    both ∙ h

pub over_references_made : (first other : Shape) (p others : PrimitiveParts) (t u : Tree) (r : Result Tree FastLanesError) → EncodesAs first p (Ok t) → EncodesAs other others (Ok u) → Answers (λ (s : Tree). s) r (Ok (tree.FoRChunked t u 0))
    → Makes (otherwise (encode_refusal first p) (encode_refusal other others)) (HasChunkReferences (IsEncodedAs first) (IsEncodedAs other) p others) (column (tree.FoRChunked (tree.Primitive p) (tree.Primitive others) 0)) r
over_references_made first other p others t u r h k a =
    let both : column (tree.FoRChunked t u 0) ≡ column (tree.FoRChunked (tree.Primitive p) (tree.Primitive others) 0) =
    ap (λ (c : Column). chunked_for (integers_in c) 0 (column t)) k.stands_for ∙ ap (chunked_for (integers_in (column_of_primitive others)) 0) h.stands_for in
    made (otherwise (encode_refusal first p) (encode_refusal other others)) (HasChunkReferences (IsEncodedAs first) (IsEncodedAs other) p others) (column (tree.FoRChunked (tree.Primitive p) (tree.Primitive others) 0)) (tree.FoRChunked t u 0) r
    (neither_of (encode_refusal first p) (encode_refusal other others) (none_of (encode_refusal first p) t h.refused) (none_of (encode_refusal other others) u k.refused)) (t, u, h.form, k.form, refl) both a

pub whole_made : (order : ItemOrder) (first other : Shape) (p : PrimitiveParts) (parts : OneReference) (r : Result Tree FastLanesError) → encode_chunked_by order p ≡ Whole parts
    → column (tree.FoRGlobal (tree.Primitive parts.child) parts.reference) ≡ column_of_primitive p
    → Makes (encode_refusal first parts.child) (HasOneReference (IsEncodedAs first) parts) (column (tree.FoRGlobal (tree.Primitive parts.child) parts.reference)) r
    → EncodesAs (FoRChunked order first other) p r
whole_made order first other p parts r e back h =
    let there = subst (λ (c : Column). Makes (encode_refusal first parts.child) (HasOneReference (IsEncodedAs first) parts) c r) back h in
    subst (λ (o : FoRParts). Makes (references_refusal (encode_refusal first) (encode_refusal other) o) (HasReferences (IsEncodedAs first) (IsEncodedAs other) o) (column_of_primitive p) r) (sym e) there

pub references_made : (order : ItemOrder) (first other : Shape) (p child others : PrimitiveParts) (r : Result Tree FastLanesError) → encode_chunked_by order p ≡ ByChunk child others
    → column (tree.FoRChunked (tree.Primitive child) (tree.Primitive others) 0) ≡ column_of_primitive p
    → Makes (otherwise (encode_refusal first child) (encode_refusal other others)) (HasChunkReferences (IsEncodedAs first) (IsEncodedAs other) child others) (column (tree.FoRChunked (tree.Primitive child) (tree.Primitive others) 0)) r
    → EncodesAs (FoRChunked order first other) p r
references_made order first other p child others r e back h =
    let there = subst (λ (c : Column). Makes (otherwise (encode_refusal first child) (encode_refusal other others)) (HasChunkReferences (IsEncodedAs first) (IsEncodedAs other) child others) c r) back h in
    subst (λ (o : FoRParts). Makes (references_refusal (encode_refusal first) (encode_refusal other) o) (HasReferences (IsEncodedAs first) (IsEncodedAs other) o) (column_of_primitive p) r) (sym e) there

pub nulls_made : (order : ItemOrder) (first other : Shape) (p : PrimitiveParts) (child : ConstantParts) (reference : ScalarParts) (r : Result Tree FastLanesError) → encode_chunked_by order p ≡ Nulls child reference
    → column (tree.FoRGlobal (tree.Constant child) reference) ≡ column_of_primitive p → Answers (λ (s : Tree). s) r (Ok (tree.FoRGlobal (tree.Constant child) reference))
    → EncodesAs (FoRChunked order first other) p r
nulls_made order first other p child reference r e back a =
    subst (λ (o : FoRParts). Makes (references_refusal (encode_refusal first) (encode_refusal other) o) (HasReferences (IsEncodedAs first) (IsEncodedAs other) o) (column_of_primitive p) r) (sym e)
    (made None (λ t. t ≡ tree.FoRGlobal (tree.Constant child) reference) (column_of_primitive p) (tree.FoRGlobal (tree.Constant child) reference) r refl refl back a)

-- ---- deltas
-- what a primitive array's deltas make, by those that were made
deltas_of : (first other : Shape) (p b d : PrimitiveParts) (v : Validity) (n : ℕ) (r : Result Tree FastLanesError) → compress_deltas p ≡ (b, d) → v ≡ p.validity → n ≡ length p.slots
    → Makes (otherwise (encode_refusal first b) (encode_refusal other d)) (HasDeltas (IsEncodedAs first) (IsEncodedAs other) (b, d) (record { validity = v; offset = 0; len = n })) (column_of_primitive p) r
    → EncodesAs (Delta first other) p r
deltas_of first other p b d v n r e f g h =
    let valid = subst (λ (w : Validity). Makes (otherwise (encode_refusal first b) (encode_refusal other d)) (HasDeltas (IsEncodedAs first) (IsEncodedAs other) (b, d) (record { validity = w; offset = 0; len = n })) (column_of_primitive p) r) f h in
    let whole = subst (λ (m : ℕ). Makes (otherwise (encode_refusal first b) (encode_refusal other d)) (HasDeltas (IsEncodedAs first) (IsEncodedAs other) (b, d) (record { validity = p.validity; offset = 0; len = m })) (column_of_primitive p) r) g valid in
    subst (λ (x : PrimitiveParts × PrimitiveParts). Makes (otherwise (encode_refusal first x.0) (encode_refusal other x.1)) (HasDeltas (IsEncodedAs first) (IsEncodedAs other) x (record { validity = p.validity; offset = 0; len = length p.slots })) (column_of_primitive p) r) (sym e) whole

pub deltas_accepted : (b d : PrimitiveParts) (v : Validity) (n : ℕ) (t u : Tree) → column t ≡ column_of_primitive b → column u ≡ column_of_primitive d → delta_refusal (column_of_primitive b) (column_of_primitive d) v 0 n ≡ None → delta_refusal (column t) (column u) v 0 n ≡ None
deltas_accepted b d v n t u same also h = ap (λ (c : Column). delta_refusal c (column u) v 0 n) same ∙ (ap (λ (c : Column). delta_refusal (column_of_primitive b) c v 0 n) also ∙ h)

pub deltas_made : (first other : Shape) (p b d : PrimitiveParts) (v : Validity) (n : ℕ) (t u : Tree) (r : Result Tree FastLanesError) → compress_deltas p ≡ (b, d) → v ≡ p.validity → n ≡ length p.slots
    → column_of_delta (column_of_primitive b) (column_of_primitive d) (record { validity = v; offset = 0; len = n }) ≡ column_of_primitive p
    → EncodesAs first b (Ok t) → EncodesAs other d (Ok u) → Answers (λ (s : Tree). s) r (Ok (tree.Delta t u (record { validity = v; offset = 0; len = n })))
    → EncodesAs (Delta first other) p r
deltas_made first other p b d v n t u r e f g back h k a =
    let parts : DeltaParts = record { validity = v; offset = 0; len = n } in
    let both : column (tree.Delta t u parts) ≡ column_of_primitive p =
    ap (λ (c : Column). column_of_delta c (column u) parts) h.stands_for ∙ (ap (λ (c : Column). column_of_delta (column_of_primitive b) c parts) k.stands_for ∙ back) in
    deltas_of first other p b d v n r e f g
    (made (otherwise (encode_refusal first b) (encode_refusal other d)) (HasDeltas (IsEncodedAs first) (IsEncodedAs other) (b, d) parts) (column_of_primitive p) (tree.Delta t u parts) r
    (neither_of (encode_refusal first b) (encode_refusal other d) (none_of (encode_refusal first b) t h.refused) (none_of (encode_refusal other d) u k.refused)) (t, u, h.form, k.form, refl) both a)

pub bases_refused : (first other : Shape) (p b d : PrimitiveParts) (e : FastLanesError) → compress_deltas p ≡ (b, d) → EncodesAs first b (Err e) → EncodesAs (Delta first other) p (Err e)
bases_refused first other p b d e is h =
    deltas_of first other p b d p.validity (length p.slots) (Err e) is refl refl
    (refused (otherwise (encode_refusal first b) (encode_refusal other d)) (HasDeltas (IsEncodedAs first) (IsEncodedAs other) (b, d) (record { validity = p.validity; offset = 0; len = length p.slots })) (column_of_primitive p) e
    (by_first (encode_refusal first b) (encode_refusal other d) e h.refused))

pub deltas_refused : (first other : Shape) (p b d : PrimitiveParts) (t : Tree) (e : FastLanesError) → compress_deltas p ≡ (b, d) → EncodesAs first b (Ok t) → EncodesAs other d (Err e) → EncodesAs (Delta first other) p (Err e)
deltas_refused first other p b d t e is h k =
    deltas_of first other p b d p.validity (length p.slots) (Err e) is refl refl
    (refused (otherwise (encode_refusal first b) (encode_refusal other d)) (HasDeltas (IsEncodedAs first) (IsEncodedAs other) (b, d) (record { validity = p.validity; offset = 0; len = length p.slots })) (column_of_primitive p) e
    (by_second (encode_refusal first b) (encode_refusal other d) e (none_of (encode_refusal first b) t h.refused) k.refused))

-- ---- runs
-- what encoding the children of these runs answers
abbrev pub MakesRuns : (first second third : Shape) → RunParts → ℕ → Result Tree FastLanesError → Type 0
MakesRuns first second third runs n r =
    Makes (run_children_refusal (encode_refusal first) (encode_refusal second) (encode_refusal third) runs) (HasRuns (IsEncodedAs first) (IsEncodedAs second) (IsEncodedAs third) runs (record { offset = 0; len = n }))
    (column (tree.RLE (tree.Primitive runs.values) (tree.Primitive runs.indices) (tree.Primitive runs.offsets) (record { offset = 0; len = n }))) r

-- the same of a call that passes a refusal on
pub runs_passed_on : (first second third : Shape) (runs : RunParts) (n : ℕ) (r : Result Tree FastLanesError) (e : FastLanesError) → IsErrAnd r (λ f. f ≡ e) → MakesRuns first second third runs n (Err e) → MakesRuns first second third runs n r
runs_passed_on first second third runs n (Ok t) e h made = absurd h
runs_passed_on first second third runs n (Err f) e h made = subst (λ (g : FastLanesError). MakesRuns first second third runs n (Err g)) (sym h) made

-- what a primitive array's runs make, by those that were made
pub runs_encoded : (run_values : RunValues) (first second third : Shape) (p : PrimitiveParts) (runs : RunParts) (n : ℕ) (r : Result Tree FastLanesError) → runs ≡ runs_by run_values p → n ≡ length p.slots
    → column_of_rle (column_of_primitive runs.values) (column_of_primitive runs.indices) (column_of_primitive runs.offsets) (record { offset = 0; len = n }) ≡ column_of_primitive p
    → MakesRuns first second third runs n r → EncodesAs (RLE run_values first second third) p r
runs_encoded run_values first second third p runs n r e g back h =
    let refusal : RunParts → Option FastLanesError = run_children_refusal (encode_refusal first) (encode_refusal second) (encode_refusal third) in
    let Is : RunParts → OffsetLen → Tree → Type 0 = HasRuns (IsEncodedAs first) (IsEncodedAs second) (IsEncodedAs third) in
    let there = subst (λ (c : Column). Makes (refusal runs) (Is runs (record { offset = 0; len = n })) c r) back h in
    let whole = subst (λ (m : ℕ). Makes (refusal runs) (Is runs (record { offset = 0; len = m })) (column_of_primitive p) r) g there in
    subst (λ (x : RunParts). Makes (refusal x) (Is x (record { offset = 0; len = length p.slots })) (column_of_primitive p) r) e whole

pub runs_accepted : (v i o : PrimitiveParts) (n : ℕ) (s t u : Tree) → column s ≡ column_of_primitive v → column t ≡ column_of_primitive i → column u ≡ column_of_primitive o → rle_refusal (column_of_primitive v) (column_of_primitive i) (column_of_primitive o) 0 n ≡ None → rle_refusal (column s) (column t) (column u) 0 n ≡ None
runs_accepted v i o n s t u same also last h =
    ap (λ (c : Column). rle_refusal c (column t) (column u) 0 n) same ∙ (ap (λ (c : Column). rle_refusal (column_of_primitive v) c (column u) 0 n) also ∙ (ap (λ (c : Column). rle_refusal (column_of_primitive v) (column_of_primitive i) c 0 n) last ∙ h))

pub runs_made : (first second third : Shape) (runs : RunParts) (n : ℕ) (s t u : Tree) (r : Result Tree FastLanesError) → EncodesAs first runs.values (Ok s) → EncodesAs second runs.indices (Ok t) → EncodesAs third runs.offsets (Ok u)
    → Answers (λ (x : Tree). x) r (Ok (tree.RLE s t u (record { offset = 0; len = n }))) → MakesRuns first second third runs n r
runs_made first second third runs n s t u r h k l a =
    let window : OffsetLen = record { offset = 0; len = n } in
    let plain = tree.RLE (tree.Primitive runs.values) (tree.Primitive runs.indices) (tree.Primitive runs.offsets) window in
    let all : column (tree.RLE s t u window) ≡ column plain =
    ap (λ (c : Column). column_of_rle c (column t) (column u) window) h.stands_for ∙ (ap (λ (c : Column). column_of_rle (column_of_primitive runs.values) c (column u) window) k.stands_for ∙ ap (λ (c : Column). column_of_rle (column_of_primitive runs.values) (column_of_primitive runs.indices) c window) l.stands_for) in
    let none = neither_of (encode_refusal first runs.values) (otherwise (encode_refusal second runs.indices) (encode_refusal third runs.offsets)) (none_of (encode_refusal first runs.values) s h.refused)
    (neither_of (encode_refusal second runs.indices) (encode_refusal third runs.offsets) (none_of (encode_refusal second runs.indices) t k.refused) (none_of (encode_refusal third runs.offsets) u l.refused)) in
    made (run_children_refusal (encode_refusal first) (encode_refusal second) (encode_refusal third) runs) (HasRuns (IsEncodedAs first) (IsEncodedAs second) (IsEncodedAs third) runs window) (column plain) (tree.RLE s t u window) r none (s, t, u, h.form, k.form, l.form, refl) all a

-- a refusal of the runs
runs_refused : (first second third : Shape) (runs : RunParts) (n : ℕ) (e : FastLanesError) → AnswersUnless {X = Tree} (run_children_refusal (encode_refusal first) (encode_refusal second) (encode_refusal third) runs) (Err e) → MakesRuns first second third runs n (Err e)
runs_refused first second third runs n e h =
    refused (run_children_refusal (encode_refusal first) (encode_refusal second) (encode_refusal third) runs) (HasRuns (IsEncodedAs first) (IsEncodedAs second) (IsEncodedAs third) runs (record { offset = 0; len = n }))
    (column (tree.RLE (tree.Primitive runs.values) (tree.Primitive runs.indices) (tree.Primitive runs.offsets) (record { offset = 0; len = n }))) e h

pub values_refused : (first second third : Shape) (runs : RunParts) (n : ℕ) (e : FastLanesError) → EncodesAs first runs.values (Err e) → MakesRuns first second third runs n (Err e)
values_refused first second third runs n e h = runs_refused first second third runs n e (by_first (encode_refusal first runs.values) (otherwise (encode_refusal second runs.indices) (encode_refusal third runs.offsets)) e h.refused)

pub indices_refused : (first second third : Shape) (runs : RunParts) (n : ℕ) (s : Tree) (e : FastLanesError) → EncodesAs first runs.values (Ok s) → EncodesAs second runs.indices (Err e) → MakesRuns first second third runs n (Err e)
indices_refused first second third runs n s e h k = runs_refused first second third runs n e (by_second (encode_refusal first runs.values) (otherwise (encode_refusal second runs.indices) (encode_refusal third runs.offsets)) e (none_of (encode_refusal first runs.values) s h.refused) (by_first (encode_refusal second runs.indices) (encode_refusal third runs.offsets) e k.refused))

pub offsets_refused : (first second third : Shape) (runs : RunParts) (n : ℕ) (s t : Tree) (e : FastLanesError) → EncodesAs first runs.values (Ok s) → EncodesAs second runs.indices (Ok t) → EncodesAs third runs.offsets (Err e) → MakesRuns first second third runs n (Err e)
offsets_refused first second third runs n s t e h k l = runs_refused first second third runs n e (by_second (encode_refusal first runs.values) (otherwise (encode_refusal second runs.indices) (encode_refusal third runs.offsets)) e (none_of (encode_refusal first runs.values) s h.refused) (by_second (encode_refusal second runs.indices) (encode_refusal third runs.offsets) e (none_of (encode_refusal second runs.indices) t k.refused) l.refused))
