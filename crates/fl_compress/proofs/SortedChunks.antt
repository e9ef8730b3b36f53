-- A column without nulls whose items do not fall: its dictionaries are its runs.
use Rattle.std.proofs.Common.{◌≡◌, ℕ, ℤ, pos, zero, suc, ◌+◌, ◌-◌, ◌*◌, ◌/◌, ◌%◌, ◌<◌, ◌≤◌, Bool, true, false, not, cond, List, [], ◌∷◌, ◌++◌, length, map, take, get_or, Some, refl, ap, sym, subst, ◌∙◌, arith, add-one, inl, inr}
use Rattle.std.specs.Prelude.{◌<ℤ◌, ◌≤ℤ◌, All}
use Rattle.std.specs.Ordering.{int_eq}
use Rattle.std.proofs.lemmas.Bool.{cases_lt}
use Rattle.std.proofs.lemmas.Bool.Decides.{Decides-int_eq}
use Rattle.std.proofs.lemmas.Int.{ints}
use Rattle.std.proofs.lemmas.List.{append-nil, take_all}
use Rattle.std.proofs.lemmas.List.Elements.{All-append, All-cons, All-head, All-nil, All-tail, All-weaker}
use Rattle.fl_types.specs.declared.dtype.PType.TheVariants.{U16, U64}
use Rattle.fl_types.specs.declared.validity.Validity.TheVariants as valid
use Rattle.fl_types.specs.Bits.{tabulate}
use Rattle.fl_types.specs.Validities.{items_of}
use Rattle.fl_types.proofs.BitLists.{same_tables}
use Rattle.fl_column.specs.Columns.{PrimitiveParts}
use Rattle.fl_codec.specs.Chunks.{chunks_of}
use Rattle.fl_codec.specs.Dictionaries.{chunk_dictionary, dictionary_index, encode_dictionaries, items_in_chunk}
use Rattle.fl_codec.specs.Distinct.{distinct, with_integer}
use Rattle.fl_codec.specs.ForwardFill.{Reset, fill_forward}
use Rattle.fl_codec.specs.Parts.{RunParts, encode_runs, items_of_primitive, non_nullable}
use Rattle.fl_codec.specs.Runs.{chunk_values, differs_next, run_index, run_validity}
use Rattle.fl_codec.proofs.ChunkedRuns.{runs_of, values_more, values_of}
use Rattle.fl_codec.proofs.DictionaryLaws.{item_in, items_long}
use Rattle.fl_codec.proofs.DictionaryLaws as dictionaries
use Rattle.fl_codec.proofs.DistinctSteps.{first_one, once_more, one_more}
use Rattle.fl_codec.proofs.Rising.{lt_no, lt_yes, rising_distinct, rising_pairs}
use Rattle.fl_codec.proofs.RunLaws.{values_next, values_up_to}
use Rattle.fl_codec.proofs.RunRoundTrips as runs
use Rattle.fl_compress.proofs.SingleRuns.{item_is, padding_is}

-- ---- one chunk
-- no item of a chunk is below the one before
abbrev pub NoneFalls : (ℕ → ℤ) → ℕ → Type 0
NoneFalls item k = (q : ℕ) → q < 1023 → item (1024 * k + q) ≤ℤ item (1024 * k + (q + 1))

-- what is above all goes to the end
with_last : (z : ℤ) (xs : List ℤ) → All (λ x. x <ℤ z) xs → with_integer z xs ≡ xs ++ z ∷ []
with_last z [] h = refl
with_last z (x ∷ xs) h =
    let here : x <ℤ z = All-head (λ y. y <ℤ z) x xs h in
    rw (lt_yes x z here, lt_no z x (omega (arith, ints))) (ap (λ ys. x ∷ ys) (with_last z xs (All-tail (λ y. y <ℤ z) x xs h)))

-- the run values up to a position are the distinct items up to there, and none is above the item there
abbrev AreDistinct : (ℕ → ℤ) → ℕ → ℕ → Type 0
AreDistinct item k n = (values_up_to item k n ≡ distinct (take (n + 1) (items_in_chunk item k))) × All (λ x. x ≤ℤ item (1024 * k + n)) (values_up_to item k n)

above : (a b : ℤ) → not (int_eq b a) ≡ true → a ≤ℤ b → a <ℤ b
above a b e h = grind (arith, ints, Decides-int_eq b a)

alike : (a b : ℤ) → not (int_eq b a) ≡ false → b ≡ a
alike a b e = grind (arith, ints, Decides-int_eq b a)

distinct_next : (item : ℕ → ℤ) (k n : ℕ) (b : Bool) → NoneFalls item k → n < 1023 → AreDistinct item k n → differs_next item k n ≡ b → AreDistinct item k (n + 1)
distinct_next item k n true rises few (before, most) e =
    let z = item (1024 * k + (n + 1)) in
    let xs = values_up_to item k n in
    let zs = items_in_chunk item k in
    let long = items_long item k in
    let more : values_up_to item k (n + 1) ≡ xs ++ z ∷ [] = values_next item k n ∙ ap (λ b. xs ++ map (λ t. item (1024 * k + (t + 1))) (cond b (n ∷ []) [])) e in
    let rise : item (1024 * k + n) <ℤ z = above (item (1024 * k + n)) z e (rises n few) in
    let last = with_last z xs (All-weaker (λ x. x ≤ℤ item (1024 * k + n)) (λ x. x <ℤ z) (λ x h. omega (arith, ints)) xs most) in (
      one_more zs (values_up_to item k (n + 1)) (n + 1) z (omega arith) (sym (item_in item k (n + 1) (pos 0) (omega arith))) (more ∙ (sym last ∙ ap (with_integer z) before)),
      subst (All (λ x. x ≤ℤ z)) (sym more) (All-append (λ x. x ≤ℤ z) xs (z ∷ []) (All-weaker (λ x. x ≤ℤ item (1024 * k + n)) (λ x. x ≤ℤ z) (λ x h. omega (arith, ints)) xs most) (All-cons (λ x. x ≤ℤ z) z [] (omega (arith, ints)) (All-nil (λ x. x ≤ℤ z)))),
    )
distinct_next item k n false rises few (before, most) e =
    let z = item (1024 * k + (n + 1)) in
    let xs = values_up_to item k n in
    let zs = items_in_chunk item k in
    let long = items_long item k in
    let same : z ≡ item (1024 * k + n) = alike (item (1024 * k + n)) z e in
    let more : values_up_to item k (n + 1) ≡ xs = values_next item k n ∙ (ap (λ b. xs ++ map (λ t. item (1024 * k + (t + 1))) (cond b (n ∷ []) [])) e ∙ append-nil xs) in
    let place : n + 1 - 1 ≡ n = omega arith in
    let there : get_or zs (n + 1) (pos 0) ≡ get_or zs (n + 1 - 1) (pos 0) = item_in item k (n + 1) (pos 0) (omega arith) ∙ (same ∙ (sym (item_in item k n (pos 0) (omega arith)) ∙ ap (λ m. get_or zs m (pos 0)) (sym place))) in (
      once_more zs (values_up_to item k (n + 1)) (n + 1) (omega arith) (omega arith) there (more ∙ before),
      subst (All (λ x. x ≤ℤ z)) (sym more) (All-weaker (λ x. x ≤ℤ item (1024 * k + n)) (λ x. x ≤ℤ z) (λ x h. omega (arith, ints)) xs most),
    )

distinct_to : (item : ℕ → ℤ) (k n : ℕ) → NoneFalls item k → n ≤ 1023 → AreDistinct item k n
distinct_to item k zero rises few =
    let zs = items_in_chunk item k in
    let long = items_long item k in
    let first : 1024 * k + 0 ≡ 1024 * k = omega arith in
    let read : item (1024 * k) ≡ get_or zs 0 (pos 0) = ap item (sym first) ∙ sym (item_in item k 0 (pos 0) (omega arith)) in (
      first_one zs (item (1024 * k) ∷ []) (item (1024 * k)) (omega arith) read refl,
      All-cons (λ x. x ≤ℤ item (1024 * k + 0)) (item (1024 * k)) [] (let same : item (1024 * k) ≡ item (1024 * k + 0) = ap item (sym first) in omega (arith, ints)) (All-nil (λ x. x ≤ℤ item (1024 * k + 0))),
    )
distinct_to item k (suc n) rises few =
    subst (AreDistinct item k) (add-one n) (distinct_next item k n (differs_next item k n) rises (omega arith) (distinct_to item k n rises (omega arith)) refl)

same_values : (item : ℕ → ℤ) (k : ℕ) → NoneFalls item k → chunk_dictionary item k ≡ chunk_values item k
same_values item k rises =
    let zs = items_in_chunk item k in
    let long = items_long item k in
    ap distinct (sym (take_all 1024 zs (omega arith))) ∙ sym (distinct_to item k 1023 rises (omega arith)).0

-- a rising list has each integer in one place
one_place : (xs : List ℤ) (i j : ℕ) → ((a b : ℕ) (d : ℤ) → a < b → b < length xs → get_or xs a d <ℤ get_or xs b d) → i < length xs → j < length xs → get_or xs i (pos 0) ≡ get_or xs j (pos 0) → i ≡ j
one_place xs i j rises h l e = elim (cases_lt i j) [
  | inl less ↦ (let up = rises i j (pos 0) less l in absurd (omega (arith, ints)))
  | inr least ↦ elim (cases_lt j i) [
    | inl more ↦ (let up = rises j i (pos 0) more h in absurd (omega (arith, ints)))
    | inr most ↦ omega arith
  ]
]

same_index : (item : ℕ → ℤ) (k q : ℕ) → NoneFalls item k → q < 1024 → dictionary_index item k q ≡ run_index item k q
same_index item k q rises h =
    let vs = chunk_dictionary item k in
    let first = dictionaries.names item in
    let other = runs.names item in
    let values : vs ≡ chunk_values item k = same_values item k rises in
    let there : run_index item k q < length vs = subst (λ xs. run_index item k q < length xs) (sym values) (other.named k q h) in
    one_place vs (dictionary_index item k q) (run_index item k q) (rising_pairs vs (rising_distinct (items_in_chunk item k))) (first.named k q h) there
    (first.stands k q h ∙ sym (ap (λ xs. get_or xs (run_index item k q) (pos 0)) values ∙ other.stands k q h))

-- ---- all chunks
values_same : (values others : ℕ → List ℤ) (n : ℕ) → ((k : ℕ) → k < n → values k ≡ others k) → values_of values n ≡ values_of others n
values_same values others zero same = refl
values_same values others (suc n) same =
    subst (λ m. values_of values m ≡ values_of others m) (add-one n)
    (values_more values n ∙ (ap (λ ys. ys ++ values n) (values_same values others n (λ k h. same k (omega arith))) ∙ (ap (λ ys. values_of others n ++ ys) (same n (omega arith)) ∙ sym (values_more others n))))

-- an array's parts by their lists
abbrev parts_of : PrimitiveParts → List ℤ → List ℕ → List ℕ → RunParts
parts_of p values indices offsets = record {
  values = non_nullable p.ptype values;
  indices = record { ptype = U16; slots = map (λ n. pos n) indices; validity = run_validity p.validity (length p.slots) (1024 * chunks_of (length p.slots)) };
  offsets = non_nullable U64 (map (λ n. pos n) offsets);
}

runs_same : (p : PrimitiveParts) (values others : ℕ → List ℤ) (index other : ℕ → ℕ → ℕ) → ((k : ℕ) → k < chunks_of (length p.slots) → values k ≡ others k) → ((k q : ℕ) → k < chunks_of (length p.slots) → q < 1024 → index k q ≡ other k q)
    → runs_of values index p ≡ runs_of others other p
runs_same p values others index other same alike =
    let n = chunks_of (length p.slots) in
    let lists = values_same values others n same in
    let places : tabulate (λ i. index (i / 1024) (i % 1024)) (1024 * n) ≡ tabulate (λ i. other (i / 1024) (i % 1024)) (1024 * n) = same_tables _ _ (1024 * n) (λ i h. alike (i / 1024) (i % 1024) (omega arith) (omega arith)) in
    let offsets : tabulate (λ k. length (values_of values k)) n ≡ tabulate (λ k. length (values_of others k)) n = same_tables _ _ n (λ k h. ap length (values_same values others k (λ j l. same j (omega arith)))) in
    let all = parts_of p in
    ap (λ xs. all xs (tabulate (λ i. index (i / 1024) (i % 1024)) (1024 * n)) (tabulate (λ k. length (values_of values k)) n)) lists
    ∙ (ap (λ is. all (values_of others n) is (tabulate (λ k. length (values_of values k)) n)) places ∙ ap (all (values_of others n) (tabulate (λ i. other (i / 1024) (i % 1024)) (1024 * n))) offsets)

-- ---- a column
-- none is below the one before
abbrev pub AreSorted : List ℤ → Type 0
AreSorted slots = (i : ℕ) → i + 1 < length slots → get_or slots i (pos 0) ≤ℤ get_or slots (i + 1) (pos 0)

falls_none : (slots : List ℤ) (k : ℕ) → AreSorted slots → 1024 * k < length slots → NoneFalls (fill_forward Reset (map (λ x. Some x) slots)) k
falls_none slots k sorted begun = λ q few.
    let here = 1024 * k + q in
    let next = 1024 * k + (q + 1) in
    let last = get_or slots (length slots - 1) (pos 0) in
    elim (cases_lt next (length slots)) [
      | inl within ↦
          (let first = item_is slots here (omega arith) in
          let other = item_is slots next within in
          let step : here + 1 ≡ next = omega arith in
          let rise = subst (λ m. get_or slots here (pos 0) ≤ℤ get_or slots m (pos 0)) step (sorted here (omega arith)) in
          omega (arith, ints))
      | inr past ↦
          (let other = padding_is slots k next begun past (omega arith) in
          elim (cases_lt here (length slots)) [
            | inl inside ↦ (let place : here ≡ length slots - 1 = omega arith in let first = item_is slots here inside ∙ ap (λ n. get_or slots n (pos 0)) place in omega (arith, ints))
            | inr beyond ↦ (let first = padding_is slots k here begun beyond (omega arith) in omega (arith, ints))
          ])
    ]

pub sorted_runs : (p : PrimitiveParts) → p.validity ≡ valid.NonNullable → AreSorted p.slots → encode_dictionaries p ≡ encode_runs p
sorted_runs p e sorted =
    let item = fill_forward Reset (items_of_primitive p) in
    let full : items_of_primitive p ≡ map (λ x. Some x) p.slots = ap (λ v. items_of v p.slots) e in
    let falls : (k : ℕ) → k < chunks_of (length p.slots) → NoneFalls item k = λ k h. subst (λ xs. NoneFalls (fill_forward Reset xs) k) (sym full) (falls_none p.slots k sorted (omega arith)) in
    runs_same p (chunk_dictionary item) (chunk_values item) (dictionary_index item) (run_index item) (λ k h. same_values item k (falls k h)) (λ k q h l. same_index item k q (falls k h) l)
