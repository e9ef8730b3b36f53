-- A column in chunks, chunk by chunk.
use Rattle.std.proofs.Common.{◌≡◌, ℕ, ℤ, zero, suc, ◌+◌, ◌≤◌, ◌<◌, ◌++◌, List, [], ◌∷◌, length, take, map, Option, Some, None, Result, Ok, Err, IsErrAnd, inl, inr, refl, ap, subst, sym, ◌∙◌, cond, add-one, arith}
use Rattle.std.specs.Prelude.{◌⊎◌, FitsSigned, SomeIff, All, Bool, false, true, ◌+ℤ◌, count_by, filter_map, fold, is_none, option_map}
use Rattle.std.specs.Int.{int_max, int_min, w128}
use Rattle.std.specs.List.{AllByRecursion, slice_get}
use Rattle.std.proofs.lemmas.Int.{clamps, ints}
use Rattle.std.proofs.lemmas.List.{append-nil, append_assoc, length-append}
use Rattle.std.proofs.lemmas.List.Elements.{filter_map-append, recursion_from_All}
use Rattle.std.proofs.lemmas.List.Sums.{fold-append, sum_by-append, sum_by-cons}
use Rattle.fl_column.specs.Columns.{Column}
use Rattle.fl_file.specs.declared.statistics.ChunkStatistics.{ChunkStatistics}
use Rattle.fl_file.specs.declared.statistics.Extremes.{Extremes}
use Rattle.fl_file.specs.Statistics.{extremes_among, statistics_of_column, total, valid_items}
use Rattle.flcol_file.specs.Chunked.{AreFactsOf, ChunkFacts, SumFits, extremes_of_both, items_in, valid_in}
use Rattle.flcol_file.specs.Outcomes.{AnswersFrom, IsFault}
use Rattle.flcol_file.specs.declared.error.ColumnFileError.{ColumnFileError}
use Rattle.flcol_file.specs.declared.error.ColumnFileError.TheVariants.{Array}
use Rattle.fl_types.specs.Refusals.{Answers, Refuses}
use Rattle.fl_types.proofs.RefusalLaws.{Refuses_cases}
use Rattle.fl_types.specs.declared.error.FastLanesError.{FastLanesError}
use Rattle.std.proofs.lemmas.Option.{slice_get-map}

-- the chunk at a place, and the items up to it and of it
pub record Next (columns : List Column) (k : ℕ) (s : ChunkStatistics) : Type 0 where
  pub chunk : Column
  pub items : items_in (take (suc k) columns) ≡ items_in (take k columns) ++ chunk.items
  pub statistics : s ≡ statistics_of_column chunk

some_injective : {A : Type 0} (x y : A) → Some x ≡ Some y → x ≡ y
some_injective x y e = cc

pub next : (columns : List Column) (k : ℕ) (s : ChunkStatistics) → option_map statistics_of_column (slice_get columns k) ≡ Some s → Next columns k s
next [] k s h = absurd (let wrong : None ≡ Some s = h in cc)
next (c ∷ columns) zero s h = record { chunk = c; items = append-nil c.items; statistics = sym (some_injective (statistics_of_column c) s h) }
next (c ∷ columns) (suc k) s h =
    let n = next columns k s h in
    record { chunk = n.chunk; items = ap (λ items. c.items ++ items) n.items ∙ sym (append_assoc c.items (items_in (take k columns)) n.chunk.items); statistics = n.statistics }

-- ---- what is gathered of two lists
pub total-append : (xs ys : List ℤ) → total (xs ++ ys) ≡ total xs +ℤ total ys
total-append [] ys = omega (arith, ints)
total-append (x ∷ xs) ys = let rest = total-append xs ys in omega (arith, ints)

least_out : (a b : ℤ) (xs : List ℤ) → fold int_min (int_min a b) xs ≡ int_min a (fold int_min b xs)
least_out a b [] = refl
least_out a b (x ∷ xs) = ap (λ z. fold int_min z xs) (let e : int_min (int_min a b) x ≡ int_min a (int_min b x) = omega (arith, ints, clamps) in e) ∙ least_out a (int_min b x) xs

greatest_out : (a b : ℤ) (xs : List ℤ) → fold int_max (int_max a b) xs ≡ int_max a (fold int_max b xs)
greatest_out a b [] = refl
greatest_out a b (x ∷ xs) = ap (λ z. fold int_max z xs) (let e : int_max (int_max a b) x ≡ int_max a (int_max b x) = omega (arith, ints, clamps) in e) ∙ greatest_out a (int_max b x) xs

pub extremes-append : (xs ys : List ℤ) → extremes_among (xs ++ ys) ≡ extremes_of_both (extremes_among xs) (extremes_among ys)
extremes-append [] ys = refl
extremes-append (x ∷ xs) [] = ap (λ zs. extremes_among (x ∷ zs)) (append-nil xs)
extremes-append (x ∷ xs) (y ∷ ys) =
    let least : fold int_min x (xs ++ y ∷ ys) ≡ int_min (fold int_min x xs) (fold int_min y ys) = fold-append int_min x xs (y ∷ ys) ∙ least_out (fold int_min x xs) y ys in
    let greatest : fold int_max x (xs ++ y ∷ ys) ≡ int_max (fold int_max x xs) (fold int_max y ys) = fold-append int_max x xs (y ∷ ys) ∙ greatest_out (fold int_max x xs) y ys in
    ap (λ z. Some (record { least = z; greatest = fold int_max x (xs ++ y ∷ ys) })) least ∙ ap (λ z. Some (record { least = int_min (fold int_min x xs) (fold int_min y ys); greatest = z })) greatest

-- ---- the next chunk
of_next : (columns : List Column) (k : ℕ) (s : ChunkStatistics) (n : Next columns k s) → items_in (take (k + 1) columns) ≡ items_in (take k columns) ++ n.chunk.items
of_next columns k s n = ap (λ m. items_in (take m columns)) (add-one k) ∙ n.items

valid_of_next : (columns : List Column) (k : ℕ) (s : ChunkStatistics) (n : Next columns k s) → valid_in (take (k + 1) columns) ≡ valid_in (take k columns) ++ valid_items n.chunk
valid_of_next columns k s n = ap (filter_map (λ o. o)) (of_next columns k s n) ∙ filter_map-append (λ o. o) (items_in (take k columns)) n.chunk.items

pub next_len : (columns : List Column) (k len : ℕ) (s : ChunkStatistics) → option_map statistics_of_column (slice_get columns k) ≡ Some s → len ≡ length (items_in (take k columns)) → len + s.len ≡ length (items_in (take (k + 1) columns))
next_len columns k len s h e =
    let n = next columns k s h in
    let both = length-append (items_in (take k columns)) n.chunk.items in
    let here : s.len ≡ length n.chunk.items = ap (λ (t : ChunkStatistics). t.len) n.statistics in
    let sums : len + s.len ≡ length (items_in (take k columns) ++ n.chunk.items) = omega arith in
    sums ∙ sym (ap length (of_next columns k s n))

pub next_nulls : (columns : List Column) (k count : ℕ) (s : ChunkStatistics) → option_map statistics_of_column (slice_get columns k) ≡ Some s → count ≡ count_by is_none (items_in (take k columns)) → count + s.null_count ≡ count_by is_none (items_in (take (k + 1) columns))
next_nulls columns k count s h e =
    let n = next columns k s h in
    let both : count_by is_none (items_in (take k columns) ++ n.chunk.items) ≡ count_by is_none (items_in (take k columns)) + count_by is_none n.chunk.items = sum_by-append (λ o. cond (is_none o) 1 0) (items_in (take k columns)) n.chunk.items in
    let here : s.null_count ≡ count_by is_none n.chunk.items = ap (λ (t : ChunkStatistics). t.null_count) n.statistics in
    let sums : count + s.null_count ≡ count_by is_none (items_in (take k columns) ++ n.chunk.items) = omega arith in
    sums ∙ sym (ap (count_by is_none) (of_next columns k s n))

pub next_extremes : (columns : List Column) (k : ℕ) (e f : Option Extremes) (s : ChunkStatistics) → option_map statistics_of_column (slice_get columns k) ≡ Some s → e ≡ extremes_among (valid_in (take k columns)) → f ≡ extremes_of_both e s.extremes → f ≡ extremes_among (valid_in (take (k + 1) columns))
next_extremes columns k e f s h is both =
    let n = next columns k s h in
    let here : s.extremes ≡ extremes_among (valid_items n.chunk) = ap (λ (t : ChunkStatistics). t.extremes) n.statistics in
    both ∙ (ap (λ d. extremes_of_both d s.extremes) is ∙ (ap (extremes_of_both (extremes_among (valid_in (take k columns)))) here
    ∙ (sym (extremes-append (valid_in (take k columns)) (valid_items n.chunk)) ∙ sym (ap extremes_among (valid_of_next columns k s n)))))

pub next_sum : (columns : List Column) (k : ℕ) (a b : ℤ) (s : ChunkStatistics) → option_map statistics_of_column (slice_get columns k) ≡ Some s → a ≡ total (valid_in (take k columns)) → b ≡ a +ℤ s.sum → b ≡ total (valid_in (take (k + 1) columns))
next_sum columns k a b s h is both =
    let n = next columns k s h in
    let here : s.sum ≡ total (valid_items n.chunk) = ap (λ (t : ChunkStatistics). t.sum) n.statistics in
    both ∙ (ap (λ z. z +ℤ s.sum) is ∙ (ap (λ z. total (valid_in (take k columns)) +ℤ z) here ∙ (sym (total-append (valid_in (take k columns)) (valid_items n.chunk)) ∙ sym (ap total (valid_of_next columns k s n)))))

-- a checked sum that is there
pub added : (r : Option ℤ) (P : Type 0) (v x : ℤ) → SomeIff r P v → r ≡ Some x → P × (x ≡ v)
added r P v x h e = subst (λ o. SomeIff o P v) e h

-- ---- tests that the statistics decide
failing : (test : ℤ → Bool) (zs : List ℤ) → AllByRecursion (λ z. test z ≡ false) zs → count_by test zs ≡ 0
failing test [] h = refl
failing test (z ∷ zs) h =
    let rest = failing test zs h.1 in
    let more : count_by test (z ∷ zs) ≡ 0 + count_by test zs = sum_by-cons (λ x. cond (test x) 1 0) z zs ∙ ap (λ b. cond b 1 0 + count_by test zs) h.0 in
    omega arith

passing : (test : ℤ → Bool) (zs : List ℤ) → AllByRecursion (λ z. test z ≡ true) zs → count_by test zs ≡ length zs
passing test [] h = refl
passing test (z ∷ zs) h =
    let rest = passing test zs h.1 in
    let more : count_by test (z ∷ zs) ≡ 1 + count_by test zs = sum_by-cons (λ x. cond (test x) 1 0) z zs ∙ ap (λ b. cond b 1 0 + count_by test zs) h.0 in
    omega arith

null_or_valid : (items : List (Option ℤ)) → length (filter_map (λ o. o) items) + count_by is_none items ≡ length items
null_or_valid [] = refl
null_or_valid (None ∷ items) =
    let rest = null_or_valid items in
    let more : count_by is_none (None ∷ items) ≡ 1 + count_by is_none items = sum_by-cons (λ o. cond (is_none o) 1 0) None items in
    omega arith
null_or_valid (Some z ∷ items) =
    let rest = null_or_valid items in
    let more : count_by is_none (Some z ∷ items) ≡ 0 + count_by is_none items = sum_by-cons (λ o. cond (is_none o) 1 0) (Some z) items in
    omega arith

-- a chunk at a place
pub record At (columns : List Column) (k : ℕ) (s : ChunkStatistics) : Type 0 where
  pub chunk : Column
  pub found : slice_get columns k ≡ Some chunk
  pub statistics : s ≡ statistics_of_column chunk

pub at : (columns : List Column) (k : ℕ) (s : ChunkStatistics) → option_map statistics_of_column (slice_get columns k) ≡ Some s → At columns k s
at columns k s h = found (slice_get columns k) refl h where
  found : (o : Option Column) → slice_get columns k ≡ o → option_map statistics_of_column o ≡ Some s → At columns k s
  found None is e = absurd (let wrong : None ≡ Some s = e in cc)
  found (Some c) is e = record { chunk = c; found = is; statistics = sym (some_injective (statistics_of_column c) s e) }

pub skipped : (test : ℤ → Bool) (columns : List Column) (k : ℕ) (s : ChunkStatistics) → option_map statistics_of_column (slice_get columns k) ≡ Some s
    → ((c : Column) → s ≡ statistics_of_column c → All (λ z. test z ≡ false) (valid_items c)) → option_map (λ c. count_by test (valid_items c)) (slice_get columns k) ≡ Some 0
skipped test columns k s h says =
    let a = at columns k s h in
    ap (option_map (λ c. count_by test (valid_items c))) a.found ∙ ap (λ n. Some n) (failing test (valid_items a.chunk) (recursion_from_All (λ z. test z ≡ false) (valid_items a.chunk) (says a.chunk a.statistics)))

pub taken : (test : ℤ → Bool) (columns : List Column) (k n : ℕ) (s : ChunkStatistics) → option_map statistics_of_column (slice_get columns k) ≡ Some s
    → ((c : Column) → s ≡ statistics_of_column c → All (λ z. test z ≡ true) (valid_items c)) → n + s.null_count ≡ s.len → option_map (λ c. count_by test (valid_items c)) (slice_get columns k) ≡ Some n
taken test columns k n s h says is =
    let a = at columns k s h in
    let all = passing test (valid_items a.chunk) (recursion_from_All (λ z. test z ≡ true) (valid_items a.chunk) (says a.chunk a.statistics)) in
    let parts = null_or_valid a.chunk.items in
    let nulls : s.null_count ≡ count_by is_none a.chunk.items = ap (λ (t : ChunkStatistics). t.null_count) a.statistics in
    let len : s.len ≡ length a.chunk.items = ap (λ (t : ChunkStatistics). t.len) a.statistics in
    ap (option_map (λ c. count_by test (valid_items c))) a.found ∙ ap (λ n. Some n) (let e : count_by test (valid_items a.chunk) ≡ n = omega arith in e)

-- there are at most as many nulls as items
pub few_nulls : (columns : List Column) (k : ℕ) (s : ChunkStatistics) → option_map statistics_of_column (slice_get columns k) ≡ Some s → s.null_count ≤ s.len
few_nulls columns k s h =
    let a = at columns k s h in
    let parts = null_or_valid a.chunk.items in
    let nulls : s.null_count ≡ count_by is_none a.chunk.items = ap (λ (t : ChunkStatistics). t.null_count) a.statistics in
    let len : s.len ≡ length a.chunk.items = ap (λ (t : ChunkStatistics). t.len) a.statistics in
    omega arith

-- ---- counts, chunk by chunk
next_items : (columns : List Column) (k : ℕ) (c : Column) → slice_get columns k ≡ Some c → items_in (take (suc k) columns) ≡ items_in (take k columns) ++ c.items
next_items [] k c h = absurd (let wrong : None ≡ Some c = h in cc)
next_items (d ∷ columns) zero c h = append-nil d.items ∙ ap (λ (x : Column). x.items) (some_injective d c h)
next_items (d ∷ columns) (suc k) c h = ap (λ items. d.items ++ items) (next_items columns k c h) ∙ sym (append_assoc d.items (items_in (take k columns)) c.items)

pub next_count : (test : ℤ → Bool) (columns : List Column) (k count n : ℕ) → option_map (λ c. count_by test (valid_items c)) (slice_get columns k) ≡ Some n → count ≡ count_by test (valid_in (take k columns)) → count + n ≡ count_by test (valid_in (take (k + 1) columns))
next_count test columns k count n h e = of (slice_get columns k) refl h where
  of : (o : Option Column) → slice_get columns k ≡ o → option_map (λ c. count_by test (valid_items c)) o ≡ Some n → count + n ≡ count_by test (valid_in (take (k + 1) columns))
  of None is w = absurd (let wrong : None ≡ Some n = w in cc)
  of (Some c) is w =
      let items = ap (λ m. items_in (take m columns)) (add-one k) ∙ next_items columns k c is in
      let valid : valid_in (take (k + 1) columns) ≡ valid_in (take k columns) ++ valid_items c = ap (filter_map (λ o. o)) items ∙ filter_map-append (λ o. o) (items_in (take k columns)) c.items in
      let here : count_by test (valid_items c) ≡ n = some_injective (count_by test (valid_items c)) n w in
      let both : count_by test (valid_in (take k columns) ++ valid_items c) ≡ count_by test (valid_in (take k columns)) + count_by test (valid_items c) = sum_by-append (λ x. cond (test x) 1 0) (valid_in (take k columns)) (valid_items c) in
      let sums : count + n ≡ count_by test (valid_in (take k columns) ++ valid_items c) = omega arith in
      sums ∙ sym (ap (count_by test) valid)

-- ---- what is known of chunks
pub known_at : (facts : ChunkFacts) (columns : List Column) (k : ℕ) (s : ChunkStatistics) → AreFactsOf facts columns → slice_get facts.statistics k ≡ Some s → option_map statistics_of_column (slice_get columns k) ≡ Some s
known_at facts columns k s known found = sym (slice_get-map statistics_of_column columns k) ∙ (ap (λ ss. slice_get ss k) (sym known.statistics) ∙ found)

length_map : {A B : Type 0} (f : A → B) (xs : List A) → length (map f xs) ≡ length xs
length_map f [] = refl
length_map f (x ∷ xs) = ap suc (length_map f xs)

take_whole : (columns : List Column) (k : ℕ) → length columns ≤ k → take k columns ≡ columns
take_whole [] zero h = refl
take_whole [] (suc k) h = refl
take_whole (c ∷ columns) zero h = absurd (omega arith)
take_whole (c ∷ columns) (suc k) h = ap (λ cs. c ∷ cs) (take_whole columns k (omega arith))

pub counted : (facts : ChunkFacts) (columns : List Column) → AreFactsOf facts columns → length facts.statistics ≡ length columns
counted facts columns known = ap length known.statistics ∙ length_map statistics_of_column columns

pub whole : (facts : ChunkFacts) (columns : List Column) (k : ℕ) → AreFactsOf facts columns → length facts.statistics ≤ k → take k columns ≡ columns
whole facts columns k known all = take_whole columns k (let n = counted facts columns known in omega arith)

-- ---- sums
pub sums_fit : (facts : ChunkFacts) (columns : List Column) (n k : ℕ) → AreFactsOf facts columns → length facts.statistics ≤ n → ((j : ℕ) → j ≤ n → SumFits columns j) → SumFits columns k
sums_fit facts columns n k known all fit = by_order (le_or_above k n) where
  le_or_above : (a b : ℕ) → (a ≤ b) ⊎ (b < a)
  le_or_above a b = grind arith

  by_order : (k ≤ n) ⊎ (n < k) → SumFits columns k
  by_order (inl le) = fit k le
  by_order (inr lt) = subst (λ cs. FitsSigned w128 (total (valid_in cs))) (whole facts columns n known all ∙ sym (whole facts columns k known (omega arith))) (fit n (omega arith))

pub sums_more : (columns : List Column) (k : ℕ) (z : ℤ) → ((j : ℕ) → j ≤ k → SumFits columns j) → FitsSigned w128 z → z ≡ total (valid_in (take (k + 1) columns)) → (j : ℕ) → j ≤ k + 1 → SumFits columns j
sums_more columns k z fit here is j le = by_order (last_or_before j k le) where
  last_or_before : (a b : ℕ) → a ≤ b + 1 → (a ≤ b) ⊎ (a ≡ b + 1)
  last_or_before a b h = grind arith

  by_order : (j ≤ k) ⊎ (j ≡ k + 1) → SumFits columns j
  by_order (inl before) = fit j before
  by_order (inr last) = subst (λ n. SumFits columns n) (sym last) (subst (λ w. FitsSigned w128 w) is here)

-- a checked sum that is not there
pub not_added : (r : Option ℤ) (P : Type 0) (v : ℤ) → SomeIff r P v → r ≡ None → P → ⊥
not_added r P v h e = subst (λ o. SomeIff o P v) e h

-- ---- answers
pub refused_array : {X Y : Type 0} (fails : Bool) (view : X → Y) (r : Result X ColumnFileError) (e : FastLanesError) (y : Y) (c : Result Y FastLanesError) → IsErrAnd r (λ x. x ≡ Array e) → Refuses e c → c ≡ Ok y → AnswersFrom fails view r (Ok y)
refused_array fails view (Ok x) e y c is refused there = absurd is
refused_array fails view (Err x) e y c is refused there = elim (Refuses_cases e c refused) [
  | inl memory ↦ inl (inl (is ∙ ap Array memory))
  | inr wrong ↦ absurd (let never : Err e ≡ Ok y = sym wrong ∙ there in cc)
]

pub refused_chunk : {X Y Z : Type 0} (fails : Bool) (view : X → Y) (r : Result X ColumnFileError) (e : ColumnFileError) (y : Y) (z : Z) → IsErrAnd r (λ x. x ≡ e) → IsFault fails e ⊎ (◌≡◌ {A = Result Z ColumnFileError} (Ok z) (Err e)) → AnswersFrom fails view r (Ok y)
refused_chunk fails view (Ok x) e y z is h = absurd is
refused_chunk fails view (Err x) e y z is h = elim h [
  | inl fault ↦ inl (subst (λ f. IsFault fails f) (sym is) fault)
  | inr wrong ↦ absurd cc
]

-- a scan is refused as its chunk is
pub refused_scan : {X Y Z : Type 0} (now facts : ChunkFacts) (view : X → Y) (r : Result X ColumnFileError) (e : ColumnFileError) (y : Y) (z : Z) → now ≡ facts → IsErrAnd r (λ x. x ≡ e) → IsFault now.can_fail e ⊎ (◌≡◌ {A = Result Z ColumnFileError} (Ok z) (Err e)) → AnswersFrom facts.can_fail view r (Ok y)
refused_scan {Z = Z} now facts view r e y z same is h = refused_chunk facts.can_fail view r e y z is (subst (λ (f : ChunkFacts). IsFault f.can_fail e ⊎ (◌≡◌ {A = Result Z ColumnFileError} (Ok z) (Err e))) same h)

-- ---- chunks that need not be read
pub skipped_chunk : (test : ℤ → Bool) (c : Column) (s : ChunkStatistics) → s ≡ statistics_of_column c → ((d : Column) → s ≡ statistics_of_column d → All (λ z. test z ≡ false) (valid_items d)) → count_by test (valid_items c) ≡ 0
skipped_chunk test c s is says = failing test (valid_items c) (recursion_from_All (λ z. test z ≡ false) (valid_items c) (says c is))

pub taken_chunk : (test : ℤ → Bool) (c : Column) (n : ℕ) (s : ChunkStatistics) → s ≡ statistics_of_column c → ((d : Column) → s ≡ statistics_of_column d → All (λ z. test z ≡ true) (valid_items d)) → (s.null_count ≤ s.len → n + s.null_count ≡ s.len) → count_by test (valid_items c) ≡ n
taken_chunk test c n s is says less =
    let all = passing test (valid_items c) (recursion_from_All (λ z. test z ≡ true) (valid_items c) (says c is)) in
    let parts = null_or_valid c.items in
    let nulls : s.null_count ≡ count_by is_none c.items = ap (λ (t : ChunkStatistics). t.null_count) is in
    let len : s.len ≡ length c.items = ap (λ (t : ChunkStatistics). t.len) is in
    let sum : n + s.null_count ≡ s.len = less (omega arith) in
    omega arith
