-- Scans, chunk by chunk.
use Rattle.std.proofs.Common.{◌≡◌, ℕ, ℤ, zero, suc, ◌+◌, ◌<◌, ◌++◌, List, [], ◌∷◌, length, take, Bool, Option, Some, None, Result, Ok, Err, IsErrAnd, ap, sym, ◌∙◌, refl, subst, arith, add-one}
use Rattle.std.specs.Prelude.{count_by, option_map}
use Rattle.std.specs.List.{slice_get}
use Rattle.std.proofs.lemmas.Option.{slice_get-map}
use Rattle.fl_column.specs.Columns.{Column}
use Rattle.fl_file.specs.Ends.{LogGrowsBy, Place}
use Rattle.fl_file.specs.Pruning.{IsPruningOf}
use Rattle.fl_file.specs.Statistics.{statistics_of_column, valid_items}
use Rattle.fl_file.specs.declared.pruning.Pruning.{Pruning}
use Rattle.fl_file.specs.declared.pruning.Test.{Test}
use Rattle.fl_file.specs.declared.statistics.ChunkStatistics.{ChunkStatistics}
use Rattle.flcol_file.specs.Chunked.{AreFactsOf, ChunkFacts, HasRead, places_of, valid_in}
use Rattle.flcol_file.specs.Plans.{ArePruningsOf, chunks_where}
use Rattle.flcol_file.proofs.ChunkSteps.{counted, next_count, whole}
use Rattle.flcol_file.proofs.PlanLaws.{one_pruning, planned, where_behind, where_here}
use Rattle.flcol_file.proofs.ReadLaws.{read_more, stopped}

-- the column of a chunk, and its statistics
pub record Chunk (facts : ChunkFacts) (columns : List Column) (k : ℕ) : Type 0 where
  pub column : Column
  pub found : slice_get columns k ≡ Some column
  pub known : slice_get facts.statistics k ≡ Some (statistics_of_column column)

column_in : (columns : List Column) (k : ℕ) → k < length columns → (c : Column) × (slice_get columns k ≡ Some c)
column_in [] k h = absurd (omega arith)
column_in (c ∷ columns) zero h = (c, refl)
column_in (c ∷ columns) (suc k) h = column_in columns k (omega arith)

pub chunk_at : (facts : ChunkFacts) (columns : List Column) (k : ℕ) → AreFactsOf facts columns → k < length facts.statistics → Chunk facts columns k
chunk_at facts columns k known h =
    let n = counted facts columns known in
    let at = column_in columns k (omega arith) in
    record { column = at.0; found = at.1; known = ap (λ ss. slice_get ss k) known.statistics ∙ (slice_get-map statistics_of_column columns k ∙ ap (option_map statistics_of_column) at.1) }

some_is : (s t : ChunkStatistics) → Some s ≡ Some t → s ≡ t
some_is s t h = cc

ok_is : (a b : ℕ) (E : Type 0) → ◌≡◌ {A = Result ℕ E} (Ok a) (Ok b) → a ≡ b
ok_is a b E h = cc

-- ---- counts
pub next_passing : (test : ℤ → Bool) (columns : List Column) (k count n : ℕ) (c : Column) (E : Type 0) → slice_get columns k ≡ Some c → ◌≡◌ {A = Result ℕ E} (Ok (count_by test (valid_items c))) (Ok n) → count ≡ count_by test (valid_in (take k columns))
    → count + n ≡ count_by test (valid_in (take (k + 1) columns))
next_passing test columns k count n c E found is so_far =
    next_count test columns k count n (ap (option_map (λ d. count_by test (valid_items d))) found ∙ ap (λ m. Some m) (ok_is (count_by test (valid_items c)) n E is)) so_far

-- ---- reads
-- a test's plan says of a chunk what its statistics say
pub says_of : (test : Test) (c : Column) (s : ChunkStatistics) (p q : Pruning) → s ≡ statistics_of_column c → IsPruningOf test s q → IsPruningOf test (statistics_of_column c) p → p ≡ q
says_of test c s p q is here plan = one_pruning test c p q plan (subst (λ (t : ChunkStatistics). IsPruningOf test t q) is here)

-- the statistics that are known of a chunk are its column's
pub statistics_are : (facts : ChunkFacts) (columns : List Column) (k : ℕ) (c : Column) (s : ChunkStatistics) → AreFactsOf facts columns → slice_get columns k ≡ Some c → slice_get facts.statistics k ≡ Some s → s ≡ statistics_of_column c
statistics_are facts columns k c s known found at =
    some_is s (statistics_of_column c) (sym at ∙ (ap (λ ss. slice_get ss k) known.statistics ∙ (slice_get-map statistics_of_column columns k ∙ ap (option_map statistics_of_column) found)))

-- the reads that a plan asks for, one chunk further
pub reads_where : (X E : Type 0) (named : Pruning → Bool) (facts now : ChunkFacts) (test : Test) (plan : List Pruning) (a b c : Option (List Place)) (k : ℕ) (column : Column) (r : Result X E) (x : X) → now ≡ facts → r ≡ Ok x → ArePruningsOf test facts.statistics plan
    → slice_get facts.statistics k ≡ Some (statistics_of_column column) → LogGrowsBy a b (places_of facts (chunks_where named 0 (take k plan)))
    → ((p : Pruning) → IsPruningOf test (statistics_of_column column) p → HasRead r now b c (chunks_where named k (p ∷ []))) → LogGrowsBy a c (places_of facts (chunks_where named 0 (take (k + 1) plan)))
reads_where X E named facts now test plan a b c k column (Err e) x same is plans known before here = absurd cc
reads_where X E named facts now test plan a b c k column (Ok y) x same is plans known before here =
    let p = planned test facts.statistics plan k (statistics_of_column column) plans known in
    let further : LogGrowsBy b c (places_of facts (chunks_where named k (p.says ∷ []))) = subst (λ (f : ChunkFacts). LogGrowsBy b c (places_of f (chunks_where named k (p.says ∷ [])))) same (here p.says p.is) in
    let parts = ap (λ n. chunks_where named 0 (take n plan)) (add-one k) ∙ where_here named 0 k k plan p.says p.found (omega arith) in
    subst (λ ks. LogGrowsBy a c (places_of facts ks)) (sym parts) (read_more facts a b c (chunks_where named 0 (take k plan)) (chunks_where named k (p.says ∷ [])) before further)

-- a scan that stops at a chunk has read some first ones of those that the plan asks for
pub stops_where : (X Y E F : Type 0) (named : Pruning → Bool) (facts now : ChunkFacts) (test : Test) (plan : List Pruning) (a b c : Option (List Place)) (k : ℕ) (column : Column) (r : Result X E) (e : E) (s : Result Y F) (f : F) → now ≡ facts → r ≡ Err e → IsErrAnd s (λ x. x ≡ f)
    → ArePruningsOf test facts.statistics plan → slice_get facts.statistics k ≡ Some (statistics_of_column column) → LogGrowsBy a b (places_of facts (chunks_where named 0 (take k plan)))
    → ((p : Pruning) → IsPruningOf test (statistics_of_column column) p → HasRead r now b c (chunks_where named k (p ∷ []))) → HasRead s facts a c (chunks_where named 0 plan)
stops_where X Y E F named facts now test plan a b c k column r e (Ok y) f same is was plans known before here = absurd was
stops_where X Y E F named facts now test plan a b c k column r e (Err g) f same is was plans known before here =
    let p = planned test facts.statistics plan k (statistics_of_column column) plans known in
    let further : HasRead r facts b c (chunks_where named k (p.says ∷ [])) = subst (λ (f : ChunkFacts). HasRead {X = X} {E = E} r f b c (chunks_where named k (p.says ∷ []))) same (here p.says p.is) in
    let behind = where_behind named 0 k k plan p.says p.found (omega arith) in
    let stop : ◌≡◌ {A = Result Y F} (Err g) (Err g) = refl in
    subst (λ ks. HasRead {X = Y} {E = F} (Err g) facts a c ks) (sym behind.parts) (stopped {X = X} {Y = Y} {E = E} {F = F} r (Err g) e g facts a b c (chunks_where named 0 (take k plan)) (chunks_where named k (p.says ∷ [])) behind.rest is stop before further)

pub plan_whole : (facts : ChunkFacts) (test : Test) (plan : List Pruning) (k : ℕ) → ArePruningsOf test facts.statistics plan → length facts.statistics ≡ k → take k plan ≡ plan
plan_whole facts test plan k plans n = subst (λ m. take m plan ≡ plan) (same facts.statistics plan plans ∙ n) (take_all plan) where
  take_all : (ps : List Pruning) → take (length ps) ps ≡ ps
  take_all [] = refl
  take_all (p ∷ ps) = ap (λ qs. p ∷ qs) (take_all ps)

  same : (ss : List ChunkStatistics) (ps : List Pruning) → ArePruningsOf test ss ps → length ps ≡ length ss
  same [] [] h = refl
  same [] (p ∷ ps) h = absurd h
  same (s ∷ ss) [] h = absurd h
  same (s ∷ ss) (p ∷ ps) h = ap suc (same ss ps h.1)
