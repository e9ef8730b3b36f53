-- Plans, and the chunks that they leave open.
use Rattle.std.proofs.Common.{◌≡◌, ℕ, ℤ, zero, suc, ◌+◌, ◌++◌, List, [], ◌∷◌, length, take, map, Bool, true, false, Option, Some, None, ap, sym, ◌∙◌, refl, subst, arith, add-one, append_assoc}
use Rattle.std.specs.Prelude.{if◌then◌else◌, ◌≤ℤ◌, All, Contains, fold, option_map}
use Rattle.std.specs.Int.{int_max, int_min}
use Rattle.std.specs.List.{slice_get}
use Rattle.std.proofs.lemmas.Int.{ints}
use Rattle.std.proofs.lemmas.Int.{fold-int_max_bounds, fold-int_min_bounds}
use Rattle.fl_column.specs.Columns.{Column}
use Rattle.fl_file.specs.Pruning.{EachAnswers, IsAnswered, IsExact, IsPruningOf, passes}
use Rattle.fl_file.specs.Statistics.{extremes_among, statistics_of_column, valid_items}
use Rattle.fl_file.specs.declared.pruning.Pruning.{Pruning}
use Rattle.fl_file.specs.declared.pruning.Pruning.TheVariants as prunings
use Rattle.fl_file.specs.declared.pruning.Test.{Test}
use Rattle.fl_file.specs.declared.statistics.ChunkStatistics.{ChunkStatistics}
use Rattle.fl_file.specs.declared.statistics.Extremes.{Extremes}
use Rattle.flcol_file.specs.Plans.{ArePruningsOf, chunks_where}

-- ---- what statistics say of a test is one answer
both_answers : (b : Bool) → b ≡ true → b ≡ false → ⊥
both_answers b p q = absurd cc

pub one_answer : (test : ℤ → Bool) (p q : Pruning) (least greatest : ℤ) → least ≤ℤ greatest → IsExact p test least greatest → IsExact q test least greatest → p ≡ q
one_answer test prunings.Skip prunings.Skip least greatest order a b = refl
one_answer test prunings.Skip prunings.All least greatest order a b = absurd (both_answers (test least) (b least (omega (arith, ints)) order) (a least (omega (arith, ints)) order))
one_answer test prunings.Skip prunings.Some least greatest order a b = let x = b.0 in absurd (both_answers (test x.integer) x.answered (a x.integer x.from_least x.to_greatest))
one_answer test prunings.All prunings.Skip least greatest order a b = absurd (both_answers (test least) (a least (omega (arith, ints)) order) (b least (omega (arith, ints)) order))
one_answer test prunings.All prunings.All least greatest order a b = refl
one_answer test prunings.All prunings.Some least greatest order a b = let x = b.1 in absurd (both_answers (test x.integer) (a x.integer x.from_least x.to_greatest) x.answered)
one_answer test prunings.Some prunings.Skip least greatest order a b = let x = a.0 in absurd (both_answers (test x.integer) x.answered (b x.integer x.from_least x.to_greatest))
one_answer test prunings.Some prunings.All least greatest order a b = let x = a.1 in absurd (both_answers (test x.integer) (b x.integer x.from_least x.to_greatest) x.answered)
one_answer test prunings.Some prunings.Some least greatest order a b = refl

in_order : (z : ℤ) (zs : List ℤ) → fold int_min z zs ≤ℤ fold int_max z zs
in_order z zs =
    let low = fold-int_min_bounds z zs (fold int_min z zs) refl in
    let high = fold-int_max_bounds z zs (fold int_max z zs) refl in
    let a : fold int_min z zs ≤ℤ z = low.0 in
    let b : z ≤ℤ fold int_max z zs = high.0 in
    grind (arith, ints)

answer_of : (test : Test) (s : ChunkStatistics) (zs : List ℤ) (p q : Pruning) → s.extremes ≡ extremes_among zs → IsPruningOf test s p → IsPruningOf test s q → p ≡ q
answer_of test s [] p q is a b = a.no_item is ∙ sym (b.no_item is)
answer_of test s (z ∷ zs) p q is a b =
    let e : Extremes = record { least = fold int_min z zs; greatest = fold int_max z zs } in
    one_answer (passes test) p q e.least e.greatest (in_order z zs) (a.exact e is (in_order z zs)) (b.exact e is (in_order z zs))

-- the statistics of a column say one thing of a test
pub one_pruning : (test : Test) (c : Column) (p q : Pruning) → IsPruningOf test (statistics_of_column c) p → IsPruningOf test (statistics_of_column c) q → p ≡ q
one_pruning test c p q a b = answer_of test (statistics_of_column c) (valid_items c) p q refl a b

-- ---- plans
-- what a plan says of a chunk
pub record Planned (test : Test) (s : ChunkStatistics) (plan : List Pruning) (k : ℕ) : Type 0 where
  pub says : Pruning
  pub found : slice_get plan k ≡ Some says
  pub is : IsPruningOf test s says

some_same : {A : Type 0} (d e : A) → Some d ≡ Some e → d ≡ e
some_same d e h = cc

pub planned : (test : Test) (statistics : List ChunkStatistics) (plan : List Pruning) (k : ℕ) (s : ChunkStatistics) → ArePruningsOf test statistics plan → slice_get statistics k ≡ Some s → Planned test s plan k
planned test [] plan k s h found = absurd (let wrong : None ≡ Some s = found in cc)
planned test (t ∷ statistics) [] k s h found = absurd h
planned test (t ∷ statistics) (p ∷ plan) zero s h found = record { says = p; found = refl; is = subst (λ x. IsPruningOf test x p) (some_same t s found) h.0 }
planned test (t ∷ statistics) (p ∷ plan) (suc k) s h found = let rest = planned test statistics plan k s h.1 found in record { says = rest.says; found = rest.found; is = rest.is }

-- the chunks that a plan names
one_by : (b : Bool) (k : ℕ) (ks : List ℕ) → (if b then k ∷ ks else ks) ≡ (if b then k ∷ [] else []) ++ ks
one_by true k ks = refl
one_by false k ks = refl

one_where : (test : Pruning → Bool) (k : ℕ) (p : Pruning) (plan : List Pruning) → chunks_where test k (p ∷ plan) ≡ chunks_where test k (p ∷ []) ++ chunks_where test (suc k) plan
one_where test k p plan = one_by (test p) k (chunks_where test (suc k) plan)

pub where_here : (test : Pruning → Bool) (from k j : ℕ) (plan : List Pruning) (p : Pruning) → slice_get plan k ≡ Some p → j ≡ from + k → chunks_where test from (take (suc k) plan) ≡ chunks_where test from (take k plan) ++ chunks_where test j (p ∷ [])
where_here test from k j [] p found is = absurd (let wrong : None ≡ Some p = found in cc)
where_here test from zero j (q ∷ plan) p found is = let here : j ≡ from = omega arith in ap (λ x. chunks_where test from (x ∷ [])) (some_same q p found) ∙ ap (λ n. chunks_where test n (p ∷ [])) (sym here)
where_here test from (suc k) j (q ∷ plan) p found is =
    one_where test from q (take (suc k) plan)
    ∙ (ap (λ ks. chunks_where test from (q ∷ []) ++ ks) (where_here test (suc from) k j plan p found (omega arith))
    ∙ (sym (append_assoc (chunks_where test from (q ∷ [])) (chunks_where test (suc from) (take k plan)) (chunks_where test j (p ∷ []))) ∙ ap (λ ks. ks ++ chunks_where test j (p ∷ [])) (sym (one_where test from q (take k plan)))))

-- the chunks behind a place of a plan
pub record Behind (whole before here : List ℕ) : Type 0 where
  pub rest : List ℕ
  pub parts : whole ≡ before ++ (here ++ rest)

pub where_behind : (test : Pruning → Bool) (from k j : ℕ) (plan : List Pruning) (p : Pruning) → slice_get plan k ≡ Some p → j ≡ from + k → Behind (chunks_where test from plan) (chunks_where test from (take k plan)) (chunks_where test j (p ∷ []))
where_behind test from k j [] p found is = absurd (let wrong : None ≡ Some p = found in cc)
where_behind test from zero j (q ∷ plan) p found is = let here : j ≡ from = omega arith in record {
  rest = chunks_where test (suc from) plan;
  parts = one_where test from q plan ∙ ap (λ ks. ks ++ chunks_where test (suc from) plan) (ap (λ x. chunks_where test from (x ∷ [])) (some_same q p found) ∙ ap (λ n. chunks_where test n (p ∷ [])) (sym here));
}
where_behind test from (suc k) j (q ∷ plan) p found is =
    let b = where_behind test (suc from) k j plan p found (omega arith) in record {
      rest = b.rest;
      parts =
          one_where test from q plan
          ∙ (ap (λ ks. chunks_where test from (q ∷ []) ++ ks) b.parts
          ∙ (sym (append_assoc (chunks_where test from (q ∷ [])) (chunks_where test (suc from) (take k plan)) (chunks_where test j (p ∷ []) ++ b.rest)) ∙ ap (λ ks. ks ++ (chunks_where test j (p ∷ []) ++ b.rest)) (sym (one_where test from q (take k plan)))));
    }
