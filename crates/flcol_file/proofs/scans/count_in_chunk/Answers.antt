use Rattle.std.proofs.Common.{◌≡◌, ◌≤◌, ◌+◌, ◌∙◌, [], ◌∷◌, List, Ok, ap, arith, subst, sym}
use Rattle.fl_column.specs.Columns.{Column}
use Rattle.fl_file.specs.Ends.{LogGrowsBy}
use Rattle.fl_file.specs.Pruning.{IsPruningOf, SaysOf, passes}
use Rattle.fl_file.specs.Statistics.{valid_items}
use Rattle.fl_file.specs.declared.pruning.Pruning.{Pruning}
use Rattle.fl_file.specs.declared.pruning.Pruning.TheVariants as prunings
use Rattle.flcol_file.specs.Chunked.{HasRead, places_of}
use Rattle.flcol_file.specs.Plans.{chunks_where, is_open}
use Rattle.flcol_file.specs.declared.error.ColumnFileError.{ColumnFileError}
use Rattle.flcol_file.proofs.ChunkSteps.{refused_chunk, skipped_chunk, taken_chunk}
use Rattle.flcol_file.proofs.ReadLaws.{has_read, has_read_front, log_none}
use Rattle.flcol_file.proofs.ScanSteps.{says_of, statistics_are}
use Rattle.flcol_file.proofs.scans.count_in_chunk.Goals as goal

pub returns-in-Skip-clause-count : goal.returns-in-Skip-clause-count
returns-in-Skip-clause-count g c = λ columns column holds found.
    let test = passes c.args.test.now in
    let s = c.statistics-statistics.result in
    let is = statistics_are (g.C.ColumnChunks.facts c.args.chunks.now) columns c.args.k column s (g.C.ColumnChunks.facts_hold c.args.chunks.now columns holds) found c.statistics-statistics.ensures in
    ap (λ n. Ok n) (skipped_chunk test column s is (λ (d : Column) of. subst (λ says. SaysOf says test (valid_items d)) c.in-Skip.is (c.prune.ensures.of_column d of)))

pub returns-in-All-clause-count : goal.returns-in-All-clause-count
returns-in-All-clause-count g c = λ columns column holds found.
    let test = passes c.args.test.now in
    let s = c.statistics-statistics.result in
    let less = c.saturating_sub.ensures in
    let is = statistics_are (g.C.ColumnChunks.facts c.args.chunks.now) columns c.args.k column s (g.C.ColumnChunks.facts_hold c.args.chunks.now columns holds) found c.statistics-statistics.ensures in
    ap (λ n. Ok n) (taken_chunk test column c.saturating_sub.result s is (λ (d : Column) of. subst (λ says. SaysOf says test (valid_items d)) c.in-All.is (c.prune.ensures.of_column d of)) (λ few. omega arith))

pub returns-in-Skip-clause-read : goal.returns-in-Skip-clause-read
returns-in-Skip-clause-read g c = λ columns column p holds found plan.
    let facts = g.C.ColumnChunks.facts c.args.chunks.now in
    let log = g.C.ColumnChunks.reads c.args.chunks.now in
    let s = c.statistics-statistics.result in
    let is = statistics_are facts columns c.args.k column s (g.C.ColumnChunks.facts_hold c.args.chunks.now columns holds) found c.statistics-statistics.ensures in
    let here : IsPruningOf c.args.test.now s c.prune.result = record { sound = c.prune.ensures.sound; no_item = c.prune.ensures.no_item; exact = c.prune.ensures.exact } in
    let same : p ≡ prunings.Skip = says_of c.args.test.now column s p c.prune.result is here plan ∙ c.in-Skip.is in
    subst (λ (x : Pruning). LogGrowsBy log log (places_of facts (chunks_where is_open c.args.k (x ∷ [])))) (sym same) (log_none log)

pub returns-in-All-clause-read : goal.returns-in-All-clause-read
returns-in-All-clause-read g c = λ columns column p holds found plan.
    let facts = g.C.ColumnChunks.facts c.args.chunks.now in
    let log = g.C.ColumnChunks.reads c.args.chunks.now in
    let s = c.statistics-statistics.result in
    let is = statistics_are facts columns c.args.k column s (g.C.ColumnChunks.facts_hold c.args.chunks.now columns holds) found c.statistics-statistics.ensures in
    let here : IsPruningOf c.args.test.now s c.prune.result = record { sound = c.prune.ensures.sound; no_item = c.prune.ensures.no_item; exact = c.prune.ensures.exact } in
    let same : p ≡ prunings.All = says_of c.args.test.now column s p c.prune.result is here plan ∙ c.in-All.is in
    subst (λ (x : Pruning). LogGrowsBy log log (places_of facts (chunks_where is_open c.args.k (x ∷ [])))) (sym same) (log_none log)

pub returns-in_err-array-in-Some-clause-count : goal.returns-in_err-array-in-Some-clause-count
returns-in_err-array-in-Some-clause-count g c = λ columns column holds found.
    refused_chunk (g.C.ColumnChunks.facts c.args.chunks.now).can_fail (λ n. n) c.from_residual.result c.in_err-array-in-Some.field-0.0 _ column c.from_residual.ensures.1 (c.in_err-array-in-Some.ensures.array columns column holds found)

pub returns-in_err-array-in-Some-clause-read : goal.returns-in_err-array-in-Some-clause-read
returns-in_err-array-in-Some-clause-read g c = λ columns column p holds found plan.
    let facts = g.C.ColumnChunks.facts c.args.chunks.now in
    let s = c.statistics-statistics.result in
    let is = statistics_are facts columns c.args.k column s (g.C.ColumnChunks.facts_hold c.args.chunks.now columns holds) found c.statistics-statistics.ensures in
    let here : IsPruningOf c.args.test.now s c.prune.result = record { sound = c.prune.ensures.sound; no_item = c.prune.ensures.no_item; exact = c.prune.ensures.exact } in
    let same : p ≡ prunings.Some = says_of c.args.test.now column s p c.prune.result is here plan ∙ c.in-Some.is in
    subst (λ (x : Pruning). HasRead c.from_residual.result facts (g.C.ColumnChunks.reads c.args.chunks.now) (g.C.ColumnChunks.reads c.array.new.self) (chunks_where is_open c.args.k (x ∷ []))) (sym same)
    (has_read_front c.from_residual.result c.in_err-array-in-Some.field-0.0 facts (g.C.ColumnChunks.reads c.args.chunks.now) (g.C.ColumnChunks.reads c.array.new.self) (c.args.k ∷ []) c.from_residual.ensures.1 c.in_err-array-in-Some.ensures.read)

pub returns-in_err-count_passing-in-Some-clause-read : goal.returns-in_err-count_passing-in-Some-clause-read
returns-in_err-count_passing-in-Some-clause-read g c = λ columns column p holds found plan.
    let facts = g.C.ColumnChunks.facts c.args.chunks.now in
    let s = c.statistics-statistics.result in
    let is = statistics_are facts columns c.args.k column s (g.C.ColumnChunks.facts_hold c.args.chunks.now columns holds) found c.statistics-statistics.ensures in
    let here : IsPruningOf c.args.test.now s c.prune.result = record { sound = c.prune.ensures.sound; no_item = c.prune.ensures.no_item; exact = c.prune.ensures.exact } in
    let same : p ≡ prunings.Some = says_of c.args.test.now column s p c.prune.result is here plan ∙ c.in-Some.is in
    let r = c.from_residual-in_err-count_passing-in-Some.result in
    subst (λ (x : Pruning). HasRead r facts (g.C.ColumnChunks.reads c.args.chunks.now) (g.C.ColumnChunks.reads c.array.new.self) (chunks_where is_open c.args.k (x ∷ []))) (sym same)
    (has_read r facts (g.C.ColumnChunks.reads c.args.chunks.now) (g.C.ColumnChunks.reads c.array.new.self) (c.args.k ∷ []) c.in_ok-array-in-Some.ensures.read)

pub returns-in_ok-count_passing-in-Some-clause-read : goal.returns-in_ok-count_passing-in-Some-clause-read
returns-in_ok-count_passing-in-Some-clause-read g c = λ columns column p holds found plan.
    let facts = g.C.ColumnChunks.facts c.args.chunks.now in
    let s = c.statistics-statistics.result in
    let is = statistics_are facts columns c.args.k column s (g.C.ColumnChunks.facts_hold c.args.chunks.now columns holds) found c.statistics-statistics.ensures in
    let here : IsPruningOf c.args.test.now s c.prune.result = record { sound = c.prune.ensures.sound; no_item = c.prune.ensures.no_item; exact = c.prune.ensures.exact } in
    let same : p ≡ prunings.Some = says_of c.args.test.now column s p c.prune.result is here plan ∙ c.in-Some.is in
    subst (λ (x : Pruning). LogGrowsBy (g.C.ColumnChunks.reads c.args.chunks.now) (g.C.ColumnChunks.reads c.array.new.self) (places_of facts (chunks_where is_open c.args.k (x ∷ [])))) (sym same) c.in_ok-array-in-Some.ensures.read
