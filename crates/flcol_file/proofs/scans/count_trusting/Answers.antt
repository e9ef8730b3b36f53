use Rattle.std.proofs.Common.{◌≡◌, ◌+◌, ◌≤◌, ◌<◌, ◌∙◌, ℕ, List, Ok, ap, arith, refl, rules, subst, sym}
use Rattle.std.specs.Prelude.{count_by}
use Rattle.fl_column.specs.Columns.{Column}
use Rattle.fl_file.specs.Ends.{LogGrowsBy}
use Rattle.fl_file.specs.Pruning.{passes}
use Rattle.fl_file.specs.declared.pruning.Pruning.{Pruning}
use Rattle.flcol_file.specs.Chunked.{places_of, valid_in}
use Rattle.flcol_file.specs.Plans.{chunks_where, is_open}
use Rattle.flcol_file.specs.declared.error.ColumnFileError.{ColumnFileError}
use Rattle.flcol_file.proofs.ChunkSteps.{refused_scan, whole}
use Rattle.flcol_file.proofs.ScanSteps.{chunk_at, next_passing, plan_whole, reads_where, stops_where}
use Rattle.flcol_file.proofs.scans.count_trusting.Goals as goal

pub loop-k-preserved : goal.loop-k-preserved
loop-k-preserved g c =
    let test = passes c.args.test.now in
    let facts = g.C.ColumnChunks.facts c.args.chunks.now in
    let n = c.in_ok-count_in_chunk.field-0 in
    let few = c.loop-k.invariant.few in
    let from = c.from.ensures in
    let below = subst (λ (m : ℕ). c.loop-k.k < m) c.chunk_count-k-end.ensures c.loop-k-test.true in
    let small : n ≤ 18446744073709551615 = search rules in record {
      facts = c.in_ok-count_in_chunk.ensures.facts ∙ c.loop-k.invariant.facts;
      holds = λ columns holds. c.in_ok-count_in_chunk.ensures.holds columns (c.loop-k.invariant.holds columns holds);
      counted = λ columns holds.
          let at = chunk_at facts columns c.loop-k.k (g.C.ColumnChunks.facts_hold c.args.chunks.now columns holds) below in
          ap (λ m. c.loop-k.count + m) from ∙ next_passing test columns c.loop-k.k c.loop-k.count n at.column ColumnFileError at.found (c.in_ok-count_in_chunk.ensures.count columns at.column (c.loop-k.invariant.holds columns holds) at.found) (c.loop-k.invariant.counted columns holds);
      read = λ columns plan holds plans.
          let at = chunk_at facts columns c.loop-k.k (g.C.ColumnChunks.facts_hold c.args.chunks.now columns holds) below in
          reads_where ℕ ColumnFileError is_open facts (g.C.ColumnChunks.facts c.loop-k.chunks) c.args.test.now plan (g.C.ColumnChunks.reads c.args.chunks.now) (g.C.ColumnChunks.reads c.loop-k.chunks) (g.C.ColumnChunks.reads c.count_in_chunk.new.chunks) c.loop-k.k at.column (Ok n) n c.loop-k.invariant.facts refl plans at.known (c.loop-k.invariant.read columns plan holds plans)
          (λ p is. c.in_ok-count_in_chunk.ensures.read columns at.column p (c.loop-k.invariant.holds columns holds) at.found is);
      few = omega arith;
    }

pub returns-in_err-count_in_chunk-clause-count : goal.returns-in_err-count_in_chunk-clause-count
returns-in_err-count_in_chunk-clause-count g c = λ columns holds.
    let facts = g.C.ColumnChunks.facts c.args.chunks.now in
    let below = subst (λ (m : ℕ). c.loop-k.k < m) c.chunk_count-k-end.ensures c.loop-k-test.true in
    let at = chunk_at facts columns c.loop-k.k (g.C.ColumnChunks.facts_hold c.args.chunks.now columns holds) below in
    refused_scan (g.C.ColumnChunks.facts c.loop-k.chunks) facts (λ n. n) c.from_residual.result c.in_err-count_in_chunk.field-0.0 _ _ c.loop-k.invariant.facts c.from_residual.ensures.1 (c.in_err-count_in_chunk.ensures.count columns at.column (c.loop-k.invariant.holds columns holds) at.found)

pub returns-in_err-count_in_chunk-clause-read : goal.returns-in_err-count_in_chunk-clause-read
returns-in_err-count_in_chunk-clause-read g c = λ columns plan holds plans.
    let facts = g.C.ColumnChunks.facts c.args.chunks.now in
    let below = subst (λ (m : ℕ). c.loop-k.k < m) c.chunk_count-k-end.ensures c.loop-k-test.true in
    let at = chunk_at facts columns c.loop-k.k (g.C.ColumnChunks.facts_hold c.args.chunks.now columns holds) below in
    let e = c.in_err-count_in_chunk.field-0.0 in
    stops_where ℕ ℕ ColumnFileError ColumnFileError is_open facts (g.C.ColumnChunks.facts c.loop-k.chunks) c.args.test.now plan (g.C.ColumnChunks.reads c.args.chunks.now) (g.C.ColumnChunks.reads c.loop-k.chunks) (g.C.ColumnChunks.reads c.count_in_chunk.new.chunks) c.loop-k.k at.column c.count_in_chunk.result e c.from_residual.result e c.loop-k.invariant.facts c.in_err-count_in_chunk.was c.from_residual.ensures.1
    plans at.known (c.loop-k.invariant.read columns plan holds plans) (λ p is. c.count_in_chunk.ensures.read columns at.column p (c.loop-k.invariant.holds columns holds) at.found is)

pub returns-clause-read : goal.returns-clause-read
returns-clause-read g c = λ columns plan holds plans.
    let facts = g.C.ColumnChunks.facts c.args.chunks.now in
    let log = c.loop-k.invariant.read columns plan holds plans in
    let n = c.chunk_count-k-end.ensures in
    subst (λ (ps : List Pruning). LogGrowsBy (g.C.ColumnChunks.reads c.args.chunks.now) (g.C.ColumnChunks.reads c.loop-k.chunks) (places_of facts (chunks_where is_open 0 ps))) (plan_whole facts c.args.test.now plan c.loop-k.k plans (omega arith)) log
