use Rattle.std.proofs.Common.{◌+◌, ◌≤◌, ◌∙◌, List, ap, length, arith, rules}
use Rattle.fl_column.specs.Columns.{Column}
use Rattle.flcol_file.specs.Chunked.{items_in}
use Rattle.flcol_file.proofs.ChunkSteps.{known_at, next_len, whole}
use Rattle.flcol_file.proofs.scans.len_trusting.Goals as goal

pub loop-k-preserved : goal.loop-k-preserved
loop-k-preserved g c =
    let small : c.statistics.result.len ≤ 18446744073709551615 = search rules in
    let few = c.loop-k.invariant.1 in
    let from = c.from-len.ensures in (
      λ (columns : List Column) holds.
          let known = g.C.ColumnChunks.facts_hold c.args.chunks.now columns holds in
          ap (λ n. c.loop-k.len + n) from ∙ next_len columns c.loop-k.k c.loop-k.len c.statistics.result (known_at (g.C.ColumnChunks.facts c.args.chunks.now) columns c.loop-k.k c.statistics.result known c.statistics.ensures) (c.loop-k.invariant.0 columns holds),
      omega arith,
    )

pub returns : goal.returns
returns g c = λ (columns : List Column) holds.
    let known = g.C.ColumnChunks.facts_hold c.args.chunks.now columns holds in
    c.loop-k.invariant.0 columns holds ∙ ap (λ cs. length (items_in cs)) (whole (g.C.ColumnChunks.facts c.args.chunks.now) columns c.loop-k.k known (omega arith))
