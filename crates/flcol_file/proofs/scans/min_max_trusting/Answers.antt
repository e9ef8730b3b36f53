use Rattle.std.proofs.Common.{◌∙◌, List, ap, arith}
use Rattle.fl_column.specs.Columns.{Column}
use Rattle.fl_file.specs.Statistics.{extremes_among}
use Rattle.flcol_file.specs.Chunked.{valid_in}
use Rattle.flcol_file.proofs.ChunkSteps.{known_at, next_extremes, whole}
use Rattle.flcol_file.proofs.scans.min_max_trusting.Goals as goal

pub loop-k-preserved : goal.loop-k-preserved
loop-k-preserved g c = λ (columns : List Column) holds.
    let known = g.C.ColumnChunks.facts_hold c.args.chunks.now columns holds in
    next_extremes columns c.loop-k.k c.loop-k.extremes c.extremes_of_both-extremes.result c.statistics.result (known_at (g.C.ColumnChunks.facts c.args.chunks.now) columns c.loop-k.k c.statistics.result known c.statistics.ensures) (c.loop-k.invariant columns holds) c.extremes_of_both-extremes.ensures

pub returns : goal.returns
returns g c = λ (columns : List Column) holds.
    let known = g.C.ColumnChunks.facts_hold c.args.chunks.now columns holds in
    c.loop-k.invariant columns holds ∙ ap (λ cs. extremes_among (valid_in cs)) (whole (g.C.ColumnChunks.facts c.args.chunks.now) columns c.loop-k.k known (omega arith))
