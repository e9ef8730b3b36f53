use Rattle.std.proofs.Common.{◌+◌, ◌∙◌, sym, arith}
use Rattle.fl_column.specs.Numbers.{numbers_by}
use Rattle.fl_patches.proofs.Rising.{count_next, count_up, length-numbers_by, rank_absent, rank_found}
use Rattle.fl_patches.proofs.indices.rank_between.Goals as goal
use Rattle.fl_patches.proofs.indices.rank_between.Goals.{else-rank-end-via-then-rank-end+else-number_at-index, else-rank-end-via-else-rank-end}

pub count_between-rank-requires-clause-high : goal.count_between-rank-requires-clause-high
count_between-rank-requires-clause-high g c =
    let high = c.requires.range.high in
    let up = count_up (numbers_by g.I.Number.value c.args.indices.now) c.args.index (c.args.index + 1) c.requires.rising (omega arith) in
    omega arith

pub returns-then-number_at-index : goal.returns-then-number_at-index
returns-then-number_at-index g c =
    let numbers = numbers_by g.I.Number.value c.args.indices.now in
    let len = length-numbers_by g.I.Number.value c.args.indices.now in
    let within = c.requires.range.within in
    sym (rank_found numbers c.args.index c.count_between-rank.result c.requires.rising (omega arith) (sym c.number_at.ensures ∙ c.if-number_at-index.true))

pub returns-else-rank-end : goal.returns-else-rank-end
returns-else-rank-end g c =
    let numbers = numbers_by g.I.Number.value c.args.indices.now in
    let rank = c.count_between-rank.result in
    let high = c.requires.range.high in
    elim c.else-rank-end.branch [
      | else-rank-end-via-then-rank-end+else-number_at-index w ↦ sym (rank_absent numbers c.args.index rank c.requires.rising c.count_between-rank.ensures (λ h same. w.if-number_at-index.false (w.number_at.ensures ∙ same)))
      | else-rank-end-via-else-rank-end w ↦ sym (rank_absent numbers c.args.index rank c.requires.rising c.count_between-rank.ensures (λ h same.
          let behind = w.if-rank-end.false in
          let next = count_next numbers c.args.index rank c.requires.rising h same in
          omega arith))
    ]
