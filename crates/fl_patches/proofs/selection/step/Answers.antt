use Rattle.std.proofs.Common.{◌∙◌, sym, arith}
use Rattle.fl_column.specs.Numbers.{numbers_by}
use Rattle.fl_patches.proofs.Rising.{count_next, count_stays, length-numbers_by, rank_absent, rank_found}
use Rattle.fl_patches.proofs.selection.step.Goals as goal
use Rattle.fl_patches.proofs.selection.step.Goals.{else-below-indices-via-then-below-indices+else-number_at-index, else-below-indices-via-else-below-indices}

pub returns-then-number_at-index-clause-rank : goal.returns-then-number_at-index-clause-rank
returns-then-number_at-index-clause-rank g c =
    let numbers = numbers_by g.I.Number.value c.args.indices.now in
    let len = length-numbers_by g.I.Number.value c.args.indices.now in
    sym (rank_found numbers c.args.index c.args.below c.requires.rising (omega arith) (sym c.number_at.ensures ∙ c.if-number_at-index.true))

pub returns-then-number_at-index-clause-next : goal.returns-then-number_at-index-clause-next
returns-then-number_at-index-clause-next g c =
    let numbers = numbers_by g.I.Number.value c.args.indices.now in
    let len = length-numbers_by g.I.Number.value c.args.indices.now in
    sym (count_next numbers c.args.index c.args.below c.requires.rising (omega arith) (sym c.number_at.ensures ∙ c.if-number_at-index.true))

pub returns-else-below-indices-clause-rank : goal.returns-else-below-indices-clause-rank
returns-else-below-indices-clause-rank g c =
    let numbers = numbers_by g.I.Number.value c.args.indices.now in
    let len = length-numbers_by g.I.Number.value c.args.indices.now in
    elim c.else-below-indices.branch [
      | else-below-indices-via-then-below-indices+else-number_at-index w ↦ sym (rank_absent numbers c.args.index c.args.below c.requires.rising c.requires.below (λ h same. w.if-number_at-index.false (w.number_at.ensures ∙ same)))
      | else-below-indices-via-else-below-indices w ↦ sym (rank_absent numbers c.args.index c.args.below c.requires.rising c.requires.below (λ h. absurd (omega (arith, w.if-below-indices.false))))
    ]

pub returns-else-below-indices-clause-next : goal.returns-else-below-indices-clause-next
returns-else-below-indices-clause-next g c =
    let numbers = numbers_by g.I.Number.value c.args.indices.now in
    let len = length-numbers_by g.I.Number.value c.args.indices.now in
    elim c.else-below-indices.branch [
      | else-below-indices-via-then-below-indices+else-number_at-index w ↦ sym (count_stays numbers c.args.index c.args.below c.requires.rising c.requires.below (λ h same. w.if-number_at-index.false (w.number_at.ensures ∙ same)))
      | else-below-indices-via-else-below-indices w ↦ sym (count_stays numbers c.args.index c.args.below c.requires.rising c.requires.below (λ h. absurd (omega (arith, w.if-below-indices.false))))
    ]
