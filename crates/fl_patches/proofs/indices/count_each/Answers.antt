use Rattle.std.proofs.Common.{◌∙◌, ◌+◌, sym, ap}
use Rattle.fl_patches.proofs.Narrowed.{no_more, one_more}
use Rattle.fl_patches.proofs.indices.count_each.Goals as goal
use Rattle.fl_patches.proofs.indices.count_each.Goals.{then-is_below, else-is_below}

pub loop-k-preserved : goal.loop-k-preserved
loop-k-preserved g c =
    let value = g.I.Number.value in
    let indices = c.args.indices.now in
    let x = c.index-indices-k.result in
    let inside = c.loop-k-test.true in
    elim c.if-is_below.branch [
      | then-is_below w ↦ w.count-is ∙ (ap (λ n. n + 1) c.loop-k.invariant ∙ sym (one_more value indices c.args.limit c.loop-k.k x inside c.index-indices-k.is (sym c.is_below.ensures ∙ w.if-is_below.true)))
      | else-is_below w ↦ w.count-is ∙ (c.loop-k.invariant ∙ sym (no_more value indices c.args.limit c.loop-k.k x inside c.index-indices-k.is (sym c.is_below.ensures ∙ w.if-is_below.false)))
    ]
