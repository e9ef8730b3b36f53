use Rattle.std.proofs.Common.{◌≡◌, ◌<◌, ◌∙◌, arith, ap, false, get_or, length, sym, true}
use Rattle.std.specs.Prelude.{◌+ℤ◌}
use Rattle.std.proofs.lemmas.Option.{get_or_from_slice_get}
use Rattle.fl_file.specs.Statistics.{extremes_among, extremes_with, total}
use Rattle.fl_file.proofs.SummaryLaws.{extremes_kept, not_kept, total_kept}
use Rattle.fl_file.proofs.summary.summary_of_valid.Goals.{else-get, then-get}
use Rattle.fl_file.proofs.summary.summary_of_valid.Goals as goal

pub loop-i-preserved : goal.loop-i-preserved
loop-i-preserved g c =
    let value = g.T.Number.value in
    let bits = c.args.bits.now in
    let xs = c.args.items.now in
    let i = c.loop-i.i in
    let far : i < length xs = omega arith in
    let bit : get_or bits i false ≡ c.get.result = get_or_from_slice_get bits i c.get.result false c.get.ensures in
    elim c.if-get.branch [
      | then-get w ↦
          (let x = w.index-items-i.result in
          let on : get_or bits i false ≡ true = bit ∙ w.if-get.true in
          let extremes = extremes_kept value bits xs i x c.requires.bits far w.index-items-i.is on in
          let sum = total_kept value bits xs i x c.requires.bits far w.index-items-i.is on in
          let so_far = c.loop-i.invariant in
          let new = w.summary_with-summary.ensures in
          let is = w.summary-is in
          rw is (record {
            extremes = new.extremes ∙ ap (λ e. extremes_with e (value x)) so_far.extremes ∙ sym extremes;
            sum = new.sum ∙ ap (λ z. z +ℤ value x) so_far.sum ∙ sym sum;
            bound = omega (arith, new.bound, so_far.bound);
          }))
      | else-get w ↦
          (let off : get_or bits i false ≡ false = bit ∙ w.if-get.false in
          let same = not_kept value bits xs i c.requires.bits far off in
          let so_far = c.loop-i.invariant in
          rw w.summary-is (record {
            extremes = so_far.extremes ∙ ap extremes_among (sym same);
            sum = so_far.sum ∙ ap total (sym same);
            bound = omega (arith, so_far.bound);
          }))
    ]
