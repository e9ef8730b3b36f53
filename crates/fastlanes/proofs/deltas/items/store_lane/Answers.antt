use Rattle.std.proofs.Common.{◌≡◌, ◌≢◌, ℕ, ◌+◌, ◌*◌, ◌∙◌, ap, sym, arith, inl, inr, length-set}
use Rattle.std.proofs.lemmas.Bool.{cases_eq}
use Rattle.fastlanes.specs.Layout.{pattern_at}
use Rattle.fastlanes.proofs.Patterns.{pattern_at_set_same, pattern_at_set_other}
use Rattle.fastlanes.proofs.Segments.{run_aside}
use Rattle.fastlanes.proofs.deltas.items.store_lane.Goals as goal

pub loop-k-preserved : goal.loop-k-preserved
loop-k-preserved g c =
    let to = c.args.at + c.loop-k.k in
    record {
      lane = λ m h. elim (cases_eq m c.loop-k.k) [
        | inl same ↦
            let there : c.args.at + m ≡ to = omega arith in
            pattern_at_set_same g.W.FastLanes.pattern c.loop-k.items to (c.args.at + m) c.word_of_lane.result there (omega arith)
            ∙ (c.word_of_lane.ensures ∙ ap (λ (n : ℕ). pattern_at g.W.FastLanes.pattern c.args.rows.now (16 * n + c.args.j)) (sym same))
        | inr other ↦
            let apart : c.args.at + m ≢ to = omega arith in
            pattern_at_set_other g.W.FastLanes.pattern c.loop-k.items to (c.args.at + m) c.word_of_lane.result apart ∙ c.loop-k.invariant.lane m (omega arith)
      ];
      others = λ i away. pattern_at_set_other g.W.FastLanes.pattern c.loop-k.items to i c.word_of_lane.result (run_aside c.args.at c.loop-k.k i (omega arith) away) ∙ c.loop-k.invariant.others i away;
      whole = rw length-set c.loop-k.invariant.whole;
    }
