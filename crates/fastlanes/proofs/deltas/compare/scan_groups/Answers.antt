use Rattle.std.proofs.Common.{ℕ, ◌≡◌, ◌+◌, ◌-◌, ◌*◌, ◌<◌, arith, ◌∙◌, ap, sym, inl, inr}
use Rattle.std.proofs.lemmas.Bool.{cases_lt}
use Rattle.fastlanes.specs.Layout.{pattern_at}
use Rattle.fastlanes.specs.Delta.{summed_item}
use Rattle.fastlanes.specs.Compared.{IsAnswer}
use Rattle.fastlanes.proofs.RowWrites.{whole_eights}
use Rattle.fastlanes.proofs.deltas.compare.scan_groups.Goals as goal

pub loop-g-preserved : goal.loop-g-preserved
unfolding IsAnswer
loop-g-preserved g c = record {
  set = λ r m p q x e. elim (cases_lt m (16 * c.loop-g.g)) [
    | inl below ↦ rw (c.write_segments.ensures.others m below) (c.loop-g.invariant.set r m p below x e)
    | inr above ↦
        let lane : 16 * c.loop-g.g + (m - 16 * c.loop-g.g) ≡ m = omega arith in
        let near : m - 16 * c.loop-g.g < 16 = omega arith in
        let here = rw lane at (c.write_segments.ensures.put (m - 16 * c.loop-g.g) near) in
        rw here (c.scan_group.ensures.each r (m - 16 * c.loop-g.g) p near x (e ∙ ap (λ (n : ℕ). summed_item g.W.FastLanes.T (pattern_at g.W.FastLanes.pattern c.args.bases.now) (pattern_at g.W.FastLanes.pattern c.args.deltas.now) r n) (sym lane)))
  ];
}

pub returns : goal.returns
unfolding IsAnswer
returns g c r l p q x e =
    let eights = whole_eights g.W.FastLanes.T g.W.FastLanes.LANES g.met.W.FastLanes.shape in
    c.loop-g.invariant.set r l p (omega arith) x e
