use Rattle.std.proofs.Common.{◌≢◌, ◌<◌, arith, ◌∙◌, ap, sym, subst, inl, inr, length-set, length}
use Rattle.std.proofs.lemmas.Bool.{cases_eq}
use Rattle.fastlanes.proofs.Patterns.{pattern_at_set_same, pattern_at_set_other, pattern_at_read}
use Rattle.fastlanes.proofs.ComparedBits.{lone_bit}
use Rattle.fastlanes.proofs.compare.compare_lanes.Goals as goal

pub loop-j-preserved : goal.loop-j-preserved
loop-j-preserved g c =
    let room : c.loop-j.j < length c.loop-j.words = omega arith in
    let lone = lone_bit _ c.args.r _ c.cmp.result c.zero.ensures c.with_bit.ensures in
    record {
      one = λ k h. elim (cases_eq k c.loop-j.j) [
        | inl same ↦ rw (pattern_at_set_same g.W.FastLanes.pattern c.loop-j.words c.loop-j.j k c.with_bit.result same room) lone.1
        | inr other ↦ rw (pattern_at_set_other g.W.FastLanes.pattern c.loop-j.words c.loop-j.j k c.with_bit.result other) (c.loop-j.invariant.one k (omega arith))
      ];
      set = λ k h x e. elim (cases_eq k c.loop-j.j) [
        | inl same ↦
            let read = pattern_at_read g.W.FastLanes.pattern c.loop-j.words c.loop-j.j c.index-words-j.result room c.index-words-j.is in
            let loaded = c.loop-j.invariant.rest c.loop-j.j (omega arith) (omega arith) in
            let alike = sym c.index-words-j.is ∙ g.met.W.FastLanes.one_word c.index-words-j.result x (sym read ∙ (loaded ∙ (ap (g.W.FastLanes.lane c.args.row) (sym same) ∙ sym e))) in
            rw (pattern_at_set_same g.W.FastLanes.pattern c.loop-j.words c.loop-j.j k c.with_bit.result same room, lone.0)
            (subst (λ y. goal.F-post g c.args.cmp.now y c.args.rhs c.cmp.result) alike c.cmp.ensures)
        | inr other ↦ rw (pattern_at_set_other g.W.FastLanes.pattern c.loop-j.words c.loop-j.j k c.with_bit.result other) (c.loop-j.invariant.set k (omega arith) x e)
      ];
      rest = λ k p q. let other : k ≢ c.loop-j.j = omega arith in pattern_at_set_other g.W.FastLanes.pattern c.loop-j.words c.loop-j.j k c.with_bit.result other ∙ c.loop-j.invariant.rest k (omega arith) q;
      whole = rw length-set c.loop-j.invariant.whole;
    }
