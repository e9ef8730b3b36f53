use Rattle.std.proofs.Common.{◌≡◌, ◌+◌, ◌-◌, ◌<◌, ◌≤◌, sum, drop, length, get_or, arith, refl, sym, subst}
use Rattle.std.proofs.lemmas.List.Sums.{get_or-le-sum_by}
use Rattle.fl_patches.specs.Costs.{cost_of}
use Rattle.fl_patches.proofs.LeastCosts.{above_next, best_is, best_none, cost_at, first_least_one, first_least_keeps, first_least_takes, IsFirstLeast}
use Rattle.fl_patches.proofs.best_width.least_cost.Goals as goal
use Rattle.fl_patches.proofs.best_width.least_cost.Goals.{then-bytes-least, else-bytes-least}

pub returns-then-histogram-eq0 : goal.returns-then-histogram-eq0
returns-then-histogram-eq0 c = best_none c.args.ptype c.args.histogram.now (omega arith)

pub loop-width-init : goal.loop-width-init
loop-width-init c =
    let h = c.args.histogram.now in
    let some : 0 < length h = omega arith in
    let next : sum (drop 0 h) ≡ get_or h 0 0 + sum (drop 1 h) = above_next h 0 (get_or h 0 0) 0 some refl in
    let above : c.total-count.result - get_or h 0 0 ≡ sum (drop 1 h) = omega (arith, next) in
    record {
      above = above;
      fits = omega arith;
      best = first_least_one _;
      least = cost_at c.args.ptype h c.exception_bytes-each.result 0 c.total-count.result _ _ c.exception_bytes-each.ensures.value c.total-count.ensures.value above c.cost-least.ensures;
    }

pub loop-width-preserved : goal.loop-width-preserved
loop-width-preserved c =
    let h = c.args.histogram.now in
    let i = c.loop-width.width in
    let next : sum (drop i h) ≡ get_or h i 0 + sum (drop (i + 1) h) = above_next h i (get_or h i 0) 0 (omega arith) refl in
    let above : c.loop-width.above - get_or h i 0 ≡ sum (drop (i + 1) h) = omega (arith, next) in
    let bytes : c.cost-bytes.result ≡ cost_of c.args.ptype h i = cost_at c.args.ptype h c.exception_bytes-each.result i c.total-count.result _ _ c.exception_bytes-each.ensures.value c.total-count.ensures.value above c.cost-bytes.ensures in
    record {
      above = above;
      fits = omega arith;
      best = elim c.if-bytes-least.branch [
        | then-bytes-least w ↦ rw w.best-is (first_least_takes (cost_of c.args.ptype h) i c.loop-width.best c.loop-width.invariant.best (omega arith))
        | else-bytes-least w ↦ rw w.best-is (first_least_keeps (cost_of c.args.ptype h) i c.loop-width.best c.loop-width.invariant.best (omega arith))
      ];
      least = elim c.if-bytes-least.branch [
        | then-bytes-least w ↦ rw (w.best-is, w.least-is) bytes
        | else-bytes-least w ↦ rw (w.best-is, w.least-is) c.loop-width.invariant.least
      ];
    }

pub returns : goal.returns
returns c =
    let h = c.args.histogram.now in
    let e : c.loop-width.width ≡ length h = omega arith in
    sym (best_is c.args.ptype h c.loop-width.best (let all : IsFirstLeast (cost_of c.args.ptype h) (length h) c.loop-width.best = subst (λ n. IsFirstLeast (cost_of c.args.ptype h) n c.loop-width.best) e c.loop-width.invariant.best in all))

pub overflow_sub-above : goal.overflow_sub-above
overflow_sub-above c =
    let part : get_or c.args.histogram.now 0 0 ≤ sum c.args.histogram.now = get_or-le-sum_by (λ x. x) c.args.histogram.now 0 0 (omega arith) in
    omega (arith, c.total-count.ensures.value)

pub overflow_sub-above-in-loop-width : goal.overflow_sub-above-in-loop-width
overflow_sub-above-in-loop-width c =
    let h = c.args.histogram.now in
    let i = c.loop-width.width in
    let next : sum (drop i h) ≡ get_or h i 0 + sum (drop (i + 1) h) = above_next h i (get_or h i 0) 0 (omega arith) refl in
    omega (arith, next, c.loop-width.invariant.above)
