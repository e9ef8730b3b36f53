use Rattle.std.proofs.Common.{◌≡◌, ℕ, ◌+◌, ◌-◌, ◌<◌, ◌≤◌, true, false, get_or, arith, sym, ◌∙◌}
use Rattle.std.proofs.lemmas.List.{take_all}
use Rattle.std.proofs.lemmas.Bool.{ltb-true, ltb-false}
use Rattle.std.proofs.lemmas.Bool.Decides.{nat_tests}
use Rattle.fl_column.specs.Operations.{range_fits}
use Rattle.fl_column.proofs.ListLaws.{all_more, all_fails}
use Rattle.fl_column.proofs.selection.ranges_fit.Goals as goal
use Rattle.fl_column.proofs.selection.ranges_fit.Goals.{then-start-len, else-start-len, else-count-gt0-via-then-count-gt0+else-count-len, else-count-gt0-via-else-count-gt0}

beyond : (len : ℕ) (range : ℕ × ℕ) → 0 < range.1 → len < range.0 + range.1 → range_fits len range ≡ false
beyond len range some large = grind (arith, nat_tests)

among : (len : ℕ) (range : ℕ × ℕ) → (0 < range.1 → range.0 + range.1 ≤ len) → range_fits len range ≡ true
among len range h = grind (arith, nat_tests)

pub returns-then-count-len : goal.returns-then-count-len
returns-then-count-len c =
    let range = get_or c.args.ranges.now c.loop-start.start-index (0, 0) in
    let large : c.args.len < range.0 + range.1 = elim c.if-start-len.branch [
      | then-start-len w ↦ omega arith
      | else-start-len w ↦ (let over : c.args.len - range.0 < range.1 = ltb-true _ _ (sym w.value-is ∙ c.if-count-len.true) in omega arith)
    ] in
    sym (all_fails (range_fits c.args.len) c.args.ranges.now c.loop-start.start-index (0, 0) c.loop-start-test.true (beyond c.args.len range c.if-count-gt0.true large))

pub loop-start-preserved : goal.loop-start-preserved
loop-start-preserved c =
    let range = get_or c.args.ranges.now c.loop-start.start-index (0, 0) in
    all_more (range_fits c.args.len) c.args.ranges.now c.loop-start.start-index (0, 0) c.loop-start-test.true c.loop-start.invariant (among c.args.len range (λ some. elim c.else-count-gt0.branch [
      | else-count-gt0-via-then-count-gt0+else-count-len w ↦ elim w.if-start-len.branch [
        | then-start-len w' ↦ (let low : range.0 ≤ c.args.len = ltb-false _ _ (sym w'.value-is ∙ w.if-count-len.false) in omega arith)
        | else-start-len w' ↦ (let fits : range.1 ≤ c.args.len - range.0 = ltb-false _ _ (sym w'.value-is ∙ w.if-count-len.false) in omega arith)
      ]
      | else-count-gt0-via-else-count-gt0 w ↦ omega arith
    ]))

pub returns : goal.returns
returns c = let all = take_all c.loop-start.start-index c.args.ranges.now c.loop-start-test.false in sym (rw all at c.loop-start.invariant)
