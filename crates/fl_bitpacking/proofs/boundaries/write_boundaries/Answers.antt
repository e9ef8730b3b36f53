use Rattle.std.proofs.Common.{◌≡◌, ◌+◌, ◌*◌, ◌∙◌, ℕ, length, ap, take, arith}
use Rattle.std.specs.List.{sum}
use Rattle.std.proofs.lemmas.List.Sums.{sum_by-take-le}
use Rattle.fl_types.specs.Bits.{tabulate}
use Rattle.fl_bitpacking.proofs.Bounds.{one_more, sum_more}
use Rattle.fl_bitpacking.proofs.boundaries.write_boundaries.Goals as goal

pub overflow_add-start : goal.overflow_add-start
overflow_add-start c =
    let xs = c.args.widths.now in
    let i = c.loop-width.width-index in
    let small = c.requires.small in
    let next = c.loop-width.invariant.next in
    let more = sum_more xs i (c.loop-width-test.true) in
    let most = sum_by-take-le (λ x. x) xs (i + 1) in
    omega arith

pub loop-width-preserved : goal.loop-width-preserved
loop-width-preserved c =
    let xs = c.args.widths.now in
    let i = c.loop-width.width-index in
    let more = sum_more xs i (c.loop-width-test.true) in
    let next = c.loop-width.invariant.next in
    let so_far = c.loop-width.invariant.long in
    let added = c.push_reserved.ensures.len in
    record {
      next = omega arith;
      long = omega arith;
      room = c.push_reserved.ensures.capacity ∙ c.loop-width.invariant.room;
      all = one_more (λ (j : ℕ). 128 * sum (take j xs)) i c.loop-width.boundaries.items _ c.loop-width.start c.push_reserved.ensures.items c.loop-width.invariant.all next;
    }

pub returns : goal.returns
returns c =
    let xs = c.args.widths.now in
    let i = c.loop-width.width-index in
    let all : i ≡ length xs = omega (arith, c.loop-width-test.false) in
    one_more (λ (j : ℕ). 128 * sum (take j xs)) i c.loop-width.boundaries.items _ c.loop-width.start c.push_reserved-2.ensures.items c.loop-width.invariant.all c.loop-width.invariant.next ∙ ap (λ (n : ℕ). tabulate (λ (j : ℕ). 128 * sum (take j xs)) (n + 1)) all
