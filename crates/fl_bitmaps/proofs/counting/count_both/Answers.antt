use Rattle.std.proofs.Common.{◌≡◌, ℕ, ◌+◌, ◌*◌, ◌^◌, ◌<◌, ◌∙◌, arith, sym}
use Rattle.std.specs.Prelude.{slice_index}
use Rattle.fl_types.specs.Bits.{tabulate, true_count}
use Rattle.fl_bitmaps.proofs.CountLaws.{bit_counted, bit_left, few_counted, in_both, word_counted}
use Rattle.fl_bitmaps.proofs.counting.count_both.Goals as goal
use Rattle.fl_bitmaps.proofs.counting.count_both.Goals.{else-both_at, then-both_at}

pub loop-k-preserved : goal.loop-k-preserved
loop-k-preserved c =
    let left = c.args.left.now in
    let right = c.args.right.now in
    let k = c.loop-k.k in
    let small : (i : ℕ) → slice_index left i < 256 = λ i. omega (arith, c.type_inv.left i) in
    let few : (i : ℕ) → slice_index right i < 256 = λ i. omega (arith, c.type_inv.right i) in
    let low : c.word.result < 2 ^ 64 = omega arith in
    let counted = word_counted left right k c.word.result c.word-in-loop-k.result c.loop-k.count small few low c.word.ensures c.word-in-loop-k.ensures c.loop-k.invariant.counted in
    let most = few_counted (in_both left right) (64 * (k + 1)) in
    record { counted = counted; few = omega arith }

pub loop-i-preserved : goal.loop-i-preserved
loop-i-preserved c =
    let i = c.loop-i.i in
    let both = in_both c.args.left.now c.args.right.now in
    let before = c.loop-i.invariant.counted in
    let counted : c.if-both_at.count ≡ true_count (tabulate both (i + 1)) = elim c.if-both_at.branch [
      | then-both_at w ↦ bit_counted both i c.loop-i.count c.if-both_at.count (sym c.both_at.ensures ∙ w.if-both_at.true) before w.count-is
      | else-both_at w ↦ bit_left both i c.loop-i.count c.if-both_at.count (sym c.both_at.ensures ∙ w.if-both_at.false) before w.count-is
    ] in
    let most = few_counted both (i + 1) in
    record { counted = counted; few = omega arith }
