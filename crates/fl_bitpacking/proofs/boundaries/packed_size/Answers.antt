use Rattle.std.proofs.Common.{◌≡◌, ◌*◌, ◌∙◌, ap, arith}
use Rattle.std.specs.List.{sum}
use Rattle.std.proofs.lemmas.List.{take_all}
use Rattle.fl_bitpacking.proofs.boundaries.packed_size.Goals as goal

pub returns : goal.returns
returns c =
    let all = take_all c.loop-width.width-index c.args.widths.now (omega arith) in
    let whole : c.loop-width.size ≡ 128 * sum c.args.widths.now = c.loop-width.invariant.sum_is ∙ ap (λ xs. 128 * sum xs) all in
    let small = c.loop-width.invariant.small in
    (omega arith, whole)
