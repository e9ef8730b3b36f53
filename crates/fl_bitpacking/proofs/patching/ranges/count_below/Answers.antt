use Rattle.std.proofs.Common.{rules, of_calls, nat_lt, unsigned_abs, sym}
use Rattle.std.proofs.lemmas.Fn.{always_returns_same}
use Rattle.fl_patches.proofs.Rising.{below_first, count_from_point}
use Rattle.fl_bitpacking.proofs.patching.ranges.count_below.Goals as goal

pub returns : goal.returns
returns g c =
    let value = g.I.Number.value in
    let indices = c.args.indices.now in
    let point = c.partition_point.ensures.partitioned (λ x. nat_lt (unsigned_abs (value x)) c.args.limit) (always_returns_same _ _ _ (λ a r f k. search (rules, of_calls))) (below_first value indices c.args.limit c.requires) in
    sym (count_from_point value indices c.args.limit c.partition_point.result c.partition_point.ensures.bound point.0 point.1)
