use Rattle.std.proofs.Common.{◌≡◌, ℕ, subst, arith}
use Rattle.fl_scan.proofs.ListLaws.{IsSearched, found_here}
use Rattle.fl_scan.proofs.one_of.is_found.Goals as goal

pub returns-then-low-list : goal.returns-then-low-list
returns-then-low-list g c =
    let value = g.T.Number.value in
    let xs = c.args.list.now in
    let z = value c.args.item in
    let low = c.loop-low.low in
    let ended = c.loop-low-test.false in
    let order = c.loop-low.invariant.order in
    let same : c.loop-low.high ≡ low = omega arith in
    found_here value xs z low c.index-list-low.result c.is_equal.result c.requires c.if-low-list.true c.index-list-low.is c.is_equal.ensures (subst (λ (n : ℕ). IsSearched value xs z low n) same c.loop-low.invariant.searched)
