use Rattle.std.proofs.Common.{◌≡◌, ◌+◌, ◌*◌, Some, map, min, arith}
use Rattle.fl_patches.proofs.Histograms.{counts_none}
use Rattle.fl_patches.proofs.comparing.count_all.Goals as goal

pub loop-k-init : goal.loop-k-init
loop-k-init g c =
    let here : min (c.args.start + 128 * 0) c.args.end ≡ c.args.start = omega arith in
    rw here (counts_none g.T.NativePType.PTYPE (map (λ z. Some z) (map g.T.Number.value c.args.items.now)) c.args.start c.args.entries.now c.requires.empty)

pub count_group-requires-clause-counted : goal.count_group-requires-clause-counted
count_group-requires-clause-counted g c =
    let begins : min (c.args.start + 128 * c.loop-k.k) c.args.end ≡ c.args.start + 128 * c.loop-k.k = omega arith in
    rw begins at c.loop-k.invariant

pub loop-k-preserved : goal.loop-k-preserved
loop-k-preserved g c =
    let least = c.min.ensures in
    let ends : min (c.args.start + 128 * (c.loop-k.k + 1)) c.args.end ≡ c.args.start + 128 * c.loop-k.k + c.min.result = omega arith in
    rw ends c.count_group.ensures

pub returns : goal.returns
returns g c =
    let all : min (c.args.start + 128 * c.loop-k.k) c.args.end ≡ c.args.end = omega arith in
    rw all at c.loop-k.invariant
