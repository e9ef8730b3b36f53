use Rattle.std.proofs.Common.{◌*◌, ◌<◌, ◌^◌, arith, rules}
use Rattle.fl_scan.proofs.PositionLaws.{bit_inside, positions_all, positions_more}
use Rattle.fl_scan.proofs.indices.indices_of.Goals as goal

pub push_set-requires : goal.push_set-requires
push_set-requires c =
    let more = c.loop-k-test.true in
    let words = c.div_ceil-k-end.ensures in
    let len = c.len.ensures in
    let small : c.word.result < 2 ^ 64 = search rules in
    λ j set. bit_inside c.args.bits.now c.word.result c.loop-k.k small (omega arith) (omega arith) c.word.ensures j set

pub loop-k-preserved : goal.loop-k-preserved
loop-k-preserved c =
    let more = c.loop-k-test.true in
    let words = c.div_ceil-k-end.ensures in
    let len = c.len.ensures in
    positions_more c.args.bits.now c.loop-k.positions.items c.push_set.new.positions.items c.loop-k.k c.word.result (omega arith) c.word.ensures c.in_ok-push_set.ensures c.loop-k.invariant

pub returns : goal.returns
returns c =
    let past = c.loop-k-test.false in
    let words = c.div_ceil-k-end.ensures in
    let len = c.len.ensures in
    let found = positions_all c.args.bits.now c.loop-k.positions.items (64 * c.loop-k.k) (omega arith) c.loop-k.invariant in
    search rules
