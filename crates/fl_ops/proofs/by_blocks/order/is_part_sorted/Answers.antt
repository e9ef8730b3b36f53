use Rattle.std.proofs.Common.{◌≡◌, ◌+◌, ◌-◌, ◌<◌, ◌≤◌, ◌∙◌, get_or, length, None, option_map, ap, sym, arith}
use Rattle.fl_column.specs.Queries.{in_order}
use Rattle.fl_ops.proofs.BlockLaws.{pair_fails, pair_more, part_in_order}
use Rattle.fl_ops.proofs.by_blocks.order.is_part_sorted.Goals as goal

pub overflow_add-start : goal.overflow_add-start
overflow_add-start g c =
    let more = c.loop-i-test.true in
    let room = c.requires.read.range in
    let len = c.len-len.ensures in
    omega arith

pub loop-i-init : goal.loop-i-init
loop-i-init g c = record {
  last = λ h. let start : c.args.start + 0 - 1 ≡ c.args.start - 1 = omega arith in c.requires.before (omega arith) ∙ ap (λ k. get_or c.args.reader.now.column.items k None) (omega arith);
  pairs = λ k low high. absurd (omega arith);
}

pub loop-i-preserved : goal.loop-i-preserved
loop-i-preserved g c =
    let value = g.T.Number.value in
    let items = c.args.reader.now.column.items in
    let n = c.args.start + c.loop-i.i in
    let last = option_map value c.loop-i.last in
    let item = option_map value c.item_of-item.result in
    let place : n ≡ c.args.start + (c.loop-i.i + 1) - 1 = omega arith in
    let next : c.args.start + (c.loop-i.i + 1) ≡ n + 1 = omega arith in
    record {
      last = λ h. c.item_of-item.ensures ∙ ap (λ k. get_or items k None) place;
      pairs = λ k low high. pair_more (in_order c.args.strict) items None (c.args.start - 1) n last item c.loop-i.invariant.last c.item_of-item.ensures c.if-not-may_follow.ensures c.loop-i.invariant.pairs k low (omega arith);
    }

pub returns-then-not-may_follow : goal.returns-then-not-may_follow
returns-then-not-may_follow g c =
    let value = g.T.Number.value in
    let items = c.args.reader.now.column.items in
    let n = c.args.start + c.loop-i.i in
    let more = c.loop-i-test.true in
    let room = c.requires.read.range in
    pair_fails (in_order c.args.strict) items None (c.args.start - 1) (c.args.start + length c.args.items.now) n (option_map value c.loop-i.last) (option_map value c.item_of-item.result) room (omega arith) (omega arith)
    c.loop-i.invariant.last c.item_of-item.ensures c.if-not-may_follow.ensures

pub returns : goal.returns
returns g c =
    let items = c.args.reader.now.column.items in
    let past = c.loop-i-test.false in
    let room = c.requires.read.range in
    sym (part_in_order (in_order c.args.strict) items (c.args.start - 1) (c.args.start + length c.args.items.now) None (omega arith) room (λ k low high. c.loop-i.invariant.pairs k low (omega arith)))
