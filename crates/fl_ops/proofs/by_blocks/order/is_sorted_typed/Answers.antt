use Rattle.std.proofs.Common.{◌≡◌, ℕ, ◌+◌, ◌-◌, ◌*◌, ◌<◌, ◌≤◌, ◌∙◌, get_or, length, min, None, ap, arith, length-take, sym}
use Rattle.fl_types.specs.Bits.{between}
use Rattle.fl_column.specs.Queries.{each_next, in_order}
use Rattle.fl_column.proofs.QueryLaws.{next_holds}
use Rattle.fl_ops.proofs.BlockLaws.{pairs_more, whole_fails}
use Rattle.fl_ops.proofs.by_blocks.order.is_sorted_typed.Goals as goal

pub loop-j-init : goal.loop-j-init
loop-j-init g c = record { last = λ h. absurd (omega arith); pairs = λ k h. absurd (omega arith) }

pub is_part_sorted-requires-clause-before : goal.is_part_sorted-requires-clause-before
is_part_sorted-requires-clause-before g c =
    λ some.
    let items = c.args.reader.now.column.items in
    let from = c.places-from.ensures.start in
    let to = c.places-from.ensures.end in
    let order = c.places-from.ensures.order in
    let end = min (1024 * c.loop-j.j - c.args.reader.now.offset) (length items) in
    let same : end ≡ c.places-from.result.0 = omega arith in
    c.loop-j.invariant.last (omega arith) ∙ ap (λ k. get_or items (k - 1) None) same

pub loop-j-preserved : goal.loop-j-preserved
loop-j-preserved g c =
    let items = c.args.reader.now.column.items in
    let offset = c.args.reader.now.offset in
    let from = c.places-from.ensures.start in
    let to = c.places-from.ensures.end in
    let order = c.places-from.ensures.order in
    let more = c.loop-j-test.true in
    let blocks = c.blocks-j-end.ensures in
    let taken = length-take (c.places-from.result.1 - c.places-from.result.0) c.loop-j.scratch in
    let kept = c.read.auto.items in
    let size : length c.read.new.items ≡ c.places-from.result.1 - c.places-from.result.0 = omega arith in
    let ends : c.places-from.result.0 + length c.read.new.items ≡ c.places-from.result.1 = omega arith in
    let before : min (1024 * c.loop-j.j - offset) (length items) ≡ c.places-from.result.0 = omega arith in
    record {
      last = λ some. c.last_of-last.ensures (omega arith) ∙ ap (λ k. get_or items (k - 1) None) (ends ∙ to);
      pairs = λ k h. pairs_more (in_order c.args.strict) items None c.places-from.result.0 c.places-from.result.1 (omega arith)
          (c.if-not-is_part_sorted.ensures ∙ ap (λ (e : ℕ). each_next (in_order c.args.strict) (between (c.places-from.result.0 - 1) e items)) ends)
          (λ m below. c.loop-j.invariant.pairs m (omega arith)) k (omega arith);
    }

pub returns-then-not-is_part_sorted : goal.returns-then-not-is_part_sorted
returns-then-not-is_part_sorted g c =
    let items = c.args.reader.now.column.items in
    let from = c.places-from.ensures.start in
    let to = c.places-from.ensures.end in
    let order = c.places-from.ensures.order in
    let taken = length-take (c.places-from.result.1 - c.places-from.result.0) c.loop-j.scratch in
    let kept = c.read.auto.items in
    let ends : c.places-from.result.0 + length c.read.new.items ≡ c.places-from.result.1 = omega arith in
    sym (whole_fails (in_order c.args.strict) items (c.places-from.result.0 - 1) c.places-from.result.1 None (omega arith) (omega arith)
    (sym (c.if-not-is_part_sorted.ensures ∙ ap (λ (e : ℕ). each_next (in_order c.args.strict) (between (c.places-from.result.0 - 1) e items)) ends)))

pub returns : goal.returns
returns g c =
    let items = c.args.reader.now.column.items in
    let past = c.loop-j-test.false in
    let blocks = c.blocks-j-end.ensures in
    sym (next_holds (in_order c.args.strict) items None (λ k h. c.loop-j.invariant.pairs k (omega arith)))
