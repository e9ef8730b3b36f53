use Rattle.std.proofs.Common.{◌≡◌, ap, get_or, length, map, refl, subst, take, ℕ, List}
use Rattle.std.proofs.lemmas.List.{take_all}
use Rattle.fl_column.specs.Operations.{range_fits, ranges_of}
use Rattle.fl_column.proofs.ListLaws.{all_at}
use Rattle.fl_column.proofs.SelectionLaws.{total_next}
use Rattle.fl_ops.specs.BlockReads.{AreFirst}
use Rattle.fl_ops.proofs.RangeReads.{no_range_yet, range_read, range_room}
use Rattle.fl_ops.proofs.by_blocks.ranges.items_of_ranges.Goals as goal

pub loop-range-init : goal.loop-range-init
loop-range-init g c = record {
  long = ap length c.in_ok-slots.ensures.items;
  first = no_range_yet g.T.Number.value c.in_ok-slots.slots.items c.args.reader.now.column c.in_ok-slots.ensures.items;
}

pub push_range-requires-clause-range : goal.push_range-requires-clause-range
push_range-requires-clause-range g c = all_at (range_fits (length c.args.reader.now.column.items)) c.args.ranges.now c.loop-range.range-index (0, 0) c.requires.ranges c.loop-range-test.true

pub push_range-requires-clause-few : goal.push_range-requires-clause-few
push_range-requires-clause-few g c = range_room c.args.ranges.now c.loop-range.range-index c.args.total (length c.loop-range.slots.items) (get_or c.args.ranges.now c.loop-range.range-index (0, 0)).1 c.loop-range-test.true c.requires.total c.loop-range.invariant.long refl

pub loop-range-preserved : goal.loop-range-preserved
loop-range-preserved g c =
    let ranges = c.args.ranges.now in
    let i = c.loop-range.range-index in
    let range = get_or ranges i (0, 0) in
    let fits = all_at (range_fits (length c.args.reader.now.column.items)) ranges i (0, 0) c.requires.ranges c.loop-range-test.true in record {
      long = total_next ranges i (length c.loop-range.slots.items) (length c.push_range.new.slots.items) c.loop-range-test.true c.loop-range.invariant.long c.in_ok-push_range.ensures.long;
      first = range_read g.T.Number.value c.args.reader.now.column ranges i range c.loop-range.slots.items c.push_range.new.slots.items refl c.loop-range-test.true fits c.in_ok-push_range.ensures.long c.in_ok-push_range.ensures.before c.in_ok-push_range.ensures.part c.loop-range.invariant.first;
    }

pub returns : goal.returns
returns g c =
    let ranges = c.args.ranges.now in
    let all : take c.loop-range.range-index ranges ≡ ranges = take_all c.loop-range.range-index ranges c.loop-range-test.false in
    subst (λ (l : List (ℕ × ℕ)). AreFirst (map g.T.Number.value c.loop-range.slots.items) (length (ranges_of l c.args.reader.now.column).items) (ranges_of l c.args.reader.now.column)) all c.loop-range.invariant.first
