use Rattle.std.proofs.Common.{◌≡◌, ◌∙◌, refl, get_or, map, length, sym, ap, take, is_some}
use Rattle.fl_types.specs.Validities.{items_of}
use Rattle.std.proofs.lemmas.List.{length-map}
use Rattle.fl_column.specs.Operations.{range_fits}
use Rattle.fl_types.specs.Buffers.{integers_of, ptype_of}
use Rattle.fl_column.proofs.ListLaws.{all_at, all_ranges}
use Rattle.fl_column.proofs.GatherLaws.{covers_read, ranges_more, ranges_all}
use Rattle.fl_column.proofs.SelectionLaws.{stands}
use Rattle.fl_types.proofs.Refused.{no_memory_there}
use Rattle.fl_column.proofs.selection.ranges_typed.Goals as goal

pub push_range-requires-clause-range : goal.push_range-requires-clause-range
push_range-requires-clause-range g c =
    let items = c.as_slice-items.result.now in
    let each : length items ≡ length (integers_of c.args.slots.now) = sym (length-map items g.T.Number.value) ∙ ap length c.as_slice-items.ensures in
    rw each (all_at (range_fits (length (integers_of c.args.slots.now))) c.args.ranges.now c.loop-range.range-index (0, 0) c.requires.ranges c.loop-range-test.true)

pub finish-requires : goal.finish-requires
finish-requires g c =
    let slots = integers_of c.args.slots.now in
    let items = items_of c.args.validity.now slots in
    stands c.args.validity.now slots c.nullability.result c.loop-range.taken c.nullability.ensures (λ h. rw c.loop-range.invariant (all_ranges is_some items (take c.loop-range.range-index c.args.ranges.now) h))

pub loop-range-init : goal.loop-range-init
loop-range-init g c = c.in_ok-taken.ensures.items

pub loop-range-preserved : goal.loop-range-preserved
loop-range-preserved g c = ranges_more c.args.validity.now (map g.T.Number.value c.as_slice-items.result.now) (integers_of c.args.slots.now) c.args.ranges.now c.loop-range.range-index (get_or c.args.ranges.now c.loop-range.range-index (0, 0)) c.loop-range.taken c.push_range.new.builder c.as_slice-items.ensures c.in_ok-push_range.ensures.items c.loop-range.invariant refl c.loop-range-test.true

pub push_range-requires-clause-covers : goal.push_range-requires-clause-covers
push_range-requires-clause-covers g c = covers_read g.T.Number.value c.as_slice-items.result.now (integers_of c.args.slots.now) c.args.validity.now c.as_slice-items.ensures c.requires.covers

pub returns : goal.returns
returns g c = ranges_all c.args.validity.now (integers_of c.args.slots.now) c.args.ranges.now c.loop-range.range-index g.T.NativePType.PTYPE (ptype_of c.args.slots.now) c.nullability.result c.loop-range.taken c.finish.result c.finish.ensures c.requires.same c.nullability.ensures c.loop-range.invariant c.loop-range-test.false

pub returns-in_err-taken : goal.returns-in_err-taken
returns-in_err-taken g c = no_memory_there _ c.from_residual.result _ _ c.from_residual.ensures.1 c.in_err-taken.ensures.memory

pub returns-in_err-push_range : goal.returns-in_err-push_range
returns-in_err-push_range g c = no_memory_there _ c.from_residual-in_err-push_range.result _ _ c.from_residual-in_err-push_range.ensures.1 c.in_err-push_range.ensures.memory
