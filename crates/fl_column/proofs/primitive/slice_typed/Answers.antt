use Rattle.std.proofs.Math.Nat.{le_trans}
use Rattle.fl_types.specs.Buffers.{integers_of}
use Rattle.fl_column.proofs.GatherLaws.{within_read, part_read}
use Rattle.fl_column.proofs.primitive.slice_typed.Goals as goal

pub offset_bounds-items-start : goal.offset_bounds-items-start
offset_bounds-items-start g c = within_read g.T.Number.value c.as_slice-items.result.now (integers_of c.args.slots.now) c.args.start c.as_slice-items.ensures (le_trans c.requires.order c.requires.range)

pub slice_bounds-from_slice-end : goal.slice_bounds-from_slice-end
slice_bounds-from_slice-end g c = within_read g.T.Number.value c.as_slice-items.result.now (integers_of c.args.slots.now) c.args.end c.as_slice-items.ensures c.requires.range

pub returns-clause-slots : goal.returns-clause-slots
returns-clause-slots g c = part_read g.T.Number.value c.as_slice-items.result.now c.in_ok-from_slice.field-0.items (integers_of c.args.slots.now) (integers_of c.into_buffer.result) c.args.start c.args.end c.as_slice-items.ensures c.in_ok-from_slice.ensures.items c.into_buffer.ensures.slots
