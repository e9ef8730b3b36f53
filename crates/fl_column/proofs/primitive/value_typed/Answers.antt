use Rattle.std.proofs.Math.Nat.{le_of_lt}
use Rattle.fl_types.specs.Buffers.{integers_of}
use Rattle.fl_types.specs.Values.{integer_of}
use Rattle.fl_column.proofs.GatherLaws.{within_read, below_read, slot_read}
use Rattle.fl_column.proofs.primitive.value_typed.Goals as goal

pub offset_bounds-items-i : goal.offset_bounds-items-i
offset_bounds-items-i g c = within_read g.T.Number.value c.as_slice-items.result.now (integers_of c.args.slots.now) c.args.i c.as_slice-items.ensures (le_of_lt c.requires.range)

pub bounds-items-i : goal.bounds-items-i
bounds-items-i g c = below_read g.T.Number.value c.as_slice-items.result.now (integers_of c.args.slots.now) c.args.i c.as_slice-items.ensures c.requires.range

pub returns-clause-value : goal.returns-clause-value
returns-clause-value g c = slot_read g.T.Number.value c.as_slice-items.result.now (integers_of c.args.slots.now) c.args.i c.index-items-i.result (integer_of c.into_pvalue.result) c.as_slice-items.ensures c.requires.range c.index-items-i.is c.into_pvalue.ensures.value
