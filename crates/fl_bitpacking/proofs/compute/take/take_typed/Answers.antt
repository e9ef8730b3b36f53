use Rattle.std.proofs.Common.{arith}
use Rattle.fl_bitpacking.proofs.compute.take.take_typed.Goals as goal

pub taken_slots-requires-clause-below : goal.taken_slots-requires-clause-below
taken_slots-requires-clause-below g c = c.requires.positions.below

pub returns-clause-blocks : goal.returns-clause-blocks
returns-clause-blocks g c h =
    let few = c.requires.positions.few in
    let counted = c.in_ok-slots.ensures.blocks h in
    omega arith

pub returns-clause-words : goal.returns-clause-words
returns-clause-words g c h =
    let few = c.requires.positions.few in
    let counted = c.in_ok-slots.ensures.words h in
    omega arith
