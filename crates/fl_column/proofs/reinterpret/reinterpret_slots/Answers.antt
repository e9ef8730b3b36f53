use Rattle.std.proofs.lemmas.List.{map-id}
use Rattle.fl_column.proofs.reinterpret.reinterpret_slots.Goals as goal

pub returns-in-I8-clause-slots : goal.returns-in-I8-clause-slots
returns-in-I8-clause-slots c = rw (c.in-I8.is, ← c.as_slice-in-I8.ensures.value) (rw map-id at c.reinterpret_typed-in-I8.ensures.slots)

pub returns-in-I16-clause-slots : goal.returns-in-I16-clause-slots
returns-in-I16-clause-slots c = rw (c.in-I16.is, ← c.as_slice-in-I16.ensures.value) (rw map-id at c.reinterpret_typed-in-I16.ensures.slots)

pub returns-in-I32-clause-slots : goal.returns-in-I32-clause-slots
returns-in-I32-clause-slots c = rw (c.in-I32.is, ← c.as_slice-in-I32.ensures.value) (rw map-id at c.reinterpret_typed-in-I32.ensures.slots)

pub returns-in-I64-clause-slots : goal.returns-in-I64-clause-slots
returns-in-I64-clause-slots c = rw (c.in-I64.is, ← c.as_slice-in-I64.ensures.value) (rw map-id at c.reinterpret_typed-in-I64.ensures.slots)
