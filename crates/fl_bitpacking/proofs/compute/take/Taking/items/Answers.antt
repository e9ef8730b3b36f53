use Rattle.std.proofs.Common.{refl, sym}
use Rattle.fl_bitpacking.proofs.TakenColumns.{full_valid, may_be_null, slots_are_items}
use Rattle.fl_bitpacking.proofs.compute.take.Taking.items.Goals as goal

pub returns-then-is_full : goal.returns-then-is_full
returns-then-is_full g c =
    let is = slots_are_items g.T.Number.value c.args.self c.args.slots.items g.T.NativePType.PTYPE c.args.nullability c.requires.slots (sym c.requires.typed) (full_valid c.args.self.column.validity.now (sym c.if-is_full.ensures)) in
    rw (c.without_nulls.ensures, is) refl

pub items_or_nulls-requires-clause-nulls : goal.items_or_nulls-requires-clause-nulls
items_or_nulls-requires-clause-nulls g c = may_be_null c.args.self.column.validity.now c.args.nullability (sym c.if-is_full.ensures) c.requires.nulls
