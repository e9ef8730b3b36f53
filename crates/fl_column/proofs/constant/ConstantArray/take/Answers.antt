use Rattle.std.proofs.Common.{◌≡◌, refl}
use Rattle.fl_column.specs.Columns.{column_of_primitive}
use Rattle.fl_types.specs.Validities.{items_of, nullability_of}
use Rattle.fl_types.specs.Types.{either_nullable, nullability_in}
use Rattle.fl_types.specs.Values.{integer_of}
use Rattle.fl_column.proofs.SelectionLaws.{ok_positions}
use Rattle.fl_column.proofs.ConstantLaws.{spread_stands, constant_take, null_case}
use Rattle.fl_column.proofs.constant.ConstantArray.take.Goals as goal

pub spread-requires-clause-nulls : goal.spread-requires-clause-nulls
spread-requires-clause-nulls c =
    let a = c.args.self.now in
    let b = c.args.indices.now in
    let indices = items_of b.validity b.slots in
    let ok = ok_positions a.len indices c.in_ok-positions.positions.items (rw c.len.ensures.constant_items at c.in_ok-positions.ensures) in
    let n : c.or-nullability.result ≡ either_nullable (nullability_in a.scalar.dtype) (nullability_of b.validity) = cc in
    rw (c.deref.ensures.value, c.value.ensures.value, ← ok.1) (spread_stands c.or-nullability.result (nullability_in a.scalar.dtype) b.validity a.scalar.value b.slots n (null_case integer_of c.value.result a.scalar.value _ c.value.ensures.value c.value.ensures.null))

pub returns : goal.returns
returns c =
    let a = c.args.self.now in
    let b = c.args.indices.now in
    let n : c.or-nullability.result ≡ either_nullable (nullability_in a.scalar.dtype) (nullability_of b.validity) = cc in
    rw (constant_take a (column_of_primitive b) c.ptype-ptype.result c.or-nullability.result c.in_ok-positions.positions.items c.ptype-ptype.ensures refl n (rw c.len.ensures.constant_items at c.in_ok-positions.ensures), ← c.value.ensures.value, ← c.deref.ensures.value) c.spread.ensures
