use Rattle.std.proofs.Common.{◌≡◌, ◌∙◌, length, refl, sym}
use Rattle.fl_types.specs.declared.dtype.DType.TheVariants.{Primitive}
use Rattle.fl_types.specs.Types.{either_nullable, nullability_in}
use Rattle.fl_types.specs.Validities.{items_of, nullability_of}
use Rattle.fl_column.proofs.SelectionLaws.{ok_positions}
use Rattle.fl_array.specs.Trees.{column}
use Rattle.fl_ops.proofs.ItemLaws.{named_below, taken_by_positions, without_nulls}
use Rattle.fl_ops.proofs.takes.items.take_items.Goals as goal

pub items_at-requires-clause-below : goal.items_at-requires-clause-below
items_at-requires-clause-below c =
    let d = column c.args.array.now in
    let b = c.args.indices.now in
    rw c.deref.ensures.value (named_below (length d.items) (items_of b.validity b.slots) c.in_ok-positions.positions.items (rw c.len.ensures at c.in_ok-positions.ensures))

pub items_at-requires-clause-nulls : goal.items_at-requires-clause-nulls
items_at-requires-clause-nulls c =
    let d = column c.args.array.now in
    let b = c.args.indices.now in
    let indices = items_of b.validity b.slots in
    let ok = ok_positions (length d.items) indices c.in_ok-positions.positions.items (rw c.len.ensures at c.in_ok-positions.ensures) in
    let typed : d.dtype ≡ Primitive c.in-Primitive.ptype c.in-Primitive.nullability = sym c.dtype.ensures ∙ c.in-Primitive.is in
    let n : c.or-nullability.result ≡ either_nullable (nullability_in d.dtype) (nullability_of b.validity) = rw (typed, c.or-nullability.ensures, c.nullability.ensures) refl in
    rw (c.deref.ensures.value, ← ok.1) (without_nulls d.dtype b.validity b.slots c.or-nullability.result n)

pub returns : goal.returns
returns c =
    let d = column c.args.array.now in
    let b = c.args.indices.now in
    let typed : d.dtype ≡ Primitive c.in-Primitive.ptype c.in-Primitive.nullability = sym c.dtype.ensures ∙ c.in-Primitive.is in
    let n : c.or-nullability.result ≡ either_nullable c.in-Primitive.nullability (nullability_of b.validity) = rw (c.or-nullability.ensures, c.nullability.ensures) refl in
    rw (taken_by_positions d b c.in-Primitive.ptype c.in-Primitive.nullability c.or-nullability.result c.in_ok-positions.positions.items typed n (rw c.len.ensures at c.in_ok-positions.ensures), ← c.deref.ensures.value) c.items_at.ensures
