use Rattle.std.proofs.Common.{◌≡◌, ◌+◌, ◌∙◌, Ok, ap, refl}
use Rattle.std.specs.List.{flat_map}
use Rattle.fl_types.specs.Bits.{between}
use Rattle.fl_types.specs.Buffers.{integers_of}
use Rattle.fl_types.specs.Validities.{full_validity}
use Rattle.fl_column.proofs.RangeLaws.{ranges_column}
use Rattle.fl_column.proofs.selection.without_nulls.take_ranges.Goals as goal

pub returns : goal.returns
returns c =
    let a = c.args.array.now in
    let ranges = c.args.ranges.now in
    let zs = integers_of c.in_ok-slots.slots in
    let answer : Ok (flat_map (λ r. between r.0 (r.0 + r.1) a.slots) ranges) ≡ Ok zs = rw c.slots.ensures.slots at c.in_ok-slots.ensures.slots in
    let slots : zs ≡ flat_map (λ r. between r.0 (r.0 + r.1) a.slots) ranges = cc in
    let parts : c.from_buffer.result ≡ record { ptype = a.ptype; slots = flat_map (λ r. between r.0 (r.0 + r.1) a.slots) ranges; validity = full_validity c.nullability-nullability.result } =
    c.from_buffer.ensures ∙ (rw (c.in_ok-slots.ensures.typed, c.slots.ensures.typed, c.from.ensures, slots) refl) in
    ap Ok (ranges_column a c.from_buffer.result ranges c.nullability-nullability.result c.requires.items c.nullability-nullability.ensures parts)
