use Rattle.std.proofs.Common.{ap, arith}
use Rattle.fl_bitpacking.specs.Columns.{BitPackedParts}
use Rattle.fl_bitpacking.proofs.SoundSlices.{consistent_slice}
use Rattle.fl_bitpacking.proofs.packed_data.PackedData.slice.Goals as goal

pub invariant_of-result : goal.invariant_of-result
invariant_of-result c =
    let parts : BitPackedParts = record { packed = c.self.inside.packed; ptype = c.self.inside.ptype; validity = c.self.inside.validity; patches = c.self.inside.patches; offset = c.self.inside.offset; len = c.self.inside.len } in
    let seen = ap (λ (p : BitPackedParts). p.len) c.self.view_is in
    consistent_slice parts c.in_ok-packed.packed c.in_ok-validity.validity c.in_ok-patches.patches c.args.start c.args.end c.self.invariant c.requires.order (omega (arith, c.requires.range)) c.in_ok-validity.ensures c.in_ok-patches.ensures.parts
