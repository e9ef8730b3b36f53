use Rattle.std.proofs.Common.{◌≡◌, ◌∙◌, ap, length, subst, arith}
use Rattle.fl_bitpacking.specs.Columns.{BitPackedParts}
use Rattle.fl_bitpacking.specs.Refusals.{AreConsistent}
use Rattle.fl_array.specs.PackedSums.{column_of_sums}
use Rattle.fl_array.proofs.BitPackedLaws.{bitpacked_len}
use Rattle.fl_array.proofs.ReadPacked.{sums_len}
use Rattle.fl_array.proofs.reader.packed.offset_of_sums.Goals as goal

pub returns-clause-few : goal.returns-clause-few
returns-clause-few c =
    let p = c.args.packed.now in
    let consistent : AreConsistent p.array.now.parts = subst (λ (x : BitPackedParts). AreConsistent x) c.packed_data-data.ensures c.parts_are_consistent.ensures in
    let few = consistent.fit.few in
    let long : length (column_of_sums p).items ≡ p.array.now.parts.len = sums_len p ∙ bitpacked_len p.array.now in
    let at = c.offset.ensures ∙ ap (λ (x : BitPackedParts). x.offset) c.packed_data-data.ensures in
    omega arith
