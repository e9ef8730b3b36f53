use Rattle.std.proofs.Common.{◌≡◌, length, map, arith, sym, ◌∙◌}
use Rattle.std.proofs.lemmas.List.{length-map}
use Rattle.fl_types.specs.Validities.{masked}
use Rattle.fl_column.proofs.ItemLaws.{length-masked}
use Rattle.fl_patches.proofs.histogram.count_masked.Goals as goal

pub count_all-requires-else-type_bits-eq8-clause-range : goal.count_all-requires-else-type_bits-eq8-clause-range
count_all-requires-else-type_bits-eq8-clause-range g c =
    let items = map g.T.Number.value c.args.items.now in
    let count : length items ≡ length c.args.items.now = length-map c.args.items.now g.T.Number.value in
    let long : length (masked c.args.bits.now items) ≡ length items = length-masked c.args.bits.now items (c.requires.even ∙ sym count) in
    omega arith
