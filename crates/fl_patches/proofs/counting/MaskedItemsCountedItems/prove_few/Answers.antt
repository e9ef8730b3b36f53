use Rattle.std.proofs.Common.{◌≡◌, length, map, arith, sym, ◌∙◌}
use Rattle.std.proofs.lemmas.List.{length-map}
use Rattle.fl_types.specs.Validities.{masked}
use Rattle.fl_column.proofs.ItemLaws.{length-masked}
use Rattle.fl_patches.proofs.counting.MaskedItemsCountedItems.prove_few.Goals as goal

pub returns : goal.returns
returns g c =
    let items = map g.T.Number.value c.args.self.now.items.now in
    let count = length-map c.args.self.now.items.now g.T.Number.value in
    let long : length (masked c.args.self.now.bits.now items) ≡ length items = length-masked c.args.self.now.bits.now items (c.args.self.now.even ∙ sym count) in
    omega arith
