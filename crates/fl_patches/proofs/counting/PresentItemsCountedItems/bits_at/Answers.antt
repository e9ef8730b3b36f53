use Rattle.std.proofs.Common.{◌≡◌, ◌<◌, length, map, Some, arith, ap, sym, ◌∙◌}
use Rattle.std.proofs.lemmas.List.{length-map}
use Rattle.fl_types.specs.Integers.{pattern_of}
use Rattle.fl_patches.specs.Exceptions.{bit_count}
use Rattle.fl_patches.proofs.Histograms.{item_present}
use Rattle.fl_patches.proofs.counting.PresentItemsCountedItems.bits_at.Goals as goal

pub returns : goal.returns
returns g c =
    let items = c.args.self.now.items.now in
    let count = length-map items g.T.Number.value in
    let long : length (map (λ z. Some z) (map g.T.Number.value items)) ≡ length (map g.T.Number.value items) = length-map (map g.T.Number.value items) (λ z. Some z) in
    let within : c.args.i < length items = omega (arith, c.requires) in
    item_present g.T.NativePType.PTYPE g.T.Number.value items c.args.i c.bits_of.result c.index-self-i.result within c.index-self-i.is (c.bits_of.ensures.count ∙ ap (λ x. bit_count (pattern_of g.T.NativePType.PTYPE (g.T.Number.value x))) (sym c.index-self-i.is))
