use Rattle.std.proofs.Common.{rules, ◌≡◌, ◌<◌, length, get_or, map, true, false, ap, sym, ◌∙◌, ◌==◌, arith}
use Rattle.std.proofs.lemmas.Bool.{eq-eqb}
use Rattle.std.proofs.lemmas.List.{length-map}
use Rattle.std.proofs.lemmas.Option.{get_or_from_slice_get}
use Rattle.fl_types.specs.Integers.{pattern_of}
use Rattle.fl_types.specs.Validities.{masked}
use Rattle.fl_types.specs.declared.validity.Validity.TheVariants as valid
use Rattle.fl_column.proofs.ItemLaws.{length-masked, null_item_read, valid_item_read}
use Rattle.fl_patches.specs.Exceptions.{bit_count, bits_of_item}
use Rattle.fl_patches.proofs.counting.MaskedItemsCountedItems.bits_at.Goals as goal

pub offset_bounds-self-i : goal.offset_bounds-self-i
offset_bounds-self-i g c =
    let items = c.args.self.now.items.now in
    let count = length-map items g.T.Number.value in
    let long : length (masked c.args.self.now.bits.now (map g.T.Number.value items)) ≡ length (map g.T.Number.value items) = length-masked c.args.self.now.bits.now (map g.T.Number.value items) (c.args.self.now.even ∙ sym count) in
    let within : c.args.i < length items = omega (arith, c.requires) in
    search rules

pub bounds-self-i : goal.bounds-self-i
bounds-self-i g c =
    let items = c.args.self.now.items.now in
    let count = length-map items g.T.Number.value in
    let long : length (masked c.args.self.now.bits.now (map g.T.Number.value items)) ≡ length (map g.T.Number.value items) = length-masked c.args.self.now.bits.now (map g.T.Number.value items) (c.args.self.now.even ∙ sym count) in
    omega (arith, c.requires)

pub get-requires : goal.get-requires
get-requires g c =
    let items = c.args.self.now.items.now in
    let count = length-map items g.T.Number.value in
    let long : length (masked c.args.self.now.bits.now (map g.T.Number.value items)) ≡ length (map g.T.Number.value items) = length-masked c.args.self.now.bits.now (map g.T.Number.value items) (c.args.self.now.even ∙ sym count) in
    omega (arith, c.requires, c.args.self.now.even)

pub returns-then-get : goal.returns-then-get
returns-then-get g c =
    let bits = c.args.self.now.bits.now in
    let items = c.args.self.now.items.now in
    let count = length-map items g.T.Number.value in
    let long : length (masked bits (map g.T.Number.value items)) ≡ length (map g.T.Number.value items) = length-masked bits (map g.T.Number.value items) (c.args.self.now.even ∙ sym count) in
    let within : c.args.i < length items = omega (arith, c.requires) in
    let even : (length bits == length items) ≡ true = eq-eqb _ _ c.args.self.now.even in
    let here : get_or bits c.args.i false ≡ true = get_or_from_slice_get bits c.args.i true false c.if-get.ensures in
    c.bits_of.ensures.count ∙ (ap (λ x. bit_count (pattern_of g.T.NativePType.PTYPE (g.T.Number.value x))) (sym c.index-self-i.is) ∙ sym (ap (bits_of_item g.T.NativePType.PTYPE) (valid_item_read g.T.Number.value (valid.Array bits) items c.args.i c.index-self-i.result even within here c.index-self-i.is)))

pub returns-else-get : goal.returns-else-get
returns-else-get g c =
    let bits = c.args.self.now.bits.now in
    let items = c.args.self.now.items.now in
    let count = length-map items g.T.Number.value in
    let long : length (masked bits (map g.T.Number.value items)) ≡ length (map g.T.Number.value items) = length-masked bits (map g.T.Number.value items) (c.args.self.now.even ∙ sym count) in
    let within : c.args.i < length items = omega (arith, c.requires) in
    let even : (length bits == length items) ≡ true = eq-eqb _ _ c.args.self.now.even in
    let gone : get_or bits c.args.i false ≡ false = get_or_from_slice_get bits c.args.i false false c.if-get.ensures in
    sym (ap (bits_of_item g.T.NativePType.PTYPE) (null_item_read g.T.Number.value (valid.Array bits) items c.args.i even within gone))
