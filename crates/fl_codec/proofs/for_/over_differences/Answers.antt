use Rattle.std.proofs.Common.{map, ◌∙◌}
use Rattle.std.proofs.lemmas.List.{length-map}
use Rattle.fl_codec.specs.FoRColumns.{minus_reference}
use Rattle.fl_codec.specs.Parts.{items_of_primitive}
use Rattle.fl_codec.proofs.ReferenceLaws.{length_of_values}
use Rattle.fl_column.proofs.ItemLaws.{length-items_of}
use Rattle.fl_codec.proofs.for_.over_differences.Goals as goal

pub under_validity_of-requires : goal.under_validity_of-requires
under_validity_of-requires g c =
    let value = g.T.Number.value in
    let array = c.args.array.now in
    let less = minus_reference g.T.NativePType.PTYPE (value c.args.reference) in
    length_of_values value c.args.slots.items (map less (items_of_primitive array)) c.requires.slots ∙ (length-map (items_of_primitive array) less ∙ length-items_of array.validity array.slots c.validity-validity.ensures.covers)
