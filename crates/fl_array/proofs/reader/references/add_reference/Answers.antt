use Rattle.std.proofs.Common.{◌≡◌, refl}
use Rattle.fl_types.specs.Values.{integer_of}
use Rattle.fl_array.proofs.ReadLaws.{reference_shown, type_of_column}
use Rattle.fl_array.proofs.reader.references.add_reference.Goals as goal

pub returns : goal.returns
returns g c =
    let value = g.T.Number.value in
    let ptype = g.T.NativePType.PTYPE in
    let d = c.args.encoded.now.column in
    let is : value c.unwrap-reference.result ≡ integer_of c.args.reference = rw c.unwrap-reference.ensures at c.from_pvalue.ensures.value in
    reference_shown value d ptype (integer_of c.args.reference) c.args.items.now c.add_in_place.new.values c.args.start _ (type_of_column d ptype c.requires.typed) (rw is at c.add_in_place.ensures) refl c.requires.items
