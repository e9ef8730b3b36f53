use Rattle.std.proofs.Common.{rules, ◌≡◌, length, map}
use Rattle.std.proofs.lemmas.List.{length-map}
use Rattle.flcol_c.proofs.ValueLaws.{values_of_bitmap}
use Rattle.flcol_c.proofs.values.plain_of.Goals as goal

pub returns : goal.returns
returns g c =
    let slots = map g.T.Number.value c.args.values.now in
    let len : length slots ≡ length c.args.values.now = length-map c.args.values.now g.T.Number.value in
    let answer = values_of_bitmap g.T.NativePType.PTYPE slots c.args.validity.now (length c.args.values.now) c.in_ok-validity.validity len (search rules) in
    search rules
