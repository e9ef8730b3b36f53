use Rattle.std.proofs.Common.{rules, ◌≡◌, length, map}
use Rattle.flcol_c.proofs.ValidityLaws.{items_marked}
use Rattle.flcol_c.proofs.values.write_plain.Goals as goal

pub returns-clause-items : goal.returns-clause-items
returns-clause-items g c =
    let p = c.args.plain.now in
    let slots : map g.T.Number.value c.copy_from_slice.new.self ≡ p.slots = search rules in
    let len : length c.args.values.now ≡ length p.slots = c.requires.long in
    rw slots (items_marked p.validity p.slots c.write_validity.new.bitmap c.validity-valid.ensures.covers (λ i h. let told = c.write_validity.ensures.valid i in search rules))
