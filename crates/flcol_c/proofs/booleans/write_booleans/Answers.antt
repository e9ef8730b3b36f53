use Rattle.std.proofs.Common.{length, rules}
use Rattle.flcol_c.proofs.ValidityLaws.{room_of_bools}
use Rattle.flcol_c.proofs.booleans.write_booleans.Goals as goal

pub returns-in-Some-clause-fault : goal.returns-in-Some-clause-fault
returns-in-Some-clause-fault c =
    let b = c.args.booleans.now in
    let room = room_of_bools (length c.args.validity.now) b.validity b.bits c.len-len.result c.validity-valid.ensures.covers c.len-len.ensures.bits in
    search rules

pub returns-clause-fault : goal.returns-clause-fault
returns-clause-fault c =
    let b = c.args.booleans.now in
    let room = room_of_bools (length c.args.validity.now) b.validity b.bits c.len-len.result c.validity-valid.ensures.covers c.len-len.ensures.bits in
    search rules
