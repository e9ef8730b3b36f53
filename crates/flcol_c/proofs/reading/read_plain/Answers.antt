use Rattle.std.proofs.Common.{rules}
use Rattle.flcol_c.proofs.ValidityLaws.{room_of_items}
use Rattle.flcol_c.proofs.reading.read_plain.Goals as goal
use Rattle.std.proofs.Common.{length}

pub returns-in-Some-clause-fault : goal.returns-in-Some-clause-fault
returns-in-Some-clause-fault g c =
    let p = c.args.plain.now in
    let room = room_of_items (length c.args.validity.now) p.validity p.slots c.len-len.result c.validity-valid.ensures.covers c.len-len.ensures.slots in
    search rules

pub returns-clause-fault : goal.returns-clause-fault
returns-clause-fault g c =
    let p = c.args.plain.now in
    let room = room_of_items (length c.args.validity.now) p.validity p.slots c.len-len.result c.validity-valid.ensures.covers c.len-len.ensures.slots in
    search rules
