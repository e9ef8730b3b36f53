use Rattle.fl_bitpacking.proofs.SoundParts.{are_blocked}
use Rattle.fl_array.proofs.Refused.{accepted_is, accepted_only, refused_there}
use Rattle.fl_array.proofs.bitpacking.BitPacked.try_new_with_block_offsets.Goals as goal

pub returns-in_err-accept_blocked : goal.returns-in_err-accept_blocked
returns-in_err-accept_blocked c =
    rw (← c.from-offset.ensures) (refused_there (let t : Unit {0} = tt in t) _ c.from_residual.result _ _ c.from_residual.ensures.1 c.in_err-accept_blocked.ensures)

pub new-requires-2 : goal.new-requires-2
new-requires-2 c = (are_blocked _ _ (accepted_only _ _ c.in_ok-accept_blocked.ensures)).parts

pub invariant_of-result : goal.invariant_of-result
invariant_of-result c = rw (c.new-2.ensures, c.in_ok-boundaries.ensures.ok) (accepted_only _ _ c.in_ok-accept_blocked.ensures)

pub returns : goal.returns
returns c =
    let none = rw c.from-offset.ensures at (accepted_only _ _ c.in_ok-accept_blocked.ensures) in
    rw (c.new-2.ensures, c.in_ok-boundaries.ensures.ok, c.from-offset.ensures) (accepted_is _ _ none)
