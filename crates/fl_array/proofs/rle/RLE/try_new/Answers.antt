use Rattle.fl_array.proofs.Refused.{accepted_is, accepted_only, refused_there}
use Rattle.fl_array.proofs.rle.RLE.try_new.Goals as goal

pub returns-in_err-accept_children : goal.returns-in_err-accept_children
returns-in_err-accept_children c =
    refused_there (let t : Unit {0} = tt in t) _ c.from_residual.result _ _ c.from_residual.ensures.1 c.in_err-accept_children.ensures

pub invariant_of-result : goal.invariant_of-result
invariant_of-result c = rw (c.in_ok-values.ensures.ok, c.in_ok-indices.ensures.ok, c.in_ok-offsets.ensures.ok) (accepted_only _ _ c.in_ok-accept_children.ensures)

pub returns : goal.returns
returns c =
    let none = accepted_only _ _ c.in_ok-accept_children.ensures in
    rw (c.in_ok-values.ensures.ok, c.in_ok-indices.ensures.ok, c.in_ok-offsets.ensures.ok) (accepted_is _ _ none)
