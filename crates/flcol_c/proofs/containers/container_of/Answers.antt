use Rattle.std.proofs.Common.{◌≡◌, ◌∙◌, Err, ap, refl, subst}
use Rattle.fl_serialized.specs.Nodes.{Node}
use Rattle.fl_serde.specs.Writing.{written}
use Rattle.flcol_container.specs.Container.{HasNoContainer}
use Rattle.flcol_c.proofs.ContainerLaws.{lacks_room}
use Rattle.flcol_c.proofs.containers.container_of.Goals as goal

pub returns : goal.returns
returns c other =
    let made = c.in_ok-node.ensures.node in
    let same : c.in_ok-node.node ≡ written c.args.array.now = cc in
    let refused = c.in-Err-BadContainer in
    (refl, subst (λ (node : Node). HasNoContainer node) same (lacks_room (λ v. v.items) c.in_ok-node.node c.write_container.result c.write_container.ensures (refused.is ∙ ap Err refused.field-0-is)))
