use Rattle.std.proofs.Common.{◌≡◌, ◌∙◌, Err, ap, refl, subst}
use Rattle.fl_serialized.specs.Nodes.{Node}
use Rattle.fl_serde.specs.Writing.{written}
use Rattle.flcol_container.specs.Container.{HasNoContainer}
use Rattle.flcol_c.proofs.ContainerLaws.{lacks_len}
use Rattle.flcol_c.proofs.containers.container_len_of.Goals as goal

pub returns : goal.returns
returns c other =
    let made = c.in_ok-node.ensures.node in
    let same : c.in_ok-node.node ≡ written c.args.array.now = cc in
    let refused = c.in-Err-BadContainer in
    (refl, subst (λ (node : Node). HasNoContainer node) same (lacks_len c.in_ok-node.node c.container_len.result c.container_len.ensures (refused.is ∙ ap Err refused.field-0-is)))
