use Rattle.std.proofs.Common.{◌≡◌, ◌∙◌, ap, subst}
use Rattle.fl_types.specs.Refusals.{Answers}
use Rattle.fl_array.specs.Trees as tree
use Rattle.fl_serialized.specs.Nodes.{head_of}
use Rattle.fl_serde.specs.Reading.{delta_over}
use Rattle.fl_serde.proofs.ReadLaws.{made_delta}
use Rattle.fl_serde.proofs.reading.make_delta.Goals as goal

pub returns : goal.returns
returns c =
    let head = head_of c.args.node.now in
    let taken = c.take_validity-validity in
    let parts : tree.DeltaParts = record { validity = taken.result; offset = c.args.metadata.now.offset; len = head.len } in
    let same : delta_over parts taken.new.trees.items ≡ delta_over parts c.args.trees.items = ap (delta_over parts) taken.ensures.others ∙ made_delta head c.args.ptype c.args.metadata.now parts c.args.trees.items in
    rw (← taken.ensures.validity) (subst (λ m. Answers (λ a. a) c.delta_over.result m) same (rw c.len.ensures at c.delta_over.ensures))
