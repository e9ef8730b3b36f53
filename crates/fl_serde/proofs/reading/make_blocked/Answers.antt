use Rattle.std.proofs.Common.{◌≡◌, ◌∙◌, ◌++◌, [], ◌∷◌, Some, length, ap, sym, arith}
use Rattle.fl_serialized.specs.Nodes.{head_of}
use Rattle.fl_serde.specs.declared.node_info.NodeInfo.TheVariants as infos
use Rattle.fl_serde.specs.Reading.{beside_validity, made, patched_blocks, validity_over}
use Rattle.fl_serde.proofs.ReadLaws.{made_blocked, some_beside}
use Rattle.fl_serde.proofs.reading.make_blocked.Goals as goal

pub returns-in-Some : goal.returns-in-Some
returns-in-Some c =
    let head = head_of c.args.node.now in
    let info = infos.BitPackedBlocked c.args.ptype c.args.metadata.now in
    let rest = c.pop.new.self.items in
    let last = c.in-Some.boundaries in
    let left : rest ++ last ∷ [] ≡ beside_validity head info c.args.trees.items = sym c.in-Some.ensures.items ∙ c.take_validity-validity.ensures.others in
    let parts : made head info c.args.trees.items ≡ patched_blocks head c.args.ptype c.args.metadata.now (validity_over head info c.args.trees.items) rest (Some last) = made_blocked head c.args.ptype c.args.metadata.now c.args.trees.items rest last c.requires left in
    rw (parts, ← c.take_validity-validity.ensures.validity) c.patched_blocks.ensures

pub returns-in-None : goal.returns-in-None
returns-in-None c =
    let some = some_beside (head_of c.args.node.now) c.args.ptype c.args.metadata.now c.args.trees.items c.requires in
    let none = c.in-None.ensures.cases.0 in
    absurd (omega (arith, ap length c.take_validity-validity.ensures.others))
