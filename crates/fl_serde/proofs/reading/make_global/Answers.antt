use Rattle.std.proofs.Common.{rules, ◌≡◌, ◌∙◌, ap, sym}
use Rattle.fl_serialized.specs.Nodes.{head_of}
use Rattle.fl_serde.specs.Reading.{patches_found}
use Rattle.fl_serde.proofs.ReadLaws.{made_global}
use Rattle.fl_serde.proofs.reading.make_global.Goals as goal

pub returns : goal.returns
returns c =
    let head = head_of c.args.node.now in
    let m = c.args.metadata.now in
    let taken = c.take_validity-validity in
    let same : patches_found head.len m.patches c.args.trees.items ≡ patches_found head.len m.patches taken.new.trees.items = sym (ap (patches_found head.len m.patches) taken.ensures.others ∙ made_global head c.args.ptype m c.args.trees.items) in
    rw (same, ← taken.ensures.validity) (search rules)

pub returns-in_err-patches : goal.returns-in_err-patches
returns-in_err-patches c =
    let head = head_of c.args.node.now in
    let m = c.args.metadata.now in
    let taken = c.take_validity-validity in
    let same : patches_found head.len m.patches c.args.trees.items ≡ patches_found head.len m.patches taken.new.trees.items = sym (ap (patches_found head.len m.patches) taken.ensures.others ∙ made_global head c.args.ptype m c.args.trees.items) in
    rw same (search rules)
