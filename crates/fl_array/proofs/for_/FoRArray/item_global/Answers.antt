use Rattle.std.proofs.Common.{sym, ◌∙◌}
use Rattle.fl_types.specs.Values.{scalar_parts}
use Rattle.fl_array.specs.Trees.{column}
use Rattle.fl_array.proofs.FoRSound.{scalar_restored, has_reference, global_item}
use Rattle.fl_array.proofs.for_.FoRArray.item_global.Goals as goal

pub returns : goal.returns
returns c =
    let a = c.args.self.now in
    let s = has_reference a (scalar_parts c.args.reference.now) c.prove_well_formed.ensures c.requires.same in
    c.plus_reference.ensures
    ∙ (scalar_restored (column a.encoded) (scalar_parts c.args.item) (scalar_parts c.args.reference.now) _ _ c.in-Some.ensures.value (sym s.typed ∙ c.in-Some.ensures.typed)
    ∙ sym (global_item a (scalar_parts c.args.reference.now) c.args.i (scalar_parts c.args.item) c.requires.same c.requires.range c.requires.item))
