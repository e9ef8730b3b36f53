use Rattle.std.proofs.Common.{◌||◌, IsTrue, length, map, refl}
use Rattle.std.proofs.lemmas.List.{length-map}
use Rattle.std.specs.List.{list_all}
use Rattle.std.specs.Prelude.{is_some}
use Rattle.fl_types.specs.Types.{can_be_null}
use Rattle.fl_types.specs.Validities.{items_of}
use Rattle.fl_column.specs.Builders.{is_growing}
use Rattle.fl_column.proofs.BuilderLaws.{no_nulls_gathered}
use Rattle.fl_column.proofs.builder.PrimitiveBuilder.finish.Goals as goal

pub returns-in-NonNullable : goal.returns-in-NonNullable
returns-in-NonNullable g c =
    let f = c.self.inside in
    let slots = map g.T.Number.value f.slots.items in
    let growing : IsTrue (is_growing f.validity (length slots)) = rw length-map c.self.invariant in
    let nulls : IsTrue (can_be_null c.args.nullability || list_all is_some (items_of f.validity slots)) = rw c.self.view_is c.requires in
    let same = no_nulls_gathered f.validity slots growing (rw c.in-NonNullable.is at nulls) in
    rw (c.non_nullable.ensures, c.in-NonNullable.is, ← c.self.view_is, same) refl
