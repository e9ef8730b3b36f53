use Rattle.std.proofs.Common.{map, refl}
use Rattle.fl_types.specs.Integers.{smallest_type}
use Rattle.fl_column.proofs.NumberLaws.{smallest_unsigned}
use Rattle.fl_patches.proofs.ExceptionPatches.{answered_are, found_patches}
use Rattle.fl_patches.proofs.Gathers.{all_gathered}
use Rattle.fl_patches.proofs.gathering.BlockExceptions.into_patches.Goals as goal

pub returns-clause-parts : goal.returns-clause-parts
returns-clause-parts g c width all =
    found_patches c.args.array.now g.T.NativePType.PTYPE c.args.array.now.validity c.args.array.now.slots (smallest_type c.args.holds) width c.args.self.found.places.items (map g.T.Number.value c.args.self.found.values.items) c.patches_of.result
    c.requires.same refl refl (all_gathered g.T.NativePType.PTYPE c.args.array.now.validity c.args.array.now.slots width _ _ _ c.validity-validity.ensures.covers all) c.patches_of.ensures

pub returns-clause-map : goal.returns-clause-map
returns-clause-map g c width all = answered_are c.args.array.now (smallest_type c.args.holds) width c.patches_of.result (smallest_unsigned c.args.holds) c.validity-validity.ensures.covers (returns-clause-parts g c width all)
