use Rattle.std.proofs.Common.{◌≤◌, map, get_or, arith, refl, sym, ap, ◌∙◌}
use Rattle.std.proofs.lemmas.List.{length-map}
use Rattle.fl_types.specs.Bits.{between}
use Rattle.fl_types.specs.Validities.{items_of}
use Rattle.fl_patches.specs.Exceptions.{histogram_of}
use Rattle.fl_patches.proofs.Histograms.{counts_nulls, entry_few}
use Rattle.fl_patches.proofs.histogram.count_items.Goals as goal

pub overflow_add-entries : goal.overflow_add-entries
overflow_add-entries g c = let few : get_or c.args.entries.now 0 0 ≤ 0 = entry_few g.T.NativePType.PTYPE _ c.args.entries.now 0 c.requires.empty in omega arith

pub returns-in-AllInvalid : goal.returns-in-AllInvalid
returns-in-AllInvalid g c =
    let count = length-map c.args.items.now g.T.Number.value in
    counts_nulls g.T.NativePType.PTYPE (map g.T.Number.value c.args.items.now) c.args.start c.args.end _ c.args.entries.now c.requires.order (omega arith) c.requires.empty refl
    ∙ ap (λ v. histogram_of g.T.NativePType.PTYPE (between c.args.start c.args.end (items_of v (map g.T.Number.value c.args.items.now)))) (sym c.in-AllInvalid.is)
