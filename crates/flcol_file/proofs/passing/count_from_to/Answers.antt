use Rattle.std.proofs.Common.{ap, sym, subst, Ok, rules, ℤ}
use Rattle.std.specs.Prelude.{FitsSigned, IsTrue}
use Rattle.std.specs.Int.{w128}
use Rattle.std.proofs.lemmas.Int.{to_z-of_z}
use Rattle.fl_types.specs.Integers.{fits}
use Rattle.fl_array.specs.Trees.{column}
use Rattle.flcol_file.proofs.PassingLaws.{all_of_type, apart, fits_between, fits_of, in_order, none_of_type, same_answers}
use Rattle.flcol_file.proofs.passing.count_from_to.Goals as goal

pub returns-then-low-high : goal.returns-then-low-high
returns-then-low-high c =
    let least = c.bounds_of-least.result.0 in
    let greatest = c.bounds_of-least.result.1 in
    let low = c.max-low.result in
    let high = c.min-high.result in
    let f : FitsSigned w128 c.args.first = search rules in
    let g : FitsSigned w128 c.args.last = search rules in
    let l : FitsSigned w128 least = search rules in
    let h : FitsSigned w128 greatest = search rules in
    let fl : FitsSigned w128 low = search rules in
    let fh : FitsSigned w128 high = search rules in
    let fit = fits_of (column c.args.array.now) c.args.ptype c.requires c.items_are_in_range.ensures in
    let lows = rw (to_z-of_z w128 c.args.first f) at (rw (to_z-of_z w128 least l) at c.max-low.ensures.value) in
    let highs = rw (to_z-of_z w128 c.args.last g) at (rw (to_z-of_z w128 greatest h) at c.min-high.ensures.value) in
    let beyond = rw (to_z-of_z w128 low fl) at (rw (to_z-of_z w128 high fh) at c.if-low-high.true) in
    ap (λ n. Ok n) (none_of_type c.args.ptype least greatest c.args.first c.args.last low high (column c.args.array.now).items c.bounds_of-least.ensures lows highs (apart high low beyond) fit)

pub count_typed-requires-clause-first : goal.count_typed-requires-clause-first
count_typed-requires-clause-first c =
    let least = c.bounds_of-least.result.0 in
    let greatest = c.bounds_of-least.result.1 in
    let low = c.max-low.result in
    let high = c.min-high.result in
    let f : FitsSigned w128 c.args.first = search rules in
    let g : FitsSigned w128 c.args.last = search rules in
    let l : FitsSigned w128 least = search rules in
    let h : FitsSigned w128 greatest = search rules in
    let fl : FitsSigned w128 low = search rules in
    let fh : FitsSigned w128 high = search rules in
    let lows = rw (to_z-of_z w128 c.args.first f) at (rw (to_z-of_z w128 least l) at c.max-low.ensures.value) in
    let highs = rw (to_z-of_z w128 c.args.last g) at (rw (to_z-of_z w128 greatest h) at c.min-high.ensures.value) in
    let within = rw (to_z-of_z w128 low fl) at (rw (to_z-of_z w128 high fh) at c.if-low-high.false) in
    let order = in_order c.args.first c.args.last least greatest low high lows highs within in
    subst (λ (z : ℤ). IsTrue (fits c.args.ptype z)) (sym (to_z-of_z w128 low fl)) (fits_between c.args.ptype least greatest low c.bounds_of-least.ensures order.0.0 order.0.1)

pub count_typed-requires-clause-last : goal.count_typed-requires-clause-last
count_typed-requires-clause-last c =
    let least = c.bounds_of-least.result.0 in
    let greatest = c.bounds_of-least.result.1 in
    let low = c.max-low.result in
    let high = c.min-high.result in
    let f : FitsSigned w128 c.args.first = search rules in
    let g : FitsSigned w128 c.args.last = search rules in
    let l : FitsSigned w128 least = search rules in
    let h : FitsSigned w128 greatest = search rules in
    let fl : FitsSigned w128 low = search rules in
    let fh : FitsSigned w128 high = search rules in
    let lows = rw (to_z-of_z w128 c.args.first f) at (rw (to_z-of_z w128 least l) at c.max-low.ensures.value) in
    let highs = rw (to_z-of_z w128 c.args.last g) at (rw (to_z-of_z w128 greatest h) at c.min-high.ensures.value) in
    let within = rw (to_z-of_z w128 low fl) at (rw (to_z-of_z w128 high fh) at c.if-low-high.false) in
    let order = in_order c.args.first c.args.last least greatest low high lows highs within in
    subst (λ (z : ℤ). IsTrue (fits c.args.ptype z)) (sym (to_z-of_z w128 high fh)) (fits_between c.args.ptype least greatest high c.bounds_of-least.ensures order.1.0 order.1.1)

pub returns : goal.returns
returns c =
    let least = c.bounds_of-least.result.0 in
    let greatest = c.bounds_of-least.result.1 in
    let low = c.max-low.result in
    let high = c.min-high.result in
    let f : FitsSigned w128 c.args.first = search rules in
    let g : FitsSigned w128 c.args.last = search rules in
    let l : FitsSigned w128 least = search rules in
    let h : FitsSigned w128 greatest = search rules in
    let fl : FitsSigned w128 low = search rules in
    let fh : FitsSigned w128 high = search rules in
    let fit = fits_of (column c.args.array.now) c.args.ptype c.requires c.items_are_in_range.ensures in
    let lows = rw (to_z-of_z w128 c.args.first f) at (rw (to_z-of_z w128 least l) at c.max-low.ensures.value) in
    let highs = rw (to_z-of_z w128 c.args.last g) at (rw (to_z-of_z w128 greatest h) at c.min-high.ensures.value) in
    let counted = rw (to_z-of_z w128 low fl) at (rw (to_z-of_z w128 high fh) at c.count_typed.ensures) in
    same_answers _ _ c.count_typed.result (all_of_type c.args.ptype least greatest c.args.first c.args.last low high (column c.args.array.now).items c.bounds_of-least.ensures lows highs fit) counted
