use Rattle.std.proofs.Common.{map, length, nat_lt, get_or, arith, sym, ap, ◌∙◌}
use Rattle.std.proofs.lemmas.Bool.{ltb-true}
use Rattle.std.proofs.lemmas.List.{length-map}
use Rattle.fl_column.proofs.ListLaws.{all_at}
use Rattle.fl_patches.proofs.Picked.{picked_more, picked_all}
use Rattle.fl_types.proofs.Refused.{no_memory}
use Rattle.fl_patches.proofs.builder.values_at_typed.Goals as goal

pub loop-rank-preserved : goal.loop-rank-preserved
loop-rank-preserved g c = picked_more g.T.Number.value c.as_slice-slots.result.now c.args.values.now.slots c.args.ranks.now c.loop-rank.rank-index c.loop-rank.picked.items c.push.new.self.items c.index-slots-rank.result c.as_slice-slots.ensures c.requires.ranked c.loop-rank-test.true c.in_ok-push.ensures.items c.loop-rank.invariant c.index-slots-rank.is

pub returns : goal.returns
returns g c = picked_all g.T.NativePType.PTYPE c.args.values.now.ptype c.args.values.now.validity c.nullability.result (map g.T.Number.value c.loop-rank.picked.items) c.args.values.now.slots c.args.ranks.now c.loop-rank.rank-index c.without_nulls.result c.without_nulls.ensures c.nullability.ensures c.requires.same c.loop-rank.invariant c.loop-rank-test.false

pub bounds-slots-rank : goal.bounds-slots-rank
bounds-slots-rank g c =
    let slots = c.args.values.now.slots in
    let low = ltb-true (get_or c.args.ranks.now c.loop-rank.rank-index 0) (length slots) (all_at (λ rank. nat_lt rank (length slots)) c.args.ranks.now c.loop-rank.rank-index 0 c.requires.ranked c.loop-rank-test.true) in
    let long = sym (length-map c.as_slice-slots.result.now g.T.Number.value) ∙ ap length c.as_slice-slots.ensures in
    omega arith

pub returns-in_err-picked : goal.returns-in_err-picked
returns-in_err-picked g c = no_memory _ c.from_residual.result _ c.from_residual.ensures.1

pub returns-in_err-push : goal.returns-in_err-push
returns-in_err-push g c = no_memory _ c.from_residual-in_err-push.result _ c.from_residual-in_err-push.ensures.1

pub loop-rank-init : goal.loop-rank-init
loop-rank-init g c = ap (map g.T.Number.value) c.in_ok-picked.ensures.items
