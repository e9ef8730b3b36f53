use Rattle.std.proofs.Common.{map, option_map, option_and_then, None, refl}
use Rattle.fl_types.specs.Values.{integer_of}
use Rattle.fl_column.proofs.GatherLaws.{mapped_more, spread_all, nulls_kept, gathered_all}
use Rattle.fl_types.proofs.Refused.{no_memory_there}
use Rattle.fl_column.proofs.constant.compute.spread_typed.Goals as goal

pub loop-position-preserved : goal.loop-position-preserved
loop-position-preserved g c = mapped_more (option_and_then (λ i. option_map g.T.Number.value c.typed_value-value.result)) c.loop-position.taken c.push.new.self c.args.positions.now c.loop-position.position-index None (option_map g.T.Number.value c.value_where.result) c.in_ok-push.ensures.items c.loop-position.invariant c.value_where.ensures c.loop-position-test.true

pub finish-requires : goal.finish-requires
finish-requires g c =
    let value = g.T.Number.value in
    let taken = c.loop-position.taken in
    nulls_kept c.args.nullability taken (map (option_and_then (λ i. option_map integer_of c.args.value)) c.args.positions.now) (spread_all value c.typed_value-value.result c.args.value taken c.args.positions.now c.loop-position.position-index c.typed_value-value.ensures c.loop-position.invariant c.loop-position-test.false) c.requires.nulls

pub returns : goal.returns
returns g c =
    let value = g.T.Number.value in
    let taken = c.loop-position.taken in
    gathered_all g.T.NativePType.PTYPE g.T.NativePType.PTYPE c.args.nullability taken (map (option_and_then (λ i. option_map integer_of c.args.value)) c.args.positions.now) c.finish.result c.finish.ensures refl (spread_all value c.typed_value-value.result c.args.value taken c.args.positions.now c.loop-position.position-index c.typed_value-value.ensures c.loop-position.invariant c.loop-position-test.false)

pub returns-in_err-taken : goal.returns-in_err-taken
returns-in_err-taken g c = no_memory_there _ c.from_residual.result _ _ c.from_residual.ensures.1 c.in_err-taken.ensures.memory

pub returns-in_err-push : goal.returns-in_err-push
returns-in_err-push g c = no_memory_there _ c.from_residual-in_err-push.result _ _ c.from_residual-in_err-push.ensures.1 c.in_err-push.ensures.memory

pub loop-position-init : goal.loop-position-init
loop-position-init g c = c.in_ok-taken.ensures.items
