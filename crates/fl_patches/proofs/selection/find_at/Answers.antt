use Rattle.fl_patches.proofs.Picked.{found_more, found_all}
use Rattle.fl_column.specs.Numbers.{numbers_by}
use Rattle.fl_types.proofs.Refused.{no_value, memory_there}
use Rattle.fl_patches.proofs.selection.find_at.Goals as goal

pub rank_at-requires : goal.rank_at-requires
rank_at-requires g c = rw c.as_slice-indices.ensures c.requires.rising

pub loop-place-preserved : goal.loop-place-preserved
loop-place-preserved g c = found_more c.args.offset (numbers_by g.I.Number.value c.as_slice-indices.result.now) c.args.positions.now c.loop-place.place c.rank_at.result c.loop-place.found.places.items c.loop-place.found.ranks.items c.push.new.self.places.items c.push.new.self.ranks.items c.in_ok-push.ensures.found c.loop-place.invariant c.rank_at.ensures c.loop-place-test.true

pub returns : goal.returns
returns g c = record { found = found_all g.I.Number.value c.as_slice-indices.result.now c.args.indices.now.slots c.args.offset c.args.positions.now c.loop-place.place c.loop-place.found.places.items c.loop-place.found.ranks.items c.as_slice-indices.ensures c.loop-place.invariant c.loop-place-test.false; memory = tt }

pub returns-in_err-push-clause-found : goal.returns-in_err-push-clause-found
returns-in_err-push-clause-found g c = no_value _ _ c.from_residual.result c.from_residual.ensures.1

pub returns-in_err-push-clause-memory : goal.returns-in_err-push-clause-memory
returns-in_err-push-clause-memory g c = memory_there c.from_residual.result _ c.from_residual.ensures.1 c.in_err-push.ensures.memory
