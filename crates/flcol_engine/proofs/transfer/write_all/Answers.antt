use Rattle.std.proofs.Common.{arith, refl, rules}
use Rattle.std.proofs.KnownBytes.{Appends-nil}
use Rattle.std.proofs.lemmas.Result.{err_from_is_err_and}
use Rattle.flcol_engine.proofs.EndLemmas.{piece_added, front_added}
use Rattle.flcol_engine.proofs.transfer.write_all.Goals as goal

pub returns-in_err-at-clause-err : goal.returns-in_err-at-clause-err
returns-in_err-at-clause-err g c = let p = err_from_is_err_and c.from_residual.result c.from_residual.ensures.1 in rw p.1 (front_added _ _ _ _ _ c.loop-at.invariant.added c.in_err-at.ensures.err)

pub loop-at-preserved : goal.loop-at-preserved
loop-at-preserved g c = record {
  added = piece_added _ _ _ _ _ _ c.loop-at.invariant.added c.in_ok-at.ensures.ok;
  mark = search rules;
  within = omega (arith, c.in_ok-at.ensures.bound);
}

-- said here, where the search finds it too: a body that breaks it is refused at once
pub returns-clause-mark : goal.returns-clause-mark
returns-clause-mark g c = search rules

pub loop-at-init : goal.loop-at-init
loop-at-init g c = record { added = Appends-nil _; mark = refl; within = omega arith }
