use Rattle.fastlanes.proofs.Changes.{same_run, changes_none, changes_step, changes_ordered}
use Rattle.fastlanes.proofs.laws.kernels.runs_hold_one_item.Goals as goal

pub returns-clause-same : goal.returns-clause-same
returns-clause-same c = same_run

pub returns-clause-first : goal.returns-clause-first
returns-clause-first c = changes_none

pub returns-clause-steps : goal.returns-clause-steps
returns-clause-steps c = changes_step

pub returns-clause-grows : goal.returns-clause-grows
returns-clause-grows c = changes_ordered
