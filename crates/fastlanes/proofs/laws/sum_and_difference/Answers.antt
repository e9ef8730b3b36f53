use Rattle.fastlanes.proofs.Wraps.{difference_then_sum, sum_then_difference}
use Rattle.fastlanes.proofs.laws.sum_and_difference.Goals as goal

pub returns-clause-sum_undone : goal.returns-clause-sum_undone
returns-clause-sum_undone g c p q = sum_then_difference _ p q

pub returns-clause-difference_undone : goal.returns-clause-difference_undone
returns-clause-difference_undone g c p q = difference_then_sum _ p q
