-- said here, where the search finds it too: a body that breaks it is refused at once
use Rattle.std.proofs.Common.{rules}
use Rattle.fl_patches.proofs.LeastTotals.{best_within}
use Rattle.fl_patches.proofs.best_width.find_best_bit_width.Goals as goal

pub returns : goal.returns
returns c = record {
  width = search rules;
  within = λ some. rw c.least_cost.ensures (best_within c.args.ptype c.args.histogram.now some);
}
