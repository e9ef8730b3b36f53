use Rattle.fl_patches.proofs.Marked.{narrow_test, wide_test}
use Rattle.fl_patches.proofs.gathering.most_of.Goals as goal

pub returns-then-width-lt64 : goal.returns-then-width-lt64
returns-then-width-lt64 c p fits = narrow_test c.args.width p c.if-width-lt64.true fits

pub returns-else-width-lt64 : goal.returns-else-width-lt64
returns-else-width-lt64 c p fits = wide_test c.args.width p c.if-width-lt64.false fits
