use Rattle.fl_patches.proofs.Gathers.{blocks_none}
use Rattle.fl_patches.proofs.gathering.BlockExceptions.with_capacity.Goals as goal

pub returns : goal.returns
returns g c = λ items. blocks_none _ _ _ items c.in_ok-with_capacity.ensures c.in_ok-with_capacity-2.ensures.items
