use Rattle.fastlanes.proofs.Changes.{decoded_run}
use Rattle.fastlanes.proofs.laws.kernels.runs_give_items.Goals as goal

pub returns : goal.returns
returns c item value index decoded = decoded_run item value index decoded
