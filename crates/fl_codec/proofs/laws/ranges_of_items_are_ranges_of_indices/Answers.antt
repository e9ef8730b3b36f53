use Rattle.fl_codec.proofs.DictionaryLaws.{range_of_ranks}
use Rattle.fl_codec.proofs.laws.ranges_of_items_are_ranges_of_indices.Goals as goal

pub returns : goal.returns
returns c = range_of_ranks
