use Rattle.fl_bitpacking.proofs.SameWords.{words_of_bytes}
use Rattle.fl_bitpacking.proofs.laws.words_as_in_bytes.Goals as goal

pub returns : goal.returns
returns c ptype integers words width bytes small made packed m h = words_of_bytes ptype integers words width bytes small made packed m h
