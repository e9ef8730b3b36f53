use Rattle.fl_codec.proofs.FoRRoundTrips.{chunked_back}
use Rattle.fl_codec.proofs.laws.chunked_for_by_and_back.Goals as goal

pub returns : goal.returns
returns c = chunked_back c.args.order c.args.array.now c.validity-validity.ensures.covers c.stored_integers_are_in_range.ensures.slots
