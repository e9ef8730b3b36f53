use Rattle.fl_compress.proofs.search.+choose_framed_or_deltas.Given as goal

abbrev pub decreases-choose_framed_or_deltas : goal.decreases-choose_framed_or_deltas
decreases-choose_framed_or_deltas l = l.nested
