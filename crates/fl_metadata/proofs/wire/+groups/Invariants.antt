use Rattle.fl_metadata.proofs.wire.+groups.Given as goal

abbrev pub decreases-groups : goal.decreases-groups
decreases-groups l = l.more
