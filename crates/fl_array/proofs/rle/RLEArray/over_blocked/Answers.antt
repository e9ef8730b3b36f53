use Rattle.fl_array.proofs.ToBlockedLaws.{over_runs}
use Rattle.fl_array.proofs.rle.RLEArray.over_blocked.Goals as goal

pub new_unchecked-requires : goal.new_unchecked-requires
new_unchecked-requires c =
    rw (c.offset.ensures, c.len.ensures.len) (over_runs c.args.self.now c.args.values c.args.indices c.args.offsets c.prove_well_formed.ensures c.requires.values c.requires.indices c.requires.offsets)
