use Rattle.fl_array.proofs.InPlace.{runs_refusal_of}
use Rattle.fl_array.proofs.rle.RLEArray.over.Goals as goal

pub new_unchecked-requires : goal.new_unchecked-requires
new_unchecked-requires c =
    runs_refusal_of c.args.self.now c.args.values c.args.indices c.in_ok-offsets.offsets c.offset-offset.result c.len-len.result c.prove_well_formed.ensures
    c.requires.values c.requires.value_type c.requires.non_nullable c.requires.indices c.requires.index_type (rw c.offsets.ensures at c.in_ok-offsets.ensures) c.offset-offset.ensures c.len-len.ensures.len
