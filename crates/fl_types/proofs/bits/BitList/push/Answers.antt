use Rattle.std.proofs.Common.{length, ap, arith}
use Rattle.fl_types.proofs.BitLists.{length_first_bits}
use Rattle.fl_types.proofs.bits.BitList.push.Goals as goal

pub overflow_add-self : goal.overflow_add-self
overflow_add-self c =
    let len = length_first_bits c.self.inside.words.items c.self.inside.len in
    let seen = ap length c.self.view_is in
    omega (arith, len, seen)
