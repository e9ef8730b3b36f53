use Rattle.std.proofs.Common.{◌≡◌, length, ap, sym, ◌∙◌, arith}
use Rattle.fl_types.proofs.BitLists.{length_first_bits}
use Rattle.fl_types.proofs.MovedBits.{bits_put}
use Rattle.fl_types.proofs.bits.BitList.set.Goals as goal

pub set_bit-requires : goal.set_bit-requires
set_bit-requires c =
    let long : length c.args.self.now ≡ c.self.inside.len = ap length (sym c.self.view_is) ∙ length_first_bits c.self.inside.words.items c.self.inside.len in
    let count = c.self.invariant in
    omega arith

pub returns : goal.returns
returns c =
    let long : length c.args.self.now ≡ c.self.inside.len = ap length (sym c.self.view_is) ∙ length_first_bits c.self.inside.words.items c.self.inside.len in
    rw (← c.self.view_is) (bits_put c.self.inside.words.items c.set_bit.new.words.items c.self.inside.len c.args.i c.args.bit (omega arith) c.set_bit.ensures.here c.set_bit.ensures.others)
