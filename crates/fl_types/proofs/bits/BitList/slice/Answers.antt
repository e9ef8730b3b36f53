use Rattle.std.proofs.Common.{◌≡◌, length, ap, sym, ◌∙◌, arith}
use Rattle.fl_types.proofs.BitLists.{length_first_bits}
use Rattle.fl_types.proofs.WordBits.{part_of_bits}
use Rattle.std.proofs.Common.{Ok}
use Rattle.fl_types.proofs.bits.BitList.slice.Goals as goal

pub words_from-requires-clause-room : goal.words_from-requires-clause-room
words_from-requires-clause-room c =
    let long : length c.args.self.now ≡ c.self.inside.len = ap length (sym c.self.view_is) ∙ length_first_bits c.self.inside.words.items c.self.inside.len in
    let count = c.self.invariant in
    rw c.as_slice.ensures.value (omega arith)

pub returns : goal.returns
returns c =
    let words = c.self.inside.words.items in
    let long : length c.args.self.now ≡ c.self.inside.len = ap length (sym c.self.view_is) ∙ length_first_bits words c.self.inside.len in
    let bits = rw c.as_slice.ensures.value at c.in_ok-words.ensures.bits in
    ap Ok (rw (← c.self.view_is) (part_of_bits words c.in_ok-words.words.items c.self.inside.len c.args.start c.args.end c.requires.order (omega arith) bits))
