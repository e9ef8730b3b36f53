use Rattle.std.proofs.Common.{◌≡◌, ◌+◌, length, ap, refl, sym, ◌∙◌, arith}
use Rattle.fl_types.proofs.BitLists.{each_first_bit, length_first_bits}
use Rattle.fl_types.specs.Bits.{is_set}
use Rattle.fl_types.proofs.bits.BitList.word_from.Goals as goal

pub word_from-requires : goal.word_from-requires
word_from-requires c =
    let long : length c.args.self.now ≡ c.self.inside.len = ap length (sym c.self.view_is) ∙ length_first_bits c.self.inside.words.items c.self.inside.len in
    let some = c.requires.some in
    let within = c.requires.within in
    let count = c.self.invariant in
    rw c.as_slice.ensures.value (omega arith)

pub returns-clause-bits : goal.returns-clause-bits
returns-clause-bits c j h =
    let words = c.self.inside.words.items in
    let long : length c.args.self.now ≡ c.self.inside.len = ap length (sym c.self.view_is) ∙ length_first_bits words c.self.inside.len in
    let few = c.requires.few in
    let within = c.requires.within in
    let count = c.self.invariant in
    let read = rw c.as_slice.ensures.value at c.word_from.ensures in
    rw (← c.self.view_is) (c.low_bits.ensures.low j h ∙ read j (omega arith) (omega arith)
    ∙ sym (each_first_bit (λ i b. b ≡ is_set words i) words c.self.inside.len (λ i k. refl) (c.args.start + j) (omega arith)))
