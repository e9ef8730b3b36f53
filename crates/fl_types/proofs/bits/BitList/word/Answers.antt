use Rattle.std.proofs.Common.{◌≡◌, ◌<◌, length, ap, sym, ◌∙◌, arith}
use Rattle.std.proofs.lemmas.List.{get_or_read}
use Rattle.fl_types.proofs.BitLists.{length_first_bits}
use Rattle.fl_types.proofs.WordBits.{low_of_bits}
use Rattle.fl_types.proofs.bits.BitList.word.Goals as goal

pub index-requires : goal.index-requires
index-requires c =
    let long : length c.args.self.now ≡ c.self.inside.len = ap length (sym c.self.view_is) ∙ length_first_bits c.self.inside.words.items c.self.inside.len in
    let count = c.self.invariant in
    omega arith

pub overflow_mul-k : goal.overflow_mul-k
overflow_mul-k c =
    let long : length c.args.self.now ≡ c.self.inside.len = ap length (sym c.self.view_is) ∙ length_first_bits c.self.inside.words.items c.self.inside.len in
    omega arith

pub overflow_sub-self-inside : goal.overflow_sub-self-inside
overflow_sub-self-inside c =
    let long : length c.args.self.now ≡ c.self.inside.len = ap length (sym c.self.view_is) ∙ length_first_bits c.self.inside.words.items c.self.inside.len in
    omega arith

pub returns : goal.returns
returns c j h =
    let words = c.self.inside.words.items in
    let long : length c.args.self.now ≡ c.self.inside.len = ap length (sym c.self.view_is) ∙ length_first_bits words c.self.inside.len in
    let count = c.self.invariant in
    let within : c.args.k < length words = omega arith in
    rw (← c.self.view_is) (low_of_bits words c.self.inside.len c.args.k _ _ (get_or_read words c.args.k _ within c.index.ensures 0) c.low_bits.ensures.low c.low_bits.ensures.clear j h)
