use Rattle.std.proofs.Common.{◌≡◌, ◌+◌, ◌++◌, ap, ◌∙◌, arith}
use Rattle.fl_types.specs.Bits.{bit_of_word, first_bits, tabulate}
use Rattle.fl_types.proofs.AddedBits.{bits_added}
use Rattle.fl_types.proofs.bits.BitList.push_word.Goals as goal

pub returns-clause-ok : goal.returns-clause-ok
returns-clause-ok c =
    let sum : c.in-Some.len ≡ c.self.inside.len + c.args.count = omega (arith, c.in-Some.ensures) in
    let added = bits_added c.self.inside.words.items c.push_bits.new.words.items c.self.inside.len c.args.word c.args.count c.in_ok-push_bits.ensures.before c.in_ok-push_bits.ensures.added in
    ap (first_bits c.push_bits.new.words.items) sum ∙ added ∙ ap (λ xs. xs ++ tabulate (bit_of_word c.args.word) c.args.count) c.self.view_is
