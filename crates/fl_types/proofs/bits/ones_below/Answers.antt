use Rattle.std.proofs.Common.{◌≡◌, ◌≤◌, length, arith}
use Rattle.std.proofs.lemmas.List.FromFn.{length-map-range_with_len}
use Rattle.std.proofs.lemmas.List.Sums.{count_by-le-length}
use Rattle.fl_types.specs.Bits.{bit_of_word, tabulate, true_count}
use Rattle.fl_types.proofs.WordBits.{ones_of_bits}
use Rattle.fl_types.proofs.bits.ones_below.Goals as goal

pub returns-clause-ones : goal.returns-clause-ones
returns-clause-ones c = ones_of_bits (bit_of_word c.args.word) c.args.at c.low_bits.result c.low_bits.ensures.low c.low_bits.ensures.clear

pub returns-clause-few : goal.returns-clause-few
returns-clause-few c =
    let bits = tabulate (bit_of_word c.args.word) c.args.at in
    let ones = ones_of_bits (bit_of_word c.args.word) c.args.at c.low_bits.result c.low_bits.ensures.low c.low_bits.ensures.clear in
    let long : length bits ≡ c.args.at = length-map-range_with_len (bit_of_word c.args.word) 0 c.args.at in
    let few : true_count bits ≤ length bits = count_by-le-length (λ bit. bit) bits in
    omega (arith, c.requires)
