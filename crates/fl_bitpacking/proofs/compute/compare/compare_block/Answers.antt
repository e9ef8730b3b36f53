use Rattle.std.proofs.Common.{◌≡◌, ◌+◌, ◌*◌, rules}
use Rattle.fastlanes.specs.Compared.{IsAnswer, has_bit}
use Rattle.fastlanes.specs.Layout.{word_at}
use Rattle.fastlanes.specs.Rows.{item_of_row}
use Rattle.fastlanes.proofs.Steps.{item_small}
use Rattle.fl_bitpacking.specs.RangeTests.{in_range}
use Rattle.fl_bitpacking.specs.Readings.{bytes_at}
use Rattle.fl_bitpacking.proofs.ComparedLaws.{answers_placed}
use Rattle.fl_bitpacking.proofs.compute.compare.compare_block.Goals as goal

pub returns-clause-bits : goal.returns-clause-bits
unfolding IsAnswer
returns-clause-bits g c i h =
    let T = g.W.FastLanes.T in
    let lanes = g.W.FastLanes.LANES in
    let width = c.args.extent.width in
    let word = word_at T (bytes_at c.args.extent c.args.reader.now.bytes) in
    answers_placed T lanes width (g.W.FastLanes.pattern c.args.low) (g.W.FastLanes.pattern c.args.span) word c.compare_block.new.bits c.transpose_bits.new.output g.met.W.FastLanes.shape
    (λ r l p q.
    let item = item_of_row T lanes width word r l in
    let found = g.met.W.FastLanes.each_number item (item_small T lanes width word r l c.requires.width) in
    let e = c.compare_block.ensures.bits r l p q found.0 found.1 in
    let answer : has_bit c.compare_block.new.bits (l * T + r) ≡ in_range T (g.W.FastLanes.pattern c.args.low) (g.W.FastLanes.pattern c.args.span) (g.W.FastLanes.pattern found.0) = search rules in
    rw found.1 at answer)
    c.transpose_bits.ensures.bits i h
