use Rattle.std.proofs.Common.{◌≡◌, ◌*◌, ◌%◌, ◌^◌, ◌≤◌, ◌∙◌, sym, arith}
use Rattle.std.proofs.Math.Nat.{mod-eq_of_lt}
use Rattle.std.proofs.Math.Pow.{pow_mono}
use Rattle.fl_bitpacking.proofs.DecidedLaws.{decided_by_patterns, few_bits, native_undecided}
use Rattle.fl_bitpacking.specs.RangeTests.{passes}
use Rattle.fl_bitpacking.proofs.compute.compare.PackedTest.is_decided.Goals as goal

pub returns-then-width-bit_width : goal.returns-then-width-bit_width
returns-then-width-bit_width c = let bits = c.bit_width.ensures in sym (native_undecided c.args.self.ptype c.args.width (passes c.args.self.range) (omega arith))

pub returns : goal.returns
returns c =
    let bits = c.bit_width.ensures in
    let few = few_bits c.args.self.ptype in
    let most : 2 ^ c.args.width ≤ 2 ^ 63 = pow_mono {i = c.args.width} {j = 63} (omega arith) in
    let count : 1 * 2 ^ c.args.width % 18446744073709551616 ≡ 2 ^ c.args.width = mod-eq_of_lt (omega arith) ∙ (let one : 1 * 2 ^ c.args.width ≡ 2 ^ c.args.width = omega arith in one) in
    rw count at c.has_one_answer.ensures ∙ decided_by_patterns c.args.self.ptype c.args.width c.args.self.range c.args.self.patterns (omega arith) c.requires.test.patterns
