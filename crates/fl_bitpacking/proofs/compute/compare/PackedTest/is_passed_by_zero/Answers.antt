use Rattle.std.proofs.Common.{◌∙◌}
use Rattle.std.proofs.lemmas.Nat.{pow_pos}
use Rattle.fl_types.specs.Integers.{bits_of_type}
use Rattle.fl_codec.proofs.Congruence.{read_as-zero}
use Rattle.fl_bitpacking.proofs.RangeLaws.{tested_by}
use Rattle.std.proofs.Common.{pos}
use Rattle.fl_bitpacking.proofs.compute.compare.PackedTest.is_passed_by_zero.Goals as goal

pub returns : goal.returns
returns c = c.is_passed_by.ensures ∙ tested_by c.args.self.ptype c.args.self.range c.args.self.patterns 0 (pos 0) c.requires.patterns (pow_pos (bits_of_type c.args.self.ptype)) (read_as-zero c.args.self.ptype)
