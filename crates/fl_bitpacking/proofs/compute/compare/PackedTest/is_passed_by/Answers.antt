use Rattle.std.proofs.Common.{◌≡◌, ◌∙◌, ap, sym}
use Rattle.fl_types.specs.Integers.{pattern_of, read_as}
use Rattle.fl_codec.proofs.Congruence.{pattern_small, read_as-pattern_of}
use Rattle.fl_bitpacking.proofs.RangeLaws.{tested_by}
use Rattle.fl_bitpacking.proofs.compute.compare.PackedTest.is_passed_by.Goals as goal

pub returns : goal.returns
returns g c =
    let ptype = c.args.self.ptype in
    let z = g.T.Number.value c.args.item in
    let is : c.pattern.result ≡ pattern_of c.args.self.ptype (g.T.Number.value c.args.item) = c.pattern.ensures ∙ ap (λ t. pattern_of t z) (sym c.requires.typed) in
    c.is_passed_by.ensures
    ∙ tested_by ptype c.args.self.range c.args.self.patterns c.pattern.result z c.requires.test.patterns (rw is (pattern_small ptype z)) (ap (read_as ptype) is ∙ read_as-pattern_of ptype z (rw c.requires.typed c.integer_is_in_range.ensures))
