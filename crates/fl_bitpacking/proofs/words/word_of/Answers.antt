use Rattle.std.proofs.Common.{ℕ, ap, ◌∙◌}
use Rattle.fastlanes.specs.Layout.{word_at}
use Rattle.fl_types.specs.Integers.{read_as}
use Rattle.fl_bitpacking.specs.Words.{word_as}
use Rattle.fl_bitpacking.proofs.words.word_of.Goals as goal

pub returns : goal.returns
unfolding word_as
returns g c =
    let width = g.met.T.PhysicalPType.width_law in
    c.from_physical.ensures ∙ ap (read_as g.T.NativePType.PTYPE) (c.word.ensures ∙ ap (λ (T : ℕ). word_at T c.args.bytes.now c.args.m) width)
