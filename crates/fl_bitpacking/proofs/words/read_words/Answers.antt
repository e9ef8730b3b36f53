use Rattle.std.proofs.Common.{◌≡◌, ◌/◌, ℕ, length, map, ap, ◌∙◌, arith, [], ◌∷◌}
use Rattle.std.proofs.lemmas.List.{map-append}
use Rattle.fl_types.specs.Bits.{tabulate}
use Rattle.fl_bitpacking.specs.Words.{word_as}
use Rattle.fl_bitpacking.proofs.Bounds.{one_more}
use Rattle.fl_bitpacking.proofs.words.read_words.Goals as goal

pub loop-m-preserved : goal.loop-m-preserved
loop-m-preserved g c =
    let value = g.T.Number.value in
    one_more (word_as g.T.NativePType.PTYPE c.args.bytes.now) c.loop-m.m (map value c.loop-m.words.items) _ (value c.word_of.result) (ap (map value) c.in_ok-push.ensures.items ∙ map-append value c.loop-m.words.items (c.word_of.result ∷ [])) c.loop-m.invariant c.word_of.ensures

pub returns : goal.returns
returns g c =
    let width = g.met.T.PhysicalPType.width_law in
    let all : c.loop-m.m ≡ c.args.count = omega (arith, c.loop-m-test.false, c.loop-m.auto) in
    c.loop-m.invariant ∙ ap (tabulate (word_as g.T.NativePType.PTYPE c.args.bytes.now)) (all ∙ (c.requires ∙ ap (λ (T : ℕ). length c.args.bytes.now / (T / 8)) width))
