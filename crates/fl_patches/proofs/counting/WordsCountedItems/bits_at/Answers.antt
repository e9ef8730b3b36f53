use Rattle.std.proofs.Common.{◌≡◌, ◌<◌, ◌^◌, ℕ, get_or, length, map, Some, arith, ap, sym, subst, ◌∙◌}
use Rattle.std.proofs.lemmas.List.{length-map}
use Rattle.fl_types.specs.Integers.{bits_of_type, pattern_of}
use Rattle.fl_types.proofs.Patterns.{pattern_read}
use Rattle.fl_patches.specs.Exceptions.{bit_count}
use Rattle.fl_patches.proofs.Histograms.{item_present, word_value}
use Rattle.fl_patches.proofs.counting.WordsCountedItems.bits_at.Goals as goal

pub returns : goal.returns
returns g c =
    let t = g.T.NativePType.PTYPE in
    let pattern = g.T.Physical.FastLanes.pattern in
    let read = word_value pattern t in
    let words = c.args.self.now.words.now in
    let count = length-map words read in
    let long : length (map (λ z. Some z) (map read words)) ≡ length (map read words) = length-map (map read words) (λ z. Some z) in
    let within : c.args.i < length words = omega (arith, c.requires) in
    let w = c.index-self-i.result in
    let at = get_or words c.args.i w in
    let small : pattern at < 2 ^ bits_of_type t = subst (λ (n : ℕ). pattern at < 2 ^ n) g.met.T.PhysicalPType.width_law c.to_u64.ensures.range in
    item_present t read words c.args.i c.bit_count.result w within c.index-self-i.is (c.bit_count.ensures ∙ ap bit_count (c.to_u64.ensures.number ∙ (sym (pattern_read t (pattern at) small) ∙ ap (λ y. pattern_of t (read y)) (sym c.index-self-i.is))))
