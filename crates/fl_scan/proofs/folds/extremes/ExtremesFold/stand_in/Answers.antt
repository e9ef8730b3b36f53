use Rattle.std.proofs.Common.{◌<◌, ◌∙◌, arith, length, map, sym}
use Rattle.std.proofs.lemmas.List.{length-map}
use Rattle.std.proofs.lemmas.Nat.Bits.{bit_at-trailing_zeros}
use Rattle.std.specs.Int.{int_max, int_min, trailing_zeros, w64}
use Rattle.std.specs.Prelude.{option_map}
use Rattle.fl_types.specs.Bits.{bits_of_word}
use Rattle.fl_types.proofs.KeptLaws.{bit_true}
use Rattle.fl_scan.proofs.MaskLaws.{get_word, length_word}
use Rattle.fl_scan.proofs.SelectLaws.{greatest_picks, least_picks, picked_selected}
use Rattle.fl_scan.proofs.StepLaws.{mapped_item}
use Rattle.fl_scan.proofs.folds.extremes.ExtremesFold.stand_in.Goals as goal

pub returns : goal.returns
returns g c = λ a b h.
    let value = g.T.Number.value in
    let xs = c.args.items.now in
    let word = c.args.word in
    let at = trailing_zeros w64 word in
    let bits = bits_of_word word in
    let other = c.index-items-word.result in
    let place = bit_at-trailing_zeros w64 word (omega arith) (omega arith) in
    let long = length-map xs value in
    let size = c.requires in
    let wide = length_word word in
    let few = place.0 in
    let inside : at < length (map value xs) = omega arith in
    let room : at < length bits = omega arith in
    let on = get_word word at few ∙ bit_true word at place.1 in
    let is = sym (mapped_item value xs at other (omega arith) c.index-items-word.is) in (
      h.0 ∙ picked_selected int_min least_picks (option_map (λ p. value p.0) a.found) bits (map value xs) (value other) at room inside on is,
      h.1 ∙ picked_selected int_max greatest_picks (option_map (λ p. value p.1) a.found) bits (map value xs) (value other) at room inside on is,
    )
