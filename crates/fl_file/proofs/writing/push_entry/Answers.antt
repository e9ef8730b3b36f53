use Rattle.std.proofs.Common.{◌≡◌, ◌∷◌, [], arith, rules}
use Rattle.std.specs.Prelude.{FitsSigned}
use Rattle.std.specs.Int.{w128}
use Rattle.std.proofs.lemmas.Int.{to_z-of_z}
use Rattle.fl_file.specs.Foot.{bit_word, greatest_of, integer_bytes, least_of, word_bytes}
use Rattle.fl_file.proofs.FootSteps.{four_parts}
use Rattle.fl_file.proofs.writing.push_entry.Goals as goal

pub returns : goal.returns
returns c =
    let e = c.args.entry.now in
    let s = e.statistics in
    let f : FitsSigned w128 c.least_of.result = search rules in
    let g : FitsSigned w128 c.greatest_of.result = search rules in
    let h : FitsSigned w128 c.args.entry.now.statistics.sum = search rules in
    let wide : c.from.result ≡ c.args.entry.now.checksum = omega arith in
    let words = rw (wide, c.bit_word.ensures) at c.in_ok-push_words.ensures in
    let least = rw (to_z-of_z w128 c.least_of.result f, c.least_of.ensures) at c.in_ok-push_integer.ensures in
    let greatest = rw (to_z-of_z w128 c.greatest_of.result g, c.greatest_of.ensures) at c.in_ok-push_integer-2.ensures in
    let sum = rw (to_z-of_z w128 c.args.entry.now.statistics.sum h) at c.push_integer-3.ensures in
    four_parts c.push_integer-3.result c.args.out.now.items c.push_words.new.out.items c.push_integer.new.out.items c.push_integer-2.new.out.items c.push_integer-3.new.out.items
    (word_bytes (e.offset ∷ e.size ∷ e.checksum ∷ s.len ∷ s.null_count ∷ bit_word s.is_sorted ∷ [])) (integer_bytes (least_of s.extremes)) (integer_bytes (greatest_of s.extremes)) (integer_bytes s.sum) words least greatest sum
