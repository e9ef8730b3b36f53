use Rattle.std.proofs.Common.{◌≡◌, ◌<◌, ◌≤◌, ◌*◌, ◌+◌, ◌/◌, length, ◌∙◌, arith, refl, count_ones}
use Rattle.fl_types.specs.Bits.{first_bits, true_count}
use Rattle.std.proofs.lemmas.List.{get_or_read}
use Rattle.std.proofs.lemmas.List.Sums.{count_by-le-length}
use Rattle.fl_types.proofs.BitLists.{length_first_bits}
use Rattle.fl_types.proofs.WordBits.{counted_rest, front_count}
use Rattle.fl_types.proofs.bits.BitList.count_true.Goals as goal

pub overflow_add-result : goal.overflow_add-result
overflow_add-result c =
    let words = c.self.inside.words.items in
    let len = c.self.inside.len in
    let count = c.self.invariant in
    let within : len / 64 < length words = omega arith in
    let front : c.count_ones-count.result ≡ true_count (first_bits words (64 * (len / 64))) = c.count_ones-count.ensures ∙ rw c.deref.ensures.value (front_count words (len / 64) (64 * (len / 64)) (omega arith) refl) in
    let sum : c.count_ones-count.result + count_ones c.low_bits.result ≡ true_count (first_bits words len) = counted_rest words len (len / 64) _ c.low_bits.result c.count_ones-count.result refl (get_or_read words (len / 64) _ within c.index.ensures 0) c.low_bits.ensures.low c.low_bits.ensures.clear front in
    let few : true_count (first_bits words len) ≤ length (first_bits words len) = count_by-le-length (λ bit. bit) (first_bits words len) in
    let long = length_first_bits words len in
    omega arith

pub returns-in_default : goal.returns-in_default
returns-in_default c =
    let words = c.self.inside.words.items in
    let len = c.self.inside.len in
    let count = c.self.invariant in
    let within : len / 64 < length words = omega arith in
    let front : c.count_ones-count.result ≡ true_count (first_bits words (64 * (len / 64))) = c.count_ones-count.ensures ∙ rw c.deref.ensures.value (front_count words (len / 64) (64 * (len / 64)) (omega arith) refl) in
    rw (← c.self.view_is) (counted_rest words len (len / 64) _ c.low_bits.result c.count_ones-count.result refl (get_or_read words (len / 64) _ within c.index.ensures 0) c.low_bits.ensures.low c.low_bits.ensures.clear front)
