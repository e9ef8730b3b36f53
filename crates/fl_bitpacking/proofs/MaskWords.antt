-- Words of a list of booleans that begin anywhere.
use Rattle.std.proofs.Common.{◌≡◌, ℕ, ◌+◌, ◌-◌, ◌<◌, ◌≤◌, Bool, false, List, length, get_or, count_ones, ap, sym, ◌∙◌, arith}
use Rattle.std.proofs.lemmas.List.Sums.{count_by-le-length}
use Rattle.fl_column.proofs.ItemLaws.{length-between}
use Rattle.fl_types.specs.Bits.{between, bit_of_word, tabulate, true_count}
use Rattle.fl_types.proofs.BitLists.{table_between}
use Rattle.fl_types.proofs.WordBits.{count_more, ones_of_bits}

-- how many booleans are true, of which the last `count` are the bits of a word
pub count_of_word : (bits : List Bool) (from at count word set : ℕ) → from + (at + count) ≤ length bits → ((j : ℕ) → j < count → bit_of_word word j ≡ get_or bits (from + at + j) false) → ((j : ℕ) → count ≤ j → bit_of_word word j ≡ false)
    → set ≡ true_count (between from (from + at) bits) → set + count_ones word ≡ true_count (between from (from + (at + count)) bits)
count_of_word bits from at count word set within is clear before =
    let f : ℕ → Bool = λ i. get_or bits (from + i) false in
    let place : (j : ℕ) → from + at + j ≡ from + (at + j) = λ j. omega arith in
    let ones = ones_of_bits (λ j. f (at + j)) count word (λ j h. is j h ∙ ap (λ (m : ℕ). get_or bits m false) (place j)) clear in
    let some : from + at - from ≡ at = omega arith in
    let all : from + (at + count) - from ≡ at + count = omega arith in
    let first : true_count (tabulate f at) ≡ true_count (between from (from + at) bits) = ap true_count (ap (λ (m : ℕ). tabulate f m) (sym some) ∙ table_between bits from (from + at) false (omega arith) (omega arith)) in
    let last : true_count (tabulate f (at + count)) ≡ true_count (between from (from + (at + count)) bits) = ap true_count (ap (λ (m : ℕ). tabulate f m) (sym all) ∙ table_between bits from (from + (at + count)) false (omega arith) (omega arith)) in
    let sum = count_more f at count in
    omega arith

pub count_fits : (bits : List Bool) (from at count word set : ℕ) → from + (at + count) ≤ length bits → ((j : ℕ) → j < count → bit_of_word word j ≡ get_or bits (from + at + j) false) → ((j : ℕ) → count ≤ j → bit_of_word word j ≡ false)
    → set ≡ true_count (between from (from + at) bits) → set + count_ones word ≤ at + count
count_fits bits from at count word set within is clear before =
    let counted = count_of_word bits from at count word set within is clear before in
    let most = count_by-le-length (λ (bit : Bool). bit) (between from (from + (at + count)) bits) in
    let long = length-between bits from (from + (at + count)) (omega arith) within in
    omega arith
