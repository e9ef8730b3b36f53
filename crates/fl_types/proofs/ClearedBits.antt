-- Bits that are cleared if a test says so.
use Rattle.std.proofs.Common.{inl, inr, ◌≡◌, ◌≢◌, ℕ, ◌*◌, ◌-◌, ◌%◌, ◌^◌, ◌<◌, ◌==◌, ◌&&◌, Bool, true, false, not, min, bit_and, count_ones, refl, ap, sym, ◌∙◌, arith}
use Rattle.std.specs.Int.{bit_at, bit_not, trailing_zeros, w64}
use Rattle.std.proofs.lemmas.Bool.{cases_eq, ne_eqb}
use Rattle.std.proofs.lemmas.Nat.Bits.{bit_at_and, bit_at_not, bit_at-lt, bit_at-trailing_zeros, bit_at-zero}
use mir.Val.{bool_byte}
use Rattle.fl_types.specs.Bits.{bit_of_word, bits_of_word, kept, tabulate, true_count}
use Rattle.fl_types.proofs.BitLists.{bit_cleared, bit_left, same_tables}
use Rattle.fl_types.proofs.KeptLaws.{bit_stays, bit_true, either_bits, gather_step}
use Rattle.fl_types.proofs.WordBits.{few_ones}

-- a bit that is taken out of a word if a test says so
left_by_none : (word at j : ℕ) → j < 64 → bit_of_word (bit_and word (bit_not w64 (0 * 2 ^ at % 18446744073709551616))) j ≡ bit_of_word word j
unfolding bit_of_word
left_by_none word at j h =
    let nothing : 0 * 2 ^ at % 18446744073709551616 ≡ 0 = omega arith in
    let both = bit_at_and word (bit_not w64 0) j in
    let all = bit_at_not w64 0 j (omega arith) h in
    let none = bit_at-zero j in
    let few = bit_at-lt word j in
    let same : bit_at (bit_and word (bit_not w64 0)) j ≡ bit_at word j = omega arith in
    rw nothing (ap (λ (b : ℕ). b == 1) same)

pub cleared_if : (word at byte : ℕ) (on : Bool) → at < 64 → byte ≡ bool_byte on → bit_of_word (bit_and word (bit_not w64 (byte * 2 ^ at % 18446744073709551616))) at ≡ (bit_of_word word at && not on)
cleared_if word at byte true h e = rw e (bit_cleared word at h ∙ none (bit_of_word word at))
  where
    none : (b : Bool) → false ≡ (b && not true)
    none true = refl
    none false = refl
cleared_if word at byte false h e = rw e (left_by_none word at at h ∙ same (bit_of_word word at))
  where
    same : (b : Bool) → b ≡ (b && not false)
    same true = refl
    same false = refl

pub left_if : (word at j byte : ℕ) (on : Bool) → at < 64 → j < 64 → j ≢ at → byte ≡ bool_byte on → bit_of_word (bit_and word (bit_not w64 (byte * 2 ^ at % 18446744073709551616))) j ≡ bit_of_word word j
left_if word at j byte true h k away e = rw e (bit_left word at j h k away)
left_if word at j byte false h k away e = rw e (left_by_none word at j k)

-- what is gathered while some bits are still to be cleared
pub record Gathers (word mask old rest : ℕ) : Type 0 where
  pub masked : (j : ℕ) → bit_of_word rest j ≡ true → bit_of_word mask j ≡ true
  pub unset : (j : ℕ) → j < 64 → bit_of_word rest j ≡ true → bit_of_word word j ≡ false
  pub bits : tabulate (bit_of_word old) (count_ones mask) ≡ kept (bits_of_word mask) (either_bits word rest)

-- the next one is cleared, if there is one
pub gather_next : (word mask old new rest at : ℕ) (on : Bool) → mask < 2 ^ 64 → rest < 2 ^ 64 → on ≡ not (rest == 0) → at ≡ true_count (tabulate (bit_of_word mask) (min (trailing_zeros w64 rest) 63))
    → bit_of_word new at ≡ (bit_of_word old at && not on) → ((j : ℕ) → j < 64 → j ≢ at → bit_of_word new j ≡ bit_of_word old j) → Gathers word mask old rest → Gathers word mask new (bit_and rest (rest - 1))
gather_next word mask old new rest at on few small says is here others so = elim (cases_eq rest 0) [
  | inl none ↦
      let off : on ≡ false = says ∙ rw none refl in
      let stays : bit_and rest (rest - 1) ≡ rest = rw none refl in
      let kept_here : bit_of_word new at ≡ bit_of_word old at = here ∙ rw off (and_true (bit_of_word old at)) in
      let most = few_ones mask few in
      let same = same_tables (bit_of_word new) (bit_of_word old) (count_ones mask) (λ i h. elim (cases_eq i at) [
        | inl e ↦ rw e kept_here
        | inr away ↦ others i (omega arith) away
      ]) in
      rw stays (record { masked = so.masked; unset = so.unset; bits = same ∙ so.bits })
  | inr some ↦
      let t = trailing_zeros w64 rest in
      let place = bit_at-trailing_zeros w64 rest (omega arith) (omega arith) in
      let low : t < 64 = place.0 in
      let near : min t 63 ≡ t = omega arith in
      let set = bit_true rest t place.1 in
      let on_is : on ≡ true = says ∙ ap not (ne_eqb rest 0 some) in
      let cleared : bit_of_word new at ≡ false = here ∙ rw on_is (and_false (bit_of_word old at)) in
      record {
        masked = λ j h. so.masked j (bit_stays rest t j place.1 place.2 h);
        unset = λ j within h. so.unset j within (bit_stays rest t j place.1 place.2 h);
        bits = gather_step word mask old new rest t at few low place.1 place.2 (so.masked t set) (so.unset t low set) (is ∙ ap (λ (n : ℕ). true_count (tabulate (bit_of_word mask) n)) near) cleared others so.bits;
      }
]
  where
    and_true : (b : Bool) → (b && not false) ≡ b
    and_true true = refl
    and_true false = refl

    and_false : (b : Bool) → (b && not true) ≡ false
    and_false true = refl
    and_false false = refl
