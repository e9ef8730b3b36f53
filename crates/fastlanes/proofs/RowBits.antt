-- A row of sixteen lanes holds the items of the block.
use Rattle.std.proofs.Common.{◌≡◌, ◌≢◌, ◌⊎◌, ℕ, ◌+◌, ◌-◌, ◌*◌, ◌/◌, ◌%◌, ◌^◌, ◌<◌, ◌≤◌, ◌∙◌, ap, sym, arith, inl, inr, refl}
use Rattle.std.specs.Int.{bit_at}
use Rattle.std.proofs.lemmas.Nat.Bits.{same_from_bits_below}
use Rattle.std.proofs.lemmas.Bool.{cases_lt, lt-ltb, le-ltb}
use Rattle.fastlanes.specs.Layout.{place, row_of, packed_bit, unpacked_bits, IsWordWidth, bits_8, bits_16, bits_32, bits_64}
use Rattle.fastlanes.proofs.BitSums.{bit_at_from_bits, from_bits_below}
use Rattle.fastlanes.proofs.Shifts.{spread_bit}
use Rattle.fastlanes.proofs.Blocks.{packed_bit_small}
use Rattle.fastlanes.proofs.Bijection.{place_read}

-- where a bit of an item stands in the words
same_word : (T lanes at i : ℕ) → IsWordWidth T lanes → at % T + i < T → ((at + i) / T ≡ at / T) × ((at + i) % T ≡ at % T + i)
same_word _ _ at i bits_8 h = (omega arith, omega arith)
same_word _ _ at i bits_16 h = (omega arith, omega arith)
same_word _ _ at i bits_32 h = (omega arith, omega arith)
same_word _ _ at i bits_64 h = (omega arith, omega arith)

next_word : (T lanes width at i : ℕ) → IsWordWidth T lanes → width ≤ T → i < width → T ≤ at % T + i → ((at + i) / T ≡ (at + (width - 1)) / T) × ((at + i) % T ≡ at % T + i - T)
next_word _ _ width at i bits_8 w q h = (omega arith, omega arith)
next_word _ _ width at i bits_16 w q h = (omega arith, omega arith)
next_word _ _ width at i bits_32 w q h = (omega arith, omega arith)
next_word _ _ width at i bits_64 w q h = (omega arith, omega arith)

spread_is_packed : (T lanes width : ℕ) (word : ℕ → ℕ) (at m i : ℕ) → IsWordWidth T lanes → width ≤ T → i < width
    → spread_bit T (at % T) (word (at / T * lanes + m)) (word ((at + (width - 1)) / T * lanes + m)) i ≡ packed_bit T lanes word m (at + i)
unfolding spread_bit packed_bit
spread_is_packed T lanes width word at m i shape w q =
    elim (cases_lt (at % T + i) T) [
      | inl under ↦ let where_is = same_word T lanes at i shape under in let test = lt-ltb (at % T + i) T under in rw (test, where_is.0, where_is.1) refl
      | inr over ↦ let where_is = next_word T lanes width at i shape w q over in let test = le-ltb (at % T + i) T over in rw (test, where_is.0, where_is.1) refl
    ]

-- an item that has the bits of the block is its item
pub row_item : (T lanes width : ℕ) (word : ℕ → ℕ) (r m x : ℕ) → IsWordWidth T lanes → width ≤ T → x < 2 ^ width
    → ((i : ℕ) → i < width → bit_at x i ≡ spread_bit T (r * width % T) (word (r * width / T * lanes + m)) (word ((r * width + (width - 1)) / T * lanes + m)) i)
    → x ≡ unpacked_bits T lanes width word r m width
unfolding unpacked_bits
row_item T lanes width word r m x shape w small bits =
    same_from_bits_below width _ _ small
    (from_bits_below (λ b. packed_bit T lanes word m (r * width + b)) (λ b. packed_bit_small T lanes word m (r * width + b)) width)
    (λ i h. bits i h ∙ (spread_is_packed T lanes width word (r * width) m i shape w h
    ∙ sym (bit_at_from_bits (λ b. packed_bit T lanes word m (r * width + b)) (λ b. packed_bit_small T lanes word m (r * width + b)) width i h)))

-- the lanes of a row stand side by side
pub place_more : (r l j : ℕ) → place r (l + j) ≡ place r l + j
unfolding place
place_more r l j = omega arith

-- a place of another row is not among sixteen places of this one
pub row_apart : (T lanes r s l m : ℕ) → IsWordWidth T lanes → r < T → s < T → l + 16 ≤ lanes → m < lanes → s ≢ r → (place s m < place r l) ⊎ (place r l + 16 ≤ place s m)
row_apart T lanes r s l m shape p q h k other =
    elim (cases_lt (place s m) (place r l)) [
      | inl below ↦ inl below
      | inr from ↦ elim (cases_lt (place s m) (place r l + 16)) [
        | inr above ↦ inr above
        | inl within ↦
            let j_fits : place s m - place r l < 16 = omega arith in
            let lane : l + (place s m - place r l) < lanes = omega arith in
            let same : place r (l + (place s m - place r l)) ≡ place s m = place_more r l (place s m - place r l) ∙ (let e : place r l + (place s m - place r l) ≡ place s m = omega arith in e) in
            let there = place_read T lanes s m shape q k in
            let here = place_read T lanes r (l + (place s m - place r l)) shape p lane in
            absurd (other (sym there.0 ∙ (ap (λ (i : ℕ). row_of lanes i) (sym same) ∙ here.0)))
      ]
    ]

-- sixteen lanes of a row lie in the block
pub row_room : (T lanes r l : ℕ) → IsWordWidth T lanes → r < T → l + 16 ≤ lanes → place r l + 16 ≤ 1024
row_room T lanes r l shape p h =
    let last : l + 15 < lanes = omega arith in
    let there = place_read T lanes r (l + 15) shape p last in
    let more = place_more r l 15 in
    omega arith
