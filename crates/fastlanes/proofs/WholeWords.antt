-- Blocks at width 0, and blocks of bytes at the width of a byte.
use Rattle.std.proofs.Common.{◌≡◌, ℕ, ◌+◌, ◌*◌, ◌/◌, ◌%◌, ◌^◌, ◌<◌, arith, ◌∙◌, sym, ap, refl}
use Rattle.std.proofs.Math.Nat.{mod-eq_of_lt}
use Rattle.std.specs.Int.{bit_at}
use Rattle.fastlanes.specs.Layout.{place, Packed, IsWordWidth, bits_8, bits_16, bits_32, bits_64, packed_bit, unpacked_item}
use Rattle.fastlanes.proofs.Steps.{unframed}
use Rattle.fastlanes.proofs.SingleItems.{single_none}
use Rattle.fastlanes.proofs.Unique.{items_read}

-- at width 0 an item is 0
pub none_added : (T lanes width : ℕ) (word : ℕ → ℕ) (i x : ℕ) → width ≡ 0 → x < 2 ^ T → x ≡ (unpacked_item T lanes width word i + x) % 2 ^ T
none_added T lanes width word i x none small =
    let zero_item : 0 ≡ unpacked_item T lanes width word i = single_none T lanes width word i 0 none refl in
    let plain : 0 + x ≡ x = omega arith in
    rw (← zero_item) (rw plain (sym (mod-eq_of_lt small)))

bytes_packed : (item word : ℕ → ℕ) → ((i : ℕ) → i < 1024 → word i ≡ item i) → Packed 8 128 8 item word
unfolding packed_bit place
bytes_packed item word same = record {
  bits = λ r l b p q h.
      let k : (r * 8 + b) / 8 ≡ r = omega arith in
      let s : (r * 8 + b) % 8 ≡ b = omega arith in
      let high : r / 8 ≡ 0 = omega arith in
      let at : l + 128 * (r % 8) + 16 * 0 ≡ r * 128 + l = omega arith in
      rw (k, s, high) (rw at (ap (λ (x : ℕ). bit_at x b) (sym (same (r * 128 + l) (omega arith)))));
}

-- items that are the words of a block of bytes are packed in them
pub whole_packed : (T lanes width : ℕ) (item word : ℕ → ℕ) → IsWordWidth T lanes → T ≡ 8 → width ≡ 8 → ((i : ℕ) → i < 1024 → word i ≡ item i) → Packed T lanes width item word
whole_packed T lanes width item word bits_8 eight e same = rw e (bytes_packed item word same)
whole_packed T lanes width item word bits_16 eight e same = absurd (omega arith)
whole_packed T lanes width item word bits_32 eight e same = absurd (omega arith)
whole_packed T lanes width item word bits_64 eight e same = absurd (omega arith)

-- and are what is unpacked
pub whole_unpacked : (T lanes width : ℕ) (word : ℕ → ℕ) (i y x : ℕ) → IsWordWidth T lanes → T ≡ 8 → width ≡ 8 → i < 1024 → word i < 2 ^ T → y ≡ word i → x ≡ 0 → y ≡ (unpacked_item T lanes width word i + x) % 2 ^ T
whole_unpacked T lanes width word i y x shape eight e h small read none =
    let same : width ≡ T = omega arith in
    let packed = whole_packed T lanes width word word shape eight e (λ k n. refl) in
    let item = items_read T lanes width word word shape packed i h in
    let whole : word i % 2 ^ width ≡ word i = rw same (mod-eq_of_lt small) in
    read ∙ (sym whole ∙ (item ∙ sym (unframed T lanes width word i x (omega arith) none)))

-- such a block has as many words as items
pub whole_count : (T lanes width : ℕ) → IsWordWidth T lanes → T ≡ 8 → width ≡ 8 → width * lanes ≡ 1024
whole_count T lanes width bits_8 eight e = omega arith
whole_count T lanes width bits_16 eight e = absurd (omega arith)
whole_count T lanes width bits_32 eight e = absurd (omega arith)
whole_count T lanes width bits_64 eight e = absurd (omega arith)
