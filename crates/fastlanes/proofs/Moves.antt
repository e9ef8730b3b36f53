-- Items of a delta block move in runs.
use Rattle.std.proofs.Common.{◌≡◌, ℕ, ◌+◌, ◌*◌, ◌/◌, ◌%◌, ◌<◌, ◌≤◌, arith, refl, sym, zero, suc, lit<, ◌∙◌, ap}
use Rattle.std.specs.Prelude.{◌&&◌, nat_eq, Bool, true}
use Rattle.std.proofs.lemmas.Bool.{and_parts, eqb-true}
use Rattle.fastlanes.specs.Layout.{order_of, place, segment, IsWordWidth, bits_8, bits_16, bits_32, bits_64}
use Rattle.fastlanes.specs.Delta.{gathered_from, moved_from, moved_to, Transposed}
use Rattle.fastlanes.proofs.Places.{place_below}
use Rattle.fastlanes.proofs.Bijection.{all_below, below_true, place_read, segment_read}

-- where the items of a delta block move, the same for every word
abbrev moves_there : ℕ → ℕ → ℕ → Bool
moves_there lanes r l = nat_eq (moved_from (place r l)) (segment l + r) && nat_eq (moved_to (segment l + r)) (place r l)

moves_checked : (T lanes : ℕ) → IsWordWidth T lanes → all_below T (λ r. all_below lanes (moves_there lanes r)) ≡ true
unfolding place segment moved_from moved_to
moves_checked _ _ bits_8 = refl
moves_checked _ _ bits_16 = refl
moves_checked _ _ bits_32 = refl
moves_checked _ _ bits_64 = refl

pub moves_read : (T lanes r l : ℕ) → IsWordWidth T lanes → r < T → l < lanes → (moved_from (place r l) ≡ segment l + r) × (moved_to (segment l + r) ≡ place r l)
moves_read T lanes r l shape p q =
    let e = below_true lanes (moves_there lanes r) l (below_true T (λ s. all_below lanes (moves_there lanes s)) r (moves_checked T lanes shape) p) q in
    let a = and_parts (nat_eq (moved_from (place r l)) (segment l + r)) (nat_eq (moved_to (segment l + r)) (place r l)) e in
    (eqb-true _ _ a.0, eqb-true _ _ a.1)

order_below : (q : ℕ) → q < 8 → order_of q < 8
order_below zero h = lit< tt
order_below (suc zero) h = lit< tt
order_below (suc (suc zero)) h = lit< tt
order_below (suc (suc (suc zero))) h = lit< tt
order_below (suc (suc (suc (suc zero)))) h = lit< tt
order_below (suc (suc (suc (suc (suc zero))))) h = lit< tt
order_below (suc (suc (suc (suc (suc (suc zero)))))) h = lit< tt
order_below (suc (suc (suc (suc (suc (suc (suc zero))))))) h = lit< tt
order_below (suc (suc (suc (suc (suc (suc (suc (suc q)))))))) h = absurd (omega arith)

pub moved_from_run : (g a : ℕ) → a < 16 → g < 64 → (moved_from (16 * g + a) ≡ 64 * a + segment (16 * (g % 8)) + g / 8) × (64 * a + segment (16 * (g % 8)) + g / 8 < 1024)
unfolding moved_from segment
moved_from_run g a h k =
    let one : (16 * g + a) % 16 ≡ a = omega arith in
    let two : (16 * g + a) / 16 % 8 ≡ g % 8 = omega arith in
    let three : (16 * g + a) / 128 ≡ g / 8 = omega arith in
    let four : 16 * (g % 8) % 16 ≡ 0 = omega arith in
    let five : 16 * (g % 8) / 16 ≡ g % 8 = omega arith in
    let six = order_below (g % 8) (omega arith) in
    (rw (one, two, three, four, five) (omega arith), rw (four, five) (omega arith))

pub moved_to_run : (h c : ℕ) → c < 8 → h < 128 → (moved_to (8 * h + c) ≡ place (8 * (h % 8) + c) (h / 8)) × (place (8 * (h % 8) + c) (h / 8) < 1024)
unfolding moved_to place
moved_to_run h c p q =
    let one : (8 * h + c) / 64 ≡ h / 8 = omega arith in
    let two : (8 * h + c) / 8 % 8 ≡ h % 8 = omega arith in
    let three : (8 * h + c) % 8 ≡ c = omega arith in
    let four : (8 * (h % 8) + c) % 8 ≡ c = omega arith in
    let five : (8 * (h % 8) + c) / 8 ≡ h % 8 = omega arith in
    let six = order_below (h % 8) (omega arith) in
    (rw (one, two, three, four, five) (omega arith), rw (four, five) (omega arith))

pub gathered_run : (h c : ℕ) → c < 8 → h < 128 → (gathered_from (8 * h + c) ≡ 8 * place (8 * (h % 8)) (h / 8) + c) × (8 * place (8 * (h % 8)) (h / 8) + c < 1024)
unfolding gathered_from place
gathered_run h c p q =
    let one : (8 * h + c) / 64 ≡ h / 8 = omega arith in
    let two : (8 * h + c) / 8 % 8 ≡ h % 8 = omega arith in
    let three : (8 * h + c) % 8 ≡ c = omega arith in
    let four : 8 * (h % 8) % 8 ≡ 0 = omega arith in
    let five : 8 * (h % 8) / 8 ≡ h % 8 = omega arith in
    let six = order_below (h % 8) (omega arith) in
    (rw (one, two, three, four, five) (omega arith), rw (four, five) (omega arith))

pub gathered_moved : (i : ℕ) → i < 1024 → (gathered_from i < 1024) × (gathered_from i / 8 + 128 * (gathered_from i % 8) ≡ moved_to i)
unfolding gathered_from moved_to
gathered_moved i h =
    let order = order_below (i / 8 % 8) (omega arith) in
    (omega arith, omega arith)

pub segment_first : (q : ℕ) → q < 8 → segment (16 * q) ≤ 56
unfolding segment
segment_first q h =
    let one : 16 * q % 16 ≡ 0 = omega arith in
    let two : 16 * q / 16 ≡ q = omega arith in
    let three = order_below q h in
    rw (one, two) (omega arith)

pub place_low : (r l : ℕ) → r < 64 → l < 16 → place r l < 1024
place_low r l p q = (place_below 64 16 r l bits_64 p q).2

pub transposed_from : (T lanes : ℕ) (item stored : ℕ → ℕ) → IsWordWidth T lanes → ((i : ℕ) → i < 1024 → stored i ≡ item (moved_from i)) → Transposed T lanes item stored
transposed_from T lanes item stored shape each = record {
  moved = λ r l p q.
      let there = place_read T lanes r l shape p q in
      each (place r l) there.2 ∙ ap item (moves_read T lanes r l shape p q).0;
}

pub transposed_to : (T lanes : ℕ) (item stored : ℕ → ℕ) → IsWordWidth T lanes → ((i : ℕ) → i < 1024 → item i ≡ stored (moved_to i)) → Transposed T lanes item stored
transposed_to T lanes item stored shape each = record {
  moved = λ r l p q.
      let there = segment_read T lanes r l shape p q in
      sym (each (segment l + r) there.2 ∙ ap stored (moves_read T lanes r l shape p q).1);
}
