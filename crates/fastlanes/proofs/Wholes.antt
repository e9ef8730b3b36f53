-- Blocks that agree at each position are equal.
use Rattle.std.proofs.Common.{◌≡◌, ℕ, suc, ◌<◌, ◌≤◌, ◌∙◌, sym, arith, refl, List, [], ◌∷◌, length}
use Rattle.std.proofs.Math.Nat.{suc_inj}
use Rattle.fastlanes.specs.Layout.{place, pattern_at, row_of, lane_of, segment_row, segment_lane, IsWordWidth, bits_8, bits_16, bits_32, bits_64}
use Rattle.fastlanes.specs.Delta.{Transposed}
use Rattle.fastlanes.proofs.Bijection.{position_placed, segment_placed}

few_lanes : (T lanes : ℕ) → IsWordWidth T lanes → lanes ≤ 128
few_lanes _ _ bits_8 = omega arith
few_lanes _ _ bits_16 = omega arith
few_lanes _ _ bits_32 = omega arith
few_lanes _ _ bits_64 = omega arith

pub same_list : {W : Type 0} (pattern : W → ℕ) → ((x y : W) → pattern x ≡ pattern y → x ≡ y) → (xs ys : List W) → length xs ≡ length ys
    → ((i : ℕ) → i < length xs → pattern_at pattern xs i ≡ pattern_at pattern ys i) → xs ≡ ys
unfolding pattern_at
same_list pattern one [] [] e each = refl
same_list pattern one [] (y ∷ ys) e each = absurd (omega arith)
same_list pattern one (x ∷ xs) [] e each = absurd (omega arith)
same_list pattern one (x ∷ xs) (y ∷ ys) e each =
    let head : x ≡ y = one x y (each 0 (omega arith)) in
    let rest : xs ≡ ys = same_list pattern one xs ys (suc_inj e) (λ i h. each (suc i) (omega arith)) in
    rw (head, rest) refl

pub same_block : {W : Type 0} (pattern : W → ℕ) (T lanes : ℕ) → IsWordWidth T lanes → ((x y : W) → pattern x ≡ pattern y → x ≡ y) → (xs ys : List W) → length xs ≡ 1024 → length ys ≡ 1024
    → ((r l : ℕ) → r < T → l < lanes → pattern_at pattern xs (place r l) ≡ pattern_at pattern ys (place r l)) → xs ≡ ys
same_block pattern T lanes shape one xs ys p q each =
    same_list pattern one xs ys (p ∙ sym q) (λ i h.
    let inside : i < 1024 = omega arith in
    let placed = position_placed T lanes i shape inside in
    let here = each (row_of lanes i) (lane_of lanes i) placed.1 placed.2 in
    rw placed.0 at here)

pub one_item : (T lanes : ℕ) (item other stored : ℕ → ℕ) → IsWordWidth T lanes → Transposed T lanes item stored → Transposed T lanes other stored → (i : ℕ) → i < 1024 → item i ≡ other i
one_item T lanes item other stored shape a b i h =
    let placed = segment_placed T lanes i shape h in
    let here = sym (a.moved (segment_row T i) (segment_lane T i) placed.1 placed.2) ∙ b.moved (segment_row T i) (segment_lane T i) placed.1 placed.2 in
    rw placed.0 at here

pub one_stored : (T lanes : ℕ) (item stored other : ℕ → ℕ) → IsWordWidth T lanes → Transposed T lanes item stored → Transposed T lanes item other → (i : ℕ) → i < 1024 → stored i ≡ other i
one_stored T lanes item stored other shape a b i h =
    let placed = position_placed T lanes i shape h in
    let here = a.moved (row_of lanes i) (lane_of lanes i) placed.1 placed.2 ∙ sym (b.moved (row_of lanes i) (lane_of lanes i) placed.1 placed.2) in
    rw placed.0 at here
