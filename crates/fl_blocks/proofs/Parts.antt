-- Parts of lists that are written.
use Rattle.std.proofs.Common.{◌≡◌, ◌+◌, ◌*◌, ◌<◌, ◌≤◌, ℕ, zero, suc, List, [], ◌∷◌, ◌++◌, length, take, drop, get_or, refl, ap, sym, ◌∙◌, arith, inl, inr}
use Rattle.std.proofs.lemmas.Bool.{cases_lt}
use Rattle.std.proofs.lemmas.List.{get_or_default}
use Rattle.std.proofs.lemmas.Nat.{mul-le}
use Rattle.fastlanes.specs.Layout.{Packed, pattern_at}
use Rattle.fl_blocks.specs.Blocks.{items_of, words_of}

front_kept : {X : Type 0} (n s : ℕ) (xs ys : List X) → n ≤ s → s ≤ length xs → take n (take s xs ++ ys) ≡ take n xs
front_kept zero s xs ys h k = refl
front_kept (suc n) zero xs ys h k = absurd (omega arith)
front_kept (suc n) (suc s) [] ys h k = absurd (omega arith)
front_kept (suc n) (suc s) (x ∷ xs) ys h k = ap (λ zs. x ∷ zs) (front_kept n s xs ys (omega arith) (omega arith))

-- a part before what was written
pub part_before : {X : Type 0} (from n s : ℕ) (xs ys : List X) → from + n ≤ s → s ≤ length xs → take n (drop from (take s xs ++ ys)) ≡ take n (drop from xs)
part_before zero n s xs ys h k = front_kept n s xs ys (omega arith) k
part_before (suc from) n zero xs ys h k = absurd (omega arith)
part_before (suc from) n (suc s) [] ys h k = absurd (omega arith)
part_before (suc from) n (suc s) (x ∷ xs) ys h k = part_before from n s xs ys (omega arith) (omega arith)

-- the packings of the blocks so far, where one more was written
pub packed_more : {W : Type 0} (pattern : W → ℕ) (T lanes width size k : ℕ) (blocks : List (List W)) (block : List W) (old new : List W)
    → size ≡ lanes → k < length blocks → block ≡ get_or blocks k block
    → ((from n : ℕ) → from + n ≤ k * (width * size) → take n (drop from new) ≡ take n (drop from old))
    → Packed T lanes width (pattern_at pattern block) (pattern_at pattern (take (width * size) (drop (k * (width * size)) new)))
    → ((j : ℕ) → j < k → Packed T lanes width (items_of pattern blocks j) (words_of pattern (width * lanes) old j))
    → (j : ℕ) → j < k + 1 → Packed T lanes width (items_of pattern blocks j) (words_of pattern (width * lanes) new j)
packed_more pattern T lanes width size k blocks block old new same inside read before written each j h =
    let words : width * lanes ≡ width * size = ap (λ n. width * n) (sym same) in
    elim (cases_lt j k) [
      | inl below ↦
          (let room : (j + 1) * (width * size) ≤ k * (width * size) = mul-le (j + 1) (width * size) k (width * size) (omega arith) (omega arith) in
          let kept = before (j * (width * size)) (width * size) (omega arith) in
          rw (words, kept) (rw (sym words) (each j below)))
      | inr last ↦
          (let at : j ≡ k = omega arith in
          let item : get_or blocks k [] ≡ block = get_or_default blocks k [] block inside ∙ sym read in
          rw (at, item, words) written)
    ]
