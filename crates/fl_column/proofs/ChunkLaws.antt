-- Chunks of 1024 items.
use Rattle.std.proofs.Common.{◌≡◌, ℕ, ◌+◌, ◌-◌, ◌*◌, ◌≤◌, List, length, take, drop, min, refl, ap, sym, ◌∙◌, arith, inl, inr}
use Rattle.std.proofs.lemmas.Bool.{cases_lt}
use Rattle.std.proofs.lemmas.List.{length-drop, take_all}
use Rattle.fl_types.specs.Bits.{between}
use Rattle.fl_column.specs.Chunks.{chunk}

-- a part whose end lies past the last item ends with it
pub part_ends : {A : Type 0} (xs : List A) (start end : ℕ) → start ≤ length xs → between start (min end (length xs)) xs ≡ between start end xs
part_ends xs start end room = elim (cases_lt end (length xs)) [
  | inl before ↦ (let same : min end (length xs) ≡ end = omega arith in rw same refl)
  | inr after ↦
      let rest = length-drop start xs in
      let same : min end (length xs) - start ≡ length (drop start xs) = omega arith in
      rw same (take_all (length (drop start xs)) (drop start xs) (omega arith) ∙ sym (take_all (end - start) (drop start xs) (omega arith)))
]

-- the items between the bounds of a chunk
pub chunk_part : {A : Type 0} (k start end : ℕ) (xs : List A) → 1024 * k ≤ length xs → start ≡ 1024 * k → end ≡ min (1024 * (k + 1)) (length xs) → take (end - start) (drop start xs) ≡ chunk k xs
chunk_part k start end xs room start_is end_is = rw (start_is, end_is) (part_ends xs (1024 * k) (1024 * (k + 1)) room)

-- a chunk as the next 1024 items
pub chunk_is_next : {A : Type 0} (k : ℕ) (xs : List A) → chunk k xs ≡ take 1024 (drop (1024 * k) xs)
chunk_is_next k xs = let size : 1024 * (k + 1) - 1024 * k ≡ 1024 = omega arith in ap (λ (n : ℕ). take n (drop (1024 * k) xs)) size
