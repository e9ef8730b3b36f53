-- Where an index is looked for: the part of the indices where it stands, if it is one of them.
use Rattle.std.proofs.Common.{◌≡◌, ℕ, ℤ, ◌+◌, ◌-◌, ◌*◌, ◌≤◌, true, List, None, Some, length, map, get_or, unsigned_abs, ◌∙◌, ap, inl, inr, arith}
use Rattle.std.proofs.lemmas.Bool.{cases_lt}
use Rattle.std.proofs.lemmas.List.{get_or_default, get_or_past, length-map}
use Rattle.fl_types.specs.Bits.{between}
use Rattle.fl_column.proofs.ItemLaws.{length-between}
use Rattle.fl_column.specs.Columns.{PrimitiveParts}
use Rattle.fl_column.specs.Numbers.{numbers, numbers_by}
use Rattle.fl_patches.specs.PatchMaps.{IsChunkRange, PatchesParts, count_below, is_rising, refusal_of}
use Rattle.fl_patches.proofs.Chunks.{chunk_counts}
use Rattle.fl_patches.proofs.Parts.{AreSound, all_before, sound, sound_offsets}
use Rattle.fl_patches.proofs.Rising.{count_ge, count_lt, count_split, count_up, count_within}
use Rattle.fl_patches.proofs.Slices.{get_or-between, map-between}

-- numbers that are read from a part of typed indices
pub numbers_by-between : {X : Type 0} (f : X → ℤ) (xs : List X) (first last : ℕ) → numbers_by f (between first last xs) ≡ between first last (numbers_by f xs)
numbers_by-between f xs first last = ap (map unsigned_abs) (map-between f xs first last) ∙ map-between unsigned_abs (map f xs) first last

-- the numbers below a limit that ends in a part
pub count_of_part : (xs : List ℕ) (first last limit : ℕ) → is_rising xs ≡ true → first ≤ count_below limit xs → count_below limit xs ≤ last → last ≤ length xs → first + count_below limit (between first last xs) ≡ count_below limit xs
count_of_part xs first last limit rise low high within =
    let len = length-between xs first last (omega arith) within in
    let part = count_split (between first last xs) limit (count_below limit xs - first) (omega arith)
    (λ i h. let at = get_or-between xs first last i 0 (omega arith) in let below = count_lt xs limit (first + i) rise (omega arith) in omega arith)
    (λ i h k. let at = get_or-between xs first last i 0 (omega arith) in let above = count_ge xs limit (first + i) rise (omega arith) (omega arith) in omega arith) in
    omega arith

-- what chunk offset k counts, and what is taken for that of a chunk behind the last
pub chunk_offset_is : (p : PatchesParts) (offsets : PrimitiveParts) (k count start : ℕ) → refusal_of p ≡ None → p.chunk_offsets ≡ Some offsets → count ≡ length p.indices.slots → start ≡ get_or (numbers offsets) k count → start ≡ count_below (1024 * k) (numbers p.indices)
chunk_offset_is p offsets k count start e some all_of is =
    let xs = numbers p.indices in
    let s = sound p e in
    let o = sound_offsets p offsets e some in
    let many = length-map offsets.slots unsigned_abs in
    elim (cases_lt k (length (numbers offsets))) [
      | inl inside ↦ is ∙ (get_or_default (numbers offsets) k count 0 inside ∙ chunk_counts xs (numbers offsets) k inside o.count)
      | inr behind ↦ (
          let long = o.long in
          let from_0 = o.start in
          let all = all_before p s in
          let up = count_up xs (p.offset + p.array_len) (1024 * k) s.rising (omega arith) in
          let room = count_within xs (1024 * k) in
          let even = length-map p.indices.slots unsigned_abs in
          let past = get_or_past (numbers offsets) k count behind in
          omega arith)
    ]

-- an index stands among the indices of its chunk
pub chunk_range : (p : PatchesParts) (k start end : ℕ) → AreSound p → p.offset ≡ 0 → start ≡ count_below (1024 * k) (numbers p.indices) → end ≡ count_below (1024 * (k + 1)) (numbers p.indices) → IsChunkRange p k start end
chunk_range p k start end s zeroth first next i here =
    let xs = numbers p.indices in
    let low = count_up xs (1024 * k) (p.offset + i) s.rising (omega arith) in
    let high = count_up xs (p.offset + i + 1) (1024 * (k + 1)) s.rising (omega arith) in
    let room = count_within xs (1024 * (k + 1)) in
    record { low = omega arith; high = omega arith; within = omega arith }
