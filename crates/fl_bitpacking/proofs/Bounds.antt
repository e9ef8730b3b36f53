-- Boundaries of blocks.
use Rattle.std.proofs.Common.{◌≡◌, ℕ, ◌+◌, ◌*◌, ◌<◌, ◌≤◌, true, List, [], ◌∷◌, ◌++◌, length, take, get_or, nat_le, refl, ap, sym, ◌∙◌, arith}
use Rattle.std.specs.List.{sum, list_all}
use Rattle.std.proofs.lemmas.Bool.{le-leb}
use Rattle.std.proofs.lemmas.List.{take_all}
use Rattle.std.proofs.lemmas.List.FromFn.{get_or-map-range_with_len, length-map-range_with_len, map-range_with_len_more}
use Rattle.std.proofs.lemmas.List.Sums.{sum_by_more, sum_by-take-le}
use Rattle.fl_types.specs.Bits.{tabulate}
use Rattle.fl_column.proofs.ListLaws.{all_from}
use Rattle.fl_patches.specs.Widths.{Names, block_width}
use Rattle.fl_patches.specs.declared.widths.Widths.{Widths}
use Rattle.fl_patches.specs.declared.widths.Widths.TheVariants.{Global, Boundaries, PerBlock}
use Rattle.fl_bitpacking.specs.Blocks.{AreJoined, AreWithin, blocks_of, boundary_blocks, boundaries_of}

pub table_more : {A : Type 0} (f : ℕ → A) (n : ℕ) → tabulate f (n + 1) ≡ tabulate f n ++ f n ∷ []
table_more f n = map-range_with_len_more f 0 n n (omega arith)

pub one_more : {A : Type 0} (f : ℕ → A) (n : ℕ) (old new : List A) (x : A) → new ≡ old ++ x ∷ [] → old ≡ tabulate f n → x ≡ f n → new ≡ tabulate f (n + 1)
one_more f n old new x added before is = rw (added, before, is) (sym (table_more f n))

pub sum_more : (xs : List ℕ) (i : ℕ) → i < length xs → sum (take (i + 1) xs) ≡ sum (take i xs) + get_or xs i 0
sum_more xs i h = sum_by_more (λ x. x) xs i 0 h

-- ---- where the blocks lie
boundary_at : (widths : List ℕ) (j : ℕ) → j ≤ length widths → get_or (boundaries_of widths) j 0 ≡ 128 * sum (take j widths)
boundary_at widths j h = get_or-map-range_with_len (λ (k : ℕ). 128 * sum (take k widths)) 0 (length widths + 1) j j 0 (omega arith) (omega arith)

start_at : (widths : List ℕ) (j : ℕ) → j ≤ length widths → (boundary_blocks (boundaries_of widths)).start j ≡ 128 * sum (take j widths)
start_at widths j h =
    let first : get_or (boundaries_of widths) 0 0 ≡ 0 = boundary_at widths 0 (omega arith) in
    let here = boundary_at widths j h in
    omega arith

-- the width of a block between its boundaries is the one that they were made of
pub width_between : (widths : List ℕ) (j : ℕ) → j < length widths → (boundary_blocks (boundaries_of widths)).width j ≡ get_or widths j 0
width_between widths j h =
    let here = boundary_at widths j (omega arith) in
    let next = boundary_at widths (j + 1) (omega arith) in
    let more = sum_more widths j h in
    omega arith

pub boundaries_joined : (widths : List ℕ) (count : ℕ) → length widths ≡ count → AreJoined count (128 * sum widths) (boundary_blocks (boundaries_of widths))
boundaries_joined widths count long = record {
  first = start_at widths 0 (omega arith);
  next = λ j h. (
      let here = start_at widths j (omega arith) in
      let next = start_at widths (j + 1) (omega arith) in
      let width = width_between widths j (omega arith) in
      let more = sum_more widths j (omega arith) in
      omega arith);
  last = start_at widths count (omega arith) ∙ ap (λ (xs : List ℕ). 128 * sum xs) (take_all count widths (omega arith));
}

pub boundaries_within : (bits : ℕ) (widths : List ℕ) (count : ℕ) → length widths ≡ count → ((j : ℕ) → j < length widths → get_or widths j 0 ≤ bits) → AreWithin bits count (128 * sum widths) (boundary_blocks (boundaries_of widths))
boundaries_within bits widths count long narrow = record {
  room = λ j h. (
      let here = start_at widths j (omega arith) in
      let width = width_between widths j (omega arith) in
      let more = sum_more widths j (omega arith) in
      let most = sum_by-take-le (λ x. x) widths (j + 1) in
      omega arith);
  narrow = λ j h. (let width = width_between widths j (omega arith) in let small = narrow j (omega arith) in omega arith);
}

-- ---- the array of boundaries
-- each boundary is at most the last
pub boundaries_small : (widths : List ℕ) (bound : ℕ) → bound ≡ 128 * sum widths → list_all (λ n. nat_le n bound) (boundaries_of widths) ≡ true
boundaries_small widths bound is =
    let size = length-map-range_with_len (λ (k : ℕ). 128 * sum (take k widths)) 0 (length widths + 1) in
    all_from (λ n. nat_le n bound) (boundaries_of widths) 0 (λ j h.
    let inside : j ≤ length widths = omega arith in
    let less = sum_by-take-le (λ x. x) widths j in
    rw (boundary_at widths j inside) (le-leb (128 * sum (take j widths)) bound (omega arith)))

-- a block has the width that the code reads
pub width_named : (widths : Widths) (j : ℕ) → Names widths j → (blocks_of widths).width j ≡ block_width widths j
width_named (Global width) j named = refl
width_named (Boundaries boundaries) j named = refl
width_named (PerBlock widths) j named = width_between widths.now j named
