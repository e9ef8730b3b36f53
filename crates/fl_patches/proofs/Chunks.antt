-- Chunk offsets, one by one.
use Rattle.std.proofs.Common.{◌≡◌, ◌≢◌, ℕ, ◌*◌, ◌<◌, Bool, true, false, List, length, get_or, eqb, ap, sym, ◌∙◌, arith, zero-add}
use Rattle.std.proofs.lemmas.Bool.{eq-eqb, eqb-true, ne_eqb}
use Rattle.std.proofs.lemmas.List.FromFn.{length-enumerate_from, get_or-enumerate_from}
use Rattle.std.specs.List.{enumerate_from}
use Rattle.fl_column.proofs.ListLaws.{all_at, all_fails, all_from}
use Rattle.fl_patches.specs.PatchMaps.{are_chunk_offsets, count_below}

-- what the test of a numbered chunk offset says
abbrev chunk_test : List ℕ → ℕ × ℕ → Bool
chunk_test indices o = eqb o.1 (count_below (1024 * o.0) indices)

chunk_test_at : (indices offsets : List ℕ) (k : ℕ) → k < length offsets → chunk_test indices (get_or (enumerate_from 0 offsets) k (0, 0)) ≡ eqb (get_or offsets k 0) (count_below (1024 * k) indices)
chunk_test_at indices offsets k h = ap (chunk_test indices) (get_or-enumerate_from 0 offsets k (0, 0) h) ∙ ap (λ n. eqb (get_or offsets k 0) (count_below (1024 * n) indices)) (zero-add k)

-- one that is right
pub chunk_counts : (indices offsets : List ℕ) (k : ℕ) → k < length offsets → are_chunk_offsets indices offsets ≡ true → get_or offsets k 0 ≡ count_below (1024 * k) indices
chunk_counts indices offsets k h all =
    let test = all_at (chunk_test indices) (enumerate_from 0 offsets) k (0, 0) all (omega (arith, length-enumerate_from 0 offsets)) in
    eqb-true _ _ (sym (chunk_test_at indices offsets k h) ∙ test)

-- one that miscounts
pub chunk_miscounts : (indices offsets : List ℕ) (k : ℕ) → k < length offsets → get_or offsets k 0 ≢ count_below (1024 * k) indices → are_chunk_offsets indices offsets ≡ false
chunk_miscounts indices offsets k h other =
    all_fails (chunk_test indices) (enumerate_from 0 offsets) k (0, 0) (omega (arith, length-enumerate_from 0 offsets)) (chunk_test_at indices offsets k h ∙ ne_eqb _ _ other)

-- all of them count
pub chunks_count : (indices offsets : List ℕ) → ((k : ℕ) → k < length offsets → get_or offsets k 0 ≡ count_below (1024 * k) indices) → are_chunk_offsets indices offsets ≡ true
chunks_count indices offsets each =
    all_from (chunk_test indices) (enumerate_from 0 offsets) (0, 0) (λ k h. let within : k < length offsets = omega (arith, length-enumerate_from 0 offsets) in chunk_test_at indices offsets k within ∙ eq-eqb _ _ (each k within))
