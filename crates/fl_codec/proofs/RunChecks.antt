-- Tests of runs, chunk by chunk.
use Rattle.std.proofs.Common.{◌≡◌, ℕ, ℤ, pos, ◌+◌, ◌*◌, ◌<◌, Bool, true, false, List, length, map, get_or, Option, None, unwrap_or, unsigned_abs, IsTrue, refl, ap, sym, ◌∙◌, arith}
use Rattle.std.specs.List.{list_all, range_with_len}
use Rattle.std.specs.Prelude.{nat_lt, ◌&&◌, ◌||◌, ◌==◌}
use Rattle.std.proofs.lemmas.List.{length-map}
use Rattle.std.proofs.lemmas.List.FromFn.{get_or-range_with_len, length-range_with_len}
use Rattle.fl_types.specs.declared.validity.Validity.{Validity}
use Rattle.fl_types.specs.Validities.{covers, items_of}
use Rattle.fl_column.specs.Columns.{PrimitiveParts, column_of_primitive, integers_in, numbers_of}
use Rattle.fl_column.proofs.ItemLaws.{length-items_of}
use Rattle.fl_column.proofs.ListLaws.{all_fails, all_from}
use Rattle.fl_codec.specs.Chunks.{chunk}
use Rattle.fl_codec.specs.Parts.{items_of_primitive}
use Rattle.fl_codec.specs.RunColumns.{are_run_indices, are_run_offsets, is_chunk_of_runs, is_run_index, run_count}
use Rattle.fl_codec.proofs.ForwardFillLaws.{get_or-chunk}
use Rattle.fl_codec.proofs.ReferenceLaws.{same_items}

fails_too : (b c : Bool) → c ≡ false → (b && c) ≡ false
fails_too true c e = e
fails_too false c e = refl

as_first : (b c : Bool) → c ≡ true → (b && c) ≡ b
as_first true c e = e
as_first false c e = refl

here_in_range : (n k : ℕ) → k < n → get_or (range_with_len 0 n) k 0 ≡ k
here_in_range n k h = let zero_on : 0 + k ≡ k = omega arith in get_or-range_with_len 0 n k 0 h ∙ zero_on

-- one number below n fails
range_fails : (p : ℕ → Bool) (n k : ℕ) → k < n → p k ≡ false → list_all p (range_with_len 0 n) ≡ false
range_fails p n k h e = let long = length-range_with_len 0 n in all_fails p (range_with_len 0 n) k 0 (rw long h) (ap p (here_in_range n k h) ∙ e)

-- each number below n passes
range_all : (p : ℕ → Bool) (n : ℕ) → ((k : ℕ) → k < n → p k ≡ true) → list_all p (range_with_len 0 n) ≡ true
range_all p n each = all_from p (range_with_len 0 n) 0 (λ k h. let within : k < n = rw length-range_with_len at h in ap p (here_in_range n k within) ∙ each k within)

pub numbers_long : (p : PrimitiveParts) → IsTrue (covers p.validity (length p.slots)) → length (numbers_of (column_of_primitive p)) ≡ length p.slots
numbers_long p covered = length-map (integers_in (column_of_primitive p)) unsigned_abs ∙ (length-map (column_of_primitive p).items (λ (item : Option ℤ). unwrap_or item (pos 0)) ∙ length-items_of p.validity p.slots covered)

pub offsets_fail : (offsets : List ℕ) (count k : ℕ) → k < length offsets → is_chunk_of_runs offsets count k ≡ false → are_run_offsets offsets count ≡ false
offsets_fail offsets count k h e = fails_too (nat_lt 0 (length offsets) || (count == 0)) _ (range_fails (is_chunk_of_runs offsets count) (length offsets) k h e)

pub offsets_pass : (offsets : List ℕ) (count : ℕ) → ((k : ℕ) → k < length offsets → is_chunk_of_runs offsets count k ≡ true) → are_run_offsets offsets count ≡ (nat_lt 0 (length offsets) || (count == 0))
offsets_pass offsets count each = as_first (nat_lt 0 (length offsets) || (count == 0)) _ (range_all (is_chunk_of_runs offsets count) (length offsets) each)

pub indices_fail : (indices : List (Option ℤ)) (offsets : List ℕ) (count k : ℕ) → k < length offsets → list_all (is_run_index (run_count offsets count k)) (chunk k indices) ≡ false → are_run_indices indices offsets count ≡ false
indices_fail indices offsets count k h e = range_fails (λ n. list_all (is_run_index (run_count offsets count n)) (chunk n indices)) (length offsets) k h e

pub indices_pass : (indices : List (Option ℤ)) (offsets : List ℕ) (count : ℕ) → ((k : ℕ) → k < length offsets → list_all (is_run_index (run_count offsets count k)) (chunk k indices) ≡ true) → are_run_indices indices offsets count ≡ true
indices_pass indices offsets count each = range_all (λ n. list_all (is_run_index (run_count offsets count n)) (chunk n indices)) (length offsets) each

-- an index of a chunk, as it is read
pub chunk_item : {A : Type 0} (value : A → ℤ) (p : PrimitiveParts) (v : Validity) (xs : List A) (k q : ℕ) (x : Option ℤ) → v ≡ p.validity → map value xs ≡ p.slots → q < 1024 → x ≡ get_or (items_of v (map value xs)) (1024 * k + q) None
    → x ≡ get_or (chunk k (items_of_primitive p)) q None
chunk_item value p v xs k q x same slots h e = e ∙ (ap (λ ys. get_or ys (1024 * k + q) None) (same_items value p v xs same slots) ∙ sym (get_or-chunk (items_of_primitive p) k q None h))
