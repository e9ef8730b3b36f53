-- Slices of run-length encoded columns: the chunks from floor to ceiling, and the run values that they name.
use Rattle.std.proofs.Common.{◌≡◌, ◌==◌, ◌&&◌, ◌||◌, ◌+◌, ◌*◌, ◌-◌, ◌/◌, ◌%◌, ◌<◌, ◌≤◌, ℕ, ℤ, pos, zero, suc, Bool, true, false, not, cond, List, [], length, get_or, nat_le, nat_lt, Option, Some, None, refl, ap, sym, subst, ◌∙◌, if◌then◌else◌, arith, inl, inr}
use Rattle.std.specs.Prelude.{option_map, unsigned_abs, unwrap_or}
use Rattle.std.specs.List.{list_all, range_with_len}
use Rattle.std.proofs.lemmas.Bool.{eq-eqb, leb-true, lt-leb, ltb-true, le-leb, le-ltb, lt-ltb, cases_lt}
use Rattle.std.proofs.lemmas.List.FromFn.{get_or-range_with_len, length-range_with_len}
use Rattle.fl_types.specs.declared.error.FastLanesError.{FastLanesError}
use Rattle.fl_types.specs.declared.error.FastLanesError.TheVariants.{RunIndex, RunOffsets}
use Rattle.fl_types.specs.Bits.{between, tabulate}
use Rattle.fl_types.proofs.BitLists.{same_tables}
use Rattle.fl_column.specs.Columns.{Column, integers_in, numbers_of}
use Rattle.fl_column.specs.Operations.{slice_of}
use Rattle.fl_column.proofs.ItemLaws.{length-between}
use Rattle.fl_column.proofs.ListLaws.{all_at, and_first, and_second, and_true}
use Rattle.fl_codec.proofs.Tables.{get_or-between}
use Rattle.fl_codec.specs.Chunks.{chunk}
use Rattle.fl_codec.specs.RunColumns.{are_run_indices, are_run_offsets, chunk_end, chunk_start, is_chunk_of_runs, is_run_index, run_count, run_item}
use Rattle.fl_codec.proofs.ForwardFillLaws.{get_or-chunk}
use Rattle.fl_codec.proofs.RunChecks.{indices_pass, offsets_pass}
use Rattle.fl_codec.proofs.RunDecoding.{whole_chunk}
use Rattle.fl_codec.specs.RunRefusals.{rle_numbers_refusal, rle_refusal, rle_types_refusal, kept_values_start, kept_values_end}
use Rattle.fl_codec.specs.ChunkSlices.{end_chunk, first_chunk}
use Rattle.fl_codec.proofs.FoRSlices.{integers_of-slice}
use Rattle.fl_codec.proofs.RunTypes.{HaveRunTypes, have_types}
use Rattle.fl_codec.proofs.FirstRefusals.{both_none, neither}
use Rattle.fl_codec.proofs.ColumnParts.{length-numbers_of, numbers_of-slice}
use Rattle.fl_codec.proofs.Tables.{between-between, between-table}

two_passed : (b d : Bool) (e f : FastLanesError) → (if not b then Some e else if not d then Some f else None) ≡ None → (b ≡ true) × (d ≡ true)
two_passed true true e f h = (refl, refl)
two_passed true false e f h = cc
two_passed false d e f h = cc

-- one number below n passes a test that all pass
range_at : (p : ℕ → Bool) (n k : ℕ) → list_all p (range_with_len 0 n) ≡ true → k < n → p k ≡ true
range_at p n k all h =
    let zero_on : 0 + k ≡ k = omega arith in
    let long = length-range_with_len 0 n in
    let here : get_or (range_with_len 0 n) k 0 ≡ k = get_or-range_with_len 0 n k 0 h ∙ zero_on in
    subst (λ m. p m ≡ true) here (all_at p (range_with_len 0 n) k 0 all (rw long h))

-- numbers that name run values
pub record AreRunNumbers (count : ℕ) (indices : List (Option ℤ)) (offsets : List ℕ) : Type 0 where
  pub low : (k : ℕ) → k < length offsets → get_or offsets 0 0 ≤ get_or offsets k 0
  pub some : (k : ℕ) → k < length offsets → chunk_start offsets k < chunk_end offsets count k
  pub few : (k : ℕ) → k < length offsets → run_count offsets count k ≤ 1024
  pub named : (k : ℕ) → k < length offsets → list_all (is_run_index (run_count offsets count k)) (chunk k indices) ≡ true

pub numbers_sound : (count : ℕ) (indices : List (Option ℤ)) (offsets : List ℕ) → rle_numbers_refusal count indices offsets ≡ None → AreRunNumbers count indices offsets
numbers_sound count indices offsets h =
    let both = two_passed (are_run_offsets offsets count) (are_run_indices indices offsets count) RunOffsets RunIndex h in
    let n = length offsets in
    let all = and_second (nat_lt 0 n || (count == 0)) (list_all (is_chunk_of_runs offsets count) (range_with_len 0 n)) both.0 in
    let rest : ℕ → Bool = λ k. nat_lt (chunk_start offsets k) (chunk_end offsets count k) && nat_le (run_count offsets count k) 1024 in
    record {
      low = λ k l. leb-true _ _ (and_first (nat_le (get_or offsets 0 0) (get_or offsets k 0)) (rest k) (range_at (is_chunk_of_runs offsets count) n k all l));
      some = λ k l. ltb-true _ _ (and_first (nat_lt (chunk_start offsets k) (chunk_end offsets count k)) (nat_le (run_count offsets count k) 1024) (and_second (nat_le (get_or offsets 0 0) (get_or offsets k 0)) (rest k) (range_at (is_chunk_of_runs offsets count) n k all l)));
      few = λ k l. leb-true _ _ (and_second (nat_lt (chunk_start offsets k) (chunk_end offsets count k)) (nat_le (run_count offsets count k) 1024) (and_second (nat_le (get_or offsets 0 0) (get_or offsets k 0)) (rest k) (range_at (is_chunk_of_runs offsets count) n k all l)));
      named = λ k l. range_at (λ m. list_all (is_run_index (run_count offsets count m)) (chunk m indices)) n k both.1 l;
    }

end_inside : (offsets : List ℕ) (count k : ℕ) → k + 1 < length offsets → chunk_end offsets count k ≡ chunk_start offsets (k + 1)
end_inside offsets count k h = ap (λ b. cond b (chunk_start offsets (k + 1)) count) (lt-ltb (k + 1) (length offsets) h)

end_last : (offsets : List ℕ) (count k : ℕ) → length offsets ≤ k + 1 → chunk_end offsets count k ≡ count
end_last offsets count k h = ap (λ b. cond b (chunk_start offsets (k + 1)) count) (le-ltb (k + 1) (length offsets) h)

-- the starts rise
starts_rise : (count : ℕ) (indices : List (Option ℤ)) (offsets : List ℕ) (k m : ℕ) → AreRunNumbers count indices offsets → k + m < length offsets → chunk_start offsets k ≤ chunk_start offsets (k + m)
starts_rise count indices offsets k zero s h = let same : k + 0 ≡ k = omega arith in rw same (omega arith)
starts_rise count indices offsets k (suc m) s h =
    let before = starts_rise count indices offsets k m s (omega arith) in
    let here = s.some (k + m) (omega arith) in
    let next = end_inside offsets count (k + m) (omega arith) in
    let same : k + suc m ≡ k + m + 1 = omega arith in
    rw same (omega arith)

-- so do the ends
ends_rise : (count : ℕ) (indices : List (Option ℤ)) (offsets : List ℕ) (k m : ℕ) → AreRunNumbers count indices offsets → k + m < length offsets → chunk_end offsets count k ≤ chunk_end offsets count (k + m)
ends_rise count indices offsets k zero s h = let same : k + 0 ≡ k = omega arith in rw same (omega arith)
ends_rise count indices offsets k (suc m) s h =
    let before = ends_rise count indices offsets k m s (omega arith) in
    let next = end_inside offsets count (k + m) (omega arith) in
    let here = s.some (k + suc m) (omega arith) in
    let same : k + suc m ≡ k + m + 1 = omega arith in
    let there = rw same at here in
    rw same (omega arith)

pub end_within : (count : ℕ) (indices : List (Option ℤ)) (offsets : List ℕ) (k : ℕ) → AreRunNumbers count indices offsets → k < length offsets → chunk_end offsets count k ≤ count
end_within count indices offsets k s h =
    let m = length offsets - (k + 1) in
    let up = ends_rise count indices offsets k m s (omega arith) in
    let last = end_last offsets count (k + m) (omega arith) in
    omega arith

-- ---- the chunks from one to another
-- a start in the part
start_in_part : (offsets : List ℕ) (first last j : ℕ) → j < last - first → get_or offsets 0 0 ≤ get_or offsets first 0 → chunk_start (between first last offsets) j ≡ chunk_start offsets (first + j) - chunk_start offsets first
start_in_part offsets first last j h low =
    let zero_at : get_or (between first last offsets) 0 0 ≡ get_or offsets first 0 = get_or-between offsets first last 0 0 (omega arith) ∙ ap (λ n. get_or offsets n 0) (omega arith) in
    let at : get_or (between first last offsets) j 0 ≡ get_or offsets (first + j) 0 = get_or-between offsets first last j 0 h in
    rw (zero_at, at) (omega arith)

-- an end in the part
end_in_part : (count : ℕ) (indices : List (Option ℤ)) (offsets : List ℕ) (first last j : ℕ) → AreRunNumbers count indices offsets → last ≤ length offsets → j < last - first
    → chunk_end (between first last offsets) (chunk_end offsets count (last - 1) - chunk_start offsets first) j ≡ chunk_end offsets count (first + j) - chunk_start offsets first
end_in_part count indices offsets first last j s r h =
    let part = between first last offsets in
    let all = chunk_end offsets count (last - 1) - chunk_start offsets first in
    let long = length-between offsets first last (omega arith) r in
    let low = s.low first (omega arith) in
    elim (cases_lt (j + 1) (last - first)) [
      | inl inside ↦ (
          let e = end_inside part all j (omega arith) in
          let f = end_inside offsets count (first + j) (omega arith) in
          let next : first + (j + 1) ≡ first + j + 1 = omega arith in
          let g = start_in_part offsets first last (j + 1) inside low in
          e ∙ g ∙ ap (λ n. chunk_start offsets n - chunk_start offsets first) next ∙ ap (λ n. n - chunk_start offsets first) (sym f))
      | inr outside ↦ (
          let e = end_last part all j (omega arith) in
          let here : last - 1 ≡ first + j = omega arith in
          e ∙ ap (λ n. chunk_end offsets count n - chunk_start offsets first) here)
    ]

-- the numbers of a part are accepted
pub part_of_numbers : (count : ℕ) (indices : List (Option ℤ)) (offsets : List ℕ) (first last : ℕ) → AreRunNumbers count indices offsets → first < last → last ≤ length offsets → length indices ≡ 1024 * length offsets
    → rle_numbers_refusal (chunk_end offsets count (last - 1) - chunk_start offsets first) (between (1024 * first) (1024 * last) indices) (between first last offsets) ≡ None
part_of_numbers count indices offsets first last s o r whole =
    let part = between first last offsets in
    let items = between (1024 * first) (1024 * last) indices in
    let all = chunk_end offsets count (last - 1) - chunk_start offsets first in
    let long = length-between offsets first last (omega arith) r in
    let low = s.low first (omega arith) in
    let zero_at : get_or part 0 0 ≡ get_or offsets first 0 = get_or-between offsets first last 0 0 (omega arith) ∙ ap (λ n. get_or offsets n 0) (omega arith) in
    let count_of : (j : ℕ) → j < last - first → run_count part all j ≡ run_count offsets count (first + j) = λ j h. (
    let e = end_in_part count indices offsets first last j s r h in
    let f = start_in_part offsets first last j h low in
    let up = starts_rise count indices offsets first j s (omega arith) in
    rw (e, f) (omega arith)) in
    let offsets_fit : are_run_offsets part all ≡ true = offsets_pass part all (λ j h.
    let inside : j < last - first = omega arith in
    let e = end_in_part count indices offsets first last j s r inside in
    let f = start_in_part offsets first last j inside low in
    let up = starts_rise count indices offsets first j s (omega arith) in
    let here = s.some (first + j) (omega arith) in
    let few = s.few (first + j) (omega arith) in
    let at : get_or part j 0 ≡ get_or offsets (first + j) 0 = get_or-between offsets first last j 0 inside in
    let low_here = s.low (first + j) (omega arith) in
    and_true _ _ (rw (zero_at, at) (le-leb _ _ (omega arith))) (and_true _ _ (lt-ltb (chunk_start part j) (chunk_end part all j) (rw (e, f) (omega arith))) (rw (count_of j inside) (le-leb (run_count offsets count (first + j)) 1024 few)))) ∙ (rw (lt-ltb 0 (length part) (omega arith)) refl) in
    let indices_fit : are_run_indices items part all ≡ true = indices_pass items part all (λ j h.
    let inside : j < last - first = omega arith in
    let size : 1024 * (j + 1) ≡ 1024 * j + 1024 = omega arith in
    let from : 1024 * first + 1024 * j ≡ 1024 * (first + j) = omega arith in
    let to : 1024 * (first + j) + 1024 ≡ 1024 * (first + j + 1) = omega arith in
    let same : chunk j items ≡ chunk (first + j) indices = rw size (between-between indices (1024 * first) (1024 * last) (1024 * j) 1024 (omega arith) ∙ (rw (from, to) refl)) in
    rw (count_of j inside, same) (s.named (first + j) (omega arith))) in
    rw (offsets_fit, indices_fit) refl

-- ---- items
index_at : (count : ℕ) (indices : List (Option ℤ)) (offsets : List ℕ) (p : ℕ) (z : ℤ) → AreRunNumbers count indices offsets → p / 1024 < length offsets → length indices ≡ 1024 * length offsets → get_or indices p None ≡ Some z
    → unsigned_abs z < run_count offsets count (p / 1024)
index_at count indices offsets p z s h whole e =
    let k = p / 1024 in
    let q = p % 1024 in
    let place : 1024 * k + q ≡ p = omega arith in
    let full = whole_chunk indices k (omega arith) in
    let item = get_or-chunk indices k q None (omega arith) ∙ (ap (λ n. get_or indices n None) place ∙ e) in
    let passes = all_at (is_run_index (run_count offsets count k)) (chunk k indices) q None (s.named k h) (omega arith) in
    ltb-true (unsigned_abs z) (run_count offsets count k) (rw item at passes)

item_by : (values : List ℤ) (count : ℕ) (indices : List (Option ℤ)) (offsets : List ℕ) (first last p : ℕ) (x : Option ℤ) → AreRunNumbers count indices offsets → last ≤ length offsets → p / 1024 < last - first → length indices ≡ 1024 * length offsets
    → get_or indices (1024 * first + p) None ≡ x
    → option_map (λ index. get_or (between (chunk_start offsets first) (chunk_end offsets count (last - 1)) values) (chunk_start (between first last offsets) (p / 1024) + unsigned_abs index) (pos 0)) x
    ≡ option_map (λ index. get_or values (chunk_start offsets ((1024 * first + p) / 1024) + unsigned_abs index) (pos 0)) x
item_by values count indices offsets first last p None s r h whole e = refl
item_by values count indices offsets first last p (Some z) s r h whole e =
    let k = p / 1024 in
    let same : (1024 * first + p) / 1024 ≡ first + k = omega arith in
    let low = s.low first (omega arith) in
    let start = start_in_part offsets first last k h low in
    let up = starts_rise count indices offsets first k s (omega arith) in
    let below = index_at count indices offsets (1024 * first + p) z s (omega arith) whole e in
    let below_too = rw same at below in
    let rest = last - 1 - (first + k) in
    let ends = ends_rise count indices offsets (first + k) rest s (omega arith) in
    let to_last : first + k + rest ≡ last - 1 = omega arith in
    let ends_too = rw to_last at ends in
    let place : chunk_start offsets first + (chunk_start (between first last offsets) k + unsigned_abs z) ≡ chunk_start offsets (first + k) + unsigned_abs z = rw start (omega arith) in
    let inside : chunk_start (between first last offsets) k + unsigned_abs z < chunk_end offsets count (last - 1) - chunk_start offsets first = rw start (omega arith) in
    rw same (ap (λ v. Some v) (get_or-between values (chunk_start offsets first) (chunk_end offsets count (last - 1)) (chunk_start (between first last offsets) k + unsigned_abs z) (pos 0) inside ∙ ap (λ n. get_or values n (pos 0)) place))

-- the items of the part are the items from it on
pub part_of_items : (values : List ℤ) (count : ℕ) (indices : List (Option ℤ)) (offsets : List ℕ) (offset len start end : ℕ) → AreRunNumbers count indices offsets → length indices ≡ 1024 * length offsets → offset + len ≤ length indices → start ≤ end → end ≤ len
    → first_chunk offset start < end_chunk offset end
    → tabulate (λ i. run_item (between (chunk_start offsets (first_chunk offset start)) (chunk_end offsets count (end_chunk offset end - 1)) values) (between (1024 * first_chunk offset start) (1024 * end_chunk offset end) indices) (between (first_chunk offset start) (end_chunk offset end) offsets) ((offset + start) % 1024 + i)) (end - start)
    ≡ between start end (tabulate (λ i. run_item values indices offsets (offset + i)) len)
part_of_items values count indices offsets offset len start end s whole range order room some =
    let first = first_chunk offset start in
    let last = end_chunk offset end in
    let later : ℕ → Option ℤ = λ i. run_item (between (chunk_start offsets first) (chunk_end offsets count (last - 1)) values) (between (1024 * first) (1024 * last) indices) (between first last offsets) ((offset + start) % 1024 + i) in
    let item : ℕ → Option ℤ = λ i. run_item values indices offsets (offset + i) in
    let part = between-table item len start end None order room in
    let same = same_tables later (λ i. item (start + i)) (end - start) (λ i h.
    let p = (offset + start) % 1024 + i in
    let place : 1024 * first + p ≡ offset + (start + i) = omega arith in
    let index = get_or-between indices (1024 * first) (1024 * last) p None (omega arith) in
    rw (index, ← place) (item_by values count indices offsets first last p (get_or indices (1024 * first + p) None) s (omega arith) (omega arith) whole refl)) in
    same ∙ sym part

-- the place that an index names is one of the run values
pub place_within : (count : ℕ) (indices : List (Option ℤ)) (offsets : List ℕ) (p : ℕ) (x : Option ℤ) → AreRunNumbers count indices offsets → p / 1024 < length offsets → length indices ≡ 1024 * length offsets → get_or indices p None ≡ x
    → chunk_start offsets (p / 1024) + unsigned_abs (unwrap_or x (pos 0)) < count
place_within count indices offsets p None s h whole e =
    let some = s.some (p / 1024) h in
    let within = end_within count indices offsets (p / 1024) s h in
    omega arith
place_within count indices offsets p (Some z) s h whole e =
    let below = index_at count indices offsets p z s h whole e in
    let within = end_within count indices offsets (p / 1024) s h in
    omega arith

-- ---- the run values that are kept
pub values_in_order : (count : ℕ) (indices : List (Option ℤ)) (offsets : List ℕ) (first last : ℕ) → AreRunNumbers count indices offsets → first ≤ last → last ≤ length offsets → kept_values_start offsets first last ≤ kept_values_end offsets count first last
values_in_order count indices offsets first last s o r = elim (cases_lt first last) [
  | inl some ↦ (
      let m = last - 1 - first in
      let up = ends_rise count indices offsets first m s (omega arith) in
      let same : first + m ≡ last - 1 = omega arith in
      let here = s.some first (omega arith) in
      let high = rw same at up in
      rw (lt-ltb first last some) (omega arith))
  | inr none ↦ (rw (le-ltb first last none) (omega arith))
]

pub values_within : (count : ℕ) (indices : List (Option ℤ)) (offsets : List ℕ) (first last : ℕ) → AreRunNumbers count indices offsets → last ≤ length offsets → kept_values_end offsets count first last ≤ count
values_within count indices offsets first last s r = elim (cases_lt first last) [
  | inl some ↦ (let within = end_within count indices offsets (last - 1) s (omega arith) in rw (lt-ltb first last some) within)
  | inr none ↦ (rw (le-ltb first last none) (omega arith))
]

-- nothing from a place up to the same place
between_same : {A : Type 0} (xs : List A) (first last : ℕ) → last ≤ first → between first last xs ≡ []
between_same xs first last h = let none : last - first ≡ 0 = omega arith in rw none refl

-- ---- whole slices
types_of_slice : (values indices offsets : Column) (offset len start end from to : ℕ) → HaveRunTypes values indices offsets offset len → start ≤ end → end ≤ len
    → rle_types_refusal values.dtype indices.dtype offsets.dtype (length (slice_of (1024 * first_chunk offset start) (1024 * end_chunk offset end) indices).items) (length (slice_of (first_chunk offset start) (end_chunk offset end) offsets).items) ((offset + start) % 1024) (end - start) ≡ None
types_of_slice values indices offsets offset len start end from to s order room =
    let first = first_chunk offset start in
    let last = end_chunk offset end in
    let range = s.range in
    let whole = s.whole in
    let count = s.count in
    let all = length-between indices.items (1024 * first) (1024 * last) (omega arith) (omega arith) in
    let chunks = length-between offsets.items first last (omega arith) (omega arith) in
    let long : length (between (1024 * first) (1024 * last) indices.items) ≡ 1024 * (last - first) = all ∙ (omega arith) in
    let whole_part : 1024 * (last - first) % 1024 ≡ 0 = omega arith in
    let count_part : last - first ≡ 1024 * (last - first) / 1024 = omega arith in
    let shown : (offset + start) % 1024 + (end - start) ≤ 1024 * (last - first) = omega arith in
    let low : (offset + start) % 1024 < 1024 = omega arith in
    rw (long, chunks, lt-leb 1024 ((offset + start) % 1024) low, s.integer, s.non_nullable, s.index, s.positions, eq-eqb (1024 * (last - first) % 1024) 0 whole_part, le-ltb (1024 * (last - first)) ((offset + start) % 1024 + (end - start)) shown, eq-eqb (last - first) (1024 * (last - first) / 1024) count_part) refl

-- the parts that a slice keeps are accepted
pub run_slice_sound : (values indices offsets : Column) (offset len start end : ℕ) → rle_refusal values indices offsets offset len ≡ None → start ≤ end → end ≤ len
    → rle_refusal (slice_of (kept_values_start (numbers_of offsets) (first_chunk offset start) (end_chunk offset end)) (kept_values_end (numbers_of offsets) (length values.items) (first_chunk offset start) (end_chunk offset end)) values)
    (slice_of (1024 * first_chunk offset start) (1024 * end_chunk offset end) indices) (slice_of (first_chunk offset start) (end_chunk offset end) offsets) ((offset + start) % 1024) (end - start) ≡ None
run_slice_sound values indices offsets offset len start end h order room =
    let first = first_chunk offset start in
    let last = end_chunk offset end in
    let fs = numbers_of offsets in
    let count = length values.items in
    let both = neither (rle_types_refusal values.dtype indices.dtype offsets.dtype (length indices.items) (length offsets.items) offset len) _ h in
    let types = have_types values indices offsets offset len both.0 in
    let nums = numbers_sound count indices.items fs both.1 in
    let range = types.range in
    let whole = types.whole in
    let chunks = types.count in
    let long = length-numbers_of offsets in
    let numbered = numbers_of-slice offsets first last in
    let head = types_of_slice values indices offsets offset len start end 0 0 types order room in
    both_none _ _ head (elim (cases_lt first last) [
      | inl some ↦ (
          let from = chunk_start fs first in
          let to = chunk_end fs count (last - 1) in
          let m = last - 1 - first in
          let up = ends_rise count indices.items fs first m nums (omega arith) in
          let same : first + m ≡ last - 1 = omega arith in
          let here = nums.some first (omega arith) in
          let high = rw same at up in
          let within = end_within count indices.items fs (last - 1) nums (omega arith) in
          let kept = length-between values.items from to (omega arith) within in
          rw (lt-ltb first last some, kept, numbered) (part_of_numbers count indices.items fs first last nums some (omega arith) (omega arith)))
      | inr none ↦ (rw (le-ltb first last none, numbered, between_same fs first last none) refl)
    ])

-- and they have the items of the slice
pub run_slice_items : (values indices offsets : Column) (offset len start end : ℕ) → rle_refusal values indices offsets offset len ≡ None → start ≤ end → end ≤ len
    → tabulate (λ i. run_item (integers_in (slice_of (kept_values_start (numbers_of offsets) (first_chunk offset start) (end_chunk offset end)) (kept_values_end (numbers_of offsets) (length values.items) (first_chunk offset start) (end_chunk offset end)) values))
    (slice_of (1024 * first_chunk offset start) (1024 * end_chunk offset end) indices).items (numbers_of (slice_of (first_chunk offset start) (end_chunk offset end) offsets)) ((offset + start) % 1024 + i)) (end - start)
    ≡ between start end (tabulate (λ i. run_item (integers_in values) indices.items (numbers_of offsets) (offset + i)) len)
run_slice_items values indices offsets offset len start end h order room =
    let first = first_chunk offset start in
    let last = end_chunk offset end in
    let fs = numbers_of offsets in
    let count = length values.items in
    let both = neither (rle_types_refusal values.dtype indices.dtype offsets.dtype (length indices.items) (length offsets.items) offset len) _ h in
    let types = have_types values indices offsets offset len both.0 in
    let nums = numbers_sound count indices.items fs both.1 in
    let range = types.range in
    let whole = types.whole in
    let chunks = types.count in
    let long = length-numbers_of offsets in
    let numbered = numbers_of-slice offsets first last in
    let kept = integers_of-slice values (kept_values_start fs first last) (kept_values_end fs count first last) in
    elim (cases_lt first last) [
      | inl some ↦ (rw (kept, numbered, lt-ltb first last some) (part_of_items (integers_in values) count indices.items fs offset len start end nums (omega arith) range order room some))
      | inr none ↦ (
          let nothing : end - start ≡ 0 = omega arith in
          rw nothing refl)
    ]
