-- Runs give their columns back.
use Rattle.std.proofs.Common.{◌≡◌, ℕ, ℤ, pos, zero, suc, ◌+◌, ◌*◌, ◌<◌, ◌≤◌, Bool, true, false, cond, List, [], ◌∷◌, ◌++◌, length, map, get_or, None, IsTrue, subst, refl, ap, sym, ◌∙◌, inl, inr, arith, add-one, length-append}
use Rattle.std.proofs.lemmas.Bool.{cases_lt, not-false}
use Rattle.std.proofs.lemmas.Bool.Decides.{Decides-int_eq}
use Rattle.std.proofs.lemmas.List.{append-nil, get_or_append_left, get_or_push}
use Rattle.fastlanes.specs.Layout.{bit_value}
use Rattle.fastlanes.specs.Runs.{counted}
use Rattle.fl_types.specs.Validities.{covers}
use Rattle.fl_column.specs.Columns.{PrimitiveParts, column_of_primitive}
use Rattle.fl_codec.specs.ForwardFill.{Reset, fill_forward}
use Rattle.fl_codec.specs.Parts.{encode_runs, items_of_primitive}
use Rattle.fl_codec.specs.Runs.{chunk_values, differs_next, run_index}
use Rattle.fl_codec.specs.RunColumns.{run_column, runs_refusal}
use Rattle.fl_codec.proofs.ChunkedRuns.{Names, chunks_back, chunks_well}
use Rattle.fl_codec.proofs.RunLaws.{counted_next, counted_zero, values_next, values_up_to}

-- ---- the run values of a chunk
differs_same : (item : ℕ → ℤ) (k t : ℕ) → differs_next item k t ≡ false → item (1024 * k + (t + 1)) ≡ item (1024 * k + t)
differs_same item k t e = (Decides-int_eq (item (1024 * k + (t + 1))) (item (1024 * k + t))).0 (not-false _ e)

one_or_none : (item : ℕ → ℤ) (k n : ℕ) (b : Bool) → length (map (λ t. item (1024 * k + (t + 1))) (cond b (n ∷ []) [])) ≡ bit_value b
one_or_none item k n true = refl
one_or_none item k n false = refl

plus_one : (a b : ℕ) → a + 1 + b ≡ a + b + 1
plus_one a b = omega arith

-- there is a run value for each index
pub length-values : (item : ℕ → ℤ) (k n : ℕ) → length (values_up_to item k n) ≡ run_index item k n + 1
length-values item k zero = rw (counted_zero (differs_next item k)) refl
length-values item k (suc n) =
    let before = values_up_to item k n in
    let added = map (λ t. item (1024 * k + (t + 1))) (cond (differs_next item k n) (n ∷ []) []) in
    subst (λ m. length (values_up_to item k m) ≡ run_index item k m + 1) (add-one n)
    (ap length (values_next item k n) ∙ (length-append before added ∙ (ap (λ a. a + length added) (length-values item k n) ∙ (ap (λ b. run_index item k n + 1 + b) (one_or_none item k n (differs_next item k n))
    ∙ (plus_one (run_index item k n) (bit_value (differs_next item k n)) ∙ ap (λ a. a + 1) (sym (counted_next (differs_next item k) n)))))))

counted_grows : (test : ℕ → Bool) (q n : ℕ) → q ≤ n → counted test q ≤ counted test n
unfolding counted
counted_grows test q zero h = let none : q ≡ 0 = omega arith in rw none (omega arith)
counted_grows test q (suc n) h = elim (cases_lt q (suc n)) [
  | inl before ↦ let so_far = counted_grows test q n (omega arith) in omega arith
  | inr last ↦ let same : q ≡ suc n = omega arith in rw same (omega arith)
]

bit_small : (b : Bool) → bit_value b ≤ 1
bit_small true = omega arith
bit_small false = omega arith

counted_few : (test : ℕ → Bool) (n : ℕ) → counted test n ≤ n
unfolding counted
counted_few test zero = omega arith
counted_few test (suc n) = let so_far = counted_few test n in let one = bit_small (test n) in omega arith

-- the last index's run value
last_value : (item : ℕ → ℤ) (k n : ℕ) (d : ℤ) (b : Bool) (before : List ℤ) (index : ℕ) → length before ≡ index + 1 → (b ≡ false → item (1024 * k + (n + 1)) ≡ item (1024 * k + n)) → get_or before index d ≡ item (1024 * k + n)
    → get_or (before ++ map (λ t. item (1024 * k + (t + 1))) (cond b (n ∷ []) [])) (index + bit_value b) d ≡ item (1024 * k + (n + 1))
last_value item k n d true before index long same here = get_or_push before (item (1024 * k + (n + 1))) d (index + 1) long
last_value item k n d false before index long same here = let none : index + 0 ≡ index = omega arith in rw (none, append-nil) (here ∙ sym (same refl))

-- an index's run value is the item that the index stands for
pub value_stands : (item : ℕ → ℤ) (k n q : ℕ) (d : ℤ) → q ≤ n → get_or (values_up_to item k n) (run_index item k q) d ≡ item (1024 * k + q)
value_stands item k zero q d h =
    let first : q ≡ 0 = omega arith in
    let start : 1024 * k ≡ 1024 * k + 0 = omega arith in
    rw (first, counted_zero (differs_next item k)) (ap item start)
value_stands item k (suc n) q d h =
    let before = values_up_to item k n in
    let added = map (λ t. item (1024 * k + (t + 1))) (cond (differs_next item k n) (n ∷ []) []) in
    let long = length-values item k n in
    subst (λ m. get_or (values_up_to item k m) (run_index item k q) d ≡ item (1024 * k + q)) (add-one n)
    (ap (λ xs. get_or xs (run_index item k q) d) (values_next item k n)
    ∙ (elim (cases_lt q (suc n)) [
      | inl earlier ↦
          let grows = counted_grows (differs_next item k) q n (omega arith) in
          let inside : run_index item k q < length before = rw long (omega arith) in
          get_or_append_left before added d (run_index item k q) inside ∙ value_stands item k n q d (omega arith)
      | inr last ↦
          let same : n + 1 ≡ q = omega arith in
          subst (λ m. get_or (before ++ added) (run_index item k m) d ≡ item (1024 * k + m)) same
          (ap (λ i. get_or (before ++ added) i d) (counted_next (differs_next item k) n)
          ∙ last_value item k n d (differs_next item k n) before (run_index item k n) long (differs_same item k n) (value_stands item k n n d (omega arith)))
    ]))

index_inside : (item : ℕ → ℤ) (k q : ℕ) → q < 1024 → run_index item k q < length (chunk_values item k)
index_inside item k q h = let long = length-values item k 1023 in let grows = counted_grows (differs_next item k) q 1023 (omega arith) in rw long (omega arith)

-- run values and run indices are such values and indices
pub names : (item : ℕ → ℤ) → Names item (chunk_values item) (run_index item)
names item = record {
  some = λ k. let long = length-values item k 1023 in rw long (omega arith);
  few = λ k. let long = length-values item k 1023 in let few = counted_few (differs_next item k) 1023 in rw long (omega arith);
  named = index_inside item;
  stands = λ k q h. value_stands item k 1023 q (pos 0) (omega arith);
}

-- ---- the column
pub runs_back : (p : PrimitiveParts) → IsTrue (covers p.validity (length p.slots)) → run_column (encode_runs p) 0 (length p.slots) ≡ column_of_primitive p
runs_back p covered = let item = fill_forward Reset (items_of_primitive p) in chunks_back (chunk_values item) (run_index item) p (names item) covered

pub runs_well : (p : PrimitiveParts) → IsTrue (covers p.validity (length p.slots)) → runs_refusal (encode_runs p) 0 (length p.slots) ≡ None
runs_well p covered = let item = fill_forward Reset (items_of_primitive p) in chunks_well (chunk_values item) (run_index item) p (names item) covered
