-- Dictionaries of chunks.
use Rattle.std.proofs.Common.{◌≡◌, ℕ, ℤ, pos, suc, ◌+◌, ◌*◌, ◌<◌, ◌≤◌, true, List, [], ◌∷◌, length, map, get_or, Option, None, IsTrue, refl, ap, sym, ◌∙◌, inl, inr, arith}
use Rattle.std.specs.Prelude.{◌<ℤ◌, ◌≤ℤ◌, ◌↔◌, AllPairs, Contains}
use Rattle.std.specs.Ordering.{int_eq}
use Rattle.std.proofs.lemmas.Bool.Decides.{Decides-int_eq, same_from_decides}
use Rattle.std.proofs.lemmas.List.FromFn.{fill_by_all}
use Rattle.fl_types.specs.declared.dtype.PType.{PType}
use Rattle.fl_types.specs.declared.dtype.PType.TheVariants.{U16, U64}
use Rattle.fl_types.specs.declared.validity.Validity.{Validity}
use Rattle.fl_types.specs.Integers.{fits, pattern_of, read_as}
use Rattle.fl_types.specs.Validities.{covers}
use Rattle.fl_codec.specs.Chunks.{chunks_of}
use Rattle.fl_codec.specs.Runs.{run_validity}
use Rattle.fl_codec.proofs.Congruence.{read_as-pattern_of}
use Rattle.fl_column.specs.Columns.{PrimitiveParts, column_of_primitive}
use Rattle.fl_codec.specs.ForwardFill.{Reset, fill_forward}
use Rattle.fl_codec.specs.Parts.{items_of_primitive, non_nullable}
use Rattle.fl_codec.specs.RunColumns.{run_column, runs_refusal}
use Rattle.fl_codec.proofs.ReferenceLaws.{get_or-table, length-table}
use Rattle.fl_codec.specs.Distinct.{distinct, has, rank, rank_above}
use Rattle.fl_codec.specs.Dictionaries.{chunk_dictionary, dictionaries_to, dictionary_index, dictionary_indices_to, dictionary_offsets_to, encode_dictionaries, items_in_chunk}
use Rattle.fl_codec.proofs.ChunkedRuns.{Names, chunks_back, chunks_well}
use Rattle.fl_codec.proofs.RankLaws.{rank_from, rank_from_back, rank_to, rank_to_back}
use Rattle.fl_codec.proofs.Rising.{distinct_few, distinct_some, has-distinct, has_at, or_true, rank_there, rising_distinct, rising_from_pairs, rising_same}

-- ---- the items of a chunk
pub items_long : (item : ℕ → ℤ) (k : ℕ) → length (items_in_chunk item k) ≡ 1024
unfolding items_in_chunk
items_long item k = length-table (λ q. item (1024 * k + q)) 1024

pub item_in : (item : ℕ → ℤ) (k q : ℕ) (d : ℤ) → q < 1024 → get_or (items_in_chunk item k) q d ≡ item (1024 * k + q)
unfolding items_in_chunk
item_in item k q d h = get_or-table (λ q. item (1024 * k + q)) 1024 q d h

pub has_item : (item : ℕ → ℤ) (k q : ℕ) → q < 1024 → has (item (1024 * k + q)) (chunk_dictionary item k) ≡ true
has_item item k q h =
    let xs = items_in_chunk item k in
    let long = items_long item k in
    has-distinct (item (1024 * k + q)) xs ∙ (ap (λ z. has z xs) (sym (item_in item k q (pos 0) h)) ∙ has_at xs q (pos 0) (omega arith))

-- each index names its item in the dictionary
pub names : (item : ℕ → ℤ) → Names item (chunk_dictionary item) (dictionary_index item)
unfolding rank
names item = record {
  some = λ k. distinct_some (items_in_chunk item k) (rw (items_long item k) (omega arith));
  few = λ k. let long = items_long item k in let few = distinct_few (items_in_chunk item k) in omega arith;
  named = λ k q h. (rank_there (chunk_dictionary item k) (item (1024 * k + q)) (pos 0) (rising_distinct (items_in_chunk item k)) (has_item item k q h)).0;
  stands = λ k q h. (rank_there (chunk_dictionary item k) (item (1024 * k + q)) (pos 0) (rising_distinct (items_in_chunk item k)) (has_item item k q h)).1;
}

-- ---- the column
pub dictionaries_back : (p : PrimitiveParts) → IsTrue (covers p.validity (length p.slots)) → run_column (encode_dictionaries p) 0 (length p.slots) ≡ column_of_primitive p
dictionaries_back p covered =
    let item = fill_forward Reset (items_of_primitive p) in
    chunks_back (chunk_dictionary item) (dictionary_index item) p (names item) covered

pub dictionaries_well : (p : PrimitiveParts) → IsTrue (covers p.validity (length p.slots)) → runs_refusal (encode_dictionaries p) 0 (length p.slots) ≡ None
dictionaries_well p covered =
    let item = fill_forward Reset (items_of_primitive p) in
    chunks_well (chunk_dictionary item) (dictionary_index item) p (names item) covered

-- ---- what the distinct integers of a list are
contains_has : (xs : List ℤ) (z : ℤ) → Contains xs z → has z xs ≡ true
contains_has xs z w = ap (λ y. has y xs) (sym w.2) ∙ has_at xs w.0 z w.1

has_contains : (xs : List ℤ) (z : ℤ) → has z xs ≡ true → Contains xs z
has_contains [] z h = absurd cc
has_contains (x ∷ xs) z h = elim (or_true (int_eq z x) (has z xs) h) [
  | inl here ↦ (0, omega arith, sym ((Decides-int_eq z x).0 here))
  | inr later ↦ let w = has_contains xs z later in (suc w.0, omega arith, w.2)
]

pub distinct_contains : (zs : List ℤ) (z : ℤ) → Contains (distinct zs) z ↔ Contains zs z
distinct_contains zs z =
    ((λ w. has_contains zs z (sym (has-distinct z zs) ∙ contains_has (distinct zs) z w)), (λ w. has_contains (distinct zs) z (has-distinct z zs ∙ contains_has zs z w)))

pub distinct_only : (zs xs : List ℤ) → AllPairs (λ x y. x <ℤ y) xs → ((z : ℤ) → Contains xs z ↔ Contains zs z) → xs ≡ distinct zs
distinct_only zs xs rises same =
    rising_same xs (distinct zs) (rising_from_pairs xs rises) (rising_distinct zs)
    (λ z. same_from_decides (has z xs) (has z (distinct zs)) (has_contains xs z, contains_has xs z)
    ((λ e. (same z).1 (has_contains zs z (sym (has-distinct z zs) ∙ e))), (λ w. has-distinct z zs ∙ contains_has zs z ((same z).0 w))))

-- ---- ranges
pub range_of_ranks : (items : List (Option ℤ)) (k q : ℕ) (low high : ℤ) → q < 1024 → let item : ℕ → ℤ = fill_forward Reset items in ((low ≤ℤ item (1024 * k + q)) × (item (1024 * k + q) ≤ℤ high)) ↔ ((rank (chunk_dictionary item k) low ≤ dictionary_index item k q) × (dictionary_index item k q < rank_above (chunk_dictionary item k) high))
range_of_ranks items k q low high h =
    let item : ℕ → ℤ = fill_forward Reset items in
    let z = item (1024 * k + q) in
    let there = has_item item k q h in
    ((λ w. (rank_from (chunk_dictionary item k) z low there w.0, rank_to (chunk_dictionary item k) z high there w.1)), (λ w. (rank_from_back (chunk_dictionary item k) z low there w.0, rank_to_back (chunk_dictionary item k) z high there w.1)))

-- ---- what the encoder makes
pub items_from_patterns : (ptype : PType) (item : ℕ → ℤ) (k : ℕ) (zs : List ℤ) → length zs ≡ 1024 → ((q : ℕ) → q < 1024 → get_or zs q (pos 0) ≡ read_as ptype (pattern_of ptype (item (1024 * k + q)))) → ((q : ℕ) → q < 1024 → IsTrue (fits ptype (item (1024 * k + q)))) → zs ≡ items_in_chunk item k
unfolding items_in_chunk
items_from_patterns ptype item k zs long here fit = fill_by_all (λ q. item (1024 * k + q)) zs 1024 (pos 0) long (λ q h. here q h ∙ read_as-pattern_of ptype (item (1024 * k + q)) (fit q h))

pub ranks_are : (item : ℕ → ℤ) (k : ℕ) (zs vs : List ℤ) → zs ≡ items_in_chunk item k → vs ≡ distinct zs → (q : ℕ) → q < 1024 → rank vs (get_or zs q (pos 0)) ≡ dictionary_index item k q
ranks_are item k zs vs items values q h =
    ap (λ ys. rank ys (get_or zs q (pos 0))) (values ∙ ap distinct items) ∙ ap (rank (chunk_dictionary item k)) (ap (λ ys. get_or ys q (pos 0)) items ∙ item_in item k q (pos 0) h)

pub dictionaries_made : (p : PrimitiveParts) (ptype : PType) (values indices offsets : PrimitiveParts) (vs : List ℤ) (is os : List ℕ) (v : Validity) (n : ℕ) → p.ptype ≡ ptype → n ≡ chunks_of (length p.slots)
    → values ≡ non_nullable ptype vs → vs ≡ dictionaries_to (items_of_primitive p) n
    → indices ≡ record { ptype = U16; slots = map (λ i. pos i) is; validity = v } → is ≡ dictionary_indices_to (items_of_primitive p) n → v ≡ run_validity p.validity (length p.slots) (1024 * n)
    → offsets ≡ non_nullable U64 (map (λ i. pos i) os) → os ≡ dictionary_offsets_to (items_of_primitive p) n
    → record { values = values; indices = indices; offsets = offsets } ≡ encode_dictionaries p
dictionaries_made p ptype values indices offsets vs is os v n same chunks a b c d e f g = rw (a, b, c, d, e, f, g, chunks, ← same) refl
