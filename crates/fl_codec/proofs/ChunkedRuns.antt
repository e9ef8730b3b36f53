-- Any values of the chunks, with an index for each position that names its item among them, are runs that show the column.
use Rattle.std.proofs.Common.{◌≡◌, ℕ, ℤ, pos, zero, suc, ◌+◌, ◌-◌, ◌*◌, ◌/◌, ◌%◌, ◌<◌, ◌≤◌, Bool, true, false, cond, List, [], ◌∷◌, ◌++◌, length, map, take, get_or, replicate, Option, Some, None, option_map, unwrap_or, unsigned_abs, IsTrue, subst, refl, ap, sym, ◌∙◌, inl, inr, arith, length-append}
use Rattle.std.specs.List.{list_all, range_with_len}
use Rattle.std.specs.Prelude.{nat_le, nat_lt, flat_map, ◌&&◌, ◌||◌, ◌==◌}
use Rattle.std.proofs.lemmas.Bool.{cases_lt, eq-eqb, eqb-true, le-leb, le-ltb, lt-ltb}
use Rattle.std.proofs.lemmas.List.{append-nil, get_or-map, get_or_append_left, length-map, map-id}
use Rattle.std.proofs.lemmas.List.Concat.{flat_map-append, get_or-flat_map}
use Rattle.std.proofs.lemmas.List.FromFn.{fill_by_all, get_or-range_with_len, length-range_with_len, take-map-range_with_len}
use Rattle.fl_types.specs.declared.dtype.DType.TheVariants.{Primitive}
use Rattle.fl_types.specs.declared.dtype.PType.TheVariants.{U16, U64}
use Rattle.fl_types.specs.declared.validity.Validity.{Validity}
use Rattle.fl_types.specs.declared.validity.Validity.TheVariants as valid
use Rattle.fl_types.specs.Bits.{tabulate}
use Rattle.fl_types.specs.Validities.{covers, is_valid_at, items_of, nullability_of}
use Rattle.fl_column.specs.Columns.{PrimitiveParts, column_of_primitive, numbers_of}
use Rattle.fl_column.proofs.ItemLaws.{get_or-items_of, length-items_of}
use Rattle.fl_column.proofs.ListLaws.{all_from, and_true}
use Rattle.fl_codec.specs.Chunks.{chunk, chunks_of}
use Rattle.fl_codec.specs.ForwardFill.{Reset, fill_forward}
use Rattle.fl_codec.specs.Parts.{RunParts, items_of_primitive, non_nullable}
use Rattle.fl_codec.specs.Runs.{run_validity}
use Rattle.fl_codec.specs.RunColumns.{are_run_indices, are_run_offsets, chunk_end, chunk_start, is_chunk_of_runs, is_run_index, run_column, run_count, run_item, runs_refusal}
use Rattle.fl_codec.proofs.ForwardFillLaws.{get_or-chunk, length-chunk, table_append}
use Rattle.fl_codec.proofs.DeltaRoundTrips.{fill_forward-valid}
use Rattle.fl_codec.proofs.ReferenceLaws.{get_or-table, length-table}
use Rattle.fl_codec.proofs.RunLaws.{covers-run_validity, range_to_more}

-- ---- the parts
-- the values of the first chunks, one chunk after another
abbrev pub values_of : (ℕ → List ℤ) → ℕ → List ℤ
values_of values n = flat_map values (range_with_len 0 n)

-- how many values stand before each of the first chunks
abbrev pub offsets_of : (ℕ → List ℤ) → ℕ → List ℕ
offsets_of values n = tabulate (λ k. length (values_of values k)) n

-- the index at each position of the first chunks
abbrev pub indices_of : (ℕ → ℕ → ℕ) → ℕ → List ℕ
indices_of index n = tabulate (λ p. index (p / 1024) (p % 1024)) (1024 * n)

-- the parts of a plain array
abbrev pub runs_of : (ℕ → List ℤ) → (ℕ → ℕ → ℕ) → PrimitiveParts → RunParts
runs_of values index p = record {
  values = non_nullable p.ptype (values_of values (chunks_of (length p.slots)));
  indices = record { ptype = U16; slots = map (λ n. pos n) (indices_of index (chunks_of (length p.slots))); validity = run_validity p.validity (length p.slots) (1024 * chunks_of (length p.slots)) };
  offsets = non_nullable U64 (map (λ n. pos n) (offsets_of values (chunks_of (length p.slots))));
}

-- each chunk has from 1 to 1024 values, and the one that a position's index names is the item there
pub record Names (item : ℕ → ℤ) (values : ℕ → List ℤ) (index : ℕ → ℕ → ℕ) : Type 0 where
  pub some : (k : ℕ) → 0 < length (values k)
  pub few : (k : ℕ) → length (values k) ≤ 1024
  pub named : (k q : ℕ) → q < 1024 → index k q < length (values k)
  pub stands : (k q : ℕ) → q < 1024 → get_or (values k) (index k q) (pos 0) ≡ item (1024 * k + q)

-- ---- the values of all chunks
pub values_more : (values : ℕ → List ℤ) (k : ℕ) → values_of values (k + 1) ≡ values_of values k ++ values k
values_more values k =
    rw (range_to_more k) (flat_map-append values (range_with_len 0 k) (k ∷ []) ∙ ap (λ ys. values_of values k ++ ys) (append-nil (values k)))

-- the indices of one more chunk
pub indices_more : (index : ℕ → ℕ → ℕ) (k : ℕ) (positions : List ℕ) → length positions ≡ 1024 → ((q : ℕ) → q < 1024 → get_or positions q 0 ≡ index k q) → indices_of index k ++ positions ≡ indices_of index (k + 1)
indices_more index k positions long are =
    let entry = λ (p : ℕ). index (p / 1024) (p % 1024) in
    let more : 1024 * k + 1024 ≡ 1024 * (k + 1) = omega arith in
    let now = fill_by_all (λ q. entry (1024 * k + q)) positions 1024 0 long
    (λ q h.
    let block_no : (1024 * k + q) / 1024 ≡ k = omega arith in
    let place_no : (1024 * k + q) % 1024 ≡ q = omega arith in
    are q h ∙ (rw (block_no, place_no) refl)) in
    ap (λ ys. indices_of index k ++ ys) now ∙ (table_append entry (1024 * k) 1024 ∙ ap (tabulate entry) more)

take_range : (n k : ℕ) → k ≤ n → take k (range_with_len 0 n) ≡ range_with_len 0 k
take_range n k h = ap (take k) (sym (map-id (range_with_len 0 n))) ∙ (take-map-range_with_len (λ (i : ℕ). i) 0 n k h ∙ map-id (range_with_len 0 k))

pub value_at_index : (item : ℕ → ℤ) (values : ℕ → List ℤ) (index : ℕ → ℕ → ℕ) (chunks k q : ℕ) → Names item values index → k < chunks → q < 1024
    → get_or (values_of values chunks) (length (values_of values k) + index k q) (pos 0) ≡ item (1024 * k + q)
value_at_index item values index chunks k q names within h =
    let ks = range_with_len 0 chunks in
    let some : k < length ks = rw length-range_with_len within in
    let zero_on : 0 + k ≡ k = omega arith in
    let here : get_or ks k 0 ≡ k = get_or-range_with_len 0 chunks k 0 within ∙ zero_on in
    let inside : index k q < length (values (get_or ks k 0)) = subst (λ m. index k q < length (values m)) (sym here) (names.named k q h) in
    ap (λ xs. get_or (flat_map values ks) (length (flat_map values xs) + index k q) (pos 0)) (sym (take_range chunks k (omega arith)))
    ∙ (get_or-flat_map values ks k (index k q) 0 (pos 0) some inside
    ∙ (ap (λ m. get_or (values m) (index k q) (pos 0)) here ∙ names.stands k q h))

-- ---- the parts, read back
non_nullable_numbers : (ns : List ℕ) → map unsigned_abs (map (λ (item : Option ℤ). unwrap_or item (pos 0)) (map (λ (x : ℤ). Some x) (map (λ n. pos n) ns))) ≡ ns
non_nullable_numbers [] = refl
non_nullable_numbers (n ∷ ns) = ap (λ ms. n ∷ ms) (non_nullable_numbers ns)

valid_padded : (v : Validity) (len total i : ℕ) → IsTrue (covers v len) → i < len → is_valid_at (run_validity v len total) i ≡ is_valid_at v i
valid_padded valid.NonNullable len total i covered h = refl
valid_padded valid.AllValid len total i covered h = refl
valid_padded valid.AllInvalid len total i covered h = refl
valid_padded (valid.Array bits) len total i covered h =
    let each : length bits ≡ len = eqb-true (length bits) len covered in
    get_or_append_left bits (replicate (total - len) false) false i (omega arith)

nullability_padded : (v : Validity) (len total : ℕ) → nullability_of (run_validity v len total) ≡ nullability_of v
nullability_padded valid.NonNullable len total = refl
nullability_padded valid.AllValid len total = refl
nullability_padded valid.AllInvalid len total = refl
nullability_padded (valid.Array bits) len total = refl

mapped_item : (g : ℤ → ℤ) (here : Bool) (x y : ℤ) → (here ≡ true → g x ≡ y) → option_map g (cond here (Some x) None) ≡ cond here (Some y) None
mapped_item g true x y e = ap (λ z. Some z) (e refl)
mapped_item g false x y e = refl

same_start : (a b n : ℕ) → a ≡ n → b ≡ 0 → a - b ≡ n
same_start a b n e f = omega arith

start_is : (values : ℕ → List ℤ) (chunks k : ℕ) → k < chunks → chunk_start (offsets_of values chunks) k ≡ length (values_of values k)
start_is values chunks k h =
    let before : ℕ → ℕ = λ j. length (values_of values j) in
    same_start (get_or (offsets_of values chunks) k 0) (get_or (offsets_of values chunks) 0 0) (length (values_of values k)) (get_or-table before chunks k 0 h) (get_or-table before chunks 0 0 (omega arith))

pub chunks_back : (values : ℕ → List ℤ) (index : ℕ → ℕ → ℕ) (p : PrimitiveParts) → Names (fill_forward Reset (items_of_primitive p)) values index → IsTrue (covers p.validity (length p.slots))
    → run_column (runs_of values index p) 0 (length p.slots) ≡ column_of_primitive p
chunks_back values index p names covered =
    let items = items_of p.validity p.slots in
    let len = length p.slots in
    let chunks = chunks_of len in
    let total = 1024 * chunks in
    let v = run_validity p.validity len total in
    let entry : ℕ → ℕ = λ q. index (q / 1024) (q % 1024) in
    let slots : List ℤ = map (λ n. pos n) (indices_of index chunks) in
    let long : length slots ≡ total = length-map (indices_of index chunks) (λ n. pos n) ∙ length-table entry total in
    let padded : IsTrue (covers v (length slots)) = rw long (covers-run_validity p.validity len total covered (omega arith)) in
    let numbers : numbers_of (column_of_primitive (non_nullable U64 (map (λ n. pos n) (offsets_of values chunks)))) ≡ offsets_of values chunks = non_nullable_numbers (offsets_of values chunks) in
    let all_values = values_of values chunks in
    let shown : List ℕ → ℕ → Option ℤ = λ offsets i. run_item all_values (items_of v slots) offsets (0 + i) in
    let each = length-items_of p.validity p.slots covered in
    let all : tabulate (shown (offsets_of values chunks)) len ≡ items =
    sym (fill_by_all (shown (offsets_of values chunks)) items len None each
    (λ i h.
    let k = i / 1024 in
    let q = i % 1024 in
    let start : 0 + i ≡ i = omega arith in
    let there : 1024 * k + q ≡ i = omega arith in
    let small : q < 1024 = omega arith in
    let within : k < chunks = omega arith in
    let inside : i < total = omega arith in
    let slot = get_or p.slots i (pos 0) in
    let stored = get_or-items_of p.validity p.slots i (pos 0) covered h in
    let named : get_or slots i (pos 0) ≡ pos (entry i) = get_or-map (λ n. pos n) (indices_of index chunks) i 0 (pos 0) (rw (length-table entry total) inside) ∙ ap (λ n. pos n) (get_or-table entry total i 0 inside) in
    let found : get_or (items_of v slots) i None ≡ cond (is_valid_at p.validity i) (Some (pos (entry i))) None =
    get_or-items_of v slots i (pos 0) padded (rw long inside) ∙ (ap (λ z. cond (is_valid_at v i) (Some z) None) named ∙ ap (λ b. cond b (Some (pos (entry i))) None) (valid_padded p.validity len total i covered h)) in
    let read : ℤ → ℤ = λ z. get_or all_values (chunk_start (offsets_of values chunks) k + unsigned_abs z) (pos 0) in
    let value : is_valid_at p.validity i ≡ true → read (pos (entry i)) ≡ slot = λ valid.
    let present : get_or items (1024 * k + q) None ≡ Some slot = ap (λ n. get_or items n None) there ∙ (stored ∙ ap (λ b. cond b (Some slot) None) valid) in
    ap (λ n. get_or all_values (n + entry i) (pos 0)) (start_is values chunks k within) ∙ (value_at_index (fill_forward Reset items) values index chunks k q names within small ∙ fill_forward-valid Reset items k q slot small present) in
    stored ∙ sym (ap (run_item all_values (items_of v slots) (offsets_of values chunks)) start ∙ (ap (option_map read) found ∙ mapped_item read (is_valid_at p.validity i) (pos (entry i)) slot value)))) in
    ap (λ n. record { dtype = Primitive p.ptype n; items = tabulate (shown (numbers_of (column_of_primitive (non_nullable U64 (map (λ n. pos n) (offsets_of values chunks)))))) len }) (nullability_padded p.validity len total)
    ∙ ap (λ xs. record { dtype = Primitive p.ptype (nullability_of p.validity); items = xs }) (ap (λ offsets. tabulate (shown offsets) len) numbers ∙ all)

-- ---- the parts are well-formed
end_is : (values : ℕ → List ℤ) (chunks k : ℕ) → k < chunks → chunk_end (offsets_of values chunks) (length (values_of values chunks)) k ≡ length (values_of values (k + 1))
end_is values chunks k h =
    let count = length (values_of values chunks) in
    let offsets = offsets_of values chunks in
    let long : length offsets ≡ chunks = length-table (λ j. length (values_of values j)) chunks in
    elim (cases_lt (k + 1) chunks) [
      | inl before ↦ ap (λ b. cond b (chunk_start offsets (k + 1)) count) (ap (nat_lt (k + 1)) long ∙ lt-ltb (k + 1) chunks before) ∙ start_is values chunks (k + 1) before
      | inr last ↦ ap (λ b. cond b (chunk_start offsets (k + 1)) count) (ap (nat_lt (k + 1)) long ∙ le-ltb (k + 1) chunks last) ∙ ap (λ n. length (values_of values n)) (let same : chunks ≡ k + 1 = omega arith in same)
    ]

size_is : (values : ℕ → List ℤ) (k : ℕ) → length (values_of values (k + 1)) ≡ length (values_of values k) + length (values k)
size_is values k = ap length (values_more values k) ∙ length-append (values_of values k) (values k)

sized : (a b n : ℕ) → b ≡ a + n → 0 < n → n ≤ 1024 → (nat_lt a b && nat_le (b - a) 1024) ≡ true
sized a b n e some h = and_true (nat_lt a b) (nat_le (b - a) 1024) (lt-ltb a b (omega arith)) (le-leb (b - a) 1024 (omega arith))

chunk_well : (item : ℕ → ℤ) (values : ℕ → List ℤ) (index : ℕ → ℕ → ℕ) (chunks k : ℕ) → Names item values index → k < chunks → is_chunk_of_runs (offsets_of values chunks) (length (values_of values chunks)) k ≡ true
chunk_well item values index chunks k names h =
    let offsets = offsets_of values chunks in
    let count = length (values_of values chunks) in
    let before : ℕ → ℕ = λ j. length (values_of values j) in
    let here = start_is values chunks k h in
    let next = end_is values chunks k h in
    let first : get_or offsets 0 0 ≡ 0 = get_or-table before chunks 0 0 (omega arith) in
    and_true (nat_le (get_or offsets 0 0) (get_or offsets k 0)) _ (le-leb (get_or offsets 0 0) (get_or offsets k 0) (rw first (omega arith)))
    (sized (chunk_start offsets k) (chunk_end offsets count k) (length (values k)) (next ∙ (size_is values k ∙ ap (λ n. n + length (values k)) (sym here))) (names.some k) (names.few k))

offsets_well : (item : ℕ → ℤ) (values : ℕ → List ℤ) (index : ℕ → ℕ → ℕ) (chunks : ℕ) → Names item values index → are_run_offsets (offsets_of values chunks) (length (values_of values chunks)) ≡ true
offsets_well item values index zero names = refl
offsets_well item values index (suc chunks) names =
    let offsets = offsets_of values (suc chunks) in
    let count = length (values_of values (suc chunks)) in
    let long : length offsets ≡ suc chunks = length-table (λ j. length (values_of values j)) (suc chunks) in
    and_true (nat_lt 0 (length offsets) || (count == 0)) (list_all (is_chunk_of_runs offsets count) (range_with_len 0 (length offsets)))
    (ap (λ b. b || (count == 0)) (lt-ltb 0 (length offsets) (rw long (omega arith))))
    (all_from (is_chunk_of_runs offsets count) (range_with_len 0 (length offsets)) 0
    (λ i h.
    let within : i < length offsets = rw length-range_with_len at h in
    let zero_on : 0 + i ≡ i = omega arith in
    let here : get_or (range_with_len 0 (length offsets)) i 0 ≡ i = get_or-range_with_len 0 (length offsets) i 0 within ∙ zero_on in
    subst (λ n. is_chunk_of_runs offsets count n ≡ true) (sym here) (chunk_well item values index (suc chunks) i names (subst (λ n. i < n) long within))))

below_passes : (count : ℕ) (here : Bool) (n : ℕ) → n < count → is_run_index count (cond here (Some (pos n)) None) ≡ true
below_passes count true n h = lt-ltb n count h
below_passes count false n h = refl

chunk_named : (item : ℕ → ℤ) (values : ℕ → List ℤ) (index : ℕ → ℕ → ℕ) (v : Validity) (chunks k : ℕ) → Names item values index → IsTrue (covers v (length (map (λ n. pos n) (indices_of index chunks)))) → k < chunks
    → list_all (is_run_index (run_count (offsets_of values chunks) (length (values_of values chunks)) k)) (chunk k (items_of v (map (λ n. pos n) (indices_of index chunks)))) ≡ true
chunk_named item values index v chunks k names padded h =
    let offsets = offsets_of values chunks in
    let count = length (values_of values chunks) in
    let entry : ℕ → ℕ = λ p. index (p / 1024) (p % 1024) in
    let slots : List ℤ = map (λ n. pos n) (indices_of index chunks) in
    let indices = items_of v slots in
    let long : length slots ≡ 1024 * chunks = length-map (indices_of index chunks) (λ n. pos n) ∙ length-table entry (1024 * chunks) in
    let start = start_is values chunks k h in
    let end = end_is values chunks k h in
    let size = size_is values k in
    all_from (is_run_index (run_count offsets count k)) (chunk k indices) None
    (λ q l.
    let few = length-chunk indices k in
    let i = 1024 * k + q in
    let block_no : i / 1024 ≡ k = omega arith in
    let place_no : i % 1024 ≡ q = omega arith in
    let inside : i < 1024 * chunks = omega arith in
    let small : q < 1024 = omega arith in
    let names_one = names.named k q small in
    let below : index k q < run_count offsets count k = rw (start, end, size) (omega arith) in
    let named : get_or slots i (pos 0) ≡ pos (index k q) = get_or-map (λ n. pos n) (indices_of index chunks) i 0 (pos 0) (rw (length-table entry (1024 * chunks)) inside) ∙ ap (λ n. pos n) (get_or-table entry (1024 * chunks) i 0 inside ∙ (rw (block_no, place_no) refl)) in
    let found : get_or (chunk k indices) q None ≡ cond (is_valid_at v i) (Some (pos (index k q))) None =
    get_or-chunk indices k q None (omega arith) ∙ (get_or-items_of v slots i (pos 0) padded (rw long inside) ∙ ap (λ z. cond (is_valid_at v i) (Some z) None) named) in
    ap (is_run_index (run_count offsets count k)) found ∙ below_passes (run_count offsets count k) (is_valid_at v i) (index k q) below)

pub chunks_well : (values : ℕ → List ℤ) (index : ℕ → ℕ → ℕ) (p : PrimitiveParts) → Names (fill_forward Reset (items_of_primitive p)) values index → IsTrue (covers p.validity (length p.slots))
    → runs_refusal (runs_of values index p) 0 (length p.slots) ≡ None
chunks_well values index p names covered =
    let item = fill_forward Reset (items_of_primitive p) in
    let len = length p.slots in
    let chunks = chunks_of len in
    let total = 1024 * chunks in
    let v = run_validity p.validity len total in
    let entry : ℕ → ℕ = λ q. index (q / 1024) (q % 1024) in
    let slots : List ℤ = map (λ n. pos n) (indices_of index chunks) in
    let long : length slots ≡ total = length-map (indices_of index chunks) (λ n. pos n) ∙ length-table entry total in
    let padded : IsTrue (covers v (length slots)) = rw long (covers-run_validity p.validity len total covered (omega arith)) in
    let offsets = offsets_of values chunks in
    let numbers : numbers_of (column_of_primitive (non_nullable U64 (map (λ n. pos n) offsets))) ≡ offsets = non_nullable_numbers offsets in
    let count = length (values_of values chunks) in
    let each : length (map (λ n. pos n) offsets) ≡ chunks = length-map offsets (λ n. pos n) ∙ length-table (λ j. length (values_of values j)) chunks in
    let whole : (length slots % 1024 == 0) ≡ true = eq-eqb (length slots % 1024) 0 (rw long (omega arith)) in
    let enough : nat_lt (length slots) (0 + len) ≡ false = le-ltb (length slots) (0 + len) (rw long (omega arith)) in
    let one_each : (length (map (λ n. pos n) offsets) == length slots / 1024) ≡ true = eq-eqb _ _ (rw (each, long) (omega arith)) in
    let starts : are_run_offsets (numbers_of (column_of_primitive (non_nullable U64 (map (λ n. pos n) offsets)))) count ≡ true = ap (λ ns. are_run_offsets ns count) numbers ∙ offsets_well item values index chunks names in
    let named : are_run_indices (items_of v slots) (numbers_of (column_of_primitive (non_nullable U64 (map (λ n. pos n) offsets)))) count ≡ true =
    ap (λ ns. are_run_indices (items_of v slots) ns count) numbers
    ∙ all_from (λ k. list_all (is_run_index (run_count offsets count k)) (chunk k (items_of v slots))) (range_with_len 0 (length offsets)) 0
    (λ j h.
    let within : j < length offsets = rw length-range_with_len at h in
    let zero_on : 0 + j ≡ j = omega arith in
    let here : get_or (range_with_len 0 (length offsets)) j 0 ≡ j = get_or-range_with_len 0 (length offsets) j 0 within ∙ zero_on in
    let inside : j < chunks = subst (λ n. j < n) (length-table (λ j. length (values_of values j)) chunks) within in
    subst (λ n. list_all (is_run_index (run_count offsets count n)) (chunk n (items_of v slots)) ≡ true) (sym here) (chunk_named item values index v chunks j names padded inside)) in
    rw (whole, enough, one_each, starts, named) refl
