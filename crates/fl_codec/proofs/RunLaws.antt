-- Runs of a chunk.
use Rattle.std.proofs.Common.{◌≡◌, ℕ, ℤ, zero, suc, ◌+◌, ◌-◌, ◌*◌, ◌/◌, ◌%◌, ◌<◌, ◌≤◌, Bool, true, false, not, cond, List, [], ◌∷◌, ◌++◌, length, map, take, get_or, Option, IsTrue, refl, ap, sym, ◌∙◌, arith, add-one, subst, length-take, lit<}
use Rattle.std.specs.Prelude.{nat_eq, filter}
use Rattle.std.specs.List.{range_with_len}
use Rattle.std.specs.Ordering.{int_eq}
use Rattle.std.proofs.lemmas.Bool.Decides.{Decides-int_eq, Decides-eqb, same_from_decides}
use Rattle.std.proofs.Common.{pos, replicate, append_assoc, length-append, Ok, Result}
use Rattle.fl_types.specs.declared.error.FastLanesError.{FastLanesError}
use Rattle.std.proofs.lemmas.List.{append-nil, get_or-append_right, length-replicate, map-append, replicate_more}
use Rattle.std.proofs.lemmas.List.FromFn.{fill_by_all}
use Rattle.std.proofs.lemmas.List.Concat.{flat_map-append}
use Rattle.std.proofs.lemmas.List.Elements.{filter-append}
use Rattle.fastlanes.specs.Layout.{bit_value, pattern_at}
use Rattle.fastlanes.specs.Runs.{changes, counted}
use Rattle.fastlanes.proofs.Patterns.{pattern_at_take}
use Rattle.fl_types.specs.declared.dtype.PType.{PType}
use Rattle.fl_types.specs.declared.dtype.PType.TheVariants.{U16, U64}
use Rattle.fl_types.specs.declared.validity.Validity.{Validity}
use Rattle.fl_types.specs.declared.validity.Validity.TheVariants as valid
use Rattle.fl_types.specs.Validities.{covers}
use Rattle.fl_column.specs.Columns.{PrimitiveParts}
use Rattle.fl_types.specs.Bits.{tabulate}
use Rattle.fl_types.specs.Integers.{fits, pattern_of, read_as}
use Rattle.fl_codec.specs.ForwardFill.{Reset, fill_forward}
use Rattle.fl_codec.specs.Chunks.{chunk, chunks_of}
use Rattle.fl_codec.specs.Parts.{encode_runs, items_of_primitive, non_nullable}
use Rattle.fl_codec.specs.Runs.{chunk_values, differs_next, indices_to, offsets_to, run_index, run_validity, values_to}
use Rattle.fl_codec.proofs.Congruence.{read_as-pattern_of}
use Rattle.fl_codec.proofs.DeltaLaws.{values_table}
use Rattle.fl_codec.proofs.ForwardFillLaws.{table_append}
use Rattle.fl_codec.proofs.ReferenceLaws.{table_more}
use Rattle.fl_codec.proofs.Tables.{between-table, get_or-table, length-table, map-between}

-- ---- counts
pub counted_zero : (test : ℕ → Bool) → counted test 0 ≡ 0
unfolding counted
counted_zero test = refl

pub counted_next : (test : ℕ → Bool) (n : ℕ) → counted test (n + 1) ≡ counted test n + bit_value (test n)
unfolding counted
counted_next test n = rw add-one refl

counted_same : (f g : ℕ → Bool) (n : ℕ) → ((t : ℕ) → t < n → f t ≡ g t) → counted f n ≡ counted g n
unfolding counted
counted_same f g zero same = refl
counted_same f g (suc n) same = rw (counted_same f g n (λ t h. same t (omega arith)), same n (omega arith)) refl

-- patterns of one type are equal where the integers are
pub same_patterns : (ptype : PType) (y z : ℤ) → IsTrue (fits ptype y) → IsTrue (fits ptype z) → nat_eq (pattern_of ptype y) (pattern_of ptype z) ≡ int_eq y z
same_patterns ptype y z f g =
    same_from_decides (nat_eq (pattern_of ptype y) (pattern_of ptype z)) (int_eq y z)
    ((λ e. sym (read_as-pattern_of ptype y f) ∙ (ap (read_as ptype) ((Decides-eqb (pattern_of ptype y) (pattern_of ptype z)).0 e) ∙ read_as-pattern_of ptype z g)), (λ e. (Decides-eqb (pattern_of ptype y) (pattern_of ptype z)).1 (ap (pattern_of ptype) e)))
    (Decides-int_eq y z)

-- the kernel's runs are the chunk's
pub changes_are : (ptype : PType) (item : ℕ → ℤ) (k : ℕ) (block : ℕ → ℕ) (q : ℕ) → q < 1024 → ((i : ℕ) → i < 1024 → block i ≡ pattern_of ptype (item (1024 * k + i))) → ((i : ℕ) → i < 1024 → IsTrue (fits ptype (item (1024 * k + i))))
    → changes block q ≡ run_index item k q
unfolding changes
changes_are ptype item k block q h here fit =
    counted_same (λ t. not (nat_eq (block (suc t)) (block t))) (differs_next item k) q
    (λ t p. rw (← add-one, here (t + 1) (omega arith), here t (omega arith)) (ap not (same_patterns ptype (item (1024 * k + (t + 1))) (item (1024 * k + t)) (fit (t + 1) (omega arith)) (fit t (omega arith)))))

-- ---- the values that runs begin with
range_more : (a n : ℕ) → range_with_len a (n + 1) ≡ range_with_len a n ++ (a + n) ∷ []
range_more a zero = let same : a ≡ a + 0 = omega arith in ap (λ m. m ∷ []) same
range_more a (suc n) =
    let step : suc n + 1 ≡ suc (n + 1) = omega arith in
    let last : a + 1 + n ≡ a + suc n = omega arith in
    rw step (ap (λ ys. a ∷ ys) (range_more (a + 1) n ∙ ap (λ m. range_with_len (a + 1) n ++ m ∷ []) last))

pub range_to_more : (n : ℕ) → range_with_len 0 (n + 1) ≡ range_with_len 0 n ++ n ∷ []
range_to_more n = let same : 0 + n ≡ n = omega arith in range_more 0 n ∙ ap (λ m. range_with_len 0 n ++ m ∷ []) same

-- the first item of chunk k, and each up to position n that differs from the one before
abbrev pub values_up_to : (ℕ → ℤ) → ℕ → ℕ → List ℤ
values_up_to item k n = item (1024 * k) ∷ map (λ t. item (1024 * k + (t + 1))) (filter (differs_next item k) (range_with_len 0 n))

pub values_next : (item : ℕ → ℤ) (k n : ℕ) → values_up_to item k (n + 1) ≡ values_up_to item k n ++ map (λ t. item (1024 * k + (t + 1))) (cond (differs_next item k n) (n ∷ []) [])
values_next item k n =
    rw (range_to_more n) (ap (λ ys. item (1024 * k) ∷ map (λ t. item (1024 * k + (t + 1))) ys) (filter-append (differs_next item k) (range_with_len 0 n) (n ∷ []))
    ∙ ap (λ ys. item (1024 * k) ∷ ys) (map-append (λ t. item (1024 * k + (t + 1))) (filter (differs_next item k) (range_with_len 0 n)) (cond (differs_next item k n) (n ∷ []) [])))

value_next : (item : ℕ → ℤ) (value : ℕ → ℤ) (k n count : ℕ) (b : Bool) (before : List ℤ) → tabulate value (count + 1) ≡ before → (b ≡ true → value (count + 1) ≡ item (1024 * k + (n + 1)))
    → tabulate value (count + bit_value b + 1) ≡ before ++ map (λ t. item (1024 * k + (t + 1))) (cond b (n ∷ []) [])
value_next item value k n count true before e here = table_more value (count + 1) ∙ (rw (e, here refl) refl)
value_next item value k n count false before e here = let none : count + 0 + 1 ≡ count + 1 = omega arith in rw (none, append-nil) e

run_values : (item : ℕ → ℤ) (value : ℕ → ℤ) (k n : ℕ) → ((q : ℕ) → q < n + 1 → value (run_index item k q) ≡ item (1024 * k + q)) → tabulate value (run_index item k n + 1) ≡ values_up_to item k n
run_values item value k zero here =
    let none = counted_zero (differs_next item k) in
    let first : value 0 ≡ item (1024 * k) = ap value (sym none) ∙ (here 0 (omega arith) ∙ ap item (omega arith)) in
    rw (none, first) refl
run_values item value k (suc n) here =
    let next = counted_next (differs_next item k) n in
    let last : value (run_index item k (n + 1)) ≡ item (1024 * k + (n + 1)) = here (n + 1) (omega arith) in
    subst (λ m. tabulate value (run_index item k m + 1) ≡ values_up_to item k m) (add-one n) (ap (λ m. tabulate value (m + 1)) next
    ∙ (value_next item value k n (run_index item k n) (differs_next item k n) (values_up_to item k n) (run_values item value k n (λ q h. here q (omega arith)))
    (λ yes. ap value (sym (next ∙ ap (λ b. run_index item k n + bit_value b) yes)) ∙ last)
    ∙ sym (values_next item k n)))

-- the run values of a chunk, as words
pub values_of_chunk : {W : Type 0} (pattern : W → ℕ) (ptype : PType) (item : ℕ → ℤ) (k : ℕ) (block : ℕ → ℕ) (rle : List W) (count : ℕ) → count ≤ length rle → count ≡ changes block 1023 + 1
    → ((i : ℕ) → i < 1024 → block i ≡ pattern_of ptype (item (1024 * k + i))) → ((i : ℕ) → i < 1024 → IsTrue (fits ptype (item (1024 * k + i))))
    → ((q : ℕ) → q < 1024 → pattern_at pattern rle (changes block q) ≡ block q)
    → map (λ w. read_as ptype (pattern w)) (take count rle) ≡ chunk_values item k
values_of_chunk pattern ptype item k block rle count few is here fit runs_are =
    let value = λ (m : ℕ). read_as ptype (pattern_at pattern rle m) in
    let last : 1023 < 1024 = lit< tt in
    let long : length (take count rle) ≡ count = let taken = length-take count rle in omega arith in
    let counted_is : count ≡ run_index item k 1023 + 1 = is ∙ ap (λ n. n + 1) (changes_are ptype item k block 1023 last here fit) in
    values_table pattern (read_as ptype) (take count rle) value count long (λ i h. ap (read_as ptype) (pattern_at_take pattern rle count i h))
    ∙ (ap (tabulate value) counted_is
    ∙ run_values item value k 1023 (λ q h.
    let inside : q < 1024 = omega arith in
    ap value (sym (changes_are ptype item k block q inside here fit)) ∙ (ap (read_as ptype) (runs_are q inside ∙ here q inside) ∙ read_as-pattern_of ptype (item (1024 * k + q)) (fit q inside))))

pub values_more : (items : List (Option ℤ)) (k : ℕ) → values_to items (k + 1) ≡ values_to items k ++ chunk_values (fill_forward Reset items) k
values_more items k =
    rw (range_to_more k) (flat_map-append (chunk_values (fill_forward Reset items)) (range_with_len 0 k) (k ∷ []) ∙ ap (λ ys. values_to items k ++ ys) (append-nil (chunk_values (fill_forward Reset items) k)))

-- ---- the indices of a chunk
pub indices_of_chunk : (ptype : PType) (items : List (Option ℤ)) (k : ℕ) (block : ℕ → ℕ) (positions : List ℕ) → length positions ≡ 1024
    → ((i : ℕ) → i < 1024 → block i ≡ pattern_of ptype (fill_forward Reset items (1024 * k + i))) → ((i : ℕ) → i < 1024 → IsTrue (fits ptype (fill_forward Reset items (1024 * k + i))))
    → ((q : ℕ) → q < 1024 → get_or positions q 0 ≡ changes block q) → indices_to items k ++ positions ≡ indices_to items (k + 1)
indices_of_chunk ptype items k block positions long here fit are =
    let item = fill_forward Reset items in
    let index = λ (p : ℕ). run_index item (p / 1024) (p % 1024) in
    let more : 1024 * k + 1024 ≡ 1024 * (k + 1) = omega arith in
    let now = fill_by_all (λ q. index (1024 * k + q)) positions 1024 0 long
    (λ q h.
    let block_no : (1024 * k + q) / 1024 ≡ k = omega arith in
    let place_no : (1024 * k + q) % 1024 ≡ q = omega arith in
    are q h ∙ (changes_are ptype item k block q h here fit ∙ (rw (block_no, place_no) refl))) in
    ap (λ ys. indices_to items k ++ ys) now ∙ (table_append index (1024 * k) 1024 ∙ ap (tabulate index) more)

-- ---- the validity of the indices
pub covers-run_validity : (v : Validity) (len total : ℕ) → IsTrue (covers v len) → len ≤ total → IsTrue (covers (run_validity v len total) total)
covers-run_validity valid.NonNullable len total covered h = refl
covers-run_validity valid.AllValid len total covered h = refl
covers-run_validity valid.AllInvalid len total covered h = refl
covers-run_validity (valid.Array bits) len total covered h =
    let each : length bits ≡ len = (Decides-eqb (length bits) len).0 covered in
    (Decides-eqb _ _).1 (rw (length-append, length-replicate, each) (omega arith))

-- one more null
pub padded_more : (bits padded new : List Bool) (len i : ℕ) → len ≤ i → padded ≡ bits ++ replicate (i - len) false → new ≡ padded ++ false ∷ [] → new ≡ bits ++ replicate (i + 1 - len) false
padded_more bits padded new len i h is pushed =
    let more : i + 1 - len ≡ i - len + 1 = omega arith in
    pushed ∙ (ap (λ xs. xs ++ false ∷ []) is ∙ (append_assoc bits (replicate (i - len) false) (false ∷ []) ∙ (ap (λ xs. bits ++ xs) (replicate_more (i - len) false) ∙ ap (λ n. bits ++ replicate n false) (sym more))))

-- ---- all the parts
-- what a call that memory alone could stop gave
pub ok_same : {A : Type 0} (x y : A) → (let left : Result A FastLanesError = Ok x in left) ≡ Ok y → y ≡ x
ok_same x y e = cc

pub runs_made : (p : PrimitiveParts) (ptype : PType) (values indices offsets : PrimitiveParts) (vs : List ℤ) (is os : List ℕ) (v : Validity) (n : ℕ) → p.ptype ≡ ptype → n ≡ chunks_of (length p.slots)
    → values ≡ non_nullable ptype vs → vs ≡ values_to (items_of_primitive p) n
    → indices ≡ record { ptype = U16; slots = map (λ i. pos i) is; validity = v } → is ≡ indices_to (items_of_primitive p) n → v ≡ run_validity p.validity (length p.slots) (1024 * n)
    → offsets ≡ non_nullable U64 (map (λ i. pos i) os) → os ≡ offsets_to (items_of_primitive p) n
    → record { values = values; indices = indices; offsets = offsets } ≡ encode_runs p
runs_made p ptype values indices offsets vs is os v n same chunks a b c d e f g = rw (a, b, c, d, e, f, g, chunks, ← same) refl

-- what is made behind the indices of the chunks before is a chunk of the indices
pub indices_in_chunk : (p : PrimitiveParts) (k : ℕ) (made : List ℕ) → k < chunks_of (length p.slots) → length made ≡ 1024 → indices_to (items_of_primitive p) k ++ made ≡ indices_to (items_of_primitive p) (k + 1)
    → map (λ n. pos n) made ≡ chunk k (encode_runs p).indices.slots
indices_in_chunk p k made within long joined =
    let items = items_of_primitive p in
    let entry : ℕ → ℕ = λ i. run_index (fill_forward Reset items) (i / 1024) (i % 1024) in
    let n = 1024 * chunks_of (length p.slots) in
    let whole : 1024 * (k + 1) - 1024 * k ≡ 1024 = omega arith in
    let here : made ≡ tabulate (λ i. entry (1024 * k + i)) 1024 = fill_by_all (λ i. entry (1024 * k + i)) made 1024 0 long
    (λ q h.
    let place : 1024 * k + q - 1024 * k ≡ q = omega arith in
    ap (λ n. get_or made n 0) (sym place)
    ∙ (sym (get_or-append_right (tabulate entry (1024 * k)) made (1024 * k) (1024 * k + q) 0 (length-table entry (1024 * k)) (omega arith))
    ∙ (ap (λ xs. get_or xs (1024 * k + q) 0) joined ∙ get_or-table entry (1024 * (k + 1)) (1024 * k + q) 0 (omega arith)))) in
    ap (map (λ n. pos n)) (here ∙ (ap (tabulate (λ i. entry (1024 * k + i))) (sym whole) ∙ sym (between-table entry n (1024 * k) (1024 * (k + 1)) 0 (omega arith) (omega arith))))
    ∙ map-between (λ n. pos n) (tabulate entry n) (1024 * k) (1024 * (k + 1))
