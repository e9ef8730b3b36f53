-- Blocks of differences.
use Rattle.std.proofs.Common.{◌≡◌, ℕ, ℤ, pos, zero, suc, ◌+◌, ◌-◌, ◌*◌, ◌/◌, ◌%◌, ◌^◌, ◌<◌, ◌≤◌, refl, ap, sym, ◌∙◌, arith, add-one, mul_comm, length-take}
use Rattle.std.proofs.Common.{List, [], ◌∷◌, ◌++◌, get_or, length, map, IsTrue, ◌-ℤ◌, take}
use Rattle.std.proofs.Math.Nat.{mod-eq_of_lt, add-mod_right}
use Rattle.std.specs.Prelude.{if◌then◌else◌, ◌==◌, false}
use Rattle.std.proofs.lemmas.Bool.{ne_eqb}
use Rattle.std.proofs.lemmas.List.{get_or-append_right, get_or-map, length-map}
use Rattle.std.proofs.lemmas.List.FromFn.{fill_by_all}
use Rattle.fastlanes.proofs.Patterns.{pattern_at_take}
use Rattle.std.proofs.lemmas.Nat.{div-mul-add, mod-mul-add}
use Rattle.fl_types.specs.declared.dtype.PType.{PType}
use Rattle.fl_types.specs.Bits.{tabulate}
use Rattle.fl_types.specs.Integers.{bits_of_type, fits, lanes_of_type, pattern_of, read_as, wrap}
use Rattle.fastlanes.specs.Layout.{pattern_at, place, segment, row_of, lane_of, IsWordWidth, bits_8, bits_16, bits_32, bits_64}
use Rattle.fastlanes.specs.Delta.{Transposed, item_before, item_delta}
use Rattle.fastlanes.proofs.Bijection.{position_placed, segment_read}
use Rattle.fl_codec.specs.Deltas.{base_of, bases_to, delta_of, deltas_to, encoded_delta}
use Rattle.fl_codec.specs.Chunks.{chunk, chunks_of}
use Rattle.fl_codec.specs.ForwardFill.{Carry, fill_forward}
use Rattle.fl_codec.proofs.Tables.{between-table, get_or-table, length-table}
use Rattle.fl_codec.specs.Parts.{compress_deltas, items_of_primitive, non_nullable}
use Rattle.fl_column.specs.Columns.{PrimitiveParts}
use Rattle.fl_codec.proofs.Congruence.{read_as-difference, read_as-pattern_of, read_as-zero}
use Rattle.fl_codec.proofs.ForwardFillLaws.{table_append}

-- the first row's places are the lanes
pub place_first : (l : ℕ) → place 0 l ≡ l
unfolding place
place_first l = omega arith

-- a block's first stored words are the items that its lanes begin with
pub first_stored : (T lanes : ℕ) (item stored : ℕ → ℕ) (l : ℕ) → 0 < T → l < lanes → Transposed T lanes item stored → stored l ≡ item (segment l)
first_stored T lanes item stored l h q moved = ap stored (sym (place_first l)) ∙ (moved.moved 0 l h q ∙ ap item (omega arith))

difference_none : (M x : ℕ) → x < M → (x + (M - x)) % M ≡ 0
difference_none M x h =
    let whole : x + (M - x) ≡ 0 + M = omega arith in
    let some : 0 < M = omega arith in
    ap (λ (n : ℕ). n % M) whole ∙ (add-mod_right 0 M ∙ mod-eq_of_lt some)

-- the deltas of stored items, whose bases are the first of them
pub encoded_here : (T lanes : ℕ) (base item stored : ℕ → ℕ) (r l : ℕ) → r < T → l < lanes → base l ≡ item (segment l) → item (segment l) < 2 ^ T → Transposed T lanes item stored
    → item_delta T base stored r l ≡ encoded_delta T item r l
unfolding item_delta encoded_delta item_before
encoded_here T lanes base item stored zero l p q first small moved =
    let start : segment l + 0 ≡ segment l = omega arith in
    rw (moved.moved 0 l p q, start, first) (difference_none (2 ^ T) (item (segment l)) small)
encoded_here T lanes base item stored (suc r) l p q first small moved =
    let row : r < T = omega arith in
    rw (moved.moved (suc r) l p q, moved.moved r l row q, add-one r) refl

pub some_rows : (T lanes : ℕ) → IsWordWidth T lanes → 0 < T
some_rows _ _ bits_8 = omega arith
some_rows _ _ bits_16 = omega arith
some_rows _ _ bits_32 = omega arith
some_rows _ _ bits_64 = omega arith

pub segment_inside : (T lanes l : ℕ) → IsWordWidth T lanes → l < lanes → segment l < 1024
segment_inside T lanes l shape h = let start = (segment_read T lanes 0 l shape (some_rows T lanes shape) h).2 in omega arith

pub lanes_is : (ptype : PType) (T lanes : ℕ) → IsWordWidth T lanes → T ≡ bits_of_type ptype → lanes ≡ lanes_of_type ptype
lanes_is ptype _ _ bits_8 e = rw (← e) refl
lanes_is ptype _ _ bits_16 e = rw (← e) refl
lanes_is ptype _ _ bits_32 e = rw (← e) refl
lanes_is ptype _ _ bits_64 e = rw (← e) refl

-- ---- words that are read, one by one
map-map : {A B C : Type 0} (f : A → B) (g : B → C) (xs : List A) → map g (map f xs) ≡ map (λ x. g (f x)) xs
map-map f g [] = refl
map-map f g (x ∷ xs) = ap (λ ys. g (f x) ∷ ys) (map-map f g xs)

pub values_table : {W A : Type 0} (pattern : W → ℕ) (read : ℕ → A) (words : List W) (f : ℕ → A) (n : ℕ) → length words ≡ n → ((i : ℕ) → i < n → read (pattern_at pattern words i) ≡ f i) → map (λ w. read (pattern w)) words ≡ tabulate f n
unfolding pattern_at
values_table pattern read words f n long each =
    sym (map-map pattern read words) ∙ fill_by_all f (map read (map pattern words)) n (f 0) (length-map (map pattern words) read ∙ (length-map words pattern ∙ long))
    (λ i h.
    let inside : i < length (map pattern words) = rw (length-map, long) h in
    get_or-map read (map pattern words) i 0 (f 0) inside ∙ each i h)

-- ---- a chunk's bases
pub bases_of_chunk : {W : Type 0} (pattern : W → ℕ) (ptype : PType) (T lanes k : ℕ) (item : ℕ → ℤ) (block : ℕ → ℕ) (stored : List W) → IsWordWidth T lanes → T ≡ bits_of_type ptype → lanes ≤ length stored
    → ((q : ℕ) → q < 1024 → block q ≡ pattern_of ptype (item (1024 * k + q))) → ((q : ℕ) → q < 1024 → IsTrue (fits ptype (item (1024 * k + q))))
    → ((l : ℕ) → l < lanes → pattern_at pattern stored l ≡ block (segment l))
    → (before : List ℤ) → before ≡ tabulate (base_of (lanes_of_type ptype) item) (lanes_of_type ptype * k)
    → before ++ map (λ w. read_as ptype (pattern w)) (take lanes stored) ≡ tabulate (base_of (lanes_of_type ptype) item) (lanes_of_type ptype * (k + 1))
bases_of_chunk pattern ptype T lanes k item block stored shape bits long here fit bases before is =
    let same : lanes_of_type ptype ≡ lanes = sym (lanes_is ptype T lanes shape bits) in
    let row = values_table pattern (read_as ptype) (take lanes stored) (λ l. base_of lanes item (lanes * k + l)) lanes (let taken = length-take lanes stored in omega arith)
    (λ l h.
    let inside = segment_inside T lanes l shape h in
    let block_no : (lanes * k + l) / lanes ≡ k = rw (mul_comm lanes k) (div-mul-add k lanes l h) in
    let lane_no : (lanes * k + l) % lanes ≡ l = rw (mul_comm lanes k) (mod-mul-add k lanes l h) in
    rw (block_no, lane_no) (ap (read_as ptype) (pattern_at_take pattern stored lanes l h ∙ (bases l h ∙ here (segment l) inside)) ∙ read_as-pattern_of ptype (item (1024 * k + segment l)) (fit (segment l) inside))) in
    let more : lanes * k + lanes ≡ lanes * (k + 1) = grind arith in
    let so_far : before ≡ tabulate (base_of lanes item) (lanes * k) = rw same at is in
    rw same (ap (λ xs. xs ++ map (λ w. read_as ptype (pattern w)) (take lanes stored)) so_far ∙ (ap (λ ys. tabulate (base_of lanes item) (lanes * k) ++ ys) row ∙ (table_append (base_of lanes item) (lanes * k) lanes ∙ ap (tabulate (base_of lanes item)) more)))

-- ---- a chunk's deltas
delta_at : (ptype : PType) (k r l : ℕ) (item : ℕ → ℤ) (block : ℕ → ℕ) (T lanes : ℕ) → IsWordWidth T lanes → T ≡ bits_of_type ptype → r < T → l < lanes
    → ((q : ℕ) → q < 1024 → block q ≡ pattern_of ptype (item (1024 * k + q)))
    → read_as ptype (encoded_delta T block r l) ≡ (if r == 0 then pos 0 else wrap ptype (item (1024 * k + segment l + r) -ℤ item (1024 * k + segment l + r - 1)))
unfolding encoded_delta
delta_at ptype k zero l item block T lanes shape bits p q here = read_as-zero ptype
delta_at ptype k (suc r) l item block T lanes shape bits p q here =
    let last = (segment_read T lanes (suc r) l shape p q).2 in
    let this : block (segment l + (r + 1)) ≡ pattern_of ptype (item (1024 * k + segment l + suc r)) = here (segment l + (r + 1)) (omega arith) ∙ ap (λ n. pattern_of ptype (item n)) (omega arith) in
    let before : block (segment l + r) ≡ pattern_of ptype (item (1024 * k + segment l + suc r - 1)) = here (segment l + r) (omega arith) ∙ ap (λ n. pattern_of ptype (item n)) (omega arith) in
    let later : (suc r == 0) ≡ false = ne_eqb (suc r) 0 (λ e. absurd (omega arith)) in
    rw (later, bits, this, before) (read_as-difference ptype (item (1024 * k + segment l + suc r)) (item (1024 * k + segment l + suc r - 1)))

pub deltas_of_chunk : {W : Type 0} (pattern : W → ℕ) (ptype : PType) (T lanes k : ℕ) (item : ℕ → ℤ) (block : ℕ → ℕ) (words : List W) → IsWordWidth T lanes → T ≡ bits_of_type ptype → length words ≡ 1024
    → ((q : ℕ) → q < 1024 → block q ≡ pattern_of ptype (item (1024 * k + q)))
    → ((r l : ℕ) → r < T → l < lanes → pattern_at pattern words (place r l) ≡ encoded_delta T block r l)
    → (before : List ℤ) → before ≡ tabulate (λ i. delta_of ptype item (i / 1024) (i % 1024)) (1024 * k)
    → before ++ map (λ w. read_as ptype (pattern w)) words ≡ tabulate (λ i. delta_of ptype item (i / 1024) (i % 1024)) (1024 * (k + 1))
unfolding delta_of
deltas_of_chunk pattern ptype T lanes k item block words shape bits long here deltas before is =
    let same : lanes_of_type ptype ≡ lanes = sym (lanes_is ptype T lanes shape bits) in
    let entry : ℕ → ℤ = λ i. delta_of ptype item (i / 1024) (i % 1024) in
    let chunk_words = values_table pattern (read_as ptype) words (λ q. entry (1024 * k + q)) 1024 long
    (λ q h.
    let placed = position_placed T lanes q shape h in
    let block_no : (1024 * k + q) / 1024 ≡ k = omega arith in
    let place_no : (1024 * k + q) % 1024 ≡ q = omega arith in
    let word : pattern_at pattern words q ≡ encoded_delta T block (row_of lanes q) (lane_of lanes q) = rw placed.0 at (deltas (row_of lanes q) (lane_of lanes q) placed.1 placed.2) in
    ap (read_as ptype) word ∙ (delta_at ptype k (row_of lanes q) (lane_of lanes q) item block T lanes shape bits placed.1 placed.2 here ∙ (rw (block_no, place_no, same) refl))) in
    let more : 1024 * k + 1024 ≡ 1024 * (k + 1) = omega arith in
    ap (λ xs. xs ++ map (λ w. read_as ptype (pattern w)) words) is ∙ (ap (λ ys. tabulate entry (1024 * k) ++ ys) chunk_words ∙ (table_append entry (1024 * k) 1024 ∙ ap (tabulate entry) more))

-- the bases and the deltas of all of a plain array's blocks
pub compressed : (p : PrimitiveParts) (ptype : PType) (k : ℕ) (bases deltas : List ℤ) (x y : PrimitiveParts) → p.ptype ≡ ptype → k ≡ chunks_of (length (items_of_primitive p)) → bases ≡ bases_to ptype (items_of_primitive p) k → deltas ≡ deltas_to ptype (items_of_primitive p) k
    → x ≡ non_nullable ptype bases → y ≡ non_nullable ptype deltas → compress_deltas p ≡ (x, y)
compressed p ptype k bases deltas x y same all bases_are deltas_are x_is y_is = rw (x_is, y_is, bases_are, deltas_are, all, same) refl

pub few_lanes : (T lanes : ℕ) → IsWordWidth T lanes → lanes ≤ 1024
few_lanes _ _ bits_8 = omega arith
few_lanes _ _ bits_16 = omega arith
few_lanes _ _ bits_32 = omega arith
few_lanes _ _ bits_64 = omega arith

-- the bases alone
pub bases_made : (p : PrimitiveParts) (ptype : PType) (k : ℕ) (bases : List ℤ) (x : PrimitiveParts) → p.ptype ≡ ptype → k ≡ chunks_of (length (items_of_primitive p)) → bases ≡ bases_to ptype (items_of_primitive p) k → x ≡ non_nullable ptype bases → (compress_deltas p).0 ≡ x
bases_made p ptype k bases x same all bases_are x_is = rw (x_is, bases_are, all, same) refl

-- what is made behind the deltas of the chunks before is a chunk of the deltas
pub deltas_in_chunk : (p : PrimitiveParts) (ptype : PType) (k : ℕ) (made : List ℤ) → p.ptype ≡ ptype → k < chunks_of (length (items_of_primitive p)) → length made ≡ 1024
    → ((before : List ℤ) → before ≡ deltas_to ptype (items_of_primitive p) k → before ++ made ≡ deltas_to ptype (items_of_primitive p) (k + 1)) → made ≡ chunk k (compress_deltas p).1.slots
deltas_in_chunk p ptype k made same within long step =
    let items = items_of_primitive p in
    let entry : ℕ → ℤ = λ i. delta_of ptype (fill_forward Carry items) (i / 1024) (i % 1024) in
    let whole : 1024 * (k + 1) - 1024 * k ≡ 1024 = omega arith in
    let joined : tabulate entry (1024 * k) ++ made ≡ tabulate entry (1024 * (k + 1)) = step (tabulate entry (1024 * k)) refl in
    let here : made ≡ tabulate (λ i. entry (1024 * k + i)) 1024 = fill_by_all (λ i. entry (1024 * k + i)) made 1024 (pos 0) long
    (λ q h.
    let place : 1024 * k + q - 1024 * k ≡ q = omega arith in
    ap (λ n. get_or made n (pos 0)) (sym place)
    ∙ (sym (get_or-append_right (tabulate entry (1024 * k)) made (1024 * k) (1024 * k + q) (pos 0) (length-table entry (1024 * k)) (omega arith))
    ∙ (ap (λ xs. get_or xs (1024 * k + q) (pos 0)) joined ∙ get_or-table entry (1024 * (k + 1)) (1024 * k + q) (pos 0) (omega arith)))) in
    rw same (here ∙ (ap (tabulate (λ i. entry (1024 * k + i))) (sym whole) ∙ sym (between-table entry (1024 * chunks_of (length items)) (1024 * k) (1024 * (k + 1)) (pos 0) (omega arith) (omega arith))))
