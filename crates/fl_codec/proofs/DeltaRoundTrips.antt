-- Deltas give their columns back.
use Rattle.std.proofs.Common.{◌≡◌, ℕ, ℤ, pos, zero, suc, ◌+◌, ◌-◌, ◌*◌, ◌/◌, ◌%◌, ◌<◌, ◌≤◌, ◌+ℤ◌, ◌-ℤ◌, Bool, true, false, cond, List, [], ◌∷◌, length, take, drop, get_or, Option, Some, None, unwrap_or, IsTrue, refl, ap, sym, ◌∙◌, arith}
use Rattle.std.specs.List.{list_all}
use Rattle.std.specs.Prelude.{if◌then◌else◌, ◌==◌}
use Rattle.std.proofs.lemmas.Bool.{ne_eqb}
use Rattle.std.proofs.lemmas.Int.{ints}
use Rattle.std.proofs.lemmas.Nat.{div-mul-add, mod-mul-add}
use Rattle.std.proofs.lemmas.List.FromFn.{fill_by_all}
use Rattle.std.proofs.Math.Nat.{mul-le-mul_left}
use Rattle.std.proofs.Common.{mul_comm}
use Rattle.fastlanes.specs.Layout.{place, segment, segment_lane, segment_row, IsWordWidth, bits_8, bits_16, bits_32, bits_64}
use Rattle.fastlanes.proofs.Bijection.{place_read, segment_placed}
use Rattle.fl_types.specs.declared.dtype.PType.{PType}
use Rattle.fl_types.specs.declared.dtype.PType.TheVariants.{U8, U16, U32, U64, I8, I16, I32, I64}
use Rattle.fl_types.specs.declared.dtype.DType.TheVariants.{Primitive}
use Rattle.fl_types.specs.declared.validity.Validity.{Validity}
use Rattle.fl_types.specs.Bits.{between}
use Rattle.fl_types.specs.Integers.{bits_of_type, fits, lanes_of_type, wrap}
use Rattle.fl_types.specs.Validities.{covers, is_valid_at, items_of, nullability_of}
use Rattle.fl_column.specs.Columns.{PrimitiveParts, column_of_primitive, option_all}
use Rattle.fl_column.proofs.ItemLaws.{get_or-items_of, length-items_of}
use Rattle.fl_column.proofs.ListLaws.{all_at, all_first, all_from, all_rest, and_first, and_second}
use Rattle.fl_codec.specs.Chunks.{chunk, chunks_of}
use Rattle.fl_codec.specs.Deltas.{base_of, block_integer, delta_bases, delta_column, delta_deltas, delta_integer, delta_of, lane_sum}
use Rattle.fl_codec.specs.ForwardFill.{Carry, FillMode, Reset, carried_to, either, fill_start, fill_forward, filled_from, last_some}
use Rattle.fl_codec.specs.Parts.{compress_deltas}
use Rattle.fl_codec.proofs.DeltaLaws.{some_rows}
use Rattle.fl_codec.proofs.ForwardFillLaws.{fill_forward-carry, fill_forward-reset, filled_next, get_or-chunk}
use Rattle.fl_codec.proofs.FoRRoundTrips.{fitting, wrap-wrap_left, wrap-wrap_right}
use Rattle.fl_codec.proofs.ReferenceLaws.{get_or-table}

-- ---- filled lists
-- a valid item is kept
valid_from : (before : ℤ) (items : List (Option ℤ)) (k q : ℕ) (z : ℤ) → q < 1024 → get_or items (1024 * k + q) None ≡ Some z → filled_from before (chunk k items) q ≡ z
valid_from before items k q z h e = filled_next before (chunk k items) q ∙ ap (λ x. unwrap_or x (unwrap_or (last_some (take q (chunk k items))) before)) (get_or-chunk items k q None h ∙ e)

pub fill_forward-valid : (mode : FillMode) (items : List (Option ℤ)) (k q : ℕ) (z : ℤ) → q < 1024 → get_or items (1024 * k + q) None ≡ Some z → fill_forward mode items (1024 * k + q) ≡ z
fill_forward-valid Carry items k q z h e = fill_forward-carry items k q h ∙ valid_from (carried_to items k) items k q z h e
fill_forward-valid Reset items k q z h e = fill_forward-reset items k q h ∙ valid_from (pos 0) items k q z h e

pub zero_fits : (ptype : PType) → fits ptype (pos 0) ≡ true
zero_fits U8 = refl
zero_fits U16 = refl
zero_fits U32 = refl
zero_fits U64 = refl
zero_fits I8 = refl
zero_fits I16 = refl
zero_fits I32 = refl
zero_fits I64 = refl

-- the items of slots of a type are of the type
one_fits : (p : ℤ → Bool) (here : Bool) (z : ℤ) → p z ≡ true → option_all p (cond here (Some z) None) ≡ true
one_fits p true z e = e
one_fits p false z e = refl

pub items_fit : (ptype : PType) (v : Validity) (slots : List ℤ) → IsTrue (covers v (length slots)) → list_all (fits ptype) slots ≡ true → list_all (option_all (fits ptype)) (items_of v slots) ≡ true
items_fit ptype v slots covered fit =
    all_from (option_all (fits ptype)) (items_of v slots) None
    (λ i h.
    let within : i < length slots = rw (length-items_of v slots covered) at h in
    ap (option_all (fits ptype)) (get_or-items_of v slots i (pos 0) covered within) ∙ one_fits (fits ptype) (is_valid_at v i) (get_or slots i (pos 0)) (all_at (fits ptype) slots i (pos 0) fit within))

-- the last item of some, or another one
either_passes : (p : ℤ → Bool) (x y : Option ℤ) → option_all p x ≡ true → option_all p y ≡ true → option_all p (either x y) ≡ true
either_passes p None y e f = f
either_passes p (Some x) y e f = e

last_passes : (p : ℤ → Bool) (xs : List (Option ℤ)) → list_all (option_all p) xs ≡ true → option_all p (last_some xs) ≡ true
last_passes p [] e = refl
last_passes p (x ∷ xs) e = either_passes p (last_some xs) x (last_passes p xs (and_second (option_all p x) (list_all (option_all p) xs) e)) (and_first (option_all p x) (list_all (option_all p) xs) e)

unwrapped_passes : (p : ℤ → Bool) (x : Option ℤ) (z : ℤ) → option_all p x ≡ true → p z ≡ true → p (unwrap_or x z) ≡ true
unwrapped_passes p None z e f = f
unwrapped_passes p (Some x) z e f = e

pub filled_fits : (ptype : PType) (mode : FillMode) (items : List (Option ℤ)) (i : ℕ) → list_all (option_all (fits ptype)) items ≡ true → fits ptype (fill_forward mode items i) ≡ true
filled_fits ptype mode items i fit =
    let start = fill_start mode i in
    unwrapped_passes (fits ptype) (last_some (between start (i + 1) items)) (pos 0)
    (last_passes (fits ptype) (between start (i + 1) items) (all_first (option_all (fits ptype)) (drop start items) (i + 1 - start) (all_rest (option_all (fits ptype)) items start fit)))
    (zero_fits ptype)

-- ---- a lane's base and deltas
pub width_of : (ptype : PType) → IsWordWidth (bits_of_type ptype) (lanes_of_type ptype)
width_of U8 = bits_8
width_of U16 = bits_16
width_of U32 = bits_32
width_of U64 = bits_64
width_of I8 = bits_8
width_of I16 = bits_16
width_of I32 = bits_32
width_of I64 = bits_64

-- the delta at a row behind the first
later_delta : (ptype : PType) (item : ℕ → ℤ) (j r l : ℕ) → suc r < bits_of_type ptype → l < lanes_of_type ptype → delta_of ptype item j (place (suc r) l) ≡ wrap ptype (item (1024 * j + segment l + (r + 1)) -ℤ item (1024 * j + segment l + r))
unfolding delta_of
later_delta ptype item j r l p q =
    let placed = place_read (bits_of_type ptype) (lanes_of_type ptype) (suc r) l (width_of ptype) p q in
    let later : (suc r == 0) ≡ false = ne_eqb (suc r) 0 (λ e. absurd (omega arith)) in
    let here : 1024 * j + segment l + suc r ≡ 1024 * j + segment l + (r + 1) = omega arith in
    let before : 1024 * j + segment l + suc r - 1 ≡ 1024 * j + segment l + r = omega arith in
    rw (placed.0, placed.1, later, before, here) refl

first_delta : (ptype : PType) (item : ℕ → ℤ) (j l : ℕ) → l < lanes_of_type ptype → delta_of ptype item j (place 0 l) ≡ pos 0
unfolding delta_of
first_delta ptype item j l q =
    let placed = place_read (bits_of_type ptype) (lanes_of_type ptype) 0 l (width_of ptype) (some_rows (bits_of_type ptype) (lanes_of_type ptype) (width_of ptype)) q in
    rw placed.0 refl

plus_none : (x : ℤ) → x +ℤ (pos 0 +ℤ pos 0) ≡ x
plus_none x = omega (arith, ints)

plus_assoc : (x y z : ℤ) → x +ℤ (y +ℤ z) ≡ x +ℤ y +ℤ z
plus_assoc x y z = omega (arith, ints)

plus_less : (x y : ℤ) → x +ℤ (y -ℤ x) ≡ y
plus_less x y = omega (arith, ints)

-- a sum with one more delta
one_more : (ptype : PType) (base sum here next : ℤ) → fits ptype next ≡ true → wrap ptype (base +ℤ sum) ≡ here → wrap ptype (base +ℤ (sum +ℤ wrap ptype (next -ℤ here))) ≡ next
one_more ptype base sum here next fit e =
    ap (wrap ptype) (plus_assoc base sum (wrap ptype (next -ℤ here)))
    ∙ (wrap-wrap_right ptype (base +ℤ sum) (next -ℤ here)
    ∙ (sym (wrap-wrap_left ptype (base +ℤ sum) (next -ℤ here))
    ∙ (ap (λ x. wrap ptype (x +ℤ (next -ℤ here))) e ∙ (ap (wrap ptype) (plus_less here next) ∙ fitting ptype next fit))))

-- the base and the deltas down to row r make the item there
lane_item : (ptype : PType) (item delta : ℕ → ℤ) (base : ℤ) (j r l : ℕ) → r < bits_of_type ptype → l < lanes_of_type ptype → ((p : ℕ) → fits ptype (item p) ≡ true) → base ≡ item (1024 * j + segment l)
    → ((q : ℕ) → q < 1024 → delta (1024 * j + q) ≡ delta_of ptype item j q) → wrap ptype (base +ℤ lane_sum delta j l (r + 1)) ≡ item (1024 * j + segment l + r)
unfolding lane_sum
lane_item ptype item delta base j zero l p q fit first deltas =
    let inside = (place_read (bits_of_type ptype) (lanes_of_type ptype) 0 l (width_of ptype) p q).2 in
    let start : 1024 * j + segment l + 0 ≡ 1024 * j + segment l = omega arith in
    rw (deltas (place 0 l) inside, first_delta ptype item j l q, start, first) (ap (wrap ptype) (plus_none (item (1024 * j + segment l))) ∙ fitting ptype (item (1024 * j + segment l)) (fit (1024 * j + segment l)))
lane_item ptype item delta base j (suc r) l p q fit first deltas =
    let inside = (place_read (bits_of_type ptype) (lanes_of_type ptype) (suc r) l (width_of ptype) p q).2 in
    let so_far = lane_item ptype item delta base j r l (omega arith) q fit first deltas in
    let start = 1024 * j + segment l in
    let more : suc r + 1 ≡ suc (r + 1) = omega arith in
    let row : r + 1 ≡ suc r = omega arith in
    let last : start + suc r ≡ start + (r + 1) = omega arith in
    let added : delta (1024 * j + place (r + 1) l) ≡ wrap ptype (item (start + (r + 1)) -ℤ item (start + r)) = ap (λ n. delta (1024 * j + place n l)) row ∙ (deltas (place (suc r) l) inside ∙ later_delta ptype item j r l p q) in
    rw (more, last, added) (one_more ptype base (lane_sum delta j l (r + 1)) (item (start + r)) (item (start + (r + 1))) (fit (start + (r + 1))) so_far)

-- ---- the column
few_entries : (n m k : ℕ) → k < m → n * k + n ≤ n * m
few_entries n m k h = let more : n * (k + 1) ≤ n * m = mul-le-mul_left n (omega arith) in let same : n * (k + 1) ≡ n * k + n = grind arith in omega arith

-- the integer at a position of the encoded blocks is the filled item there
pub integer_back : (ptype : PType) (items : List (Option ℤ)) (j q : ℕ) → list_all (option_all (fits ptype)) items ≡ true → j < chunks_of (length items) → q < 1024
    → delta_integer ptype (delta_bases ptype items) (delta_deltas ptype items) (1024 * j + q) ≡ fill_forward Carry items (1024 * j + q)
unfolding block_integer
integer_back ptype items j q fit within h =
    let item : ℕ → ℤ = fill_forward Carry items in
    let T = bits_of_type ptype in
    let lanes = lanes_of_type ptype in
    let chunks = chunks_of (length items) in
    let placed = segment_placed T lanes q (width_of ptype) h in
    let l = segment_lane T q in
    let r = segment_row T q in
    let block_no : (1024 * j + q) / 1024 ≡ j = omega arith in
    let place_no : (1024 * j + q) % 1024 ≡ q = omega arith in
    let lane : l < lanes = placed.2 in
    let deltas : (i : ℕ) → i < 1024 → get_or (delta_deltas ptype items) (1024 * j + i) (pos 0) ≡ delta_of ptype item j i = λ i p.
    let room = few_entries 1024 chunks j within in
    let block_of : (1024 * j + i) / 1024 ≡ j = omega arith in
    let place_of : (1024 * j + i) % 1024 ≡ i = omega arith in
    get_or-table (λ k. delta_of ptype item (k / 1024) (k % 1024)) (1024 * chunks) (1024 * j + i) (pos 0) (omega arith) ∙ (rw (block_of, place_of) refl) in
    let base : get_or (delta_bases ptype items) (j * lanes + l) (pos 0) ≡ item (1024 * j + segment l) =
    let room = few_entries lanes chunks j within in
    let same : j * lanes ≡ lanes * j = mul_comm j lanes in
    let inside : j * lanes + l < lanes * chunks = omega arith in
    get_or-table (base_of lanes item) (lanes * chunks) (j * lanes + l) (pos 0) inside ∙ (rw (div-mul-add j lanes l lane, mod-mul-add j lanes l lane) refl) in
    let there : 1024 * j + segment l + r ≡ 1024 * j + q = let e = placed.0 in omega arith in
    rw (block_no, place_no) (lane_item ptype item (λ k. get_or (delta_deltas ptype items) k (pos 0)) (get_or (delta_bases ptype items) (j * lanes + l) (pos 0)) j r l placed.1 lane (λ p. filled_fits ptype Carry items p fit) base deltas ∙ ap item there)

chosen : (here : Bool) (x y : ℤ) → (here ≡ true → x ≡ y) → cond here (Some x) None ≡ cond here (Some y) None
chosen true x y e = ap (λ z. Some z) (e refl)
chosen false x y e = refl

pub delta_back : (p : PrimitiveParts) → IsTrue (covers p.validity (length p.slots)) → list_all (fits p.ptype) p.slots ≡ true
    → delta_column p.ptype (compress_deltas p).0.slots (compress_deltas p).1.slots p.validity 0 (length p.slots) ≡ column_of_primitive p
delta_back p covered fit =
    let items = items_of p.validity p.slots in
    let each = length-items_of p.validity p.slots covered in
    let all = items_fit p.ptype p.validity p.slots covered fit in
    let bases = delta_bases p.ptype items in
    let deltas = delta_deltas p.ptype items in
    ap (λ xs. record { dtype = Primitive p.ptype (nullability_of p.validity); items = xs })
    (sym (fill_by_all (λ i. if is_valid_at p.validity i then Some (delta_integer p.ptype bases deltas (0 + i)) else None) items (length p.slots) None each
    (λ i h.
    let there : 1024 * (i / 1024) + i % 1024 ≡ i = omega arith in
    let here : 0 + i ≡ 1024 * (i / 1024) + i % 1024 = omega arith in
    let small : i % 1024 < 1024 = omega arith in
    let within : i / 1024 < chunks_of (length items) = rw each (omega arith) in
    let item = get_or-items_of p.validity p.slots i (pos 0) covered h in
    item ∙ chosen (is_valid_at p.validity i) (get_or p.slots i (pos 0)) (delta_integer p.ptype bases deltas (0 + i))
    (λ valid.
    let present : get_or items (1024 * (i / 1024) + i % 1024) None ≡ Some (get_or p.slots i (pos 0)) = ap (λ n. get_or items n None) there ∙ (item ∙ (rw valid refl)) in
    sym (fill_forward-valid Carry items (i / 1024) (i % 1024) (get_or p.slots i (pos 0)) small present) ∙ (sym (integer_back p.ptype items (i / 1024) (i % 1024) all within small) ∙ ap (delta_integer p.ptype bases deltas) (sym here))))))
