-- Filled lists, chunk by chunk.
use Rattle.std.proofs.Common.{◌≡◌, subst, map, true, ℕ, ℤ, pos, zero, suc, ◌+◌, ◌-◌, ◌*◌, ◌/◌, ◌<◌, ◌≤◌, List, [], ◌∷◌, ◌++◌, length, take, drop, get_or, Option, Some, None, Bool, false, cond, IsTrue, unwrap_or, refl, ap, sym, ◌∙◌, inl, inr, arith, length-take}
use Rattle.std.proofs.Math.Seq.{take-add}
use Rattle.std.proofs.lemmas.Bool.{cases_lt, cases_eq}
use Rattle.std.proofs.lemmas.List.{ext_get_or, get_or-drop, get_or-map, get_or-take, get_or-append_right, get_or_append_left, get_or_past, length-drop, length-map, take_all}
use Rattle.std.proofs.Common.{length-append}
use Rattle.std.proofs.lemmas.List.FromFn.{fill_by_all}
use Rattle.fl_types.specs.Bits.{tabulate}
use Rattle.fl_types.specs.Validities.{covers, items_of}
use Rattle.fl_types.specs.declared.validity.Validity.TheVariants.{Array}
use Rattle.fl_column.proofs.ItemLaws.{get_or-items_of, length-items_of}
use Rattle.fl_codec.specs.Chunks.{chunk}
use Rattle.fl_codec.specs.ForwardFill.{Carry, Reset, carried_to, either, fill_forward, filled_from, last_some}
use Rattle.fl_codec.proofs.ReferenceLaws.{get_or-table, last_more, length-table, unwrap_or-either}

-- ---- chunks
chunk_size : (k : ℕ) → 1024 * (k + 1) - 1024 * k ≡ 1024
chunk_size k = omega arith

pub get_or-chunk : {A : Type 0} (xs : List A) (k q : ℕ) (d : A) → q < 1024 → get_or (chunk k xs) q d ≡ get_or xs (1024 * k + q) d
get_or-chunk xs k q d h = rw (chunk_size k) (get_or-take 1024 (drop (1024 * k) xs) q d h ∙ get_or-drop (1024 * k) xs q d)

pub length-chunk : {A : Type 0} (xs : List A) (k : ℕ) → length (chunk k xs) ≤ 1024
length-chunk xs k = let size = chunk_size k in let long = length-take (1024 * (k + 1) - 1024 * k) (drop (1024 * k) xs) in omega arith

take-take_less : {A : Type 0} (n m : ℕ) (xs : List A) → n ≤ m → take n (take m xs) ≡ take n xs
take-take_less zero m xs h = refl
take-take_less (suc n) zero xs h = absurd (omega arith)
take-take_less (suc n) (suc m) [] h = refl
take-take_less (suc n) (suc m) (x ∷ xs) h = ap (λ ys. x ∷ ys) (take-take_less n m xs (omega arith))

take-chunk : {A : Type 0} (xs : List A) (k n : ℕ) → n ≤ 1024 → take n (chunk k xs) ≡ take n (drop (1024 * k) xs)
take-chunk xs k n h = rw (chunk_size k) (take-take_less n 1024 (drop (1024 * k) xs) h)

-- ---- one more item, also past the end
pub last_next : {A : Type 0} (xs : List (Option A)) (i : ℕ) → last_some (take (i + 1) xs) ≡ either (get_or xs i None) (last_some (take i xs))
last_next xs i =
    elim (cases_lt i (length xs)) [
      | inl within ↦ last_more xs i within
      | inr past ↦
          let none = get_or_past xs i None past in
          let all : take i xs ≡ xs = take_all i xs past in
          let more : take (i + 1) xs ≡ xs = take_all (i + 1) xs (omega arith) in
          rw (none, all, more) refl
    ]

pub filled_next : {A : Type 0} (before : A) (xs : List (Option A)) (i : ℕ) → filled_from before xs i ≡ unwrap_or (get_or xs i None) (unwrap_or (last_some (take i xs)) before)
filled_next before xs i = ap (λ x. unwrap_or x before) (last_next xs i) ∙ unwrap_or-either (get_or xs i None) (last_some (take i xs)) before

-- the whole of a chunk
pub last_of_chunk : {A : Type 0} (xs : List (Option A)) (k : ℕ) → last_some (take 1024 (chunk k xs)) ≡ last_some (chunk k xs)
last_of_chunk xs k = ap last_some (take_all 1024 (chunk k xs) (length-chunk xs k))

-- what a loop has carried after one more item
pub carried_next : {A : Type 0} (before last here : A) (x : Option A) (xs : List (Option A)) (i : ℕ) → here ≡ unwrap_or x last → x ≡ get_or xs i None → last ≡ unwrap_or (last_some (take i xs)) before → here ≡ filled_from before xs i
carried_next before last here x xs i is read carried = is ∙ (rw (read, carried) (sym (filled_next before xs i)))

-- what holds below i, and of i
pub below_next : (P : ℕ → Type 0) (i : ℕ) → ((j : ℕ) → j < i → P j) → P i → (j : ℕ) → j < i + 1 → P j
below_next P i below here j h = elim (cases_eq j i) [
  | inl same ↦ subst P (sym same) here
  | inr other ↦ below j (omega arith)
]

-- what holds from n on below i, and of i
pub between_next : (P : ℕ → Type 0) (n i : ℕ) → ((j : ℕ) → n ≤ j → j < i → P j) → P i → (j : ℕ) → n ≤ j → j < i + 1 → P j
between_next P n i below here j low h = elim (cases_eq j i) [
  | inl same ↦ subst P (sym same) here
  | inr other ↦ below j low (omega arith)
]

-- an item of a chunk, read by its bit
pub read_by_bit : (bits : List Bool) (zs : List ℤ) (k q at : ℕ) (bit : Bool) (z : ℤ) (y : Option ℤ) → IsTrue (covers (Array bits) (length zs)) → q < 1024 → 1024 * k + q < length zs → at ≡ 1024 * k + q
    → bit ≡ get_or bits at false → z ≡ get_or zs (1024 * k + q) (pos 0) → y ≡ cond bit (Some z) None → y ≡ get_or (chunk k (items_of (Array bits) zs)) q None
read_by_bit bits zs k q at bit z y cover h room same set read is =
    is ∙ (rw (set, read, same) (sym (get_or-chunk (items_of (Array bits) zs) k q None h ∙ get_or-items_of (Array bits) zs (1024 * k + q) (pos 0) cover room)))

-- a chunk whose bits are all set has no nulls
pub set_chunk : (bits : List Bool) (zs : List ℤ) (k : ℕ) → IsTrue (covers (Array bits) (length zs)) → 1024 * (k + 1) ≤ length zs → ((i : ℕ) → 1024 * k ≤ i → i < 1024 * (k + 1) → get_or bits i false ≡ true)
    → chunk k (map (λ z. Some z) zs) ≡ chunk k (items_of (Array bits) zs)
set_chunk bits zs k cover room set =
    let size = chunk_size k in
    let long : length (items_of (Array bits) zs) ≡ length zs = length-items_of (Array bits) zs cover in
    let left : length (chunk k (map (λ z. Some z) zs)) ≡ 1024 = rw size (omega (arith, length-take 1024 (drop (1024 * k) (map (λ z. Some z) zs)), length-drop (1024 * k) (map (λ z. Some z) zs), length-map zs (λ z. Some z))) in
    let right : length (chunk k (items_of (Array bits) zs)) ≡ 1024 = rw size (omega (arith, length-take 1024 (drop (1024 * k) (items_of (Array bits) zs)), length-drop (1024 * k) (items_of (Array bits) zs), long)) in
    ext_get_or None (chunk k (map (λ z. Some z) zs)) (chunk k (items_of (Array bits) zs)) (rw (left, right) refl) (λ q h.
    let place : q < 1024 = omega arith in
    let here : 1024 * k + q < length zs = omega arith in
    let one : get_or bits (1024 * k + q) false ≡ true = set (1024 * k + q) (omega arith) (omega arith) in
    get_or-chunk (map (λ z. Some z) zs) k q None place ∙ (get_or-map (λ z. Some z) zs (1024 * k + q) (pos 0) None here ∙ sym (get_or-chunk (items_of (Array bits) zs) k q None place ∙ (get_or-items_of (Array bits) zs (1024 * k + q) (pos 0) cover here ∙ rw one refl))))

-- ---- tables, one behind the other
pub table_append : {A : Type 0} (f : ℕ → A) (m n : ℕ) → tabulate f m ++ tabulate (λ i. f (m + i)) n ≡ tabulate f (m + n)
table_append f m n =
    let g = λ (i : ℕ). f (m + i) in
    let first = length-table f m in
    fill_by_all f (tabulate f m ++ tabulate g n) (m + n) (f 0) (rw (length-append, length-table f m, length-table g n) refl)
    (λ k h. elim (cases_lt k m) [
      | inl low ↦ get_or_append_left (tabulate f m) (tabulate g n) (f 0) k (omega arith) ∙ get_or-table f m k (f 0) low
      | inr high ↦
          let place : m + (k - m) ≡ k = omega arith in
          get_or-append_right (tabulate f m) (tabulate g n) m k (f 0) first high ∙ (get_or-table g n (k - m) (f 0) (omega arith) ∙ ap f place)
    ])

-- ---- the filled list, chunk by chunk
either-none : {A : Type 0} (x : Option A) → x ≡ either x None
either-none None = refl
either-none (Some x) = refl

either-assoc : {A : Type 0} (x y z : Option A) → either (either x y) z ≡ either x (either y z)
either-assoc None y z = refl
either-assoc (Some x) y z = refl

last_some-append : {A : Type 0} (xs ys : List (Option A)) → last_some (xs ++ ys) ≡ either (last_some ys) (last_some xs)
last_some-append [] ys = either-none (last_some ys)
last_some-append (x ∷ xs) ys = ap (λ y. either y x) (last_some-append xs ys) ∙ either-assoc (last_some ys) (last_some xs) x

pub fill_forward-carry : (items : List (Option ℤ)) (k q : ℕ) → q < 1024 → fill_forward Carry items (1024 * k + q) ≡ filled_from (carried_to items k) (chunk k items) q
fill_forward-carry items k q h =
    let all : 1024 * k + q + 1 - 0 ≡ 1024 * k + (q + 1) = omega arith in
    rw all (ap (λ xs. unwrap_or (last_some xs) (pos 0)) (take-add (1024 * k) (q + 1) items)
    ∙ (ap (λ x. unwrap_or x (pos 0)) (last_some-append (take (1024 * k) items) (take (q + 1) (drop (1024 * k) items)))
    ∙ (unwrap_or-either (last_some (take (q + 1) (drop (1024 * k) items))) (last_some (take (1024 * k) items)) (pos 0)
    ∙ ap (λ xs. unwrap_or (last_some xs) (carried_to items k)) (sym (take-chunk items k (q + 1) (omega arith))))))

pub fill_forward-reset : (items : List (Option ℤ)) (k q : ℕ) → q < 1024 → fill_forward Reset items (1024 * k + q) ≡ filled_from (pos 0) (chunk k items) q
fill_forward-reset items k q h =
    let first : 1024 * ((1024 * k + q) / 1024) ≡ 1024 * k = omega arith in
    let some : 1024 * k + q + 1 - 1024 * k ≡ q + 1 = omega arith in
    rw (first, some) (ap (λ xs. unwrap_or (last_some xs) (pos 0)) (sym (take-chunk items k (q + 1) (omega arith))))

pub carried_more : (items : List (Option ℤ)) (k : ℕ) → unwrap_or (last_some (chunk k items)) (carried_to items k) ≡ carried_to items (k + 1)
carried_more items k =
    let all : 1024 * (k + 1) ≡ 1024 * k + 1024 = omega arith in
    let size : 1024 * k + 1024 - 1024 * k ≡ 1024 = omega arith in
    rw all (sym (ap (λ xs. unwrap_or (last_some xs) (pos 0)) (take-add (1024 * k) 1024 items)
    ∙ (ap (λ x. unwrap_or x (pos 0)) (last_some-append (take (1024 * k) items) (take 1024 (drop (1024 * k) items)))
    ∙ (unwrap_or-either (last_some (take 1024 (drop (1024 * k) items))) (last_some (take (1024 * k) items)) (pos 0)
    ∙ ap (λ n. unwrap_or (last_some (take n (drop (1024 * k) items))) (carried_to items k)) (sym size)))))
