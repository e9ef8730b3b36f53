-- Lists that are named item by item.
use Rattle.std.proofs.Common.{length-take, length-drop, ◌≡◌, ℕ, ◌+◌, ◌-◌, ◌<◌, ◌≤◌, length, take, drop, get_or, List, map, ap, sym, ◌∙◌, arith}
use Rattle.std.proofs.lemmas.List.{get_or-take, get_or-drop, drop-take, drop-drop, take-take, take-map, drop-map}
use Rattle.std.proofs.lemmas.List.FromFn.{length-map-range_with_len, get_or-map-range_with_len, fill_by_all}
use Rattle.fl_types.specs.Bits.{between, tabulate}

pub length-table : {X : Type 0} (f : ℕ → X) (n : ℕ) → length (tabulate f n) ≡ n
length-table f n = length-map-range_with_len f 0 n

pub get_or-table : {X : Type 0} (f : ℕ → X) (n i : ℕ) (d : X) → i < n → get_or (tabulate f n) i d ≡ f i
get_or-table f n i d l = get_or-map-range_with_len f 0 n i i d l (omega arith)

-- a slice of a table is the table of the later items
pub between-table : {X : Type 0} (f : ℕ → X) (n start end : ℕ) (d : X) → start ≤ end → end ≤ n → between start end (tabulate f n) ≡ tabulate (λ i. f (start + i)) (end - start)
between-table f n start end d order range =
    fill_by_all (λ i. f (start + i)) (between start end (tabulate f n)) (end - start) d
    (length-take (end - start) (drop start (tabulate f n)) ∙ (let l : length (drop start (tabulate f n)) ≡ n - start = length-drop start (tabulate f n) ∙ ap (λ m. m - start) (length-table f n) in rw l (omega arith)))
    (λ k l. get_or-take (end - start) (drop start (tabulate f n)) k d l ∙ (get_or-drop start (tabulate f n) k d ∙ get_or-table f n (start + k) d (omega arith)))

-- a part of a part
pub between-between : {X : Type 0} (xs : List X) (first last s n : ℕ) → s + n ≤ last - first → between s (s + n) (between first last xs) ≡ between (first + s) (first + s + n) xs
between-between xs first last s n l =
    let rest : ℕ = last - first - s in
    let whole : last - first ≡ s + rest = omega arith in
    let wide : s + n - s ≡ n = omega arith in
    let wide' : first + s + n - (first + s) ≡ n = omega arith in
    let inner : drop s (take (last - first) (drop first xs)) ≡ take rest (drop (first + s) xs) = ap (λ m. drop s (take m (drop first xs))) whole ∙ (drop-take s rest (drop first xs) ∙ ap (take rest) (drop-drop s first xs)) in
    let short : n ≤ rest = omega arith in
    ap (λ m. take m (drop s (take (last - first) (drop first xs)))) wide ∙ (ap (take n) inner ∙ (take-take n rest (drop (first + s) xs) short ∙ ap (λ m. take m (drop (first + s) xs)) (sym wide')))

-- the items of a part
pub get_or-between : {A : Type 0} (xs : List A) (first last i : ℕ) (d : A) → i < last - first → get_or (between first last xs) i d ≡ get_or xs (first + i) d
get_or-between xs first last i d h = get_or-take (last - first) (drop first xs) i d h ∙ get_or-drop first xs i d

pub map-between : {A B : Type 0} (f : A → B) (xs : List A) (first last : ℕ) → map f (between first last xs) ≡ between first last (map f xs)
map-between f xs first last = simp (take-map, drop-map)
