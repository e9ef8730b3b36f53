-- Parts of lists, and the exceptions of a block.
use Rattle.std.proofs.Common.{◌≡◌, ℕ, ℤ, zero, suc, ◌+◌, ◌-◌, ◌*◌, ◌<◌, ◌≤◌, List, [], ◌∷◌, ◌++◌, length, map, take, drop, get_or, Option, None, min, refl, ap, sym, ◌∙◌, arith, zero-add, inl, inr}
use Rattle.std.proofs.lemmas.List.{ext_get_or, get_or-drop, get_or-map, get_or-take, length-drop, length-map, length-take, take_all}
use Rattle.std.proofs.lemmas.Bool.{cases_lt}
use Rattle.std.proofs.lemmas.List.FromFn.{get_or-map-range_with_len, length-map-range_with_len}
use Rattle.fl_types.specs.declared.dtype.PType.{PType}
use Rattle.fl_types.specs.Bits.{between}
use Rattle.fl_patches.specs.Exceptions.{exception, exceptions_of}

pub length-exceptions : (t : PType) (width : ℕ → ℕ) (items : List (Option ℤ)) → length (exceptions_of t width items) ≡ length items
unfolding exceptions_of
length-exceptions t width items = length-map-range_with_len (λ i. exception t (width i) (get_or items i None)) 0 (length items)

pub get_or-exceptions : (t : PType) (width : ℕ → ℕ) (items : List (Option ℤ)) (i : ℕ) → i < length items → get_or (exceptions_of t width items) i None ≡ exception t (width i) (get_or items i None)
unfolding exceptions_of
get_or-exceptions t width items i h = get_or-map-range_with_len (λ j. exception t (width j) (get_or items j None)) 0 (length items) i i None h (zero-add i)

take_nothing : {A : Type 0} (n : ℕ) → take n (let none : List A = [] in none) ≡ []
take_nothing zero = refl
take_nothing (suc n) = refl

-- a list up to a later place
pub take_between : {A : Type 0} (xs : List A) (start end : ℕ) → start ≤ end → take end xs ≡ take start xs ++ between start end xs
take_between xs zero end h = let all : end - 0 ≡ end = omega arith in rw all refl
take_between xs (suc start) zero h = absurd (omega arith)
take_between [] (suc start) (suc end) h = sym (take_nothing (suc end - suc start))
take_between (x ∷ xs) (suc start) (suc end) h =
    let less : suc end - suc start ≡ end - start = omega arith in
    rw less (ap (λ ys. x ∷ ys) (take_between xs start end (omega arith)))

-- two parts, of which one begins where the other ends
pub between_append : {A : Type 0} (xs : List A) (a b c : ℕ) → a ≤ b → b ≤ c → between a c xs ≡ between a b xs ++ between b c xs
between_append xs zero b c ab bc =
    let up_to_c : c - 0 ≡ c = omega arith in
    let up_to_b : b - 0 ≡ b = omega arith in
    rw (up_to_c, up_to_b) (take_between xs b c bc)
between_append xs (suc a) zero c ab bc = absurd (omega arith)
between_append xs (suc a) (suc b) zero ab bc = absurd (omega arith)
between_append [] (suc a) (suc b) (suc c) ab bc = rw (take_nothing (suc c - suc a), take_nothing (suc b - suc a), take_nothing (suc c - suc b)) refl
between_append (x ∷ xs) (suc a) (suc b) (suc c) ab bc =
    let less1 : suc c - suc a ≡ c - a = omega arith in
    let less2 : suc b - suc a ≡ b - a = omega arith in
    let less3 : suc c - suc b ≡ c - b = omega arith in
    rw (less1, less2, less3) (between_append xs a b c (omega arith) (omega arith))

-- the exceptions of a part at one width
pub exceptions_between : (t : PType) (width : ℕ → ℕ) (w : ℕ) (items : List (Option ℤ)) (start end : ℕ) → ((i : ℕ) → start ≤ i → i < end → width i ≡ w)
    → between start end (exceptions_of t width items) ≡ map (exception t w) (between start end items)
exceptions_between t width w items start end same =
    let all = exceptions_of t width items in
    let long : length all ≡ length items = length-exceptions t width items in
    let left : length (between start end all) ≡ min (end - start) (length items - start) = length-take (end - start) (drop start all) ∙ ap (min (end - start)) (length-drop start all ∙ ap (λ n. n - start) long) in
    let part : length (between start end items) ≡ min (end - start) (length items - start) = length-take (end - start) (drop start items) ∙ ap (min (end - start)) (length-drop start items) in
    let right : length (map (exception t w) (between start end items)) ≡ min (end - start) (length items - start) = length-map (between start end items) (exception t w) ∙ part in
    ext_get_or None (between start end all) (map (exception t w) (between start end items)) (left ∙ sym right) (λ i h.
    let within : i < end - start = omega arith in
    let room : start + i < length items = omega arith in
    let here : get_or (between start end all) i None ≡ get_or all (start + i) None = get_or-take (end - start) (drop start all) i None within ∙ get_or-drop start all i None in
    let item : get_or (between start end items) i None ≡ get_or items (start + i) None = get_or-take (end - start) (drop start items) i None within ∙ get_or-drop start items i None in
    let there : get_or (map (exception t w) (between start end items)) i None ≡ exception t w (get_or (between start end items) i None) = get_or-map (exception t w) (between start end items) i None None (omega arith) in
    here ∙ (get_or-exceptions t width items (start + i) room ∙ (ap (λ n. exception t n (get_or items (start + i) None)) (same (start + i) (omega arith) (omega arith)) ∙ sym (there ∙ ap (exception t w) item))))

-- the end of a block that may be cut
pub take_to_block : {A : Type 0} (xs : List A) (block end : ℕ) → 1024 * block ≤ length xs → end ≡ 1024 * block + min (length xs - 1024 * block) 1024 → take end xs ≡ take (1024 * (block + 1)) xs
take_to_block xs block end begun ends = elim (cases_lt (1024 * (block + 1)) (length xs)) [
  | inl before ↦ (let same : end ≡ 1024 * (block + 1) = omega arith in ap (λ n. take n xs) same)
  | inr last ↦ (take_all end xs (omega arith) ∙ sym (take_all (1024 * (block + 1)) xs last))
]
