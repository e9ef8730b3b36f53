-- Lists of items that may be missing: the places and the values of those that are there.
use Rattle.std.proofs.Common.{◌≡◌, ℕ, ℤ, pos, zero, suc, ◌+◌, ◌<◌, ◌≤◌, Bool, true, List, [], ◌∷◌, ◌++◌, length, map, get_or, nat_lt, Option, Some, None, option_map, option_and_then, unsigned_abs, refl, ap, ◌∙◌, sym, add-one, arith}
use Rattle.std.proofs.lemmas.Bool.{and_from, and_parts, eq-eqb, lt-ltb, ne_eqb}
use Rattle.std.proofs.lemmas.List.{length-map}
use Rattle.std.specs.List.{list_all}
use Rattle.fl_types.specs.declared.dtype.Nullability.{Nullability}
use Rattle.fl_types.specs.declared.dtype.PType.{PType}
use Rattle.fl_column.specs.Columns.{option_all}
use Rattle.fl_column.specs.Numbers.{numbers}
use Rattle.fl_patches.specs.PatchMaps.{AreFound, AreOrdered, PatchesParts, is_rising, patched, patches_at, patches_of_items, places_from, rank_of, ranks_at, values_in}
use Rattle.fl_patches.proofs.Rising.{rank_at, rank_none}

-- ---- one more item
pub places-append : {A : Type 0} (n : ℕ) (xs ys : List (Option A)) → places_from n (xs ++ ys) ≡ places_from n xs ++ places_from (n + length xs) ys
places-append n [] ys = let here : n + 0 ≡ n = omega arith in rw here refl
places-append n (None ∷ xs) ys = let next : n + suc (length xs) ≡ n + 1 + length xs = omega arith in rw next (places-append (n + 1) xs ys)
places-append n (Some x ∷ xs) ys = let next : n + suc (length xs) ≡ n + 1 + length xs = omega arith in rw next (ap (λ ps. n ∷ ps) (places-append (n + 1) xs ys))

pub values-append : {A : Type 0} (xs ys : List (Option A)) → values_in (xs ++ ys) ≡ values_in xs ++ values_in ys
values-append [] ys = refl
values-append (None ∷ xs) ys = values-append xs ys
values-append (Some x ∷ xs) ys = ap (λ vs. x ∷ vs) (values-append xs ys)

pub found_some : (places ranks : List ℕ) (items : List (Option ℕ)) (place rank : ℕ) → length items ≡ place → AreFound places ranks items → AreFound (places ++ place ∷ []) (ranks ++ rank ∷ []) (items ++ Some rank ∷ [])
found_some places ranks items place rank len found =
    let at : 0 + length items ≡ place = omega arith in
    record {
      placed = rw (found.placed, ← at) (sym (places-append 0 items (Some rank ∷ [])));
      ranked = rw found.ranked (sym (values-append items (Some rank ∷ [])));
    }

all_there : {A : Type 0} (xs : List A) → xs ++ [] ≡ xs
all_there [] = refl
all_there (x ∷ xs) = ap (λ ys. x ∷ ys) (all_there xs)

pub found_none : (places ranks : List ℕ) (items : List (Option ℕ)) → AreFound places ranks items → AreFound places ranks (items ++ None ∷ [])
found_none places ranks items found = record {
  placed = found.placed ∙ sym (places-append 0 items (None ∷ []) ∙ all_there (places_from 0 items));
  ranked = found.ranked ∙ sym (values-append items (None ∷ []) ∙ all_there (values_in items));
}

-- ---- places rise
pub places_from_on : {A : Type 0} (n : ℕ) (items : List (Option A)) (i : ℕ) → i < length (places_from n items) → n ≤ get_or (places_from n items) i 0
places_from_on n [] i h = absurd (omega arith)
places_from_on n (None ∷ items) i h = let later = places_from_on (n + 1) items i h in omega arith
places_from_on n (Some x ∷ items) zero h = omega arith
places_from_on n (Some x ∷ items) (suc i) h = let later = places_from_on (n + 1) items i (omega arith) in omega arith

rising_cons : (x : ℕ) (xs : List ℕ) → (0 < length xs → x < get_or xs 0 0) → is_rising xs ≡ true → is_rising (x ∷ xs) ≡ true
rising_cons x [] first rise = refl
rising_cons x (y ∷ xs) first rise = and_from _ _ (lt-ltb x y (first (omega arith))) rise

pub places_rise : {A : Type 0} (n : ℕ) (items : List (Option A)) → is_rising (places_from n items) ≡ true
places_rise n [] = refl
places_rise n (None ∷ items) = places_rise (n + 1) items
places_rise n (Some x ∷ items) = rising_cons n (places_from (n + 1) items) (λ some. let later = places_from_on (n + 1) items 0 some in omega arith) (places_rise (n + 1) items)

pub places_below : {A : Type 0} (n len : ℕ) (items : List (Option A)) → n + length items ≤ len → list_all (λ place. nat_lt place len) (places_from n items) ≡ true
places_below n len [] h = refl
places_below n len (None ∷ items) h = places_below (n + 1) len items (omega arith)
places_below n len (Some x ∷ items) h = and_from _ _ (lt-ltb n len (omega arith)) (places_below (n + 1) len items (omega arith))

pub places_even : {A : Type 0} (n : ℕ) (items : List (Option A)) → length (values_in items) ≡ length (places_from n items)
places_even n [] = refl
places_even n (None ∷ items) = places_even (n + 1) items
places_even n (Some x ∷ items) = ap suc (places_even (n + 1) items)

all_values : {A : Type 0} (p : A → Bool) (items : List (Option A)) → list_all (option_all p) items ≡ true → list_all p (values_in items) ≡ true
all_values p [] h = refl
all_values p (None ∷ items) h = all_values p items h
all_values p (Some x ∷ items) h = let parts = and_parts (p x) _ h in and_from _ _ parts.0 (all_values p items parts.1)

-- what was found is in order
pub found_ordered : (places ranks : List ℕ) (items : List (Option ℕ)) (len count : ℕ) → AreFound places ranks items → len ≡ length items → list_all (option_all (λ rank. nat_lt rank count)) items ≡ true → AreOrdered places ranks len count
found_ordered places ranks items len count found all below = record {
  rising = ap is_rising found.placed ∙ places_rise 0 items;
  below = ap (list_all (λ place. nat_lt place len)) found.placed ∙ places_below 0 len items (omega arith);
  even = ap length found.ranked ∙ (places_even 0 items ∙ sym (ap length found.placed));
  ranked = ap (list_all (λ rank. nat_lt rank count)) found.ranked ∙ all_values (λ rank. nat_lt rank count) items below;
}

-- ---- ranks and the values beside them
pub places-map : {A B : Type 0} (f : A → B) (n : ℕ) (items : List (Option A)) → places_from n (map (option_map f) items) ≡ places_from n items
places-map f n [] = refl
places-map f n (None ∷ items) = places-map f (n + 1) items
places-map f n (Some x ∷ items) = ap (λ ps. n ∷ ps) (places-map f (n + 1) items)

pub values-map : {A B : Type 0} (f : A → B) (items : List (Option A)) → values_in (map (option_map f) items) ≡ map f (values_in items)
values-map f [] = refl
values-map f (None ∷ items) = values-map f items
values-map f (Some x ∷ items) = ap (λ vs. f x ∷ vs) (values-map f items)

-- patches that were found are those that give the items their values
pub found_patches : (ptype : PType) (nullability : Nullability) (value : ℕ → ℤ) (places ranks : List ℕ) (items : List (Option ℕ)) (len : ℕ) → AreFound places ranks items → len ≡ length items
    → patches_at len ptype nullability places (map value ranks) ≡ patches_of_items ptype nullability (map (option_map value) items)
found_patches ptype nullability value places ranks items len found all =
    rw (found.placed, found.ranked, all, length-map items (option_map value), places-map value 0 items, values-map value items) refl

all_ranked : (indices : List ℕ) (index : ℕ) (r : Option ℕ) → rank_of index indices ≡ r → option_all (λ rank. nat_lt rank (length indices)) r ≡ true
all_ranked indices index None e = refl
all_ranked indices index (Some k) e = lt-ltb k (length indices) (rank_at indices index k e).0

rank_below : (offset : ℕ) (indices : List ℕ) (position : Option ℕ) → option_all (λ rank. nat_lt rank (length indices)) (option_and_then (λ i. rank_of (offset + i) indices) position) ≡ true
rank_below offset indices None = refl
rank_below offset indices (Some i) = all_ranked indices (offset + i) (rank_of (offset + i) indices) refl

-- every rank is that of an index
pub ranks_below : (offset : ℕ) (indices : List ℕ) (positions : List (Option ℕ)) → list_all (option_all (λ rank. nat_lt rank (length indices))) (ranks_at offset indices positions) ≡ true
ranks_below offset indices [] = refl
ranks_below offset indices (position ∷ positions) = and_from _ _ (rank_below offset indices position) (ranks_below offset indices positions)

-- the value of a position is the one beside its rank
pub ranked_values : (p : PatchesParts) (positions : List (Option ℕ)) → map (option_map (λ rank. get_or p.values.slots rank (pos 0))) (ranks_at p.offset (numbers p.indices) positions) ≡ map (option_and_then (patched p)) positions
ranked_values p [] = refl
ranked_values p (None ∷ positions) = ap (λ items. None ∷ items) (ranked_values p positions)
ranked_values p (Some i ∷ positions) = ap (λ items. patched p i ∷ items) (ranked_values p positions)

-- ---- a position of a list is found among its places
next_value : (x : ℤ) (values : List ℤ) (rank : Option ℕ) → option_map (λ k. get_or (x ∷ values) k (pos 0)) (option_map (λ k. k + 1) rank) ≡ option_map (λ k. get_or values k (pos 0)) rank
next_value x values None = refl
next_value x values (Some k) = rw (add-one k) refl

pub found_at : (n j : ℕ) (items : List (Option ℤ)) → option_map (λ k. get_or (values_in items) k (pos 0)) (rank_of (n + j) (places_from n items)) ≡ get_or items j None
found_at n j [] = refl
found_at n zero (None ∷ items) = ap (option_map (λ k. get_or (values_in items) k (pos 0))) (rank_none (places_from (n + 1) items) (n + 0) (λ i h e. let later = places_from_on (n + 1) items i h in absurd (omega arith)))
found_at n (suc j) (None ∷ items) = let next : n + suc j ≡ n + 1 + j = omega arith in rw next (found_at (n + 1) j items)
found_at n zero (Some x ∷ items) = rw (eq-eqb n (n + 0) (omega arith)) refl
found_at n (suc j) (Some x ∷ items) =
    let next : n + suc j ≡ n + 1 + j = omega arith in
    let later : option_map (λ k. get_or (values_in items) k (pos 0)) (rank_of (n + suc j) (places_from (n + 1) items)) ≡ get_or items j None = rw next (found_at (n + 1) j items) in
    rw (ne_eqb n (n + suc j) (λ e. absurd (omega arith))) (next_value x (values_in items) (rank_of (n + suc j) (places_from (n + 1) items)) ∙ later)

pub numbers_of_places : (places : List ℕ) → map unsigned_abs (map pos places) ≡ places
numbers_of_places [] = refl
numbers_of_places (place ∷ places) = ap (λ ps. place ∷ ps) (numbers_of_places places)
