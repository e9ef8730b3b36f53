-- Patches of a slice: a part of the indices, and the values beside them.
use Rattle.std.proofs.Common.{◌≡◌, ◌≢◌, ℕ, ℤ, pos, zero, suc, ◌+◌, ◌-◌, ◌<◌, ◌≤◌, Bool, true, false, List, [], ◌∷◌, length, map, get_or, take, drop, Some, None, option_map, nat_lt, unsigned_abs, refl, ap, ◌∙◌, sym, inl, inr, arith}
use Rattle.std.proofs.lemmas.Bool.{and_from, cases_lt, le-leb, lt-ltb, or_parts, or_from}
use Rattle.std.proofs.lemmas.List.{get_or-take, get_or-drop, length-map, take-map, drop-map}
use Rattle.std.specs.Prelude.{is_none}
use Rattle.std.specs.List.{list_all, list_any}
use Rattle.fl_types.specs.Bits.{between}
use Rattle.fl_types.specs.Types.{is_index_type}
use Rattle.fl_types.specs.declared.dtype.DType.TheVariants.{Primitive}
use Rattle.fl_column.specs.Columns.{PrimitiveParts, column_of_primitive, slice_primitive}
use Rattle.fl_column.proofs.ItemLaws.{items_of-between, length-between, nullability_of-between}
use Rattle.fl_column.proofs.ListLaws.{all_from}
use Rattle.fl_column.proofs.QueryLaws.{next_holds}
use Rattle.fl_column.specs.Numbers.{numbers}
use Rattle.fl_patches.specs.PatchMaps.{PatchesParts, is_index_within, is_rising, patched, patches_before, rank_of}
use Rattle.fl_patches.proofs.Parts.{AreSound}
use Rattle.fl_patches.proofs.Rising.{cases_rank, count_ge, count_lt, count_within, rank_at, rank_found, rank_none, rising_at}

pub get_or-between : {A : Type 0} (xs : List A) (first last i : ℕ) (d : A) → i < last - first → get_or (between first last xs) i d ≡ get_or xs (first + i) d
get_or-between xs first last i d h = get_or-take (last - first) (drop first xs) i d h ∙ get_or-drop first xs i d

pub map-between : {A B : Type 0} (f : A → B) (xs : List A) (first last : ℕ) → map f (between first last xs) ≡ between first last (map f xs)
map-between f xs first last = simp (take-map, drop-map)

-- a part of what rises does
pub rising_part : (xs : List ℕ) (first last : ℕ) → is_rising xs ≡ true → first ≤ last → last ≤ length xs → is_rising (between first last xs) ≡ true
rising_part xs first last rise o r =
    let len = length-between xs first last o r in
    next_holds nat_lt (between first last xs) 0 (λ i h.
    let low = get_or-between xs first last i 0 (omega arith) in
    let high = get_or-between xs first last (i + 1) 0 (omega arith) in
    let up = rising_at xs (first + i) (first + (i + 1)) rise (omega arith) (omega arith) in
    lt-ltb _ _ (omega arith))

any_rest : {A : Type 0} (p : A → Bool) (xs : List A) (n : ℕ) → list_any p xs ≡ false → list_any p (drop n xs) ≡ false
any_rest p xs zero e = e
any_rest p [] (suc n) e = refl
any_rest p (x ∷ xs) (suc n) e = any_rest p xs n (or_parts (p x) (list_any p xs) e).1

any_first : {A : Type 0} (p : A → Bool) (xs : List A) (n : ℕ) → list_any p xs ≡ false → list_any p (take n xs) ≡ false
any_first p xs zero e = refl
any_first p [] (suc n) e = refl
any_first p (x ∷ xs) (suc n) e = let both = or_parts (p x) (list_any p xs) e in or_from (p x) _ both.0 (any_first p xs n both.1)

any_part : {A : Type 0} (p : A → Bool) (xs : List A) (first last : ℕ) → list_any p xs ≡ false → list_any p (between first last xs) ≡ false
any_part p xs first last e = any_first p (drop first xs) (last - first) (any_rest p xs first e)

-- ---- a part of the indices holds those between two numbers
-- the value beside an index that a part keeps
pub beside_part : (xs : List ℕ) (ys : List ℤ) (first last index : ℕ) → is_rising xs ≡ true → first ≤ last → last ≤ length xs
    → ((i : ℕ) → i < first → get_or xs i 0 < index) → ((i : ℕ) → last ≤ i → i < length xs → index < get_or xs i 0)
    → option_map (λ k. get_or (between first last ys) k (pos 0)) (rank_of index (between first last xs)) ≡ option_map (λ k. get_or ys k (pos 0)) (rank_of index xs)
beside_part xs ys first last index rise o r below above =
    let len = length-between xs first last o r in
    elim (cases_rank xs index) [
      | inl none ↦ (
          let gone : rank_of index (between first last xs) ≡ None = rank_none (between first last xs) index (λ i h same.
          let found = rank_found xs index (first + i) rise (omega arith) (sym (get_or-between xs first last i 0 (omega arith)) ∙ same) in
          let clash : Some (first + i) ≡ None = sym found ∙ none in cc) in
          rw (none, gone) refl)
      | inr (k, is) ↦ (
          let here = rank_at xs index k is in
          let from : first ≤ k = elim (cases_lt k first) [ inl early ↦ absurd (let low = below k early in omega arith) | inr late ↦ late ] in
          let to : k < last = elim (cases_lt k last) [ inl early ↦ early | inr late ↦ absurd (let high = above k late here.0 in omega arith) ] in
          let at : first + (k - first) ≡ k = omega arith in
          let found = rank_found (between first last xs) index (k - first) (rising_part xs first last rise o r) (omega arith) (get_or-between xs first last (k - first) 0 (omega arith) ∙ (rw at here.1)) in
          rw (is, found) (ap (λ y. Some y) (get_or-between ys first last (k - first) (pos 0) (omega arith) ∙ ap (λ n. get_or ys n (pos 0)) at)))
    ]

-- ---- slices of patches
-- patches first to below last, as those of the items from start to below end
abbrev pub cut : ℕ → ℕ → ℕ → ℕ → PatchesParts → PatchesParts
cut start end first last p = record { array_len = end - start; offset = p.offset + start; indices = slice_primitive first last p.indices; values = slice_primitive first last p.values; chunk_offsets = None }

pub before_in_order : (p : PatchesParts) (start end : ℕ) → AreSound p → start ≤ end → patches_before start p ≤ patches_before end p
before_in_order p start end s o = elim (cases_lt (patches_before end p) (patches_before start p)) [
  | inl wrong ↦ absurd (
      let xs = numbers p.indices in
      let within = count_within xs (p.offset + start) in
      let low = count_lt xs (p.offset + start) (patches_before end p) s.rising wrong in
      let high = count_ge xs (p.offset + end) (patches_before end p) s.rising (omega arith) (omega arith) in
      omega arith)
  | inr right ↦ right
]

pub before_within : (p : PatchesParts) (i : ℕ) → patches_before i p ≤ length p.indices.slots
before_within p i = let within = count_within (numbers p.indices) (p.offset + i) in omega (arith, length-map p.indices.slots unsigned_abs)

-- the first index of a slice that has one
pub first_at : (p : PatchesParts) (start end : ℕ) → AreSound p → start ≤ end → patches_before start p ≢ patches_before end p → p.offset + start ≤ get_or (numbers p.indices) (patches_before start p) 0
first_at p start end s o other =
    let order = before_in_order p start end s o in
    let within = before_within p end in
    count_ge (numbers p.indices) (p.offset + start) (patches_before start p) s.rising (omega arith) (omega (arith, length-map p.indices.slots unsigned_abs))

pub patched_cut : (p : PatchesParts) (start end i : ℕ) → AreSound p → start ≤ end → i < end - start → patched (cut start end (patches_before start p) (patches_before end p) p) i ≡ patched p (start + i)
patched_cut p start end i s o h =
    let xs = numbers p.indices in
    let first = patches_before start p in
    let last = patches_before end p in
    let order = before_in_order p start end s o in
    let index : p.offset + start + i ≡ p.offset + (start + i) = omega arith in
    rw (index, map-between unsigned_abs p.indices.slots first last) (beside_part xs p.values.slots first last (p.offset + (start + i)) s.rising order (count_within xs (p.offset + end))
    (λ j k. let low = count_lt xs (p.offset + start) j s.rising k in omega arith)
    (λ j k l. let high = count_ge xs (p.offset + end) j s.rising k l in omega arith))

within_cut : (p : PatchesParts) (start end : ℕ) → AreSound p → start ≤ end → list_all (is_index_within (p.offset + start) (end - start)) (between (patches_before start p) (patches_before end p) (numbers p.indices)) ≡ true
within_cut p start end s o =
    let xs = numbers p.indices in
    let first = patches_before start p in
    let last = patches_before end p in
    let order = before_in_order p start end s o in
    let room = count_within xs (p.offset + end) in
    let len = length-between xs first last order room in
    all_from (is_index_within (p.offset + start) (end - start)) (between first last xs) 0 (λ i h.
    let at = get_or-between xs first last i 0 (omega arith) in
    let low = count_ge xs (p.offset + start) (first + i) s.rising (omega arith) (omega arith) in
    let high = count_lt xs (p.offset + end) (first + i) s.rising (omega arith) in
    and_from _ _ (le-leb (p.offset + start) _ (omega arith)) (lt-ltb _ (p.offset + start + (end - start)) (omega arith)))

pub sound_cut : (p : PatchesParts) (start end : ℕ) → AreSound p → start ≤ end → patches_before start p ≢ patches_before end p → AreSound (cut start end (patches_before start p) (patches_before end p) p)
sound_cut p start end s o other =
    let first = patches_before start p in
    let last = patches_before end p in
    let order = before_in_order p start end s o in
    let room = before_within p end in
    let even = s.even in
    let each_index = length-between p.indices.slots first last order room in
    let each_value = length-between p.values.slots first last order (omega arith) in
    record {
      typed = ap (λ n. is_index_type (Primitive p.indices.ptype n)) (nullability_of-between p.indices.validity first last) ∙ s.typed;
      even = omega arith;
      some = omega arith;
      rising = ap is_rising (map-between unsigned_abs p.indices.slots first last) ∙ rising_part (numbers p.indices) first last s.rising order (count_within (numbers p.indices) (p.offset + end));
      within = ap (list_all (is_index_within (p.offset + start) (end - start))) (map-between unsigned_abs p.indices.slots first last) ∙ within_cut p start end s o;
      valued = ap (list_any is_none) (items_of-between p.values.validity p.values.slots first last) ∙ any_part is_none (column_of_primitive p.values).items first last s.valued;
    }

-- no position of a slice without a patch is patched
pub none_cut : (p : PatchesParts) (start end i : ℕ) → AreSound p → patches_before start p ≡ patches_before end p → i < end - start → patched p (start + i) ≡ None
none_cut p start end i s same h =
    let xs = numbers p.indices in
    ap (option_map (λ k. get_or p.values.slots k (pos 0))) (rank_none xs (p.offset + (start + i)) (λ k l e.
    elim (cases_lt k (patches_before start p)) [
      | inl early ↦ absurd (let low = count_lt xs (p.offset + start) k s.rising early in omega arith)
      | inr late ↦ absurd (let high = count_ge xs (p.offset + end) k s.rising (omega arith) l in omega arith)
    ]))

-- the parts of a slice are those of its patches
pub cut_is : (p : PatchesParts) (start end first last a b : ℕ) (indices values : PrimitiveParts) → first ≡ a → last ≡ b → indices ≡ slice_primitive first last p.indices → values ≡ slice_primitive first last p.values
    → (let q : PatchesParts = record { array_len = end - start; offset = p.offset + start; indices = indices; values = values; chunk_offsets = None } in q) ≡ cut start end a b p
cut_is p start end first last a b indices values f l is vs = cc
