-- Patches of consecutive items: those whose indices are between two numbers.
use Rattle.std.proofs.Common.{◌≡◌, ℕ, ℤ, ◌+◌, ◌-◌, ◌<◌, ◌≤◌, ◌≢◌, option_map, unwrap_or, List, [], length, map, get_or, unsigned_abs, refl, ap, sym, ◌∙◌, arith, true, Option, None, Some, inl, inr}
use Rattle.std.proofs.lemmas.Bool.{cases_lt}
use Rattle.std.proofs.lemmas.List.{length-map}
use Rattle.fl_types.specs.Bits.{between}
use Rattle.fl_column.proofs.ItemLaws.{length-between}
use Rattle.fl_column.specs.Numbers.{numbers, numbers_by}
use Rattle.fl_patches.specs.PatchMaps.{PatchesParts, count_below, is_rising, patched, patches_before, refusal_of}
use Rattle.fl_patches.proofs.Parts.{AreSound, none_before, sound}
use Rattle.fl_patches.proofs.Rising.{count_ge, count_lt, count_within, length-numbers_by}
use Rattle.fl_patches.proofs.SearchRanges.{numbers_by-between}
use Rattle.fl_patches.proofs.Slices.{before_in_order, before_within, none_cut, beside_part, get_or-between, map-between, rising_part}
use Rattle.fl_bitpacking.specs.Filtered.{count_before}
use Rattle.fl_bitpacking.specs.Placed.{ArePlaced, value_beside}

-- the patches of a part of the items are placed in it
pub part_placed : {I : Type 0} (f : I → ℤ) (indices : List I) (p : PatchesParts) (from n before after values offset : ℕ) → AreSound p → map f indices ≡ p.indices.slots → before ≡ patches_before from p → after ≡ patches_before (from + n) p
    → values ≡ after - before → offset ≡ p.offset + from → ArePlaced (numbers_by f (between before after indices)) values offset n
part_placed f indices p from n before after values offset s read first last even at =
    let xs = numbers p.indices in
    let order : before ≤ after = (let up = before_in_order p from (from + n) s (omega arith) in omega arith) in
    let room : after ≤ length xs = (let within = count_within xs (p.offset + (from + n)) in omega arith) in
    let len = length-between xs before after order room in
    let is : numbers_by f (between before after indices) ≡ between before after xs = numbers_by-between f indices before after ∙ ap (λ (l : List ℤ). between before after (map unsigned_abs l)) read in
    rw is (record {
      even = omega arith;
      rising = rising_part xs before after s.rising order room;
      within = λ k h.
          let here = get_or-between xs before after k 0 (omega arith) in
          let low = count_ge xs (p.offset + from) (before + k) s.rising (omega arith) (omega arith) in
          let high = count_lt xs (p.offset + (from + n)) (before + k) s.rising (omega arith) in
          (omega arith, omega arith);
    })

-- and give its items the values that all patches give
pub part_patched : {I X : Type 0} (f : I → ℤ) (value : X → ℤ) (indices : List I) (values : List X) (p : PatchesParts) (from n before after offset i : ℕ) → AreSound p → map f indices ≡ p.indices.slots → map value values ≡ p.values.slots
    → before ≡ patches_before from p → after ≡ patches_before (from + n) p → offset ≡ p.offset + from → i < n
    → value_beside (numbers_by f (between before after indices)) (map value (between before after values)) (offset + i) ≡ patched p (from + i)
part_patched f value indices values p from n before after offset i s read beside first last at h =
    let xs = numbers p.indices in
    let order : before ≤ after = (let up = before_in_order p from (from + n) s (omega arith) in omega arith) in
    let room : after ≤ length xs = (let within = count_within xs (p.offset + (from + n)) in omega arith) in
    let is : numbers_by f (between before after indices) ≡ between before after xs = numbers_by-between f indices before after ∙ ap (λ (l : List ℤ). between before after (map unsigned_abs l)) read in
    let put : map value (between before after values) ≡ between before after p.values.slots = map-between value values before after ∙ ap (between before after) beside in
    let index : offset + i ≡ p.offset + (from + i) = omega arith in
    rw (is, put, index) (beside_part xs p.values.slots before after (p.offset + (from + i)) s.rising order room
    (λ j k. let low = count_lt xs (p.offset + from) j s.rising (omega arith) in omega arith)
    (λ j k l. let high = count_ge xs (p.offset + (from + n)) j s.rising (omega arith) l in omega arith))

-- where counting stops
pub counted_to : {I : Type 0} (f : I → ℤ) (indices : List I) (k limit : ℕ) → is_rising (numbers_by f indices) ≡ true → k < length indices → limit ≤ get_or (numbers_by f indices) k 0 → k ≤ count_below limit (numbers_by f indices) → k ≡ count_below limit (numbers_by f indices)
counted_to f indices k limit rise inside above below =
    let xs = numbers_by f indices in
    let len = length-numbers_by f indices in
    elim (cases_lt k (count_below limit xs)) [
      | inl early ↦ absurd (let low = count_lt xs limit k rise early in omega arith)
      | inr late ↦ omega arith
    ]

pub counted_next : {I : Type 0} (f : I → ℤ) (indices : List I) (k limit : ℕ) → is_rising (numbers_by f indices) ≡ true → k < length indices → get_or (numbers_by f indices) k 0 < limit → k + 1 ≤ count_below limit (numbers_by f indices)
counted_next f indices k limit rise inside below =
    let xs = numbers_by f indices in
    let len = length-numbers_by f indices in
    elim (cases_lt k (count_below limit xs)) [
      | inl early ↦ omega arith
      | inr late ↦ absurd (let high = count_ge xs limit k rise late (omega arith) in omega arith)
    ]

pub counted_all : {I : Type 0} (f : I → ℤ) (indices : List I) (k limit : ℕ) → length indices ≤ k → k ≤ count_below limit (numbers_by f indices) → length indices ≡ count_below limit (numbers_by f indices)
counted_all f indices k limit past below =
    let len = length-numbers_by f indices in
    let most = count_within (numbers_by f indices) limit in
    omega arith

-- no value is placed where no patch is in a part
pub none_placed : {I X : Type 0} (f : I → ℤ) (value : X → ℤ) (p : PatchesParts) (from n before after i : ℕ) → refusal_of p ≡ None → before ≡ patches_before from p → after ≡ patches_before (from + n) p → before ≡ after → i < n
    → value_beside (numbers_by f []) (map value []) i ≡ patched p (from + i)
none_placed f value p from n before after i e first last same h = sym (none_cut p from (from + n) i (sound p e) (sym first ∙ same ∙ last) (omega arith))

-- where there is no patch in a part
pub none_in_part : {A : Type 0} (item : ℤ → A) (p : PatchesParts) (from n before after i : ℕ) (z : A) → refusal_of p ≡ None → before ≡ patches_before from p → after ≡ patches_before (from + n) p → before ≡ after → i < n → z ≡ unwrap_or (option_map item (patched p (from + i))) z
none_in_part item p from n before after i z e first last same h =
    let none : patched p (from + i) ≡ None = none_cut p from (from + n) i (sound p e) (sym first ∙ same ∙ last) (omega arith) in
    rw none refl

-- the index of a part's first item
pub first_index : {I : Type 0} (f : I → ℤ) (indices : List I) (p : PatchesParts) (from before index : ℕ) → refusal_of p ≡ None → map f indices ≡ p.indices.slots → before ≡ patches_before from p → before < length p.indices.slots
    → index ≡ get_or (numbers_by f indices) before 0 → p.offset + from ≤ index
first_index f indices p from before index e read first some is =
    let xs = numbers p.indices in
    let s = sound p e in
    let room : before < length xs = (let long = length-map p.indices.slots unsigned_abs in omega arith) in
    let low = count_ge xs (p.offset + from) before s.rising (omega arith) (omega arith) in
    let same : get_or (numbers_by f indices) before 0 ≡ get_or xs before 0 = ap (λ (l : List ℤ). get_or (map unsigned_abs l) before 0) read in
    omega arith

-- some patches are beside the indices
pub before_end : (p : PatchesParts) (from n before after : ℕ) → refusal_of p ≡ None → before ≡ patches_before from p → after ≡ patches_before (from + n) p → (before ≤ after) × (after ≤ length p.indices.slots)
before_end p from n before after e first last =
    let up = before_in_order p from (from + n) (sound p e) (omega arith) in
    let most = before_within p (from + n) in
    (omega arith, omega arith)

-- no patch is before the first item
pub none_first : (p : PatchesParts) → refusal_of p ≡ None → patches_before 0 p ≡ 0
none_first p e = let first : p.offset + 0 ≡ p.offset = omega arith in rw first (none_before p (sound p e))

-- the patches before a part are no more than those before its end
pub part_order : (o : Option PatchesParts) (p : PatchesParts) (from n before after : ℕ) → o ≡ Some p → refusal_of p ≡ None → before ≡ count_before from o → after ≡ count_before (from + n) o → before ≤ after
part_order o p from n before after is e first last =
    let up = before_in_order p from (from + n) (sound p e) (omega arith) in
    let low = rw is at first in
    let high = rw is at last in
    omega arith
