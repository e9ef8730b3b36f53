-- Items of ranges, as they are read.
use Rattle.std.proofs.Common.{◌≡◌, ◌==◌, ℕ, ℤ, pos, zero, suc, ◌+◌, ◌-◌, ◌*◌, ◌^◌, ◌<◌, ◌≤◌, ◌∙◌, Bool, true, false, List, [], ◌∷◌, ◌++◌, length, map, get_or, take, drop, min, Option, Some, None, Result, Ok, IsTrue, is_some, is_none, not, nat_lt, sum_by, refl, ap, sym, subst, arith, inl, inr, length-append}
use Rattle.std.specs.Prelude.{flat_map, if◌then◌else◌}
use Rattle.std.specs.List.{list_all}
use Rattle.std.proofs.lemmas.Bool.{cases_lt}
use Rattle.std.proofs.lemmas.Bool.Decides.{Decides-eqb, Decides-ltb, nat_tests}
use Rattle.std.proofs.lemmas.List.{append_assoc, flat_map_more, get_or-append-add, get_or-map, get_or_append_left, length-map, drop-map, map-append, take-map, take_more}
use Rattle.std.proofs.lemmas.List.Sums.{sum_by_more, sum_by_more_le}
use Rattle.fl_types.specs.Bits.{between, bit_of_word, tabulate}
use Rattle.fl_types.proofs.BitLists.{same_tables, table_between}
use Rattle.fl_types.specs.Types.{has_ptype, nullability_in}
use Rattle.fl_types.specs.Validities.{covers, is_valid_at, items_of, nullability_of}
use Rattle.fl_types.specs.declared.dtype.PType.{PType}
use Rattle.fl_types.specs.declared.validity.Validity.{Validity}
use Rattle.fl_types.specs.declared.validity.Validity.TheVariants as valid
use Rattle.fl_column.specs.Columns.{Column, PrimitiveParts, column_of_primitive}
use Rattle.fl_column.specs.Operations.{range_fits, ranges_of, total_of}
use Rattle.fl_column.proofs.ItemLaws.{length-between}
use Rattle.fl_column.proofs.ListLaws.{all_at, all_from, all_ranges}
use Rattle.fl_codec.proofs.WithNulls.{between_join}
use Rattle.fl_bitpacking.specs.Blocks.{value_at}
use Rattle.fl_array.specs.Readers.{AreItemsFrom}
use Rattle.fl_array.specs.Reads.{IsValidityOf}
use Rattle.fl_ops.specs.BlockReads.{AreFirst, validity_of_ranges}
use Rattle.fl_ops.proofs.BlockLaws.{get_or-between}
use Rattle.fl_ops.proofs.ReadLists.{dtype_is, first_all, plain_column}

-- ---- parts
-- a range with items that fits ends among them
pub fits_within : (len start count : ℕ) → range_fits len (start, count) ≡ true → 0 < count → start + count ≤ len
fits_within len start count fits some = grind (arith, nat_tests)

-- a range that fits has as many items as it says
pub range_len : {A : Type 0} (xs : List A) (range : ℕ × ℕ) → range_fits (length xs) range ≡ true → length (between range.0 (range.0 + range.1) xs) ≡ range.1
range_len xs (start, zero) h = let none : start + 0 - start ≡ 0 = omega arith in rw none refl
range_len xs (start, suc count) h =
    let fits : start + suc count ≤ length xs = let range : range_fits (length xs) (start, suc count) ≡ true = h in grind (arith, nat_tests) in
    length-between xs start (start + suc count) (omega arith) fits ∙ omega arith

-- the items of one range more
pub items_more : {A : Type 0} (xs : List A) (ranges : List (ℕ × ℕ)) (i : ℕ) (range : ℕ × ℕ) → range ≡ get_or ranges i (0, 0) → i < length ranges
    → flat_map (λ r. between r.0 (r.0 + r.1) xs) (take i ranges) ++ between range.0 (range.0 + range.1) xs ≡ flat_map (λ r. between r.0 (r.0 + r.1) xs) (take (i + 1) ranges)
items_more xs ranges i range is within = rw (take_more ranges i (0, 0) within, ← is) (flat_map_more (λ r. between r.0 (r.0 + r.1) xs) [] (take i ranges) range)

-- the integers of one range more
pub range_read : {X : Type 0} (value : X → ℤ) (c : Column) (ranges : List (ℕ × ℕ)) (i : ℕ) (range : ℕ × ℕ) (old new : List X) → range ≡ get_or ranges i (0, 0) → i < length ranges → range_fits (length c.items) range ≡ true → length new ≡ length old + range.1
    → ((k : ℕ) → k < length old → value_at value new k ≡ value_at value old k) → AreItemsFrom range.0 range.1 (λ k. value_at value new (length old + k)) c
    → AreFirst (map value old) (length (ranges_of (take i ranges) c).items) (ranges_of (take i ranges) c) → AreFirst (map value new) (length (ranges_of (take (i + 1) ranges) c).items) (ranges_of (take (i + 1) ranges) c)
unfolding value_at
range_read value c ranges i range old new is within fits long before part first =
    let items = flat_map (λ r. between r.0 (r.0 + r.1) c.items) (take i ranges) in
    let more = between range.0 (range.0 + range.1) c.items in
    let next = items_more c.items ranges i range is within in
    let size = range_len c.items range fits in
    let sum = length-append items more in
    let total : length (items ++ more) ≡ length (flat_map (λ r. between r.0 (r.0 + r.1) c.items) (take (i + 1) ranges)) = ap length next in
    let old_size : length old ≡ length items = sym (length-map old value) ∙ first.long in
    record {
      long = length-map new value ∙ (long ∙ (let added : length old + range.1 ≡ length items + length more = omega (arith, old_size, size) in added) ∙ (sym sum ∙ total));
      items = λ k z h e.
          let first_place : 0 + k ≡ k = omega arith in
          let item : get_or (items ++ more) k None ≡ Some z = ap (λ l. get_or l k None) next ∙ (ap (λ n. get_or (flat_map (λ r. between r.0 (r.0 + r.1) c.items) (take (i + 1) ranges)) n None) (sym first_place) ∙ e) in
          elim (cases_lt k (length items)) [
            | inl low ↦ before k (omega arith) ∙ first.items k z low (ap (λ n. get_or items n None) first_place ∙ (sym (get_or_append_left items more None k low) ∙ item))
            | inr high ↦
                let place : length items + (k - length items) ≡ k = omega arith in
                let own : length old + (k - length items) ≡ k = omega (arith, old_size) in
                let inside : k - length items < range.1 = omega (arith, sum, size, total) in
                let there : get_or more (k - length items) None ≡ Some z = sym (get_or-append-add items more (k - length items) None) ∙ (ap (λ n. get_or (items ++ more) n None) place ∙ item) in
                ap (λ n. get_or (map value new) n (pos 0)) (sym own) ∙ part (k - length items) z inside (sym (get_or-between c.items range.0 (range.0 + range.1) (k - length items) None (omega arith)) ∙ there)
          ];
    }

-- no range yet
pub no_range_yet : {X : Type 0} (value : X → ℤ) (slots : List X) (c : Column) → slots ≡ [] → AreFirst (map value slots) 0 (ranges_of [] c)
no_range_yet value slots c empty = record { long = ap (λ l. length (map value l)) empty; items = λ i z h e. absurd (omega arith) }

total_small : (n total : ℕ) → (if nat_lt n (2 ^ 64) then Some n else None) ≡ Some total → n < 2 ^ 64
total_small n total h = each (nat_lt n (2 ^ 64)) refl h
  where
    each : (b : Bool) → nat_lt n (2 ^ 64) ≡ b → (if b then Some n else None) ≡ Some total → n < 2 ^ 64
    each true e h = (Decides-ltb n (2 ^ 64)).0 e
    each false e h = cc

-- the slots so far and the next range's are at most all
pub range_room : (ranges : List (ℕ × ℕ)) (i total n count : ℕ) → i < length ranges → total_of ranges ≡ Some total → n ≡ sum_by (λ range. range.1) (take i ranges) → count ≡ (get_or ranges i (0, 0)).1 → n + count < 2 ^ 64
range_room ranges i total n count within few so_far is =
    let least = sum_by_more_le (λ range. range.1) ranges i (0, 0) within in
    let small = total_small (sum_by (λ range. range.1) ranges) total few in
    rw (so_far, is) (omega (arith, least, small))

-- ---- bits
-- the bits of a word are the next ones of a range
pub bits_more : (valid before old new : List Bool) (start at n word : ℕ) → start + at + n ≤ length valid → ((j : ℕ) → j < n → bit_of_word word j ≡ get_or valid (start + at + j) false) → new ≡ old ++ tabulate (bit_of_word word) n → old ≡ before ++ between start (start + at) valid
    → new ≡ before ++ between start (start + (at + n)) valid
bits_more valid before old new start at n word room bits added so_far =
    let size : start + at + n - (start + at) ≡ n = omega arith in
    let next : tabulate (bit_of_word word) n ≡ between (start + at) (start + at + n) valid = same_tables (bit_of_word word) (λ j. get_or valid (start + at + j) false) n bits ∙ (ap (tabulate (λ j. get_or valid (start + at + j) false)) (sym size) ∙ table_between valid (start + at) (start + at + n) false (omega arith) room) in
    let end : start + at + n ≡ start + (at + n) = omega arith in
    added ∙ (ap (λ l. l ++ tabulate (bit_of_word word) n) so_far ∙ (append_assoc before (between start (start + at) valid) (tabulate (bit_of_word word) n) ∙ ap (λ l. before ++ l) (ap (λ l. between start (start + at) valid ++ l) next ∙ (between_join valid start (start + at) (start + at + n) (omega arith) (omega arith) ∙ ap (λ m. between start m valid) end))))

-- ---- validities
-- a test of the items, as bits
bits_of_items : (bits : List Bool) (items : List (Option ℤ)) → length bits ≡ length items → ((i : ℕ) → i < length items → get_or bits i false ≡ is_some (get_or items i None)) → bits ≡ map is_some items
bits_of_items [] [] e h = refl
bits_of_items [] (x ∷ items) e h = absurd (omega arith)
bits_of_items (b ∷ bits) [] e h = absurd (omega arith)
bits_of_items (b ∷ bits) (x ∷ items) e h =
    let first : b ≡ is_some x = h 0 (omega arith) in
    let rest : bits ≡ map is_some items = bits_of_items bits items (omega arith) (λ i k. h (suc i) (omega arith)) in
    (λ i. first i ∷ rest i)

part_map : {A B : Type 0} (f : A → B) (xs : List A) (start end : ℕ) → between start end (map f xs) ≡ map f (between start end xs)
part_map f xs start end = rw (drop-map, take-map) refl

ranges_map : {A B : Type 0} (f : A → B) (xs : List A) (ranges : List (ℕ × ℕ)) → flat_map (λ r. between r.0 (r.0 + r.1) (map f xs)) ranges ≡ map f (flat_map (λ r. between r.0 (r.0 + r.1) xs) ranges)
ranges_map f xs [] = refl
ranges_map f xs (range ∷ ranges) =
    (λ i. part_map f xs range.0 (range.0 + range.1) i ++ ranges_map f xs ranges i)
    ∙ sym (map-append f (between range.0 (range.0 + range.1) xs) (flat_map (λ r. between r.0 (r.0 + r.1) xs) ranges))

is_there : (o : Option ℤ) → true ≡ is_some o → is_some o ≡ true
is_there o h = sym h

is_null : (o : Option ℤ) → false ≡ is_some o → is_none o ≡ true
is_null None h = refl
is_null (Some z) h = cc

not_there : (o : Option ℤ) → is_none o ≡ true → false ≡ is_some o
not_there None h = refl
not_there (Some z) h = cc

-- the validity of ranges of a column
pub ranges_valid : (ranges : List (ℕ × ℕ)) (v : Validity) (c : Column) → IsValidityOf v c → IsValidityOf (validity_of_ranges ranges v) (ranges_of ranges c)
ranges_valid ranges valid.NonNullable c of = record {
  covered = refl;
  nullable = of.nullable;
  valid = λ i h. sym (all_at is_some (ranges_of ranges c).items i None (all_ranges is_some c.items ranges (all_from is_some c.items None (λ k low. is_there (get_or c.items k None) (of.valid k low)))) h);
}
ranges_valid ranges valid.AllValid c of = record {
  covered = refl;
  nullable = of.nullable;
  valid = λ i h. sym (all_at is_some (ranges_of ranges c).items i None (all_ranges is_some c.items ranges (all_from is_some c.items None (λ k low. is_there (get_or c.items k None) (of.valid k low)))) h);
}
ranges_valid ranges valid.AllInvalid c of = record {
  covered = refl;
  nullable = of.nullable;
  valid = λ i h. not_there (get_or (ranges_of ranges c).items i None) (all_at is_none (ranges_of ranges c).items i None (all_ranges is_none c.items ranges (all_from is_none c.items None (λ k low. is_null (get_or c.items k None) (of.valid k low)))) h);
}
ranges_valid ranges (valid.Array bits) c of =
    let count : length bits ≡ length c.items = (Decides-eqb (length bits) (length c.items)).0 of.covered in
    let same : bits ≡ map is_some c.items = bits_of_items bits c.items count of.valid in
    let named : flat_map (λ r. between r.0 (r.0 + r.1) bits) ranges ≡ map is_some (ranges_of ranges c).items = ap (λ (l : List Bool). flat_map (λ r. between r.0 (r.0 + r.1) l) ranges) same ∙ ranges_map is_some c.items ranges in
    let size = length-map (ranges_of ranges c).items is_some in record {
      covered = (Decides-eqb (length (flat_map (λ r. between r.0 (r.0 + r.1) bits) ranges)) (length (ranges_of ranges c).items)).1 (ap length named ∙ size);
      nullable = of.nullable;
      valid = λ i h. ap (λ l. get_or l i false) named ∙ get_or-map is_some (ranges_of ranges c).items i None false h;
    }

-- ---- columns
-- the validity covers the items of ranges
pub ranges_covered : {X : Type 0} (value : X → ℤ) (ranges : List (ℕ × ℕ)) (v w : Validity) (xs : List X) (c : Column) → IsValidityOf v c → w ≡ validity_of_ranges ranges v → AreFirst (map value xs) (length (ranges_of ranges c).items) (ranges_of ranges c) → IsTrue (covers w (length xs))
ranges_covered value ranges v w xs c of is first =
    let long : length xs ≡ length (ranges_of ranges c).items = sym (length-map xs value) ∙ first.long in
    rw (is, long) (ranges_valid ranges v c of).covered

-- the column of the items of ranges
pub ranges_are : {X : Type 0} (value : X → ℤ) (ranges : List (ℕ × ℕ)) (v w : Validity) (xs : List X) (c : Column) (ptype : PType) (p : PrimitiveParts) → has_ptype ptype c.dtype ≡ true → IsValidityOf v c → w ≡ validity_of_ranges ranges v
    → AreFirst (map value xs) (length (ranges_of ranges c).items) (ranges_of ranges c) → p ≡ record { ptype = ptype; slots = map value xs; validity = w } → ranges_of ranges c ≡ column_of_primitive p
ranges_are value ranges v w xs c ptype p typed of is first made =
    let d = ranges_of ranges c in
    let own : IsValidityOf w d = rw is (ranges_valid ranges v c of) in
    sym (ap column_of_primitive made ∙ plain_column d w (map value xs) ptype (nullability_in c.dtype) (dtype_is c.dtype ptype typed) own (first_all (map value xs) (length d.items) d refl first))
