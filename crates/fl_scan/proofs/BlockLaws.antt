-- Integers of marked items, block by block.
use Rattle.std.proofs.Common.{◌≡◌, ◌⊎◌, ℕ, ℤ, pos, suc, ◌+◌, ◌-◌, ◌<◌, ◌≤◌, ◌++◌, List, [], ◌∷◌, length, map, get_or, take, drop, Bool, true, false, Option, Some, None, refl, ap, sym, ◌∙◌, arith, inl, inr}
use Rattle.std.specs.Prelude.{filter_map, is_some, unwrap_or}
use Rattle.std.proofs.lemmas.List.{drop-take, get_or-drop, get_or-map, get_or-take, get_or_default, length-map, same_lists, take-append-drop, take-take}
use Rattle.fl_types.specs.declared.validity.Validity.{Validity}
use Rattle.fl_types.specs.declared.validity.Validity.TheVariants as valid
use Rattle.fl_types.specs.Bits.{between, kept, true_count}
use Rattle.fl_types.proofs.KeptLaws.{kept_split}
use Rattle.fl_column.specs.Columns.{Column, integers_in}
use Rattle.fl_column.proofs.FilterLaws.{kept_few}
use Rattle.fl_column.proofs.ItemLaws.{length-between}
use Rattle.fl_bitpacking.specs.Blocks.{value_at}
use Rattle.fl_array.specs.Readers.{AreItemsFrom}
use Rattle.fl_array.specs.Reads.{IsValidityOf}
use Rattle.fl_array.proofs.ReadLaws.{items_read}
use Rattle.fl_scan.specs.Blocks.{Marks, marked_items}
use Rattle.fl_scan.specs.Totals.{valid_items}
use Rattle.fl_scan.proofs.ValidLaws.{valid_all, valid_masked, valid_none}

-- ---- items
pub there_is : (o : Option ℤ) → is_some o ≡ true → o ≡ Some (unwrap_or o (pos 0))
there_is None wrong = cc
there_is (Some z) some = refl

integer_is : (o : Option ℤ) (z : ℤ) → o ≡ Some z → unwrap_or o (pos 0) ≡ z
integer_is None z e = cc
integer_is (Some y) z e = cc

pub integer_at : (c : Column) (k : ℕ) → k < length c.items → get_or (integers_in c) k (pos 0) ≡ unwrap_or (get_or c.items k None) (pos 0)
integer_at c k h = get_or-map (λ (item : Option ℤ). unwrap_or item (pos 0)) c.items k None (pos 0) h

-- the integer that was read of an item that is not null
read_there : (c : Column) (start n i : ℕ) (integer : ℕ → ℤ) → AreItemsFrom start n integer c → i < n → start + i < length c.items → is_some (get_or c.items (start + i) None) ≡ true → integer i ≡ get_or (integers_in c) (start + i) (pos 0)
read_there c start n i integer read h inside some =
    let o = get_or c.items (start + i) None in
    read i (unwrap_or o (pos 0)) h (there_is o some) ∙ sym (integer_at c (start + i) inside)

pub get_or-between : {A : Type 0} (xs : List A) (start end i : ℕ) (d : A) → start + i < end → get_or (between start end xs) i d ≡ get_or xs (start + i) d
get_or-between xs start end i d h = get_or-take (end - start) (drop start xs) i d (omega arith) ∙ get_or-drop start xs i d

pub length_integers : (c : Column) → length (integers_in c) ≡ length c.items
length_integers c = length-map c.items (λ (item : Option ℤ). unwrap_or item (pos 0))

-- ---- parts that were read
-- integers that agree where bits are set
kept_alike : (bits : List Bool) (xs ys : List ℤ) → length xs ≡ length ys → ((i : ℕ) → i < length xs → get_or bits i false ≡ true → get_or xs i (pos 0) ≡ get_or ys i (pos 0)) → kept bits xs ≡ kept bits ys
kept_alike [] xs ys even each = refl
kept_alike (b ∷ bits) [] [] even each = refl
kept_alike (b ∷ bits) [] (y ∷ ys) even each = absurd (omega arith)
kept_alike (b ∷ bits) (x ∷ xs) [] even each = absurd (omega arith)
kept_alike (true ∷ bits) (x ∷ xs) (y ∷ ys) even each =
    let first : x ≡ y = each 0 (omega arith) refl in
    rw first (ap (λ l. y ∷ l) (kept_alike bits xs ys (omega arith) (λ i h on. each (suc i) (omega arith) on)))
kept_alike (false ∷ bits) (x ∷ xs) (y ∷ ys) even each = kept_alike bits xs ys (omega arith) (λ i h on. each (suc i) (omega arith) on)

-- the integers of the marked items of a part
pub part_marked : {X : Type 0} (value : X → ℤ) (bits : List Bool) (xs : List X) (start end : ℕ) (c : Column) → Marks (valid.Array bits) c → start + length xs ≡ end → end ≤ length c.items → AreItemsFrom start (length xs) (value_at value xs) c
    → kept (between start end bits) (map value xs) ≡ kept (between start end bits) (between start end (integers_in c))
unfolding value_at
part_marked value bits xs start end c marks is room read =
    let zs = integers_in c in
    let mapped = length-map xs value in
    let all = length_integers c in
    let size = length-between zs start end (omega arith) (omega arith) in
    kept_alike (between start end bits) (map value xs) (between start end zs) (omega arith) (λ i h on.
    let within : i < length xs = omega arith in
    let set : get_or bits (start + i) false ≡ true = sym (get_or-between bits start end i false (omega arith)) ∙ on in
    read_there c start (length xs) i (value_at value xs) read within (omega arith) (marks.valid (start + i) (omega arith) set) ∙ sym (get_or-between zs start end i (pos 0) (omega arith)))

-- the integers of a part without nulls
pub part_whole : {X : Type 0} (value : X → ℤ) (xs : List X) (start end : ℕ) (c : Column) → Marks valid.AllValid c → start + length xs ≡ end → end ≤ length c.items → AreItemsFrom start (length xs) (value_at value xs) c
    → map value xs ≡ between start end (integers_in c)
unfolding value_at
part_whole value xs start end c marks is room read =
    let zs = integers_in c in
    let mapped = length-map xs value in
    let all = length_integers c in
    let size = length-between zs start end (omega arith) (omega arith) in
    same_lists (map value xs) (between start end zs) (omega arith) (λ i d h.
    let within : i < length xs = omega arith in
    get_or_default (map value xs) i d (pos 0) h ∙ (read_there c start (length xs) i (value_at value xs) read within (omega arith) (marks.valid (start + i) (omega arith) refl)
    ∙ (sym (get_or-between zs start end i (pos 0) (omega arith)) ∙ sym (get_or_default (between start end zs) i d (pos 0) (omega arith)))))

nil_of : {A : Type 0} (xs : List A) → length xs ≤ 0 → [] ≡ xs
nil_of [] h = refl
nil_of (x ∷ xs) h = absurd (omega arith)

-- a part without a set bit
pub part_unmarked : (bits : List Bool) (zs : List ℤ) → true_count bits ≡ 0 → [] ≡ kept bits zs
part_unmarked bits zs none = nil_of (kept bits zs) (let few = kept_few bits zs in omega arith)

-- ---- one part more
cut : {A : Type 0} (from to : ℕ) (xs : List A) → from ≤ to → drop from (take to xs) ≡ between from to xs
cut from to xs order = let whole : to ≡ from + (to - from) = omega arith in ap (λ n. drop from (take n xs)) whole ∙ drop-take from (to - from) xs

pub taken_more : {A : Type 0} (zs : List A) (from to : ℕ) → from ≤ to → take to zs ≡ take from zs ++ between from to zs
taken_more zs from to order = sym (take-append-drop from (take to zs)) ∙ (ap (λ ys. ys ++ drop from (take to zs)) (take-take from to zs order) ∙ ap (λ ys. take from zs ++ ys) (cut from to zs order))

pub kept_more : (bits : List Bool) (zs : List ℤ) (from to : ℕ) → from ≤ to → kept (take to bits) (take to zs) ≡ kept (take from bits) (take from zs) ++ kept (between from to bits) (between from to zs)
kept_more bits zs from to order =
    kept_split from (take to bits) (take to zs)
    ∙ (ap (λ bs. kept bs (take from (take to zs)) ++ kept (drop from (take to bits)) (drop from (take to zs))) (take-take from to bits order)
    ∙ (ap (λ ys. kept (take from bits) ys ++ kept (drop from (take to bits)) (drop from (take to zs))) (take-take from to zs order)
    ∙ ap (λ ys. kept (take from bits) (take from zs) ++ ys) (ap (λ bs. kept bs (drop from (take to zs))) (cut from to bits order) ∙ ap (kept (between from to bits)) (cut from to zs order))))

-- ---- validities
-- which items are not null marks these
pub valid_marks : (v : Validity) (c : Column) → IsValidityOf v c → Marks v c
valid_marks v c of = record { covered = of.covered; valid = λ i h on. sym (of.valid i h) ∙ on }

pub valid_marked : (v : Validity) (c : Column) → IsValidityOf v c → marked_items v c ≡ valid_items c
valid_marked v c of =
    let all = length_integers c in
    ap (λ items. filter_map (λ o. o) items) (items_read (integers_in c) c all (λ i z h e.
    let place : i ≡ 0 + i = omega arith in
    integer_at c i (omega arith) ∙ integer_is (get_or c.items i None) z (ap (λ k. get_or c.items k None) place ∙ e)) v of)

-- each item
pub each_marks : (v : Validity) (c : Column) → (v ≡ valid.NonNullable) ⊎ (v ≡ valid.AllValid) → Marks v c → Marks valid.AllValid c
each_marks v c (inl is) marks = record { covered = refl; valid = λ i h on. marks.valid i h (rw is refl) }
each_marks v c (inr is) marks = record { covered = refl; valid = λ i h on. marks.valid i h (rw is refl) }

pub each_marked : (v : Validity) (c : Column) → (v ≡ valid.NonNullable) ⊎ (v ≡ valid.AllValid) → integers_in c ≡ marked_items v c
each_marked v c (inl is) = rw is (sym (valid_all (integers_in c)))
each_marked v c (inr is) = rw is (sym (valid_all (integers_in c)))

-- none
pub none_marked : (v : Validity) (c : Column) → v ≡ valid.AllInvalid → [] ≡ marked_items v c
none_marked v c is = rw is (sym (valid_none (integers_in c)))

-- those whose bits are set
pub set_marked : (v : Validity) (bits : List Bool) (c : Column) → v ≡ valid.Array bits → kept bits (integers_in c) ≡ marked_items v c
set_marked v bits c is = rw is (sym (valid_masked bits (integers_in c)))

-- ---- blocks
-- what is gathered before the first block
pub none_before : (bits : List Bool) (zs : List ℤ) (e : ℕ) → e ≡ 0 → [] ≡ kept (take e bits) (take e zs)
none_before bits zs e is = rw is refl

pub none_taken : (zs : List ℤ) (e : ℕ) → e ≡ 0 → [] ≡ take e zs
none_taken zs e is = rw is refl

-- the marked integers of a block that is not read
pub block_unmarked : (bits : List Bool) (zs : List ℤ) (a b from to : ℕ) → a ≡ from → b ≡ from + (to - from) → true_count (between from (from + (to - from)) bits) ≡ 0 → [] ≡ kept (between a b bits) (between a b zs)
block_unmarked bits zs a b from to first last none = rw (first, last) (part_unmarked (between from (from + (to - from)) bits) (between from (from + (to - from)) zs) none)

-- those of one that was read
pub block_marked : {X : Type 0} (value : X → ℤ) (bits : List Bool) (xs : List X) (a b start : ℕ) (c : Column) → Marks (valid.Array bits) c → a ≡ start → b ≡ start + length xs → start + length xs ≤ length c.items → AreItemsFrom start (length xs) (value_at value xs) c
    → kept (between start (start + length xs) bits) (map value xs) ≡ kept (between a b bits) (between a b (integers_in c))
block_marked value bits xs a b start c marks first last room read = rw (first, last) (part_marked value bits xs start (start + length xs) c marks refl room read)

-- and of one without nulls
pub block_whole : {X : Type 0} (value : X → ℤ) (xs : List X) (a b : ℕ) (c : Column) → Marks valid.AllValid c → a ≤ b → b ≡ a + length xs → b ≤ length c.items → AreItemsFrom a (length xs) (value_at value xs) c
    → take b (integers_in c) ≡ take a (integers_in c) ++ map value xs
block_whole value xs a b c marks order last room read =
    let end : a + length xs ≡ b = omega arith in
    taken_more (integers_in c) a b order ∙ ap (λ ys. take a (integers_in c) ++ ys) (sym (part_whole value xs a b c marks end room read))
