-- Columns that are read block by block.
use Rattle.std.proofs.Common.{◌≡◌, ◌==◌, ◌||◌, Result, Ok, Err, ℕ, ℤ, pos, zero, suc, ◌+◌, ◌-◌, ◌*◌, ◌<◌, ◌≤◌, ◌&&◌, Bool, true, false, List, [], ◌∷◌, length, map, get_or, take, drop, min, Option, Some, None, IsTrue, option_map, refl, ap, sym, ◌∙◌, arith, inl, inr, length-take, length-drop}
use Rattle.std.specs.Prelude.{is_some, if◌then◌else◌}
use Rattle.std.specs.List.{list_all}
use Rattle.std.proofs.lemmas.Bool.{cases_lt, ne_eqb}
use Rattle.std.proofs.lemmas.List.{get_or-drop, get_or-take, take_all}
use Rattle.fl_types.specs.Bits.{between}
use Rattle.fl_types.specs.declared.validity.Validity.{Validity}
use Rattle.fl_types.specs.declared.dtype.DType.TheVariants as dtypes
use Rattle.fl_types.specs.declared.dtype.Nullability.{Nullability}
use Rattle.fl_types.specs.declared.dtype.PType.{PType}
use Rattle.fl_types.specs.declared.dtype.PType.TheVariants.{U8, U16, U32, U64, I8, I16, I32, I64}
use Rattle.fl_types.specs.declared.error.FastLanesError.{FastLanesError}
use Rattle.fl_types.specs.declared.error.FastLanesError.TheVariants.{NotInteger}
use Rattle.fl_types.specs.Types.{has_ptype, is_integer}
use Rattle.fl_types.specs.Validities.{is_valid_at}
use Rattle.fl_column.specs.Columns.{Column}
use Rattle.fl_column.specs.Queries.{are_constant, are_sorted, are_strictly_sorted, each_next, in_order, is_constant_column, is_sorted_column, same_item}
use Rattle.fl_column.proofs.ItemLaws.{length-between}
use Rattle.fl_column.proofs.ListLaws.{all_at, all_fails, all_from, and_first, and_second}
use Rattle.fl_column.proofs.QueryLaws.{next_fails, next_holds}
use Rattle.fl_array.specs.Readers.{AreItemsFrom}
use Rattle.fl_array.specs.Reads.{integer_column}

-- ---- items
some_item : (o : Option ℤ) (x : ℤ) → true ≡ is_some o → ((z : ℤ) → o ≡ Some z → x ≡ z) → Some x ≡ o
some_item None x there shown = cc
some_item (Some z) x there shown = ap (λ (y : ℤ). Some y) (shown z refl)

-- an integer that was read where no null is
pub item_there : (c : Column) (start n i : ℕ) (integer : ℕ → ℤ) (x : ℤ) → AreItemsFrom start n integer c → i < n → integer i ≡ x → true ≡ is_some (get_or c.items (start + i) None) → Some x ≡ get_or c.items (start + i) None
item_there c start n i integer x shown h is there = some_item (get_or c.items (start + i) None) x there (λ z e. sym is ∙ shown i z h e)

no_item : (o : Option ℤ) → false ≡ is_some o → None ≡ o
no_item None there = refl
no_item (Some z) there = cc

-- where a null is
pub item_null : (c : Column) (k : ℕ) → false ≡ is_some (get_or c.items k None) → None ≡ get_or c.items k None
item_null c k there = no_item (get_or c.items k None) there

-- an item of a part
pub get_or-between : {A : Type 0} (xs : List A) (start end i : ℕ) (d : A) → start + i < end → get_or (between start end xs) i d ≡ get_or xs (start + i) d
get_or-between xs start end i d h = get_or-take (end - start) (drop start xs) i d (omega arith) ∙ get_or-drop start xs i d

-- ---- order
-- a pair of items that are in order
next_each : {A : Type 0} (test : A → A → Bool) (xs : List A) (i : ℕ) (d : A) → each_next test xs ≡ true → i + 1 < length xs → test (get_or xs i d) (get_or xs (i + 1) d) ≡ true
next_each test [] i d e h = absurd (omega arith)
next_each test (x ∷ []) i d e h = absurd (omega arith)
next_each test (x ∷ y ∷ rest) zero d e h = and_first (test x y) (each_next test (y ∷ rest)) e
next_each test (x ∷ y ∷ rest) (suc i) d e h = let step : suc i + 1 ≡ suc (i + 1) = omega arith in rw step (next_each test (y ∷ rest) i d (and_second (test x y) (each_next test (y ∷ rest)) e) (omega arith))

-- each item of a part may stand before the next one
pub part_in_order : {A : Type 0} (test : A → A → Bool) (xs : List A) (start end : ℕ) (d : A) → start ≤ end → end ≤ length xs
    → ((k : ℕ) → start ≤ k → k + 1 < end → test (get_or xs k d) (get_or xs (k + 1) d) ≡ true) → each_next test (between start end xs) ≡ true
part_in_order test xs start end d order range pairs =
    let size = length-between xs start end order range in
    next_holds test (between start end xs) d (λ i h.
    let here = get_or-between xs start end i d (omega arith) in
    let there = get_or-between xs start end (i + 1) d (omega arith) in
    let place : start + (i + 1) ≡ start + i + 1 = omega arith in
    rw (here, there, place) (pairs (start + i) (omega arith) (omega arith)))

-- a pair of a part that is not in order
pub part_fails : {A : Type 0} (test : A → A → Bool) (xs : List A) (start end k : ℕ) (d : A) → end ≤ length xs → start ≤ k → k + 1 < end → test (get_or xs k d) (get_or xs (k + 1) d) ≡ false → each_next test (between start end xs) ≡ false
part_fails test xs start end k d range low high fails =
    let size = length-between xs start end (omega arith) range in
    let here = get_or-between xs start end (k - start) d (omega arith) in
    let there = get_or-between xs start end (k - start + 1) d (omega arith) in
    let first : start + (k - start) ≡ k = omega arith in
    let second : start + (k - start + 1) ≡ k + 1 = omega arith in
    next_fails test (between start end xs) (k - start) d (omega arith) (rw (here, there, first, second) fails)

-- the pairs of a part that is in order
pub part_pairs : {A : Type 0} (test : A → A → Bool) (xs : List A) (start end k : ℕ) (d : A) → end ≤ length xs → each_next test (between start end xs) ≡ true → start ≤ k → k + 1 < end → test (get_or xs k d) (get_or xs (k + 1) d) ≡ true
part_pairs test xs start end k d range holds low high =
    let size = length-between xs start end (omega arith) range in
    let here = get_or-between xs start end (k - start) d (omega arith) in
    let there = get_or-between xs start end (k - start + 1) d (omega arith) in
    let first : start + (k - start) ≡ k = omega arith in
    let second : start + (k - start + 1) ≡ k + 1 = omega arith in
    let pair = next_each test (between start end xs) (k - start) d holds (omega arith) in
    rw (here, there, first, second) at pair

-- a part that is not in order
pub whole_fails : {A : Type 0} (test : A → A → Bool) (xs : List A) (start end : ℕ) (d : A) → start ≤ end → end ≤ length xs → each_next test (between start end xs) ≡ false → each_next test xs ≡ false
whole_fails test xs start end d order range fails = by_case (each_next test xs) refl
  where
    by_case : (b : Bool) → each_next test xs ≡ b → each_next test xs ≡ false
    by_case false e = e
    by_case true e =
        let holds = part_in_order test xs start end d order range (λ k low high. next_each test xs k d e (omega arith)) in
        let wrong : true ≡ false = sym holds ∙ fails in
        cc

zero_or : (n : ℕ) (b : Bool) → 0 < n → (n == 0 || b) ≡ b
zero_or n b h = let other = ne_eqb n 0 (λ e. omega arith) in rw other refl

-- one pair more
pub pair_more : {A : Type 0} (test : A → A → Bool) (xs : List A) (d : A) (low n : ℕ) (x y : A) → (0 < n → x ≡ get_or xs (n - 1) d) → y ≡ get_or xs n d → true ≡ (n == 0 || test x y)
    → ((k : ℕ) → low ≤ k → k + 1 < n → test (get_or xs k d) (get_or xs (k + 1) d) ≡ true) → (k : ℕ) → low ≤ k → k + 1 < n + 1 → test (get_or xs k d) (get_or xs (k + 1) d) ≡ true
pair_more test xs d low n x y first second holds pairs k from to = elim (cases_lt (k + 1) n) [
  | inl before ↦ pairs k from before
  | inr last ↦
      let some : 0 < n = omega arith in
      let here : n - 1 ≡ k = omega arith in
      let next : n ≡ k + 1 = omega arith in
      let x_is : x ≡ get_or xs k d = first some ∙ ap (λ (m : ℕ). get_or xs m d) here in
      let y_is : y ≡ get_or xs (k + 1) d = second ∙ ap (λ (m : ℕ). get_or xs m d) next in
      rw (← x_is, ← y_is) (sym (zero_or n (test x y) some) ∙ sym holds)
]

-- a pair that fails
pub pair_fails : {A : Type 0} (test : A → A → Bool) (xs : List A) (d : A) (low end n : ℕ) (x y : A) → end ≤ length xs → low ≤ n - 1 → n < end → (0 < n → x ≡ get_or xs (n - 1) d) → y ≡ get_or xs n d → false ≡ (n == 0 || test x y)
    → false ≡ each_next test (between low end xs)
pair_fails test xs d low end n x y range from to first second fails = elim (cases_lt 0 n) [
  | inl some ↦
      let next : n ≡ n - 1 + 1 = omega arith in
      let y_is : y ≡ get_or xs (n - 1 + 1) d = second ∙ ap (λ (m : ℕ). get_or xs m d) next in
      let wrong : test x y ≡ false = sym (zero_or n (test x y) some) ∙ sym fails in
      let pair : test (get_or xs (n - 1) d) (get_or xs (n - 1 + 1) d) ≡ false = rw (← first some, ← y_is) wrong in
      sym (part_fails test xs low end (n - 1) d range from (omega arith) pair)
  | inr none ↦
      let zero_is : n ≡ 0 = omega arith in
      let wrong : false ≡ true = fails ∙ (rw zero_is refl) in
      cc
]

-- the pairs of one part more
pub pairs_more : {A : Type 0} (test : A → A → Bool) (xs : List A) (d : A) (from to : ℕ) → to ≤ length xs → true ≡ each_next test (between (from - 1) to xs)
    → ((k : ℕ) → k + 1 < from → test (get_or xs k d) (get_or xs (k + 1) d) ≡ true) → (k : ℕ) → k + 1 < to → test (get_or xs k d) (get_or xs (k + 1) d) ≡ true
pairs_more test xs d from to range holds pairs k h = elim (cases_lt (k + 1) from) [
  | inl before ↦ pairs k before
  | inr after ↦ part_pairs test xs (from - 1) to k d range (sym holds) (omega arith) h
]

-- ---- answers
-- the column of a reader is of integers
pub read_integers : (c d : Column) → integer_column c ≡ Ok d → is_integer c.dtype ≡ true
read_integers c d e = each (is_integer c.dtype) refl e
  where
    each : (b : Bool) → is_integer c.dtype ≡ b → (if b then Ok c else Err NotInteger) ≡ Ok d → is_integer c.dtype ≡ true
    each true typed e = typed
    each false typed e = cc

order_is : (strict : Bool) (items : List (Option ℤ)) → each_next (in_order strict) items ≡ (if strict then are_strictly_sorted items else are_sorted items)
order_is true items = refl
order_is false items = refl

-- whether the items that are read rise
pub order_answered : (strict b : Bool) (c d : Column) → integer_column c ≡ Ok d → c ≡ d → b ≡ each_next (in_order strict) d.items → ◌≡◌ {A = Result Bool FastLanesError} (Ok b) (is_sorted_column strict c)
order_answered strict b c d e same is = rw (read_integers c d e, is, order_is strict d.items, same) refl

-- whether they are equal
pub constancy_answered : (b : Bool) (c d : Column) → integer_column c ≡ Ok d → c ≡ d → b ≡ are_constant d.items → ◌≡◌ {A = Result Bool FastLanesError} (Ok b) (is_constant_column c)
constancy_answered b c d e same is = rw (read_integers c d e, is, same) refl

-- the type of a reader's column
pub read_typed : (c d : Column) (ptype : PType) (n : Nullability) → c ≡ d → c.dtype ≡ dtypes.Primitive ptype n → has_ptype ptype d.dtype ≡ true
read_typed c d ptype n same typed = rw (← same, typed) (same_ptype ptype)
  where
    same_ptype : (p : PType) → has_ptype p (dtypes.Primitive p n) ≡ true
    same_ptype U8 = refl
    same_ptype U16 = refl
    same_ptype U32 = refl
    same_ptype U64 = refl
    same_ptype I8 = refl
    same_ptype I16 = refl
    same_ptype I32 = refl
    same_ptype I64 = refl

-- ---- constancy
-- a test of each item of a part
pub part_all : {A : Type 0} (test : A → Bool) (xs : List A) (start end : ℕ) (d : A) → start ≤ end → end ≤ length xs → ((k : ℕ) → start ≤ k → k < end → test (get_or xs k d) ≡ true) → list_all test (between start end xs) ≡ true
part_all test xs start end d order range each =
    let size = length-between xs start end order range in
    all_from test (between start end xs) d (λ i h.
    let here = get_or-between xs start end i d (omega arith) in
    rw here (each (start + i) (omega arith) (omega arith)))

-- an item of a part that fails it
pub part_not_all : {A : Type 0} (test : A → Bool) (xs : List A) (start end k : ℕ) (d : A) → end ≤ length xs → start ≤ k → k < end → test (get_or xs k d) ≡ false → list_all test (between start end xs) ≡ false
part_not_all test xs start end k d range low high fails =
    let size = length-between xs start end (omega arith) range in
    let here = get_or-between xs start end (k - start) d (omega arith) in
    let place : start + (k - start) ≡ k = omega arith in
    all_fails test (between start end xs) (k - start) d (omega arith) (rw (here, place) fails)

-- an item of a part that passes it
pub part_each : {A : Type 0} (test : A → Bool) (xs : List A) (start end k : ℕ) (d : A) → end ≤ length xs → list_all test (between start end xs) ≡ true → start ≤ k → k < end → test (get_or xs k d) ≡ true
part_each test xs start end k d range holds low high =
    let size = length-between xs start end (omega arith) range in
    let here = get_or-between xs start end (k - start) d (omega arith) in
    let place : start + (k - start) ≡ k = omega arith in
    let one = all_at test (between start end xs) (k - start) d holds (omega arith) in
    rw (here, place) at one

-- a part that differs from the first item
pub part_differs : (items : List (Option ℤ)) (x : Option ℤ) (start end : ℕ) → x ≡ get_or items 0 None → start ≤ end → end ≤ length items → 0 < length items → list_all (same_item x) (between start end items) ≡ false → are_constant items ≡ false
part_differs items x start end is order range some fails = by_case (are_constant items) refl
  where
    by_case : (b : Bool) → are_constant items ≡ b → are_constant items ≡ false
    by_case false e = e
    by_case true e =
        let all : list_all (same_item (get_or items 0 None)) items ≡ true = all_at (λ y. list_all (same_item y) items) items 0 None e some in
        let holds = part_all (same_item x) items start end None order range (λ k low high. rw is (all_at (same_item (get_or items 0 None)) items k None all (omega arith))) in
        let wrong : true ≡ false = sym holds ∙ fails in
        cc
