-- Items of a type that pass a test.
use Rattle.std.proofs.Common.{◌≡◌, ℕ, ℤ, pos, negsuc, ◌+◌, ◌≤◌, ◌&&◌, ◌≤ℤ◌, ◌<ℤ◌, List, [], ◌∷◌, length, Bool, true, false, cond, int_le, int_lt, not, Option, Some, None, Result, Ok, refl, ap, sym, subst, ◌∙◌, arith}
use Rattle.std.specs.Prelude.{FitsSigned, IsTrue, count_by, filter_map, is_none, if◌then◌else◌}
use Rattle.std.specs.Int.{int_max, int_min, w128}
use Rattle.std.specs.List.{list_all}
use Rattle.std.proofs.lemmas.Bool.{and_parts}
use Rattle.std.proofs.lemmas.Int.{clamps, ints}
use Rattle.std.proofs.lemmas.List.Sums.{sum_by-cons}
use Rattle.fl_types.specs.declared.dtype.DType.{DType}
use Rattle.fl_types.specs.declared.dtype.DType.TheVariants as dtypes
use Rattle.fl_types.specs.declared.dtype.Nullability.{Nullability}
use Rattle.fl_types.specs.declared.dtype.PType.{PType}
use Rattle.fl_types.specs.declared.error.FastLanesError.{FastLanesError}
use Rattle.fl_types.specs.Integers.{fits}
use Rattle.fl_types.specs.Refusals.{Answers}
use Rattle.fl_types.specs.Types.{has_ptype, is_integer}
use Rattle.fl_column.specs.Columns.{Column, option_all}
use Rattle.fl_array.specs.Ranges.{items_fit}
use Rattle.fl_codec.proofs.FirstRefusals.{same_ptype_is}
use Rattle.fl_scan.proofs.SearchLaws.{fits_held, integers_held}
use Rattle.fl_file.specs.declared.pruning.PassingRange.{PassingRange}
use Rattle.fl_file.specs.Pruning.{is_in_range}
use Rattle.fl_scan.specs.Totals.{count_of, of_integers}

-- ---- counts of items that fit
counted : (test : ℤ → Bool) (z : ℤ) (zs : List ℤ) → count_by test (z ∷ zs) ≡ cond (test z) 1 0 + count_by test zs
counted test z zs = sum_by-cons (λ x. cond (test x) 1 0) z zs

pub same_counts : (p : ℤ → Bool) (f g : ℤ → Bool) (items : List (Option ℤ)) → list_all (option_all p) items ≡ true → ((z : ℤ) → p z ≡ true → f z ≡ g z) → count_by f (filter_map (λ o. o) items) ≡ count_by g (filter_map (λ o. o) items)
same_counts p f g [] all same = refl
same_counts p f g (None ∷ items) all same = same_counts p f g items all same
same_counts p f g (Some z ∷ items) all same =
    let both = and_parts (p z) (list_all (option_all p) items) all in
    counted f z (filter_map (λ o. o) items)
    ∙ (ap (λ b. cond b 1 0 + count_by f (filter_map (λ o. o) items)) (same z both.0)
    ∙ (ap (λ n. cond (g z) 1 0 + n) (same_counts p f g items both.1 same) ∙ sym (counted g z (filter_map (λ o. o) items))))

none_counted : (zs : List ℤ) → count_by (λ z. false) zs ≡ 0
none_counted [] = refl
none_counted (z ∷ zs) = let rest = none_counted zs in let more : count_by (λ x. false) (z ∷ zs) ≡ 0 + count_by (λ x. false) zs = counted (λ x. false) z zs in omega arith

-- what an inverted test counts and what the test counts are all
pub both_counted : (f : ℤ → Bool) (zs : List ℤ) → count_by f zs + count_by (λ z. not (f z)) zs ≡ length zs
both_counted f [] = refl
both_counted f (z ∷ zs) =
    let rest = both_counted f zs in
    let one = counted f z zs in
    let other = counted (λ x. not (f x)) z zs in
    let here = each (f z) in
    omega arith
  where
    each : (b : Bool) → cond b 1 0 + cond (not b) 1 0 ≡ 1
    each true = refl
    each false = refl

pub nulls_and_valid : (items : List (Option ℤ)) → length (filter_map (λ o. o) items) + count_by is_none items ≡ length items
nulls_and_valid [] = refl
nulls_and_valid (None ∷ items) =
    let rest = nulls_and_valid items in
    let more : count_by is_none (None ∷ items) ≡ 1 + count_by is_none items = sum_by-cons (λ o. cond (is_none o) 1 0) None items in
    omega arith
nulls_and_valid (Some z ∷ items) =
    let rest = nulls_and_valid items in
    let more : count_by is_none (Some z ∷ items) ≡ 0 + count_by is_none items = sum_by-cons (λ o. cond (is_none o) 1 0) (Some z) items in
    omega arith

-- ---- types
type_cases : (d : DType) (p : PType) → has_ptype p d ≡ true → (n : Nullability) × (d ≡ dtypes.Primitive p n)
type_cases (dtypes.Primitive q n) p h = (n, ap (λ r. dtypes.Primitive r n) (sym (same_ptype_is p q h)))
type_cases (dtypes.Bool n) p h = absurd (let wrong : false ≡ true = h in cc)

pub fits_of : (c : Column) (p : PType) → has_ptype p c.dtype ≡ true → items_fit c ≡ true → list_all (option_all (fits p)) c.items ≡ true
fits_of c p h fit = let t = type_cases c.dtype p h in fits_held c p t.0 t.1 fit

pub of_type : {A : Type 0} (c : Column) (p : PType) (answer : A) → has_ptype p c.dtype ≡ true → of_integers c answer ≡ Ok answer
of_type c p answer h = let t = type_cases c.dtype p h in rw (integers_held c.dtype p t.0 t.1) refl

-- ---- bounds
in_both : (a b z : ℤ) → (int_le a z && int_le z b) ≡ true → (a ≤ℤ z) × (z ≤ℤ b)
in_both a b z h = let both = and_parts (int_le a z) (int_le z b) h in (le_of a z both.0, le_of z b both.1)
  where
    le_of : (x y : ℤ) → int_le x y ≡ true → x ≤ℤ y
    le_of x y e = grind (arith, ints)

within : (a b z : ℤ) → a ≤ℤ z → z ≤ℤ b → (int_le a z && int_le z b) ≡ true
within a b z l h = grind (arith, ints)

-- the integers of a type are those between its bounds
pub fits_between : (p : PType) (least greatest z : ℤ) → ((y : ℤ) → fits p y ≡ (int_le least y && int_le y greatest)) → least ≤ℤ z → z ≤ℤ greatest → IsTrue (fits p z)
fits_between p least greatest z bounds l h = bounds z ∙ within least greatest z l h

pub narrow : (p : PType) (least greatest z : ℤ) → FitsSigned w128 least → FitsSigned w128 greatest → ((y : ℤ) → fits p y ≡ (int_le least y && int_le y greatest)) → fits p z ≡ true → FitsSigned w128 z
narrow p least greatest z f g bounds h = let b = in_both least greatest z (sym (bounds z) ∙ h) in between least z greatest f g b.0 b.1
  where
    between : (a y b : ℤ) → FitsSigned w128 a → FitsSigned w128 b → a ≤ℤ y → y ≤ℤ b → FitsSigned w128 y
    between a (pos n) (pos m) f g h k = let e : n ≤ m = omega (arith, ints) in record { sfits = omega (arith, g.sfits, e) }
    between a (pos n) (negsuc m) f g h k = absurd (omega (arith, ints))
    between (negsuc m) (negsuc n) b f g h k = let e : n ≤ m = omega (arith, ints) in record { sfits = omega (arith, f.sfits, e) }
    between (pos m) (negsuc n) b f g h k = absurd (omega (arith, ints))

-- a range, and what of it is between the bounds, have the same integers of the type
pub clamped : (p : PType) (least greatest first last low high z : ℤ) → ((y : ℤ) → fits p y ≡ (int_le least y && int_le y greatest)) → low ≡ int_max first least → high ≡ int_min last greatest → fits p z ≡ true
    → (int_le low z && int_le z high) ≡ (int_le first z && int_le z last)
clamped p least greatest first last low high z bounds lows highs h = let b = in_both least greatest z (sym (bounds z) ∙ h) in same least greatest first last low high z lows highs b.0 b.1
  where
    same : (least greatest first last low high z : ℤ) → low ≡ int_max first least → high ≡ int_min last greatest → least ≤ℤ z → z ≤ℤ greatest → (int_le low z && int_le z high) ≡ (int_le first z && int_le z last)
    same least greatest first last low high z lows highs l h = ap (λ b. b && int_le z high) (lower first least low z lows l) ∙ ap (λ b. int_le first z && b) (upper last greatest high z highs h)
      where
        lower : (first least low z : ℤ) → low ≡ int_max first least → least ≤ℤ z → int_le low z ≡ int_le first z
        lower first least low z is l = grind (arith, ints, clamps)

        upper : (last greatest high z : ℤ) → high ≡ int_min last greatest → z ≤ℤ greatest → int_le z high ≡ int_le z last
        upper last greatest high z is h = grind (arith, ints, clamps)

pub none_within : (first last z : ℤ) → last <ℤ first → (int_le first z && int_le z last) ≡ false
none_within first last z h = grind (arith, ints)

-- no item that fits is counted where the range ends before it begins
pub none_of_type : (p : PType) (least greatest first last low high : ℤ) (items : List (Option ℤ)) → ((y : ℤ) → fits p y ≡ (int_le least y && int_le y greatest)) → low ≡ int_max first least → high ≡ int_min last greatest → high <ℤ low
    → list_all (option_all (fits p)) items ≡ true → count_by (λ z. int_le first z && int_le z last) (filter_map (λ o. o) items) ≡ 0
none_of_type p least greatest first last low high items bounds lows highs apart all =
    same_counts (fits p) (λ z. int_le first z && int_le z last) (λ z. false) items all (λ z h. sym (clamped p least greatest first last low high z bounds lows highs h) ∙ none_within low high z apart)
    ∙ none_counted (filter_map (λ o. o) items)

pub all_of_type : (p : PType) (least greatest first last low high : ℤ) (items : List (Option ℤ)) → ((y : ℤ) → fits p y ≡ (int_le least y && int_le y greatest)) → low ≡ int_max first least → high ≡ int_min last greatest
    → list_all (option_all (fits p)) items ≡ true → count_by (λ z. int_le low z && int_le z high) (filter_map (λ o. o) items) ≡ count_by (λ z. int_le first z && int_le z last) (filter_map (λ o. o) items)
all_of_type p least greatest first last low high items bounds lows highs all =
    same_counts (fits p) (λ z. int_le low z && int_le z high) (λ z. int_le first z && int_le z last) items all (λ z h. clamped p least greatest first last low high z bounds lows highs h)

-- the count that an array was asked for, by values of its type
pub typed_count : (c : Column) (p : PType) (a b first last : ℤ) (r : Result ℕ FastLanesError) → has_ptype p c.dtype ≡ true → a ≡ first → b ≡ last
    → Answers (λ n. n) r (of_integers c (count_of (λ z. int_le a z && int_le z b) c)) → Answers (λ n. n) r (Ok (count_of (λ z. int_le first z && int_le z last) c))
typed_count c p a b first last r h e f answers =
    subst (λ (m : Result ℕ FastLanesError). Answers (λ n. n) r m)
    (of_type c p (count_of (λ z. int_le a z && int_le z b) c) h ∙ (ap (λ x. Ok (count_of (λ z. int_le x z && int_le z b) c)) e ∙ ap (λ y. Ok (count_of (λ z. int_le first z && int_le z y) c)) f)) answers

pub same_answers : (m n : ℕ) (r : Result ℕ FastLanesError) → m ≡ n → Answers (λ n. n) r (Ok m) → Answers (λ n. n) r (Ok n)
same_answers m n r e answers = subst (λ (x : ℕ). Answers (λ n. n) r (Ok x)) e answers

-- what is in the range and what is not are all valid items
pub range_parts : (range : PassingRange) (items : List (Option ℤ)) → range.is_inverted ≡ true
    → count_by (λ z. int_le range.first z && int_le z range.last) (filter_map (λ o. o) items) + count_by (is_in_range range) (filter_map (λ o. o) items) + count_by is_none items ≡ length items
range_parts range items h =
    let zs = filter_map (λ o. o) items in
    let all = both_counted (λ z. int_le range.first z && int_le z range.last) zs in
    let others : count_by (is_in_range range) zs ≡ count_by (λ z. not (int_le range.first z && int_le z range.last)) zs = ap (λ b. count_by (λ z. if b then not (int_le range.first z && int_le z range.last) else (int_le range.first z && int_le z range.last)) zs) h in
    let nulls = nulls_and_valid items in
    omega arith

pub ok_is : (a b : ℕ) (r : Result ℕ FastLanesError) → r ≡ Ok a → r ≡ Ok b → a ≡ b
ok_is a b r p q = cc

pub apart : (x y : ℤ) → int_lt x y ≡ true → x <ℤ y
apart x y h = grind (arith, ints)

pub in_order : (first last least greatest low high : ℤ) → low ≡ int_max first least → high ≡ int_min last greatest → int_lt high low ≡ false → ((least ≤ℤ low) × (low ≤ℤ greatest)) × ((least ≤ℤ high) × (high ≤ℤ greatest))
in_order first last least greatest low high lows highs h =
    let order : low ≤ℤ high = at_most low high h in
    ((omega (arith, ints, clamps), omega (arith, ints, clamps)), (omega (arith, ints, clamps), omega (arith, ints, clamps)))
  where
    at_most : (x y : ℤ) → int_lt y x ≡ false → x ≤ℤ y
    at_most x y e = grind (arith, ints)

pub passing_answers : (c : Column) (m n : ℕ) (r : Result ℕ FastLanesError) → is_integer c.dtype ≡ true → m ≡ n → Answers (λ n. n) r (Ok m) → Answers (λ n. n) r (of_integers c n)
passing_answers c m n r h e answers = subst (λ (x : Result ℕ FastLanesError). Answers (λ n. n) r x) (ap (λ k. Ok k) e ∙ sym (let is : of_integers c n ≡ Ok n = rw h refl in is)) answers
