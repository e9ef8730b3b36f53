-- Histograms by how many items have more bits than each width.
use Rattle.std.proofs.Common.{◌≡◌, ℕ, ℤ, suc, ◌+◌, ◌-◌, ◌<◌, ◌≤◌, ◌^◌, ◌==◌, Bool, cond, nat_le, nat_lt, List, [], ◌∷◌, length, map, take, drop, get_or, set, Option, Some, None, refl, ap, sym, ◌∙◌, arith, inl, inr, lit≤}
use Rattle.std.proofs.lemmas.Bool.{cases_Bool, cases_eq, cases_lt, eq-eqb, le-leb, le-ltb, lt-leb, lt-ltb, ne_eqb}
use Rattle.std.proofs.lemmas.List.{drop-map, get_or-map, get_or-set_other, get_or-set_same, length-map, length-set, take-map}
use Rattle.std.proofs.lemmas.List.Sums.{count_by-le-length, count_by_more_no, count_by_more_yes, sum_by-cons}
use Rattle.std.proofs.Math.Nat.{pow-le-pow_right}
use Rattle.std.specs.List.{count_by}
use mir.Val.{bool_byte}
use Rattle.fl_types.specs.declared.dtype.PType.{PType}
use Rattle.fl_types.specs.Bits.{between}
use Rattle.fl_types.specs.Integers.{bits_of_type, pattern_of}
use Rattle.fl_patches.specs.Exceptions.{bit_count, bits_of_item, count_with_bits, histogram_of}
use Rattle.fl_patches.proofs.BitCounts.{bit_count_holds, bits_of_item_most, pattern_below, type_most}
use Rattle.fl_patches.proofs.Blocks.{between_append}
use Rattle.fl_patches.proofs.Histograms.{count_append, count_cons, count_with_bits_none, entry_at, histogram_by, length-histogram}

-- a pattern has more bits than a width where it is at least 2 to the width
pub wider_test : (w p : ℕ) → p < 2 ^ 64 → nat_le (2 ^ w) p ≡ nat_lt w (bit_count p)
wider_test w p fits =
    let holds = bit_count_holds p fits in
    elim (cases_lt w (bit_count p)) [
      | inl more ↦ (let high : 2 ^ w ≤ p = holds.1 w more in le-leb (2 ^ w) p high ∙ sym (lt-ltb w (bit_count p) more))
      | inr less ↦
          (let power : 2 ^ bit_count p ≤ 2 ^ w = pow-le-pow_right (lit≤ tt) less in
          let low : p < 2 ^ bit_count p = holds.0 in
          lt-leb (2 ^ w) p (omega arith) ∙ sym (le-ltb w (bit_count p) less))
    ]

-- the pattern of a value fits a word
pub pattern_fits : (t : PType) (z : ℤ) → pattern_of t z < 2 ^ 64
pattern_fits t z =
    let power : 2 ^ bits_of_type t ≤ 2 ^ 64 = pow-le-pow_right (lit≤ tt) (type_most t) in
    let below = pattern_below t z in
    omega arith

-- how many items have more bits than a width
abbrev pub wider : PType → ℕ → List (Option ℤ) → ℕ
wider t width items = count_by (λ item. nat_lt width (bits_of_item t item)) items

-- one item more
pub wider_next : {X : Type 0} (t : PType) (value : X → ℤ) (xs : List X) (width i count one : ℕ) (x : X) (b : Bool) → i < length xs → x ≡ get_or xs i x → b ≡ nat_lt width (bit_count (pattern_of t (value x))) → one ≡ bool_byte b
    → count ≡ wider t width (take i (map (λ z. Some z) (map value xs))) → count + one ≡ wider t width (take (i + 1) (map (λ z. Some z) (map value xs)))
wider_next t value xs width i count one x b h read is so had =
    let items : List (Option ℤ) = map (λ z. Some z) (map value xs) in
    let test : Option ℤ → Bool = λ item. nat_lt width (bits_of_item t item) in
    let long : length items ≡ length xs = length-map (map value xs) (λ z. Some z) ∙ length-map xs value in
    let some : get_or items i None ≡ Some (get_or (map value xs) i (value x)) = get_or-map (λ z. Some z) (map value xs) i (value x) None (omega (arith, length-map xs value)) in
    let same : get_or (map value xs) i (value x) ≡ value x = get_or-map value xs i x (value x) h ∙ ap value (sym read) in
    let tested : test (get_or items i None) ≡ b = ap test (some ∙ ap (λ z. Some z) same) ∙ sym is in
    elim (cases_Bool b) [
      | inl more ↦ (let counted = count_by_more_yes test items i None (omega arith) (tested ∙ more) in let one_is : one ≡ 1 = so ∙ (rw more refl) in omega arith)
      | inr less ↦ (let counted = count_by_more_no test items i None (omega arith) (tested ∙ less) in let one_is : one ≡ 0 = so ∙ (rw less refl) in omega arith)
    ]

-- ---- from width to width
-- how many items have at least so many bits
unfoldable pub at_least : PType → ℕ → List (Option ℤ) → ℕ
at_least t width items = count_by (λ item. nat_le width (bits_of_item t item)) items

at_least_none : (t : PType) (width : ℕ) → at_least t width [] ≡ 0
unfolding at_least
at_least_none t width = refl

at_least_cons : (t : PType) (width : ℕ) (item : Option ℤ) (items : List (Option ℤ)) → at_least t width (item ∷ items) ≡ cond (nat_le width (bits_of_item t item)) 1 0 + at_least t width items
unfolding at_least
at_least_cons t width item items = sum_by-cons (λ (x : Option ℤ). cond (nat_le width (bits_of_item t x)) 1 0) item items

pub wider_is : (t : PType) (width n : ℕ) (items : List (Option ℤ)) → n ≡ wider t width items → n ≡ at_least t (width + 1) items
unfolding at_least
wider_is t width n items e = let next : width + 1 ≡ suc width = omega arith in rw next e

pub at_least_all : (t : PType) (items : List (Option ℤ)) → length items ≡ at_least t 0 items
at_least_all t [] = sym (at_least_none t 0)
at_least_all t (item ∷ items) =
    let more : at_least t 0 (item ∷ items) ≡ 1 + at_least t 0 items = at_least_cons t 0 item items ∙ (rw (le-leb 0 (bits_of_item t item) (omega arith)) refl) in
    let rest = at_least_all t items in
    omega arith

-- an item has as many bits as a width, or more
either : (width bits : ℕ) → cond (bits == width) 1 0 + cond (nat_le (width + 1) bits) 1 0 ≡ cond (nat_le width bits) 1 0
either width bits = elim (cases_eq bits width) [
  | inl same ↦ rw (eq-eqb bits width same, lt-leb (width + 1) bits (omega arith), le-leb width bits (omega arith)) refl
  | inr other ↦ elim (cases_lt bits width) [
    | inl less ↦ rw (ne_eqb bits width other, lt-leb (width + 1) bits (omega arith), lt-leb width bits less) refl
    | inr more ↦ (let above : width + 1 ≤ bits = omega arith in rw (ne_eqb bits width other, le-leb (width + 1) bits above, le-leb width bits more) refl)
  ]
]

pub step_at : (t : PType) (width : ℕ) (items : List (Option ℤ)) → count_with_bits t items width + at_least t (width + 1) items ≡ at_least t width items
step_at t width [] = rw (count_with_bits_none t width, at_least_none t (width + 1), at_least_none t width) refl
step_at t width (item ∷ items) =
    let here = either width (bits_of_item t item) in
    let rest = step_at t width items in
    let one = count_cons t item items width in
    let two = at_least_cons t (width + 1) item items in
    let three = at_least_cons t width item items in
    omega arith

-- no item has more bits than the type
none_above : (t : PType) (items : List (Option ℤ)) → at_least t (bits_of_type t + 1) items ≡ 0
none_above t [] = at_least_none t (bits_of_type t + 1)
none_above t (item ∷ items) =
    let most = bits_of_item_most t item in
    at_least_cons t (bits_of_type t + 1) item items ∙ (rw (lt-leb (bits_of_type t + 1) (bits_of_item t item) (omega arith), none_above t items) refl)

pub at_last : (t : PType) (items : List (Option ℤ)) → at_least t (bits_of_type t) items ≡ count_with_bits t items (bits_of_type t)
at_last t items = let step = step_at t (bits_of_type t) items in let none = none_above t items in omega arith

at_least_few : (t : PType) (width : ℕ) (items : List (Option ℤ)) → at_least t width items ≤ length items
unfolding at_least
at_least_few t width items = count_by-le-length (λ item. nat_le width (bits_of_item t item)) items

-- ---- the entries
-- the entries below a width have been counted on, the others are as they were
pub record Counted (t : PType) (old : List ℕ) (group : List (Option ℤ)) (width : ℕ) (entries : List ℕ) : Type 0 where
  pub long : length entries ≡ bits_of_type t + 1
  pub done : (b : ℕ) → b < width → get_or entries b 0 ≡ get_or old b 0 + count_with_bits t group b
  pub left : (b : ℕ) → width ≤ b → get_or entries b 0 ≡ get_or old b 0

pub counted_none : (t : PType) (old : List ℕ) (group : List (Option ℤ)) → length old ≡ bits_of_type t + 1 → Counted t old group 0 old
counted_none t old group long = record { long = long; done = λ b h. absurd (omega arith); left = λ b h. refl }

-- one entry more
pub counted_more : (t : PType) (old : List ℕ) (group : List (Option ℤ)) (width had more : ℕ) (entries : List ℕ) → width ≤ bits_of_type t → more ≡ count_with_bits t group width → had ≡ get_or entries width 0 → Counted t old group width entries → Counted t old group (width + 1) (set entries width (had + more))
counted_more t old group width had more entries room is was so = record {
  long = length-set entries width (had + more) ∙ so.long;
  done = λ b h. elim (cases_eq b width) [
    | inl same ↦ rw same (get_or-set_same entries width (had + more) 0 (omega (arith, so.long)) ∙ (rw (was, is, so.left width (omega arith)) refl))
    | inr other ↦ get_or-set_other entries width b (had + more) 0 other ∙ so.done b (omega arith)
  ];
  left = λ b h. get_or-set_other entries width b (had + more) 0 (λ e. absurd (omega arith)) ∙ so.left b (omega arith);
}

-- all entries, where the items from a start on are counted, and as many more as the next items
pub counted_part : (t : PType) (items : List (Option ℤ)) (start from to : ℕ) (more : ℕ → ℕ) (old entries : List ℕ) → start ≤ from → from ≤ to → length entries ≡ length old → old ≡ histogram_of t (between start from items)
    → ((b : ℕ) → more b ≡ count_with_bits t (between from to items) b) → ((b : ℕ) → b < length old → get_or entries b 0 ≡ get_or old b 0 + more b) → entries ≡ histogram_of t (between start to items)
counted_part t items start from to more old entries order order' even is same so =
    let long : length old ≡ bits_of_type t + 1 = ap length is ∙ length-histogram t (between start from items) in
    histogram_by t (between start to items) entries (even ∙ long) (λ b h.
    let before = ap (λ xs. get_or xs b 0) is ∙ entry_at t (between start from items) b h in
    let all : count_with_bits t (between start to items) b ≡ count_with_bits t (between start from items) b + count_with_bits t (between from to items) b = ap (λ xs. count_with_bits t xs b) (between_append items start from to order order') ∙ count_append t (between start from items) (between from to items) b in
    let here = so b (omega arith) in
    let as_many = same b in
    let sum : get_or entries b 0 ≡ count_with_bits t (between start to items) b = omega arith in
    sum)

-- ---- a group of values
pub group_items : {X : Type 0} (value : X → ℤ) (xs : List X) (from to : ℕ) → between from to (map (λ z. Some z) (map value xs)) ≡ map (λ z. Some z) (map value (take (to - from) (drop from xs)))
group_items value xs from to = rw (drop-map, drop-map, take-map, take-map) refl

pub group_length : {X : Type 0} (value : X → ℤ) (xs : List X) → length (map (λ z. Some z) (map value xs)) ≡ length xs
group_length value xs = length-map (map value xs) (λ z. Some z) ∙ length-map xs value

-- no more are left than there are
pub left_in_group : {X : Type 0} (t : PType) (value : X → ℤ) (xs : List X) (width rest : ℕ) → rest ≡ at_least t width (map (λ z. Some z) (map value xs)) → rest ≤ length xs
left_in_group t value xs width rest is =
    let few = at_least_few t width (map (λ z. Some z) (map value xs)) in
    let long = group_length value xs in
    omega arith
