-- Exceptions that are gathered by the set bits of a word.
use Rattle.std.proofs.Common.{◌≡◌, ◌≢◌, ℕ, ℤ, pos, zero, suc, ◌+◌, ◌-◌, ◌*◌, ◌<◌, ◌≤◌, ◌^◌, ◌%◌, ◌==◌, ◌&&◌, ◌⊎◌, Bool, true, false, cond, IsTrue, List, [], ◌∷◌, ◌++◌, length, map, take, drop, get_or, min, nat_lt, Option, Some, None, bit_and, refl, ap, sym, subst, ◌∙◌, arith, inl, inr, lit≤}
use Rattle.std.specs.Int.{bit_at, trailing_zeros, w64}
use lib.Count.{count_trailing_zeros}
use Rattle.std.proofs.lemmas.Bool.{cases_eq, cases_lt, le-ltb, lt-ltb, true≢false}
use Rattle.std.proofs.lemmas.List.{append_assoc, get_or-take, get_or-drop, length-append, length-take, length-drop, length-map, get_or-map, take-map, drop-map, take_more}
use Rattle.std.proofs.lemmas.Nat.{and_le_l, pow_pos}
use Rattle.std.proofs.lemmas.Nat.Bits.{bit_at-trailing_zeros, bit_at-zero, bit_at_and, bit_at-lt}
use Rattle.std.proofs.Math.Nat.{pow-le-pow_right, pow-suc}
use Rattle.fl_types.specs.declared.dtype.PType.{PType}
use Rattle.fl_types.specs.declared.validity.Validity.{Validity}
use Rattle.fl_types.specs.declared.validity.Validity.TheVariants as valid
use Rattle.fl_types.specs.Bits.{between, bit_of_word}
use Rattle.fl_types.specs.Integers.{pattern_of}
use Rattle.fl_types.specs.Validities.{covers, is_valid_at, items_of}
use Rattle.fl_types.proofs.KeptLaws.{lowest_cleared, others_left}
use Rattle.fl_column.proofs.ItemLaws.{get_or-items_of}
use Rattle.fl_patches.specs.Exceptions.{bit_count, exception}
use Rattle.fl_patches.specs.PatchParts.{AreGathered}
use Rattle.fl_patches.proofs.BitCounts.{bit_count_holds, bit_count_most}
use Rattle.fl_patches.proofs.Blocks.{take_between}
use Rattle.fl_patches.proofs.Gathers.{covered_values, exception_null, gathered_nothing}

-- ---- the greatest pattern of a width
width_test : (w p most : ℕ) → w ≤ 64 → most + 1 ≡ 2 ^ w → p < 2 ^ 64 → nat_lt most p ≡ nat_lt w (bit_count p)
width_test w p most few is fits =
    let holds = bit_count_holds p fits in
    elim (cases_lt w (bit_count p)) [
      | inl more ↦ (let high : 2 ^ w ≤ p = holds.1 w more in lt-ltb most p (omega arith) ∙ sym (lt-ltb w (bit_count p) more))
      | inr less ↦
          (let power : 2 ^ bit_count p ≤ 2 ^ w = pow-le-pow_right (lit≤ tt) less in
          let low : p < 2 ^ bit_count p = holds.0 in
          le-ltb most p (omega arith) ∙ sym (le-ltb w (bit_count p) less))
    ]

pub narrow_test : (w p : ℕ) → w < 64 → p < 2 ^ 64 → nat_lt (1 * 2 ^ w % 18446744073709551616 - 1) p ≡ nat_lt w (bit_count p)
narrow_test w p few fits =
    let next : suc w ≤ 64 = omega arith in
    let power : 2 ^ suc w ≤ 2 ^ 64 = pow-le-pow_right (lit≤ tt) next in
    let double : 2 ^ suc w ≡ 2 ^ w * 2 = pow-suc 2 w in
    let some : 0 < 2 ^ w = pow_pos w in
    let whole : 1 * 2 ^ w % 18446744073709551616 ≡ 2 ^ w = omega arith in
    width_test w p (1 * 2 ^ w % 18446744073709551616 - 1) (omega arith) (omega arith) fits

-- every pattern fits 64 bits
pub wide_test : (w p : ℕ) → 64 ≤ w → p < 2 ^ 64 → nat_lt 18446744073709551615 p ≡ nat_lt w (bit_count p)
wide_test w p many fits =
    let most : bit_count p ≤ 64 = bit_count_most p 64 (lit≤ tt) fits in
    le-ltb 18446744073709551615 p (omega arith) ∙ sym (le-ltb w (bit_count p) (omega arith))

-- ---- bits
min_bits : (a b : ℕ) → a < 2 → b < 2 → (min a b == 1) ≡ ((a == 1) && (b == 1))
min_bits zero b h k = let none : min 0 b ≡ 0 = omega arith in rw none refl
min_bits (suc zero) b h k = let same : min 1 b ≡ b = omega arith in rw same refl
min_bits (suc (suc a)) b h k = absurd (omega arith)

-- the bits that both words have
pub both_have : (a b j : ℕ) → bit_of_word (bit_and a b) j ≡ (bit_of_word a j && bit_of_word b j)
unfolding bit_of_word
both_have a b j = ap (λ n. n == 1) (bit_at_and a b j) ∙ min_bits (bit_at a j) (bit_at b j) (bit_at-lt a j) (bit_at-lt b j)

-- below its lowest set bit a word has none
pub below_lowest : (n j : ℕ) → n < 2 ^ 64 → j < trailing_zeros w64 n → bit_of_word n j ≡ false
unfolding bit_of_word
below_lowest n j fits h = elim (cases_eq n 0) [
  | inl none ↦ rw none (ap (λ m. m == 1) (bit_at-zero j))
  | inr some ↦ ap (λ m. m == 1) ((bit_at-trailing_zeros w64 n (omega arith) fits).2 j h)
]

pub lowest_set : (n : ℕ) → 0 < n → n < 2 ^ 64 → bit_of_word n (trailing_zeros w64 n) ≡ true
unfolding bit_of_word
lowest_set n some fits = ap (λ m. m == 1) (bit_at-trailing_zeros w64 n some fits).1

-- the other bits are left
pub left_bits : (n j : ℕ) → 0 < n → n < 2 ^ 64 → j ≢ trailing_zeros w64 n → bit_of_word (bit_and n (n - 1)) j ≡ bit_of_word n j
unfolding bit_of_word
left_bits n j some fits other =
    let lowest = bit_at-trailing_zeros w64 n some fits in
    ap (λ m. m == 1) (others_left n (trailing_zeros w64 n) j lowest.1 lowest.2 other)

-- a word without bits
pub none_lowest : trailing_zeros w64 0 ≡ 64
unfolding count_trailing_zeros
none_lowest = refl

pub next_fits : (n : ℕ) → n < 2 ^ 64 → bit_and n (n - 1) < 2 ^ 64
next_fits n fits = omega (arith, and_le_l n (n - 1))

-- the next set bit is behind the one that is cleared
pub next_lowest : (n : ℕ) → 0 < n → n < 2 ^ 64 → trailing_zeros w64 n + 1 ≤ trailing_zeros w64 (bit_and n (n - 1))
next_lowest n some fits =
    let t = trailing_zeros w64 n in
    let next = bit_and n (n - 1) in
    let next_fits : next < 2 ^ 64 = omega (arith, and_le_l n (n - 1)) in
    let lowest = bit_at-trailing_zeros w64 n some fits in
    let early = lowest.0 in
    elim (cases_eq next 0) [
      | inl none ↦ rw (none, none_lowest) (omega arith)
      | inr more ↦
          (let there = bit_at-trailing_zeros w64 next (omega arith) next_fits in
          let set : bit_at next (trailing_zeros w64 next) ≡ 1 = there.1 in
          elim (cases_lt t (trailing_zeros w64 next)) [
            | inl behind ↦ omega arith
            | inr before ↦ elim (cases_eq (trailing_zeros w64 next) t) [
              | inl same ↦ (let cleared : bit_at next (trailing_zeros w64 next) ≡ 0 = rw same (lowest_cleared n t lowest.1 lowest.2) in absurd (omega arith))
              | inr other ↦ (let kept : bit_at next (trailing_zeros w64 next) ≡ 0 = others_left n t (trailing_zeros w64 next) lowest.1 lowest.2 other ∙ lowest.2 (trailing_zeros w64 next) (omega arith) in absurd (omega arith))
            ]
          ])
    ]

-- ---- what is gathered
gathered_is : (places : List ℕ) (values : List ℤ) (xs ys : List (Option ℤ)) → xs ≡ ys → AreGathered places values xs → AreGathered places values ys
gathered_is places values xs ys e so = subst (λ zs. AreGathered places values zs) e so

-- nothing stands before the first mark
pub marked_first : (places : List ℕ) (values : List ℤ) (before part : List (Option ℤ)) (t : ℕ) → ((j : ℕ) → j < t → j < length part → get_or part j None ≡ None) → AreGathered places values before → AreGathered places values (before ++ take t part)
marked_first places values before part t none so =
    let taken = length-take t part in
    gathered_nothing places values before (take t part) (λ j h. get_or-take t part j None (omega arith) ∙ none j (omega arith) (omega arith)) so

-- the exception at a mark, and nothing up to the next one
pub marked_next : (places places' : List ℕ) (values values' : List ℤ) (before part : List (Option ℤ)) (place t next : ℕ) (z : ℤ) → length before + t ≡ place → t < length part → get_or part t None ≡ Some z → t + 1 ≤ next
    → ((j : ℕ) → t < j → j < next → j < length part → get_or part j None ≡ None)
    → ((had : List (Option ℤ)) → length had ≡ place → AreGathered places values had → AreGathered places' values' (had ++ Some z ∷ []))
    → AreGathered places values (before ++ take t part) → AreGathered places' values' (before ++ take next part)
marked_next places places' values values' before part place t next z at within here order none step so =
    let taken = length-take t part in
    let long : length (before ++ take t part) ≡ place = omega (arith, length-append before (take t part)) in
    let more : (before ++ take t part) ++ Some z ∷ [] ≡ before ++ take (t + 1) part = append_assoc before (take t part) (Some z ∷ []) ∙ ap (λ ys. before ++ ys) (ap (λ o. take t part ++ o ∷ []) (sym here) ∙ sym (take_more part t None within)) in
    let pushed : AreGathered places' values' (before ++ take (t + 1) part) = gathered_is places' values' _ _ more (step (before ++ take t part) long so) in
    let rest = between (t + 1) next part in
    let rest_long = length-take (next - (t + 1)) (drop (t + 1) part) in
    let dropped = length-drop (t + 1) part in
    let whole : (before ++ take (t + 1) part) ++ rest ≡ before ++ take next part = append_assoc before (take (t + 1) part) rest ∙ ap (λ ys. before ++ ys) (sym (take_between part (t + 1) next order)) in
    gathered_is places' values' _ _ whole (gathered_nothing places' values' (before ++ take (t + 1) part) rest
    (λ j h. get_or-take (next - (t + 1)) (drop (t + 1) part) j None (omega arith) ∙ (get_or-drop (t + 1) part j None ∙ none (t + 1 + j) (omega arith) (omega arith) (omega arith))) pushed)

-- ---- what is marked
cond_and : (b : Bool) (z : ℤ) → cond b (Some z) None ≡ cond (b && true) (Some z) None
cond_and true z = refl
cond_and false z = refl

cond_none : (b : Bool) (z : ℤ) → None ≡ cond (b && false) (Some z) None
cond_none true z = refl
cond_none false z = refl

marked_case : (t : PType) (w : ℕ) (z : ℤ) (here : Bool) → exception t w (cond here (Some z) None) ≡ cond (nat_lt w (bit_count (pattern_of t z)) && here) (Some z) None
marked_case t w z true = cond_and (nat_lt w (bit_count (pattern_of t z))) z
marked_case t w z false = exception_null t w None refl ∙ cond_none (nat_lt w (bit_count (pattern_of t z))) z

read_slot : {X : Type 0} (value : X → ℤ) (xs : List X) (start n i : ℕ) → i < n → get_or (map value (take n (drop start xs))) i (pos 0) ≡ get_or (map value xs) (start + i) (pos 0)
read_slot value xs start n i h =
    rw (← take-map, ← drop-map) (get_or-take n (drop start (map value xs)) i (pos 0) h ∙ get_or-drop start (map value xs) i (pos 0))

-- an exception is what is marked
pub marked_item : {X : Type 0} (t : PType) (value : X → ℤ) (v : Validity) (xs : List X) (start end w j : ℕ) (mark : Bool) → IsTrue (covers v (length xs)) → end ≤ length xs → j < end - start
    → mark ≡ (nat_lt w (bit_count (pattern_of t (get_or (map value (take (end - start) (drop start xs))) j (pos 0)))) && is_valid_at v (start + j))
    → get_or (map (exception t w) (between start end (items_of v (map value xs)))) j None ≡ cond mark (Some (get_or (map value xs) (start + j) (pos 0))) None
marked_item {X} t value v xs start end w j mark covered range h is =
    let items : List (Option ℤ) = items_of v (map value xs) in
    let count : length items ≡ length xs = covered_values value v xs covered in
    let all = length-map xs value in
    let place : start + j < length xs = omega arith in
    let z = get_or (map value xs) (start + j) (pos 0) in
    let rest = length-drop start items in
    let part = length-take (end - start) (drop start items) in
    let slots = length-drop start xs in
    let part_slots = length-take (end - start) (drop start xs) in
    let read : get_or (map value (take (end - start) (drop start xs))) j (pos 0) ≡ z = read_slot value xs start (end - start) j h in
    let item : get_or (between start end items) j None ≡ cond (is_valid_at v (start + j)) (Some z) None = get_or-take (end - start) (drop start items) j None h ∙ (get_or-drop start items j None ∙ get_or-items_of v (map value xs) (start + j) (pos 0) (rw all covered) (rw all place)) in
    get_or-map (exception t w) (between start end items) j None None (omega arith)
    ∙ (ap (exception t w) item ∙ (marked_case t w z (is_valid_at v (start + j)) ∙ ap (λ b. cond b (Some z) None) (ap (λ y. nat_lt w (bit_count (pattern_of t y)) && is_valid_at v (start + j)) (sym read) ∙ sym is)))

-- every item is valid under these validities
pub full_valid : (v : Validity) (i : ℕ) → (v ≡ valid.NonNullable) ⊎ (v ≡ valid.AllValid) → is_valid_at v i ≡ true
full_valid v i (inl e) = rw e refl
full_valid v i (inr e) = rw e refl

and_valid : (b here : Bool) → here ≡ true → b ≡ (b && here)
and_valid true here e = rw e refl
and_valid false here e = refl

pub and_full : (b c here : Bool) → b ≡ c → here ≡ true → b ≡ (c && here)
and_full b c here e f = e ∙ and_valid c here f

-- no mark stands behind the items
pub mark_inside : (marks n j : ℕ) → ((i : ℕ) → n ≤ i → bit_of_word marks i ≡ false) → bit_of_word marks j ≡ true → j < n
mark_inside marks n j none set = elim (cases_lt j n) [
  | inl within ↦ within
  | inr over ↦ absurd (true≢false (sym set ∙ none j over))
]

-- the exceptions of a group are pushed by their marks
pub group_pushed : {X : Type 0} (t : PType) (value : X → ℤ) (v : Validity) (xs : List X) (start end w marks : ℕ) (places places' : List ℕ) (values values' : List ℤ) → IsTrue (covers v (length xs)) → start ≤ end → end ≤ length xs → end ≤ start + 64
    → ((j : ℕ) → j < end - start → bit_of_word marks j ≡ (nat_lt w (bit_count (pattern_of t (get_or (map value (take (end - start) (drop start xs))) j (pos 0)))) && is_valid_at v (start + j)))
    → ((j : ℕ) → end - start ≤ j → bit_of_word marks j ≡ false)
    → ((before part : List (Option ℤ)) → length before ≡ start → length part ≤ 64 → ((j : ℕ) → bit_of_word marks j ≡ true → j < length part) → ((j : ℕ) → j < length part → get_or part j None ≡ cond (bit_of_word marks j) (Some (get_or (map value xs) (start + j) (pos 0))) None)
    → AreGathered places values before → AreGathered places' values' (before ++ part))
    → (before : List (Option ℤ)) → length before ≡ start → AreGathered places values before → AreGathered places' values' (before ++ map (exception t w) (between start end (items_of v (map value xs))))
group_pushed {X} t value v xs start end w marks places places' values values' covered order range few marked none step before len so =
    let items : List (Option ℤ) = items_of v (map value xs) in
    let count : length items ≡ length xs = covered_values value v xs covered in
    let rest = length-drop start items in
    let taken = length-take (end - start) (drop start items) in
    let size : length (map (exception t w) (between start end items)) ≡ end - start = omega (arith, length-map (between start end items) (exception t w)) in
    step before (map (exception t w) (between start end items)) len (omega arith)
    (λ j set. let within : j < end - start = mark_inside marks (end - start) j none set in omega arith)
    (λ j h. marked_item t value v xs start end w j (bit_of_word marks j) covered range (omega arith) (marked j (omega arith))) so
