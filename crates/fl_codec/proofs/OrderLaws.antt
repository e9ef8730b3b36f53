-- The least item of an order, found by the natural order of what is turned.
use Rattle.std.proofs.Common.{◌≡◌, ℕ, ℤ, pos, negsuc, suc, ◌+◌, ◌-◌, ◌*◌, ◌%◌, ◌^◌, ◌<◌, ◌+ℤ◌, ◌-ℤ◌, ◌&&◌, Bool, true, false, cond, nat_lt, List, [], ◌∷◌, map, Option, Some, None, option_map, refl, ap, sym, subst, ◌∙◌, arith, int_le, find, inl, inr}
use Rattle.std.specs.List.{list_all}
use Rattle.std.specs.Int.{int_rem_euclid}
use Rattle.std.proofs.Math.Nat.{add-mul-mod_self_right, mod-eq_of_lt}
use Rattle.std.proofs.lemmas.Bool.{cases_lt, le-ltb, lt-ltb}
use Rattle.std.proofs.lemmas.Int.{ints}
use Rattle.fl_types.specs.declared.dtype.PType.{PType}
use Rattle.fl_types.specs.declared.dtype.PType.TheVariants.{U8, U16, U32, U64, I8, I16, I32, I64}
use Rattle.fl_types.specs.declared.validity.Validity.{Validity}
use Rattle.fl_types.specs.declared.validity.Validity.TheVariants as valid
use Rattle.fl_types.specs.Bits.{between}
use Rattle.fl_types.specs.Integers.{bits_of_type, fits, pattern_of, read_as, wrap}
use Rattle.fl_types.specs.Validities.{items_of, masked}
use Rattle.fl_types.proofs.Patterns.{read_pattern}
use Rattle.fl_column.proofs.ListLaws.{all_part, and_first, and_second, and_true}
use Rattle.fl_codec.specs.FoRColumns.{least_by, least_valid, origin_of, reading, turned, valid_items}
use Rattle.fl_codec.specs.declared.for_.ItemOrder.{ItemOrder}
use Rattle.fl_codec.specs.declared.for_.ItemOrder.TheVariants.{Natural, Signed}
use Rattle.fl_codec.proofs.Congruence.{pattern_is, pattern_small, read_as-IsPattern, remainder-IsPattern}
use Rattle.fl_codec.proofs.FoRRoundTrips.{fitting, wrap-wrap_left}

-- ---- lists that are mapped
valid_of_map : (f : ℤ → ℤ) (xs : List (Option ℤ)) → valid_items (map (option_map f) xs) ≡ map f (valid_items xs)
valid_of_map f [] = refl
valid_of_map f (None ∷ xs) = valid_of_map f xs
valid_of_map f (Some z ∷ xs) = ap (λ ys. f z ∷ ys) (valid_of_map f xs)

all_of_map : (p : ℤ → Bool) (f : ℤ → ℤ) (zs : List ℤ) → list_all p (map f zs) ≡ list_all (λ z. p (f z)) zs
all_of_map p f [] = refl
all_of_map p f (z ∷ zs) = ap (λ b. p (f z) && b) (all_of_map p f zs)

find_next : (p : ℤ → Bool) (z : ℤ) (zs : List ℤ) (b : Bool) → p z ≡ b → find p (z ∷ zs) ≡ cond b (Some z) (find p zs)
find_next p z zs true e = rw e refl
find_next p z zs false e = rw e refl

mapped_choice : (f : ℤ → ℤ) (b : Bool) (z : ℤ) (x : Option ℤ) → cond b (Some (f z)) (option_map f x) ≡ option_map f (cond b (Some z) x)
mapped_choice f true z x = refl
mapped_choice f false z x = refl

find_of_map : (p : ℤ → Bool) (f : ℤ → ℤ) (zs : List ℤ) → find p (map f zs) ≡ option_map f (find (λ z. p (f z)) zs)
find_of_map p f [] = refl
find_of_map p f (z ∷ zs) =
    find_next p (f z) (map f zs) (p (f z)) refl ∙ (ap (cond (p (f z)) (Some (f z))) (find_of_map p f zs)
    ∙ (mapped_choice f (p (f z)) z (find (λ y. p (f y)) zs) ∙ ap (option_map f) (sym (find_next (λ y. p (f y)) z zs (p (f z)) refl))))

-- ---- lists of integers that have a property
-- tests that agree there hold of all or not
all_agree : (ok p q : ℤ → Bool) (zs : List ℤ) → list_all ok zs ≡ true → ((z : ℤ) → ok z ≡ true → p z ≡ q z) → list_all p zs ≡ list_all q zs
all_agree ok p q [] all same = refl
all_agree ok p q (z ∷ zs) all same =
    let here = same z (and_first (ok z) (list_all ok zs) all) in
    let behind = all_agree ok p q zs (and_second (ok z) (list_all ok zs) all) same in
    rw (here, behind) refl

-- and find the same
find_agree : (ok p q : ℤ → Bool) (zs : List ℤ) → list_all ok zs ≡ true → ((z : ℤ) → ok z ≡ true → p z ≡ q z) → find p zs ≡ find q zs
find_agree ok p q [] all same = refl
find_agree ok p q (z ∷ zs) all same =
    let here = same z (and_first (ok z) (list_all ok zs) all) in
    let behind = find_agree ok p q zs (and_second (ok z) (list_all ok zs) all) same in
    find_next p z zs (p z) refl ∙ (rw (here, behind) refl ∙ sym (find_next q z zs (q z) refl))

-- what is found is left by a map that leaves them
kept_choice : (g : ℤ → ℤ) (b : Bool) (z : ℤ) (x : Option ℤ) → g z ≡ z → option_map g x ≡ x → option_map g (cond b (Some z) x) ≡ cond b (Some z) x
kept_choice g true z x here behind = ap (λ y. Some y) here
kept_choice g false z x here behind = behind

find_kept : (ok p : ℤ → Bool) (g : ℤ → ℤ) (zs : List ℤ) → list_all ok zs ≡ true → ((z : ℤ) → ok z ≡ true → g z ≡ z) → option_map g (find p zs) ≡ find p zs
find_kept ok p g [] all same = refl
find_kept ok p g (z ∷ zs) all same =
    let step = find_next p z zs (p z) refl in
    ap (option_map g) step ∙ (kept_choice g (p z) z (find p zs) (same z (and_first (ok z) (list_all ok zs) all)) (find_kept ok p g zs (and_second (ok z) (list_all ok zs) all) same) ∙ sym step)

map_twice : (f : ℤ → ℤ) (x : Option ℤ) → option_map f (option_map f x) ≡ option_map (λ z. f (f z)) x
map_twice f None = refl
map_twice f (Some z) = refl

-- the least of what is turned, turned back, is the least of the order
least_turned : (ok : ℤ → Bool) (f read : ℤ → ℤ) (items : List (Option ℤ)) → list_all ok (valid_items items) ≡ true → ((z x : ℤ) → ok z ≡ true → ok x ≡ true → int_le (f z) (f x) ≡ int_le (read z) (read x)) → ((z : ℤ) → ok z ≡ true → f (f z) ≡ z)
    → option_map f (least_valid (map (option_map f) items)) ≡ least_by read items
least_turned ok f read items all order back =
    let zs = valid_items items in
    let p : ℤ → ℤ → Bool = λ z x. int_le (f z) (f x) in
    let q : ℤ → Bool = λ z. list_all (λ x. int_le (read z) (read x)) zs in
    let over : least_valid (map (option_map f) items) ≡ find (λ z. list_all (int_le z) (map f zs)) (map f zs) = ap (λ ys. find (λ z. list_all (int_le z) ys) ys) (valid_of_map f items) in
    let same : find (λ z. list_all (int_le (f z)) (map f zs)) zs ≡ find q zs =
    find_agree ok (λ z. list_all (int_le (f z)) (map f zs)) q zs all
    (λ z here. all_of_map (int_le (f z)) f zs ∙ all_agree ok (p z) (λ x. int_le (read z) (read x)) zs all (λ x there. order z x here there)) in
    ap (option_map f) (over ∙ (find_of_map (λ z. list_all (int_le z) (map f zs)) f zs ∙ ap (option_map f) same))
    ∙ (map_twice f (find q zs) ∙ find_kept ok q (λ z. f (f z)) zs all back)

-- ---- items that have a property
item_ok : (ℤ → Bool) → Option ℤ → Bool
item_ok ok None = true
item_ok ok (Some z) = ok z

all_somes : (ok : ℤ → Bool) (zs : List ℤ) → list_all ok zs ≡ true → list_all (item_ok ok) (map (λ z. Some z) zs) ≡ true
unfolding item_ok
all_somes ok [] all = refl
all_somes ok (z ∷ zs) all = and_true (ok z) (list_all (item_ok ok) (map (λ y. Some y) zs)) (and_first (ok z) (list_all ok zs) all) (all_somes ok zs (and_second (ok z) (list_all ok zs) all))

all_nones : (ok : ℤ → Bool) (zs : List ℤ) → list_all (item_ok ok) (items_of valid.AllInvalid zs) ≡ true
unfolding item_ok
all_nones ok [] = refl
all_nones ok (z ∷ zs) = all_nones ok zs

all_masked : (ok : ℤ → Bool) (bits : List Bool) (zs : List ℤ) → list_all ok zs ≡ true → list_all (item_ok ok) (masked bits zs) ≡ true
unfolding item_ok
all_masked ok [] zs all = refl
all_masked ok (b ∷ bits) [] all = refl
all_masked ok (true ∷ bits) (z ∷ zs) all = and_true (ok z) (list_all (item_ok ok) (masked bits zs)) (and_first (ok z) (list_all ok zs) all) (all_masked ok bits zs (and_second (ok z) (list_all ok zs) all))
all_masked ok (false ∷ bits) (z ∷ zs) all = all_masked ok bits zs (and_second (ok z) (list_all ok zs) all)

all_items : (ok : ℤ → Bool) (v : Validity) (zs : List ℤ) → list_all ok zs ≡ true → list_all (item_ok ok) (items_of v zs) ≡ true
all_items ok valid.NonNullable zs all = all_somes ok zs all
all_items ok valid.AllValid zs all = all_somes ok zs all
all_items ok valid.AllInvalid zs all = all_nones ok zs
all_items ok (valid.Array bits) zs all = all_masked ok bits zs all

all_valid_ok : (ok : ℤ → Bool) (xs : List (Option ℤ)) → list_all (item_ok ok) xs ≡ true → list_all ok (valid_items xs) ≡ true
unfolding item_ok
all_valid_ok ok [] all = refl
all_valid_ok ok (None ∷ xs) all = all_valid_ok ok xs all
all_valid_ok ok (Some z ∷ xs) all = and_true (ok z) (list_all ok (valid_items xs)) (and_first (ok z) (list_all (item_ok ok) xs) all) (all_valid_ok ok xs (and_second (ok z) (list_all (item_ok ok) xs) all))

-- ---- integers that are turned
no_origin : (z : ℤ) → z -ℤ pos 0 ≡ z
no_origin z = omega (arith, ints)

unturned : (ptype : PType) (z : ℤ) → fits ptype z ≡ true → turned ptype (pos 0) z ≡ z
unturned ptype z fit = ap (wrap ptype) (no_origin z) ∙ fitting ptype z fit

unturned_twice : (ptype : PType) (z : ℤ) → fits ptype z ≡ true → turned ptype (pos 0) (turned ptype (pos 0) z) ≡ z
unturned_twice ptype z fit = ap (turned ptype (pos 0)) (unturned ptype z fit) ∙ unturned ptype z fit

unturned_order : (ptype : PType) (z x : ℤ) → fits ptype z ≡ true → fits ptype x ≡ true → int_le (turned ptype (pos 0) z) (turned ptype (pos 0) x) ≡ int_le z x
unturned_order ptype z x here there = rw (unturned ptype z here, unturned ptype x there) refl

as_sum : (z h : ℤ) → z -ℤ h ≡ z +ℤ (pos 0 -ℤ h)
as_sum z h = omega (arith, ints)

round : (z : ℤ) (h n k j p : ℕ) → h + h ≡ n → z +ℤ pos (k * n) ≡ pos (p + j * n) → z -ℤ pos h +ℤ (pos 0 -ℤ pos h) +ℤ pos ((k + 1) * n) ≡ pos (p + j * n)
round z h n k j p e is = let more : (k + 1) * n ≡ k * n + n = grind arith in omega (arith, ints)

-- the half of all integers of a type, subtracted twice
half_twice : (ptype : PType) (h : ℕ) (z : ℤ) → h + h ≡ 2 ^ bits_of_type ptype → fits ptype z ≡ true → turned ptype (pos h) (turned ptype (pos h) z) ≡ z
half_twice ptype h z e fit =
    let n : ℕ = 2 ^ bits_of_type ptype in
    let is = pattern_is ptype z in
    let p = pattern_of ptype z in
    let twice : wrap ptype (z -ℤ pos h +ℤ (pos 0 -ℤ pos h)) ≡ read_as ptype p = sym (read_as-IsPattern ptype (z -ℤ pos h +ℤ (pos 0 -ℤ pos h)) p (is.0 + 1, (is.1.0, round z h n is.0 is.1.0 p e is.1.1))) in
    ap (wrap ptype) (as_sum (turned ptype (pos h) z) (pos h)) ∙ (wrap-wrap_left ptype (z -ℤ pos h) (pos 0 -ℤ pos h) ∙ (twice ∙ read_pattern ptype z (fit)))

-- ---- the order of signed readings
-- the signed reading of a number, and half of all integers
shifted_by : (h n m : ℕ) → h + h ≡ m → n < m → int_rem_euclid (pos n -ℤ pos h) (pos m) ≡ cond (nat_lt (n % m) h) (pos (n % m)) (negsuc (m - suc (n % m))) +ℤ pos h
shifted_by h n m e small =
    let own : n % m ≡ n = mod-eq_of_lt small in
    let is : pos n -ℤ pos h +ℤ pos (1 * m) ≡ pos (n + h + 0 * m) = omega (arith, ints) in
    let left : int_rem_euclid (pos n -ℤ pos h) (pos m) ≡ pos ((n + h) % m) = remainder-IsPattern m (pos n -ℤ pos h) (n + h) (omega arith) (1, (0, is)) in
    left ∙ rw own (elim (cases_lt n h) [
      | inl low ↦
          let kept : (n + h) % m ≡ n + h = mod-eq_of_lt (omega arith) in
          rw (kept, lt-ltb n h low) refl
      | inr high ↦
          let once : n + h ≡ n - h + 1 * m = omega arith in
          let kept : (n + h) % m ≡ n - h = ap (λ k. k % m) once ∙ (add-mul-mod_self_right (n - h) 1 m ∙ mod-eq_of_lt (omega arith)) in
          let test : nat_lt n h ≡ false = le-ltb n h high in
          let sum : negsuc (m - suc n) +ℤ pos h ≡ pos (n - h) = omega (arith, ints) in
          rw (kept, test) (sym sum)
    ])

shift_order : (z x h : ℤ) → int_le (z +ℤ h) (x +ℤ h) ≡ int_le z x
shift_order z x h = grind (arith, ints)

-- an integer of an unsigned type is its pattern
number : (ptype : PType) (z : ℤ) → (read_as ptype (pattern_of ptype z) ≡ pos (pattern_of ptype z % 2 ^ bits_of_type ptype)) → fits ptype z ≡ true → pos (pattern_of ptype z) ≡ z
number ptype z is fit = ap pos (sym (mod-eq_of_lt (pattern_small ptype z))) ∙ (sym is ∙ read_pattern ptype z fit)

shifted_8 : (z : ℤ) → fits U8 z ≡ true → turned U8 (pos (2 ^ 7)) z ≡ wrap I8 z +ℤ pos (2 ^ 7)
shifted_8 z fit = subst (λ (y : ℤ). turned U8 (pos (2 ^ 7)) y ≡ wrap I8 y +ℤ pos (2 ^ 7)) (number U8 z refl fit) (shifted_by (2 ^ 7) (pattern_of U8 z) (2 ^ 8) refl (pattern_small U8 z))

shifted_16 : (z : ℤ) → fits U16 z ≡ true → turned U16 (pos (2 ^ 15)) z ≡ wrap I16 z +ℤ pos (2 ^ 15)
shifted_16 z fit = subst (λ (y : ℤ). turned U16 (pos (2 ^ 15)) y ≡ wrap I16 y +ℤ pos (2 ^ 15)) (number U16 z refl fit) (shifted_by (2 ^ 15) (pattern_of U16 z) (2 ^ 16) refl (pattern_small U16 z))

shifted_32 : (z : ℤ) → fits U32 z ≡ true → turned U32 (pos (2 ^ 31)) z ≡ wrap I32 z +ℤ pos (2 ^ 31)
shifted_32 z fit = subst (λ (y : ℤ). turned U32 (pos (2 ^ 31)) y ≡ wrap I32 y +ℤ pos (2 ^ 31)) (number U32 z refl fit) (shifted_by (2 ^ 31) (pattern_of U32 z) (2 ^ 32) refl (pattern_small U32 z))

shifted_64 : (z : ℤ) → fits U64 z ≡ true → turned U64 (pos (2 ^ 63)) z ≡ wrap I64 z +ℤ pos (2 ^ 63)
shifted_64 z fit = subst (λ (y : ℤ). turned U64 (pos (2 ^ 63)) y ≡ wrap I64 y +ℤ pos (2 ^ 63)) (number U64 z refl fit) (shifted_by (2 ^ 63) (pattern_of U64 z) (2 ^ 64) refl (pattern_small U64 z))

-- ---- both orders
turned_back : (order : ItemOrder) (ptype : PType) (z : ℤ) → fits ptype z ≡ true → turned ptype (origin_of order ptype) (turned ptype (origin_of order ptype) z) ≡ z
turned_back Natural ptype z fit = unturned_twice ptype z fit
turned_back Signed U8 z fit = half_twice U8 (2 ^ 7) z refl fit
turned_back Signed U16 z fit = half_twice U16 (2 ^ 15) z refl fit
turned_back Signed U32 z fit = half_twice U32 (2 ^ 31) z refl fit
turned_back Signed U64 z fit = half_twice U64 (2 ^ 63) z refl fit
turned_back Signed I8 z fit = unturned_twice I8 z fit
turned_back Signed I16 z fit = unturned_twice I16 z fit
turned_back Signed I32 z fit = unturned_twice I32 z fit
turned_back Signed I64 z fit = unturned_twice I64 z fit

turned_order : (order : ItemOrder) (ptype : PType) (z x : ℤ) → fits ptype z ≡ true → fits ptype x ≡ true → int_le (turned ptype (origin_of order ptype) z) (turned ptype (origin_of order ptype) x) ≡ int_le (reading order ptype z) (reading order ptype x)
turned_order Natural ptype z x here there = unturned_order ptype z x here there
turned_order Signed U8 z x here there = rw (shifted_8 z here, shifted_8 x there) (shift_order (wrap I8 z) (wrap I8 x) (pos (2 ^ 7)))
turned_order Signed U16 z x here there = rw (shifted_16 z here, shifted_16 x there) (shift_order (wrap I16 z) (wrap I16 x) (pos (2 ^ 15)))
turned_order Signed U32 z x here there = rw (shifted_32 z here, shifted_32 x there) (shift_order (wrap I32 z) (wrap I32 x) (pos (2 ^ 31)))
turned_order Signed U64 z x here there = rw (shifted_64 z here, shifted_64 x there) (shift_order (wrap I64 z) (wrap I64 x) (pos (2 ^ 63)))
turned_order Signed I8 z x here there = unturned_order I8 z x here there
turned_order Signed I16 z x here there = unturned_order I16 z x here there
turned_order Signed I32 z x here there = unturned_order I32 z x here there
turned_order Signed I64 z x here there = unturned_order I64 z x here there

-- the least item of a part, as it is found
pub least_of_order : (order : ItemOrder) (ptype : PType) (v : Validity) (slots : List ℤ) (start end : ℕ) (found : Option ℤ) → list_all (fits ptype) slots ≡ true
    → found ≡ least_valid (map (option_map (turned ptype (origin_of order ptype))) (between start end (items_of v slots))) → option_map (turned ptype (origin_of order ptype)) found ≡ least_by (reading order ptype) (between start end (items_of v slots))
least_of_order order ptype v slots start end found all is =
    let part = between start end (items_of v slots) in
    let fit = all_valid_ok (fits ptype) part (all_part (item_ok (fits ptype)) (items_of v slots) start end (all_items (fits ptype) v slots all)) in
    ap (option_map (turned ptype (origin_of order ptype))) is ∙ least_turned (fits ptype) (turned ptype (origin_of order ptype)) (reading order ptype) part fit (turned_order order ptype) (turned_back order ptype)
