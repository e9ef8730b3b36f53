-- Items that a mask keeps, by its words.
use Rattle.std.proofs.Common.{inl, inr, ◌≡◌, ◌≢◌, ℕ, zero, suc, ◌+◌, ◌-◌, ◌*◌, ◌^◌, ◌<◌, ◌≤◌, ◌==◌, List, [], ◌∷◌, ◌++◌, Bool, true, false, Some, None, IsTrue, cond, length, get_or, take, drop, map, min, bit_and, refl, ap, sym, ◌∙◌, arith}
use Rattle.std.specs.Int.{bit_at}
use Rattle.std.proofs.lemmas.Bool.{cases_lt}
use Rattle.std.proofs.lemmas.Nat.Bits.{bit_at_ones}
use Rattle.std.proofs.lemmas.List.{same_lists, get_or_default, get_or_past, append_assoc, length-append, get_or-take, get_or-drop, length-take, length-drop, drop-drop, take_all}
use Rattle.std.proofs.lemmas.List.Sums.{sum_by-cons}
use Rattle.fl_types.specs.Bits.{bit_of_word, tabulate, true_count}
use Rattle.std.proofs.lemmas.List.FromFn.{length-map-range_with_len, get_or-map-range_with_len}
use Rattle.fl_types.proofs.BitLists.{no_bit}
use Rattle.fl_types.proofs.KeptLaws.{kept_none, kept_nothing, kept_split, lowest_cleared, others_left}
use Rattle.fl_types.proofs.WordBits.{none_above}
use Rattle.std.proofs.lemmas.Bool.Decides.{Decides-eqb}
use Rattle.fl_types.specs.Validities.{covers, items_of, masked, nullability_of}
use Rattle.fl_types.specs.declared.dtype.Nullability.TheVariants.{Nullable}
use Rattle.fl_types.specs.declared.validity.Validity.{Validity}
use Rattle.fl_types.specs.declared.validity.Validity.TheVariants as valid
use Rattle.fl_types.specs.declared.mask.Mask.TheVariants.{Values}
use Rattle.fl_column.specs.Columns.{PrimitiveParts, column_of_primitive}
use Rattle.fl_column.specs.Operations.{filter_of, kept}
use Rattle.fl_column.specs.Selections.{any_null, kept_validity}
use Rattle.fl_column.proofs.CastSlotLaws.{nulls_left}

-- the first item that is kept, and the others
pub kept_first : {A : Type 0} (bs cs : List Bool) (xs : List A) (t : ℕ) (d : A) → length bs ≡ length cs → t < length bs → t < length xs → ((i : ℕ) → i < t → get_or bs i false ≡ false) → get_or bs t false ≡ true → get_or cs t false ≡ false
    → ((i : ℕ) → i ≢ t → get_or cs i false ≡ get_or bs i false) → kept bs xs ≡ get_or xs t d ∷ kept cs xs
kept_first [] cs xs t d even h k before here off others = absurd (omega arith)
kept_first (b ∷ bs) [] xs t d even h k before here off others = absurd (omega arith)
kept_first (b ∷ bs) (c ∷ cs) [] t d even h k before here off others = absurd (omega arith)
kept_first (b ∷ bs) (c ∷ cs) (x ∷ xs) zero d even h k before here off others =
    let same : bs ≡ cs = same_lists bs cs (omega arith) (λ i e below. get_or_default bs i e false below ∙ sym (others (suc i) (omega arith)) ∙ get_or_default cs i false e (omega arith)) in
    rw (here, off) (ap (λ l. x ∷ kept l xs) same)
kept_first (b ∷ bs) (c ∷ cs) (x ∷ xs) (suc t) d even h k before here off others =
    let first : b ≡ false = before 0 (omega arith) in
    let second : c ≡ false = others 0 (omega arith) ∙ first in
    rw (first, second) (kept_first bs cs xs t d (omega arith) (omega arith) (omega arith) (λ i l. before (suc i) (omega arith)) here off (λ i e. others (suc i) (λ q. e (omega arith))))

-- a mask that keeps all
pub kept_all : {A : Type 0} (bits : List Bool) (xs : List A) → ((i : ℕ) → i < length xs → get_or bits i false ≡ true) → kept bits xs ≡ xs
kept_all [] [] each = refl
kept_all [] (x ∷ xs) each = let wrong : false ≡ true = each 0 (omega arith) in cc
kept_all (b ∷ bits) [] each = refl
kept_all (b ∷ bits) (x ∷ xs) each = rw (each 0 (omega arith)) (ap (λ l. x ∷ l) (kept_all bits xs (λ i h. each (suc i) (omega arith))))

-- masks that agree on the items
pub kept_agree : {A : Type 0} (bs cs : List Bool) (xs : List A) → length xs ≤ length bs → length xs ≤ length cs → ((i : ℕ) → i < length xs → get_or bs i false ≡ get_or cs i false) → kept bs xs ≡ kept cs xs
kept_agree [] cs [] h k same = sym (kept_nothing cs)
kept_agree [] cs (x ∷ xs) h k same = absurd (omega arith)
kept_agree (b ∷ bs) [] [] h k same = refl
kept_agree (b ∷ bs) [] (x ∷ xs) h k same = absurd (omega arith)
kept_agree (b ∷ bs) (c ∷ cs) [] h k same = refl
kept_agree (b ∷ bs) (c ∷ cs) (x ∷ xs) h k same = rw (same 0 (omega arith)) (ap (λ l. cond c (x ∷ l) l) (kept_agree bs cs xs (omega arith) (omega arith) (λ i l. same (suc i) (omega arith))))

-- no more items are kept than bits are set
pub kept_few : {A : Type 0} (bits : List Bool) (xs : List A) → length (kept bits xs) ≤ true_count bits
kept_few [] xs = omega arith
kept_few (b ∷ bits) [] = omega arith
kept_few (true ∷ bits) (x ∷ xs) = let more : true_count (true ∷ bits) ≡ 1 + true_count bits = sum_by-cons (λ bit. cond bit 1 0) true bits in let rest = kept_few bits xs in omega arith
kept_few (false ∷ bits) (x ∷ xs) = let same : true_count (false ∷ bits) ≡ 0 + true_count bits = sum_by-cons (λ bit. cond bit 1 0) false bits in let rest = kept_few bits xs in omega arith

-- the items of values
pub kept_map : {A B : Type 0} (f : A → B) (bits : List Bool) (xs : List A) → kept bits (map f xs) ≡ map f (kept bits xs)
kept_map f [] xs = refl
kept_map f (b ∷ bits) [] = refl
kept_map f (true ∷ bits) (x ∷ xs) = ap (λ l. f x ∷ l) (kept_map f bits xs)
kept_map f (false ∷ bits) (x ∷ xs) = kept_map f bits xs

-- the item at the lowest set bit of a word, and those at the others
pub word_first : {A : Type 0} (xs : List A) (word t : ℕ) (d : A) → t < 64 → t < length xs → bit_at word t ≡ 1 → ((i : ℕ) → i < t → bit_at word i ≡ 0)
    → kept (tabulate (bit_of_word word) 64) xs ≡ get_or xs t d ∷ kept (tabulate (bit_of_word (bit_and word (word - 1))) 64) xs
unfolding bit_of_word
word_first xs word t d few within here below =
    let next = bit_and word (word - 1) in
    let bs = tabulate (bit_of_word word) 64 in
    let cs = tabulate (bit_of_word next) 64 in
    let long : length bs ≡ 64 = length-map-range_with_len (bit_of_word word) 0 64 in
    let longer : length cs ≡ 64 = length-map-range_with_len (bit_of_word next) 0 64 in
    let bit = λ (n i : ℕ) (h : i < 64). get_or-map-range_with_len (bit_of_word n) 0 64 i i false h (omega arith) in
    kept_first bs cs xs t d (long ∙ sym longer) (omega arith) within
    (λ i h. bit word i (omega arith) ∙ ap (λ (m : ℕ). m == 1) (below i h))
    (bit word t few ∙ ap (λ (m : ℕ). m == 1) here)
    (bit next t few ∙ ap (λ (m : ℕ). m == 1) (lowest_cleared word t here below))
    (λ i other. elim (cases_lt i 64) [
      | inl low ↦ bit next i low ∙ ap (λ (m : ℕ). m == 1) (others_left word t i here below other) ∙ sym (bit word i low)
      | inr high ↦ get_or_past cs i false (omega arith) ∙ sym (get_or_past bs i false (omega arith))
    ])

-- no item is kept by 0
pub kept_by_zero : {A : Type 0} (xs : List A) → kept (tabulate (bit_of_word 0) 64) xs ≡ []
kept_by_zero xs = kept_none (tabulate (bit_of_word 0) 64) xs (λ i h. get_or-map-range_with_len (bit_of_word 0) 0 64 i i false (omega (arith, length-map-range_with_len (bit_of_word 0) 0 64)) (omega arith) ∙ no_bit i)

-- as long as an item is to come, there is room for it
pub room_left : {A : Type 0} (now more old all : List A) (x : A) → now ++ x ∷ more ≡ old ++ all → length now < length old + length all
room_left now more old all x e = let both = ap length e in omega (arith, length-append now (x ∷ more), length-append old all, both)

-- the items from `run` on, of which those up to `at` are all kept, and of the others those up to `end` by a word
pub filter_step : {A : Type 0} (bits word_bits : List Bool) (xs : List A) (run at end : ℕ) → run ≤ at → at ≤ end → end ≤ length xs → length bits ≡ length xs → end - at ≤ length word_bits
    → ((i : ℕ) → run ≤ i → i < at → get_or bits i false ≡ true) → ((j : ℕ) → j < end - at → get_or word_bits j false ≡ get_or bits (at + j) false)
    → kept (drop run bits) (drop run xs) ≡ take (at - run) (drop run xs) ++ (kept word_bits (take (end - at) (drop at xs)) ++ kept (drop end bits) (drop end xs))
filter_step bits word_bits xs run at end order more within even long set same =
    let n = at - run in
    let m = end - at in
    let place : run + n ≡ at = omega arith in
    let next : at + m ≡ end = omega arith in
    let front = take n (drop run xs) in
    let few : length front ≡ n = omega (arith, length-take n (drop run xs), length-drop run xs) in
    let here = take m (drop at xs) in
    let count : length here ≡ m = omega (arith, length-take m (drop at xs), length-drop at xs) in
    let marks = take m (drop at bits) in
    let marked : length marks ≡ m = omega (arith, length-take m (drop at bits), length-drop at bits) in
    let first : kept (take n (drop run bits)) front ≡ front = kept_all (take n (drop run bits)) front (λ i h.
    get_or-take n (drop run bits) i false (omega arith) ∙ get_or-drop run bits i false ∙ set (run + i) (omega arith) (omega arith)) in
    let second : kept marks here ≡ kept word_bits here = kept_agree marks word_bits here (omega arith) (omega arith) (λ i h.
    get_or-take m (drop at bits) i false (omega arith) ∙ get_or-drop at bits i false ∙ sym (same i (omega arith))) in
    let rest : kept (drop n (drop run bits)) (drop n (drop run xs)) ≡ kept (drop at bits) (drop at xs) =
    ap (λ l. kept l (drop n (drop run xs))) (drop-drop n run bits ∙ ap (λ (k : ℕ). drop k bits) place) ∙ ap (λ l. kept (drop at bits) l) (drop-drop n run xs ∙ ap (λ (k : ℕ). drop k xs) place) in
    let last : kept (drop m (drop at bits)) (drop m (drop at xs)) ≡ kept (drop end bits) (drop end xs) =
    ap (λ l. kept l (drop m (drop at xs))) (drop-drop m at bits ∙ ap (λ (k : ℕ). drop k bits) next) ∙ ap (λ l. kept (drop end bits) l) (drop-drop m at xs ∙ ap (λ (k : ℕ). drop k xs) next) in
    kept_split n (drop run bits) (drop run xs) ∙ ap (λ l. l ++ kept (drop n (drop run bits)) (drop n (drop run xs))) first
    ∙ ap (λ l. front ++ l) (rest ∙ kept_split m (drop at bits) (drop at xs) ∙ ap (λ l. l ++ kept (drop m (drop at bits)) (drop m (drop at xs))) second ∙ ap (λ l. kept word_bits here ++ l) last)

-- the items that are left are all kept
pub filter_end : {A : Type 0} (bits : List Bool) (xs : List A) (run : ℕ) → ((i : ℕ) → run ≤ i → i < length xs → get_or bits i false ≡ true) → kept (drop run bits) (drop run xs) ≡ take (length xs - run) (drop run xs)
filter_end bits xs run set = (kept_all (drop run bits) (drop run xs) (λ i h. get_or-drop run bits i false ∙ set (run + i) (omega arith) (omega (arith, length-drop run xs)))) ∙ sym (take_all (length xs - run) (drop run xs) (omega (arith, length-drop run xs)))

-- a set bit of a word is that of an item
pub item_there : (bits : List Bool) (word at end n : ℕ) → word < 2 ^ 64 → length bits ≡ n → end ≡ at + min (n - at) 64 → ((j : ℕ) → j < 64 → bit_of_word word j ≡ get_or bits (at + j) false) → (j : ℕ) → bit_of_word word j ≡ true → j < end - at
item_there bits word at end n small long is each j set = elim (cases_lt j 64) [
  | inl low ↦ elim (cases_lt (at + j) n) [
    | inl within ↦ omega arith
    | inr past ↦ absurd (false_true (sym (each j low ∙ get_or_past bits (at + j) false (omega arith)) ∙ set))
  ]
  | inr high ↦ absurd (false_true (sym (none_above word j small high) ∙ set))
]
  where
    false_true : false ≡ true → ⊥
    false_true e = cc

-- the items that were taken, with those that are to come, are those that are kept
pub filter_sum : {A : Type 0} (old new front here rest all : List A) → old ++ (front ++ (here ++ rest)) ≡ all → new ≡ (old ++ front) ++ here → new ++ rest ≡ all
filter_sum old new front here rest all whole is =
    ap (λ l. l ++ rest) is ∙ append_assoc (old ++ front) here rest ∙ append_assoc old front (here ++ rest) ∙ whole

pub filter_room : {A : Type 0} (old front here rest all : List A) (most : ℕ) → old ++ (front ++ (here ++ rest)) ≡ all → length all ≤ most → length (old ++ front) + length here ≤ most
filter_room old front here rest all most whole few =
    let sum = ap length whole in
    omega (arith, sum, length-append old (front ++ (here ++ rest)), length-append front (here ++ rest), length-append here rest, length-append old front)

-- a word whose bits all are set
pub all_ones : (bits : List Bool) (n k word run : ℕ) → word ≡ 18446744073709551615 → ((j : ℕ) → j < 64 → bit_of_word word j ≡ get_or bits (64 * k + j) false) → ((i : ℕ) → run ≤ i → i < 64 * k → i < n → get_or bits i false ≡ true)
    → (i : ℕ) → run ≤ i → i < 64 * (k + 1) → i < n → get_or bits i false ≡ true
unfolding bit_of_word
all_ones bits n k word run is each before i from h within = elim (cases_lt i (64 * k)) [
  | inl low ↦ before i from low within
  | inr high ↦
      let place : 64 * k + (i - 64 * k) ≡ i = omega arith in
      ap (λ (m : ℕ). get_or bits m false) (sym place) ∙ sym (each (i - 64 * k) (omega arith)) ∙ ap (λ (m : ℕ). bit_at m (i - 64 * k) == 1) is ∙ ap (λ (m : ℕ). m == 1) (bit_at_ones 64 (i - 64 * k) (omega arith))
]

-- what holds where a word is not one of ones: `count` items from bit 64 * k on
pub record Stands {A : Type 0} (bits : List Bool) (xs taken : List A) (run k count word : ℕ) : Type 0 where
  pub even : length bits ≡ length xs
  pub order : run ≤ 64 * k
  pub within : 64 * k + count ≤ length xs
  pub few : count ≤ 64
  pub set : (i : ℕ) → run ≤ i → i < 64 * k → i < length xs → get_or bits i false ≡ true
  pub bit : (j : ℕ) → j < 64 → bit_of_word word j ≡ get_or bits (64 * k + j) false
  pub whole : taken ++ kept (drop run bits) (drop run xs) ≡ kept bits xs

word_step : {A : Type 0} (bits : List Bool) (xs taken : List A) (run k count word : ℕ) → Stands bits xs taken run k count word
    → taken ++ (take (64 * k - run) (drop run xs) ++ (kept (tabulate (bit_of_word word) 64) (take (64 * k + count - 64 * k) (drop (64 * k) xs)) ++ kept (drop (64 * k + count) bits) (drop (64 * k + count) xs))) ≡ kept bits xs
word_step bits xs taken run k count word s =
    let even = s.even in let order = s.order in let within = s.within in let few = s.few in
    let marked : length (tabulate (bit_of_word word) 64) ≡ 64 = length-map-range_with_len (bit_of_word word) 0 64 in
    ap (λ l. taken ++ l) (sym (filter_step bits (tabulate (bit_of_word word) 64) xs run (64 * k) (64 * k + count) order (omega arith) within even (omega arith) (λ i from h. s.set i from h (omega arith))
    (λ j h. get_or-map-range_with_len (bit_of_word word) 0 64 j j false (omega arith) (omega arith) ∙ s.bit j (omega arith)))) ∙ s.whole

pub word_room : {A : Type 0} (bits : List Bool) (xs taken new : List A) (run k count word long most : ℕ) → Stands bits xs taken run k count word → true_count bits ≤ most → long ≡ length new → new ≡ taken ++ take (64 * k - run) (drop run xs)
    → long + length (kept (tabulate (bit_of_word word) 64) (take (64 * k + count - 64 * k) (drop (64 * k) xs))) ≤ most
word_room bits xs taken new run k count word long most s few counted is =
    let front = take (64 * k - run) (drop run xs) in
    let here = kept (tabulate (bit_of_word word) 64) (take (64 * k + count - 64 * k) (drop (64 * k) xs)) in
    let rest = kept (drop (64 * k + count) bits) (drop (64 * k + count) xs) in
    let room : length (taken ++ front) + length here ≤ true_count bits = filter_room taken front here rest (kept bits xs) (true_count bits) (word_step bits xs taken run k count word s) (kept_few bits xs) in
    at_most long (length (taken ++ front)) (length here) (true_count bits) most (counted ∙ ap length is) room few
  where
    at_most : (a b c m n : ℕ) → a ≡ b → b + c ≤ m → m ≤ n → a + c ≤ n
    at_most a b c m n e h k = omega arith

pub word_items : {A : Type 0} (bits : List Bool) (xs taken grown new : List A) (run k count word : ℕ) → Stands bits xs taken run k count word → grown ≡ taken ++ take (64 * k - run) (drop run xs)
    → new ≡ grown ++ kept (tabulate (bit_of_word word) 64) (take (64 * k + count - 64 * k) (drop (64 * k) xs)) → new ++ kept (drop (64 * k + count) bits) (drop (64 * k + count) xs) ≡ kept bits xs
word_items bits xs taken grown new run k count word s more is =
    let here = kept (tabulate (bit_of_word word) 64) (take (64 * k + count - 64 * k) (drop (64 * k) xs)) in
    filter_sum taken new (take (64 * k - run) (drop run xs)) here (kept (drop (64 * k + count) bits) (drop (64 * k + count) xs)) (kept bits xs) (word_step bits xs taken run k count word s) (is ∙ ap (λ l. l ++ here) more)

kept_masked : {A : Type 0} (bits valid_bits : List Bool) (xs : List A) → kept bits (masked valid_bits xs) ≡ masked (kept bits valid_bits) (kept bits xs)
kept_masked [] valid_bits xs = refl
kept_masked (b ∷ bits) [] xs = refl
kept_masked (b ∷ bits) (v ∷ vs) [] = sym (masked_nothing (kept (b ∷ bits) (v ∷ vs)))
  where
    masked_nothing : {A : Type 0} (bits : List Bool) → masked {A = A} bits [] ≡ []
    masked_nothing [] = refl
    masked_nothing (b ∷ bits) = refl
kept_masked (true ∷ bits) (v ∷ vs) (x ∷ xs) = ap (λ l. cond v (Some x) None ∷ l) (kept_masked bits vs xs)
kept_masked (false ∷ bits) (v ∷ vs) (x ∷ xs) = kept_masked bits vs xs

kept_even : {A B : Type 0} (bits : List Bool) (xs : List A) (ys : List B) → length xs ≡ length ys → length (kept bits xs) ≡ length (kept bits ys)
kept_even [] xs ys e = refl
kept_even (b ∷ bits) [] [] e = refl
kept_even (b ∷ bits) [] (y ∷ ys) e = absurd (omega arith)
kept_even (b ∷ bits) (x ∷ xs) [] e = absurd (omega arith)
kept_even (true ∷ bits) (x ∷ xs) (y ∷ ys) e = let rest = kept_even bits xs ys (omega arith) in omega arith
kept_even (false ∷ bits) (x ∷ xs) (y ∷ ys) e = kept_even bits xs ys (omega arith)

-- the items under a validity that a mask keeps
pub items_kept : {A : Type 0} (v : Validity) (bits : List Bool) (xs : List A) → IsTrue (covers v (length xs)) → items_of (kept_validity bits v) (kept bits xs) ≡ kept bits (items_of v xs)
items_kept valid.NonNullable bits xs k = sym (kept_map (λ x. Some x) bits xs)
items_kept valid.AllValid bits xs k = sym (kept_map (λ x. Some x) bits xs)
items_kept valid.AllInvalid bits xs k = sym (kept_map (λ x. None) bits xs)
items_kept (valid.Array valid_bits) bits xs k =
    let even : length valid_bits ≡ length xs = (Decides-eqb (length valid_bits) (length xs)).0 k in
    let each : length (kept bits valid_bits) ≡ length (kept bits xs) = kept_even bits valid_bits xs even in
    nulls_left (valid.Array (kept bits valid_bits)) (length (kept bits valid_bits)) (kept bits xs) each ((Decides-eqb (length (kept bits valid_bits)) (length (kept bits xs))).1 each) ∙ sym (kept_masked bits valid_bits xs)

-- and that validity covers them
pub kept_covers : {A : Type 0} (v : Validity) (bits : List Bool) (xs : List A) → IsTrue (covers v (length xs)) → IsTrue (covers (kept_validity bits v) (length (kept bits xs)))
kept_covers valid.NonNullable bits xs k = refl
kept_covers valid.AllValid bits xs k = refl
kept_covers valid.AllInvalid bits xs k = refl
kept_covers (valid.Array valid_bits) bits xs k = either (kept bits valid_bits) (length (kept bits xs)) (any_null (valid.Array (kept bits valid_bits)) (length (kept bits valid_bits)))
    ((Decides-eqb _ _).1 (kept_even bits valid_bits xs ((Decides-eqb (length valid_bits) (length xs)).0 k)))
  where
    either : (bits : List Bool) (n : ℕ) (b : Bool) → IsTrue (covers (valid.Array bits) n) → IsTrue (covers (cond b (valid.Array bits) valid.AllValid) n)
    either bits n true h = h
    either bits n false h = refl

pub kept_nullable : (v : Validity) (bits : List Bool) → nullability_of (kept_validity bits v) ≡ nullability_of v
kept_nullable valid.NonNullable bits = refl
kept_nullable valid.AllValid bits = refl
kept_nullable valid.AllInvalid bits = refl
kept_nullable (valid.Array valid_bits) bits = either (any_null (valid.Array (kept bits valid_bits)) (length (kept bits valid_bits))) (kept bits valid_bits)
  where
    either : (b : Bool) (bits : List Bool) → nullability_of (cond b (valid.Array bits) valid.AllValid) ≡ Nullable
    either true bits = refl
    either false bits = refl

-- the array of the slots and the validity that a mask keeps
pub filtered_column : (a r : PrimitiveParts) (bits : List Bool) → IsTrue (covers a.validity (length a.slots)) → r ≡ record { ptype = a.ptype; slots = kept bits a.slots; validity = kept_validity bits a.validity }
    → filter_of (Values bits) (column_of_primitive a) ≡ column_of_primitive r
filtered_column a r bits k parts = rw (parts, items_kept a.validity bits a.slots k, kept_nullable a.validity bits) refl
