-- The marked items that pass a test, a word and a block at a time.
use Rattle.std.proofs.Common.{◌≡◌, ◌&&◌, ℕ, ℤ, pos, zero, suc, ◌+◌, ◌-◌, ◌*◌, ◌/◌, ◌%◌, ◌<◌, ◌≤◌, List, [], ◌∷◌, ◌++◌, length, map, get_or, replicate, take, drop, Bool, true, false, cond, IsTrue, Option, Some, None, bit_and, refl, ap, sym, ◌∙◌, arith}
use Rattle.std.specs.Prelude.{◌==◌, IfOk, IfSome, Result, Ok, Err, filter, filter_map, is_some, unwrap_or}
use Rattle.std.proofs.lemmas.List.{append-nil, append_assoc, get_or-drop, get_or-take, length-drop, length-map, length-take, map-append}
use Rattle.std.proofs.lemmas.List.FromFn.{get_or-map-range_with_len, length-map-range_with_len, map-range_with_len_more}
use Rattle.std.proofs.Math.Path.{subst}
use Rattle.fastlanes.specs.Compared.{has_bit}
use Rattle.fl_types.specs.declared.dtype.PType.{PType}
use Rattle.fl_types.specs.declared.error.FastLanesError.{FastLanesError}
use Rattle.fl_types.specs.declared.mask.Mask.{Mask}
use Rattle.fl_types.specs.declared.validity.Validity.{Validity}
use Rattle.fl_types.specs.declared.validity.Validity.TheVariants as valid
use Rattle.fl_types.specs.Bits.{between, bit_of_word, kept, tabulate}
use Rattle.fl_types.specs.Masks.{mask_bits, mask_len}
use Rattle.fl_types.specs.Refusals.{Answers}
use Rattle.fl_types.specs.Types.{is_integer}
use Rattle.fl_types.specs.Values.{ptype_of_value}
use Rattle.fl_types.specs.Validities.{covers, is_valid_at, items_of}
use Rattle.fl_types.proofs.BitLists.{same_tables}
use Rattle.fl_types.proofs.KeptLaws.{kept_none}
use Rattle.fl_column.specs.Columns.{Column, PrimitiveParts, column_of_primitive, integers_in}
use Rattle.fl_column.proofs.FilterLaws.{kept_agree, kept_map}
use Rattle.fl_bitpacking.specs.RangeTests.{IsTestOf}
use Rattle.fl_bitpacking.specs.declared.compute.range_test.RangeTest.{RangeTest}
use Rattle.fl_array.specs.BlockAnswers.{AreBlockAnswers}
use Rattle.fl_array.specs.Reads.{IsValidityOf}
use Rattle.fl_scan.specs.Blocks.{Marks, marked_items}
use Rattle.fl_scan.specs.Counts.{answered_from, both, marked_from, passed_in}
use Rattle.fl_scan.specs.Totals.{valid_items}
use Rattle.fl_scan.specs.Selections.{is_passed, passed_under, passing_marks, under_mask}
use Rattle.fl_scan.proofs.BlockLaws.{get_or-between, integer_at, length_integers, there_is}
use Rattle.fl_scan.proofs.KeptColumns.{marks_kept}
use Rattle.fl_scan.proofs.MarkLaws.{of_and}
use Rattle.fl_scan.proofs.ValidLaws.{valid_all, valid_masked, valid_none}

-- ---- tables
pub tabulate_more : {A : Type 0} (f : ℕ → A) (n m : ℕ) → tabulate f (n + m) ≡ tabulate f n ++ tabulate (λ i. f (n + i)) m
tabulate_more f n zero = let none : n + zero ≡ n = omega arith in ap (tabulate f) none ∙ sym (append-nil (tabulate f n))
tabulate_more f n (suc m) =
    let whole : n + suc m ≡ n + m + 1 = omega arith in
    let next : suc m ≡ m + 1 = omega arith in
    let last = map-range_with_len_more f 0 (n + m) (n + m) (omega arith) in
    let rest = map-range_with_len_more (λ i. f (n + i)) 0 m m (omega arith) in
    ap (tabulate f) whole ∙ (last ∙ (ap (λ xs. xs ++ f (n + m) ∷ []) (tabulate_more f n m)
    ∙ (append_assoc (tabulate f n) (tabulate (λ i. f (n + i)) m) (f (n + m) ∷ []) ∙ ap (λ xs. tabulate f n ++ xs) (sym rest ∙ ap (tabulate (λ i. f (n + i))) (sym next)))))

tabulate_first : {A : Type 0} (f : ℕ → A) (n : ℕ) → tabulate f (suc n) ≡ f 0 ∷ tabulate (λ i. f (suc i)) n
tabulate_first f n =
    let whole : suc n ≡ 1 + n = omega arith in
    ap (tabulate f) whole ∙ (tabulate_more f 1 n ∙ ap (λ xs. f 0 ∷ xs) (same_tables (λ i. f (1 + i)) (λ i. f (suc i)) n (λ i h. let next : 1 + i ≡ suc i = omega arith in ap f next)))

-- a part of a table is appended
pub pushed_more : {A : Type 0} (f g : ℕ → A) (old now new : List A) (n m : ℕ) → now ≡ old ++ tabulate f n → new ≡ now ++ tabulate g m → ((i : ℕ) → i < m → g i ≡ f (n + i)) → new ≡ old ++ tabulate f (n + m)
pushed_more f g old now new n m so_far pushed same =
    pushed ∙ (ap (λ xs. xs ++ tabulate g m) so_far ∙ (append_assoc old (tabulate f n) (tabulate g m) ∙ ap (λ xs. old ++ xs) (ap (λ xs. tabulate f n ++ xs) (same_tables g (λ i. f (n + i)) m same) ∙ sym (tabulate_more f n m))))

-- none before the first block
pub marks_none : (f : ℕ → Bool) (bits : List Bool) (n : ℕ) → bits ≡ [] → n ≡ 0 → bits ≡ tabulate f n
marks_none f bits n empty none = empty ∙ ap (tabulate f) (sym none)

-- ---- one word
pub word_answered : (marks : Validity) (start : ℕ) (answers : List ℕ) (at k part w a : ℕ) → ((j : ℕ) → j < part → bit_of_word w j ≡ is_valid_at marks (start + 64 * k + j)) → ((j : ℕ) → j < 64 → at + 64 * k + j < 1024 → bit_of_word a j ≡ has_bit answers (at + 64 * k + j))
    → part ≤ 64 → at + 64 * k + part ≤ 1024 → (j : ℕ) → j < part → bit_of_word (bit_and w a) j ≡ both (marked_from marks start) (answered_from answers at) (64 * k + j)
unfolding both marked_from answered_from
word_answered marks start answers at k part w a low here few room j h =
    let place : start + 64 * k + j ≡ start + (64 * k + j) = omega arith in
    let spot : at + 64 * k + j ≡ at + (64 * k + j) = omega arith in
    of_and w a j ∙ (ap (λ b. b && bit_of_word a j) (low j h ∙ ap (is_valid_at marks) place) ∙ ap (λ b. is_valid_at marks (start + (64 * k + j)) && b) (here j (omega arith) (omega arith) ∙ ap (has_bit answers) spot))

pub word_passed : (marks : Validity) (passed : ℕ → Bool) (k part w a : ℕ) → ((j : ℕ) → j < part → bit_of_word w j ≡ is_valid_at marks (64 * k + j)) → ((j : ℕ) → j < part → bit_of_word a j ≡ passed (64 * k + j)) → (j : ℕ) → j < part → bit_of_word (bit_and w a) j ≡ both (marked_from marks 0) passed (64 * k + j)
unfolding both marked_from
word_passed marks passed k part w a low here j h =
    let place : 64 * k + j ≡ 0 + (64 * k + j) = omega arith in
    of_and w a j ∙ (ap (λ b. b && bit_of_word a j) (low j h ∙ ap (is_valid_at marks) place) ∙ ap (λ b. is_valid_at marks (0 + (64 * k + j)) && b) (here j h))

-- ---- one item of a block
alike : (marked a b : Bool) → (marked ≡ true → a ≡ b) → (marked && a) ≡ (marked && b)
alike false a b same = refl
alike true a b same = same refl

neither : (marked a b : Bool) → marked ≡ false → (marked && a) ≡ (marked && b)
neither false a b h = refl
neither true a b h = let wrong : true ≡ false = h in cc

pub item_unmarked : (marks : Validity) (a i : ℕ) (p q : ℕ → Bool) → is_valid_at marks (a + i) ≡ false → both (marked_from marks a) p i ≡ both (marked_from marks a) q i
unfolding both marked_from
item_unmarked marks a i p q off = neither (is_valid_at marks (a + i)) (p i) (q i) off

-- the answer for a marked item is that of its integer
pub item_answered : (test : ℤ → Bool) (marks : Validity) (c : Column) (answers : List ℕ) (a b at i j offset : ℕ) → Marks marks c → AreBlockAnswers test answers j offset c → a + i < b → b ≤ length c.items → (offset + (a + i)) / 1024 ≡ j → (offset + (a + i)) % 1024 ≡ at + i
    → both (marked_from marks a) (answered_from answers at) i ≡ both (marked_from marks a) (passed_in test (between a b (integers_in c))) i
unfolding both marked_from answered_from passed_in
item_answered test marks c answers a b at i j offset of are inside room block place =
    alike (is_valid_at marks (a + i)) (has_bit answers (at + i)) (test (get_or (between a b (integers_in c)) i (pos 0))) (λ on.
    let o = get_or c.items (a + i) None in
    let z = unwrap_or o (pos 0) in
    let there = there_is o (of.valid (a + i) (omega arith) on) in
    ap (has_bit answers) (sym place) ∙ (are (a + i) z (omega arith) block there ∙ ap test (sym (get_or-between (integers_in c) a b i (pos 0) inside ∙ integer_at c (a + i) (omega arith)))))

-- an item of a block is one of the column
pub block_item : (test : ℤ → Bool) (marks : Validity) (zs : List ℤ) (a b i : ℕ) → a + i < b → both (marked_from marks a) (passed_in test (between a b zs)) i ≡ both (marked_from marks 0) (passed_in test zs) (a + i)
unfolding both marked_from passed_in
block_item test marks zs a b i inside =
    let place : a + i ≡ 0 + (a + i) = omega arith in
    ap (λ (k : ℕ). is_valid_at marks k && test (get_or (between a b zs) i (pos 0))) place ∙ ap (λ z. is_valid_at marks (0 + (a + i)) && test z) (get_or-between zs a b i (pos 0) inside)

-- ---- all items
mark_of : (marks : Validity) (test : ℤ → Bool) (zs : List ℤ) (i : ℕ) → both (marked_from marks 0) (passed_in test zs) i ≡ (is_valid_at marks i && test (get_or zs i (pos 0)))
unfolding both marked_from passed_in
mark_of marks test zs i = let place : 0 + i ≡ i = omega arith in ap (λ (k : ℕ). is_valid_at marks k && test (get_or zs i (pos 0))) place

pub get_mark : (test : ℤ → Bool) (marks : Validity) (c : Column) (i : ℕ) → i < length c.items → get_or (passing_marks test marks c) i false ≡ (is_valid_at marks i && test (get_or (integers_in c) i (pos 0)))
get_mark test marks c i h =
    get_or-map-range_with_len (both (marked_from marks 0) (passed_in test (integers_in c))) 0 (length c.items) i i false h (omega arith) ∙ mark_of marks test (integers_in c) i

first_true : (a b : Bool) → (a && b) ≡ true → a ≡ true
first_true true b h = refl
first_true false b h = let wrong : false ≡ true = h in cc

equal_lengths : (bits : List Bool) (n : ℕ) → length bits ≡ n → IsTrue (covers (valid.Array bits) n)
equal_lengths bits n h = rw h (grind arith)

-- items that pass are marked
pub passing_are_marks : (test : ℤ → Bool) (marks : Validity) (c : Column) (bits : List Bool) → Marks marks c → bits ≡ passing_marks test marks c → Marks (valid.Array bits) c
passing_are_marks test marks c bits of is = record {
  covered = equal_lengths bits (length c.items) (ap length is ∙ length-map-range_with_len (both (marked_from marks 0) (passed_in test (integers_in c))) 0 (length c.items));
  valid = λ i h on. of.valid i h (first_true (is_valid_at marks i) (test (get_or (integers_in c) i (pos 0))) (sym (get_mark test marks c i h) ∙ (ap (λ (bs : List Bool). get_or bs i false) (sym is) ∙ on)));
}

-- ---- what is kept by them
kept_or : (b : Bool) (bits : List Bool) (z : ℤ) (zs rest : List ℤ) → kept bits zs ≡ rest → kept (b ∷ bits) (z ∷ zs) ≡ cond b (z ∷ rest) rest
kept_or true bits z zs rest same = ap (λ ys. z ∷ ys) same
kept_or false bits z zs rest same = same

filter_first : (test : ℤ → Bool) (z : ℤ) (zs : List ℤ) → cond (test z) (z ∷ filter test zs) (filter test zs) ≡ filter test (z ∷ zs)
filter_first test z zs = refl

kept_passed : (test : ℤ → Bool) (zs : List ℤ) → kept (tabulate (λ i. test (get_or zs i (pos 0))) (length zs)) zs ≡ filter test zs
kept_passed test [] = refl
kept_passed test (z ∷ zs) =
    ap (λ bits. kept bits (z ∷ zs)) (tabulate_first (λ i. test (get_or (z ∷ zs) i (pos 0))) (length zs))
    ∙ (kept_or (test z) (tabulate (λ i. test (get_or zs i (pos 0))) (length zs)) z zs (filter test zs) (kept_passed test zs) ∙ filter_first test z zs)

kept_masked : (test : ℤ → Bool) (bits : List Bool) (zs : List ℤ) → length bits ≡ length zs → kept (tabulate (λ i. get_or bits i false && test (get_or zs i (pos 0))) (length zs)) zs ≡ filter test (kept bits zs)
kept_masked test [] [] h = refl
kept_masked test [] (z ∷ zs) h = absurd (omega arith)
kept_masked test (bit ∷ bits) [] h = absurd (omega arith)
kept_masked test (true ∷ bits) (z ∷ zs) h =
    ap (λ marks. kept marks (z ∷ zs)) (tabulate_first (λ i. get_or (true ∷ bits) i false && test (get_or (z ∷ zs) i (pos 0))) (length zs))
    ∙ (kept_or (test z) (tabulate (λ i. get_or bits i false && test (get_or zs i (pos 0))) (length zs)) z zs (filter test (kept bits zs)) (kept_masked test bits zs (omega arith)) ∙ filter_first test z (kept bits zs))
kept_masked test (false ∷ bits) (z ∷ zs) h =
    ap (λ marks. kept marks (z ∷ zs)) (tabulate_first (λ i. get_or (false ∷ bits) i false && test (get_or (z ∷ zs) i (pos 0))) (length zs))
    ∙ kept_or false (tabulate (λ i. get_or bits i false && test (get_or zs i (pos 0))) (length zs)) z zs (filter test (kept bits zs)) (kept_masked test bits zs (omega arith))

by_marks : (test : ℤ → Bool) (v : Validity) (zs : List ℤ) (g : ℕ → Bool) → ((i : ℕ) → i < length zs → (is_valid_at v i && test (get_or zs i (pos 0))) ≡ g i) → kept (tabulate (both (marked_from v 0) (passed_in test zs)) (length zs)) zs ≡ kept (tabulate g (length zs)) zs
by_marks test v zs g each = ap (λ bits. kept bits zs) (same_tables (both (marked_from v 0) (passed_in test zs)) g (length zs) (λ i h. mark_of v test zs i ∙ each i h))

same_length : (bits : List Bool) (n : ℕ) → IsTrue (covers (valid.Array bits) n) → length bits ≡ n
same_length bits n h = grind arith

-- the marked ones of these integers that pass
pub kept_passing : (test : ℤ → Bool) (v : Validity) (zs : List ℤ) → IsTrue (covers v (length zs)) → kept (tabulate (both (marked_from v 0) (passed_in test zs)) (length zs)) zs ≡ filter test (filter_map (λ o. o) (items_of v zs))
kept_passing test valid.NonNullable zs h = by_marks test valid.NonNullable zs (λ i. test (get_or zs i (pos 0))) (λ i k. refl) ∙ (kept_passed test zs ∙ ap (filter test) (sym (valid_all zs)))
kept_passing test valid.AllValid zs h = by_marks test valid.AllValid zs (λ i. test (get_or zs i (pos 0))) (λ i k. refl) ∙ (kept_passed test zs ∙ ap (filter test) (sym (valid_all zs)))
kept_passing test valid.AllInvalid zs h =
    let long = length-map-range_with_len (λ (i : ℕ). false) 0 (length zs) in
    by_marks test valid.AllInvalid zs (λ i. false) (λ i k. refl) ∙ (kept_none (tabulate (λ i. false) (length zs)) zs (λ i k. get_or-map-range_with_len (λ (i : ℕ). false) 0 (length zs) i i false (omega arith) (omega arith)) ∙ ap (filter test) (sym (valid_none zs)))
kept_passing test (valid.Array bits) zs h =
    by_marks test (valid.Array bits) zs (λ i. get_or bits i false && test (get_or zs i (pos 0))) (λ i k. refl) ∙ (kept_masked test bits zs (same_length bits (length zs) h) ∙ ap (filter test) (sym (valid_masked bits zs)))

-- of a column
pub kept_column : (test : ℤ → Bool) (marks : Validity) (c : Column) (bits : List Bool) → Marks marks c → bits ≡ passing_marks test marks c → kept bits (integers_in c) ≡ filter test (marked_items marks c)
kept_column test marks c bits of is =
    let long = length_integers c in
    let covered : IsTrue (covers marks (length (integers_in c))) = subst (λ (k : ℕ). IsTrue (covers marks k)) (sym long) of.covered in
    ap (λ bs. kept bs (integers_in c)) (is ∙ ap (tabulate (both (marked_from marks 0) (passed_in test (integers_in c)))) (sym long)) ∙ kept_passing test marks (integers_in c) covered

-- ---- the items of a block
-- what was appended of the integers that were read
pub block_taken : {X : Type 0} (value : X → ℤ) (bits : List Bool) (old new xs : List X) (from a b : ℕ) (zs : List ℤ) → new ≡ old ++ kept (drop from bits) xs → from + length xs ≤ length bits → kept (between from (from + length xs) bits) (map value xs) ≡ kept (between a b bits) (between a b zs)
    → map value new ≡ map value old ++ kept (between a b bits) (between a b zs)
block_taken value bits old new xs from a b zs pushed room read =
    let mapped = length-map xs value in
    let size : from + length xs - from ≡ length xs = omega arith in
    let rest = length-drop from bits in
    let cut = length-take (length xs) (drop from bits) in
    let same : kept (drop from bits) (map value xs) ≡ kept (take (length xs) (drop from bits)) (map value xs) = kept_agree (drop from bits) (take (length xs) (drop from bits)) (map value xs) (omega arith) (omega arith) (λ i h. sym (get_or-take (length xs) (drop from bits) i false (omega arith))) in
    ap (map value) pushed ∙ (map-append value old (kept (drop from bits) xs)
    ∙ ap (λ ys. map value old ++ ys) (sym (kept_map value (drop from bits) xs) ∙ (same ∙ (ap (λ n. kept (take n (drop from bits)) (map value xs)) (sym size) ∙ read))))

pub bits_covered : (bits : List Bool) (c : Column) → Marks (valid.Array bits) c → length bits ≡ length c.items
bits_covered bits c of = same_length bits (length c.items) of.covered

-- tests that answer alike
pub filtered_alike : (f g : ℤ → Bool) (zs : List ℤ) → ((z : ℤ) → f z ≡ g z) → filter f zs ≡ filter g zs
filtered_alike f g zs same = ap (λ (p : ℤ → Bool). filter p zs) (λ i z. same z i)

-- of a plain array
pub plain_taken : {X : Type 0} (value : X → ℤ) (test : ℤ → Bool) (p : PrimitiveParts) (v : Validity) (xs : List X) (bits : List Bool) (none taken : List X) → v ≡ p.validity → map value xs ≡ p.slots → IsTrue (covers p.validity (length p.slots))
    → bits ≡ tabulate (both (marked_from v 0) (passed_in test (map value xs))) (length xs) → none ≡ [] → taken ≡ none ++ kept (drop 0 bits) xs → map value taken ≡ filter test (valid_items (column_of_primitive p))
plain_taken value test p v xs bits none taken same slots covered is empty pushed =
    let long = length-map xs value in
    let covers_all : IsTrue (covers v (length (map value xs))) = subst (λ u. IsTrue (covers u (length (map value xs)))) (sym same) (subst (λ zs. IsTrue (covers p.validity (length zs))) (sym slots) covered) in
    ap (map value) (pushed ∙ ap (λ ys. ys ++ kept bits xs) empty)
    ∙ (sym (kept_map value bits xs) ∙ (ap (λ bs. kept bs (map value xs)) (is ∙ ap (tabulate (both (marked_from v 0) (passed_in test (map value xs)))) (sym long))
    ∙ (kept_passing test v (map value xs) covers_all ∙ (ap (λ u. filter test (filter_map (λ o. o) (items_of u (map value xs)))) same ∙ ap (λ zs. filter test (filter_map (λ o. o) (items_of p.validity zs))) slots))))

-- of a constant
pub none_repeated : (p : ℤ → Bool) (v : ℤ) (n : ℕ) → p v ≡ false → filter p (replicate n v) ≡ []
none_repeated p v zero h = refl
none_repeated p v (suc n) h = rw h (none_repeated p v n h)

each_repeated : (p : ℤ → Bool) (v : ℤ) (n : ℕ) → p v ≡ true → filter p (replicate n v) ≡ replicate n v
each_repeated p v zero h = refl
each_repeated p v (suc n) h = rw h (ap (λ zs. v ∷ zs) (each_repeated p v n h))

map_repeated : {X : Type 0} (value : X → ℤ) (n : ℕ) (x : X) → map value (replicate n x) ≡ replicate n (value x)
map_repeated value zero x = refl
map_repeated value (suc n) x = ap (λ zs. value x ∷ zs) (map_repeated value n x)

nothing_taken : {X : Type 0} (n : ℕ) → take {A = X} n [] ≡ []
nothing_taken zero = refl
nothing_taken (suc n) = refl

pub repeated_taken : {X : Type 0} (value : X → ℤ) (p : ℤ → Bool) (old new : List X) (x : X) (len n : ℕ) → old ≡ [] → len ≡ 0 → new ≡ take n old ++ replicate (n - len) x → p (value x) ≡ true → map value new ≡ filter p (replicate n (value x))
repeated_taken value p old new x len n empty none is h =
    let count : n - len ≡ n = omega arith in
    ap (map value) (is ∙ (ap (λ ys. take n ys ++ replicate (n - len) x) empty ∙ (ap (λ ys. ys ++ replicate (n - len) x) (nothing_taken n) ∙ ap (λ (k : ℕ). replicate k x) count)))
    ∙ (map_repeated value n x ∙ sym (each_repeated p (value x) n h))

-- ---- under a mask
one_passed : (test : ℤ → Bool) (kept mark : Bool) (o : Option ℤ) → mark ≡ (kept && is_some o) → (mark && test (unwrap_or o (pos 0))) ≡ (kept && is_passed test o)
one_passed test true mark None is = rw is refl
one_passed test true mark (Some z) is = rw is refl
one_passed test false mark o is = rw is refl

pub passed_marks : (test : ℤ → Bool) (mask : Mask) (v marks : Validity) (c : Column) → IsValidityOf v c → mask_len mask ≡ length c.items → ((i : ℕ) → i < mask_len mask → is_valid_at marks i ≡ (get_or (mask_bits mask) i false && is_valid_at v i))
    → passing_marks test marks c ≡ passed_under mask test c
passed_marks test mask v marks c of long each =
    same_tables (both (marked_from marks 0) (passed_in test (integers_in c))) (λ i. get_or (mask_bits mask) i false && is_passed test (get_or c.items i None)) (length c.items) (λ i h.
    mark_of marks test (integers_in c) i ∙ (ap (λ z. is_valid_at marks i && test z) (integer_at c i h)
    ∙ one_passed test (get_or (mask_bits mask) i false) (is_valid_at marks i) (get_or c.items i None) (each i (omega arith) ∙ ap (λ b. get_or (mask_bits mask) i false && b) (of.valid i h))))

-- the marks that were made
pub marks_ok : (c : Column) (v : Validity) (m : Mask) (r : Result Validity FastLanesError) → IsValidityOf v c → mask_len m ≡ length c.items → IfOk r (λ marks. IsTrue (covers marks (mask_len m))) → IfOk r (λ marks. (i : ℕ) → i < mask_len m → is_valid_at marks i ≡ (get_or (mask_bits m) i false && is_valid_at v i))
    → IfOk r (λ marks. Marks marks c)
marks_ok c v m (Ok marks) of long covered each = marks_kept c v marks m of long covered each
marks_ok c v m (Err e) of long covered each = tt

pub passed_ok : (c : Column) (v : Validity) (m : Mask) (r : Result Validity FastLanesError) → IsValidityOf v c → mask_len m ≡ length c.items → IfOk r (λ marks. (i : ℕ) → i < mask_len m → is_valid_at marks i ≡ (get_or (mask_bits m) i false && is_valid_at v i))
    → IfOk r (λ marks. (test : ℤ → Bool) → passing_marks test marks c ≡ passed_under m test c)
passed_ok c v m (Ok marks) of long each = λ test. passed_marks test m v marks c of long each
passed_ok c v m (Err e) of long each = tt

-- a range that has no reference is a test of each type
pub plain_test : (ptype : PType) (range : RangeTest) → range.reference ≡ None → IsTestOf ptype range
plain_test ptype range plain = subst (λ r. IfSome r (λ reference. ptype_of_value reference ≡ ptype)) (sym plain) tt

even_lengths : (n k : ℕ) → n ≡ k → (n == k) ≡ true
even_lengths n k e = grind arith

-- the answer where the mask is as long as the column
pub under_answered : (m : Mask) (c : Column) (f h : ℤ → Bool) (r : Result Mask FastLanesError) → mask_len m ≡ length c.items → is_integer c.dtype ≡ true → ((z : ℤ) → f z ≡ h z) → Answers mask_bits r (Ok (passed_under m f c)) → Answers mask_bits r (under_mask m c (passed_under m h c))
under_answered m c f h r long typed same answer =
    let even : (mask_len m == length c.items) ≡ true = even_lengths (mask_len m) (length c.items) long in
    rw (even, typed) (subst (λ (p : ℤ → Bool). Answers mask_bits r (Ok (passed_under m p c))) (λ i z. same z i) answer)
