-- How many marked items of a column pass a test, block by block.
use Rattle.std.proofs.Common.{◌≡◌, ◌&&◌, ℕ, ℤ, pos, zero, suc, ◌+◌, ◌-◌, ◌/◌, ◌%◌, ◌<◌, ◌≤◌, List, [], ◌∷◌, ◌++◌, length, get_or, replicate, Bool, true, false, cond, IsTrue, Some, None, refl, ap, sym, ◌∙◌, arith}
use Rattle.std.specs.Prelude.{◌==◌, IfSome, count_by, filter_map, unwrap_or}
use Rattle.std.proofs.Math.Path.{subst}
use Rattle.std.proofs.lemmas.List.Sums.{sum_by-append}
use Rattle.fastlanes.specs.Compared.{has_bit}
use Rattle.fl_types.specs.declared.dtype.PType.{PType}
use Rattle.fl_types.specs.declared.query.BetweenOptions.{BetweenOptions}
use Rattle.fl_types.specs.declared.query.CompareOperator.{CompareOperator}
use Rattle.fl_types.specs.declared.validity.Validity.{Validity}
use Rattle.fl_types.specs.declared.validity.Validity.TheVariants as valid
use Rattle.fl_types.specs.Bits.{between, kept, true_count}
use Rattle.fl_types.specs.Validities.{covers, is_valid_at, items_of}
use Rattle.fl_types.specs.Values.{ptype_of_value}
use Rattle.fl_types.proofs.WordBits.{count_more}
use Rattle.fl_column.specs.Columns.{Column, ConstantParts, PrimitiveParts, column_of_constant, column_of_primitive, integers_in}
use Rattle.fl_column.specs.Queries.{holds, is_between}
use Rattle.fl_bitpacking.specs.RangeTests.{passes}
use Rattle.fl_bitpacking.specs.declared.compute.range_test.RangeTest.{RangeTest}
use Rattle.fl_array.specs.BlockAnswers.{AreBlockAnswers}
use Rattle.fl_scan.specs.Blocks.{Marks, marked_items}
use Rattle.fl_scan.specs.Counts.{IsRange, Reaches, answered_from, both, count_below, marked_from, passed_in}
use Rattle.fl_scan.specs.Totals.{count_of}
use Rattle.fl_scan.proofs.BlockLaws.{get_or-between, integer_at, length_integers, there_is}
use Rattle.fl_scan.proofs.CountingLaws.{one_below, same_below}
use Rattle.fl_scan.proofs.ValidLaws.{constant_null, constant_valid, valid_all, valid_masked, valid_none}

-- ---- what a test says of marked items
alike : (marked a b : Bool) → (marked ≡ true → a ≡ b) → (marked && a) ≡ (marked && b)
alike false a b same = refl
alike true a b same = same refl

unmarked : (marked a : Bool) → marked ≡ false → (marked && a) ≡ false
unmarked false a h = refl
unmarked true a h = let wrong : true ≡ false = h in cc

pub none_below : (f : ℕ → Bool) (n : ℕ) → ((i : ℕ) → i < n → f i ≡ false) → count_below f n ≡ 0
none_below f zero none = refl
none_below f (suc n) none =
    let next : suc n ≡ n + 1 = omega arith in
    let more = one_below f n in
    let here : ◌≡◌ {A = ℕ} (cond (f n) 1 0) 0 = ap (λ b. cond b 1 0) (none n (omega arith)) in
    let rest = none_below f n (λ i h. none i (omega arith)) in
    ap (count_below f) next ∙ omega arith

-- no item of a block is marked
pub none_marked_from : (marks : Validity) (start n : ℕ) (passed : ℕ → Bool) → ((i : ℕ) → i < n → is_valid_at marks (start + i) ≡ false) → 0 ≡ count_below (both (marked_from marks start) passed) n
unfolding both marked_from
none_marked_from marks start n passed none = sym (none_below (both (marked_from marks start) passed) n (λ i h. unmarked (is_valid_at marks (start + i)) (passed i) (none i h)))

counted_first : {X : Type 0} (test : X → Bool) (x : X) (xs : List X) → count_by test (x ∷ xs) ≡ cond (test x) 1 0 + count_by test xs
counted_first test x xs =
    let joined : count_by test ((x ∷ []) ++ xs) ≡ count_by test (x ∷ []) + count_by test xs = sum_by-append (λ y. cond (test y) 1 0) (x ∷ []) xs in
    let whole : count_by test (x ∷ xs) ≡ count_by test ((x ∷ []) ++ xs) = refl in
    let one : count_by test (x ∷ []) ≡ 0 + cond (test x) 1 0 = refl in
    omega arith

not_set : (bits : List Bool) (i : ℕ) → true_count bits ≡ 0 → get_or bits i false ≡ false
not_set [] i none = refl
not_set (true ∷ bits) i none = let one : true_count (true ∷ bits) ≡ 1 + true_count bits = counted_first (λ bit. bit) true bits in absurd (omega arith)
not_set (false ∷ bits) zero none = refl
not_set (false ∷ bits) (suc i) none = not_set bits i (let same : true_count (false ∷ bits) ≡ 0 + true_count bits = counted_first (λ bit. bit) false bits in omega arith)

pub array_unmarked : (marks : Validity) (bits : List Bool) (from n : ℕ) → marks ≡ valid.Array bits → true_count (between from (from + n) bits) ≡ 0 → (i : ℕ) → i < n → is_valid_at marks (from + i) ≡ false
array_unmarked marks bits from n is none i h =
    ap (λ v. is_valid_at v (from + i)) is ∙ (sym (get_or-between bits from (from + n) i false (omega arith)) ∙ not_set (between from (from + n) bits) i none)

pub invalid_unmarked : (marks : Validity) (i : ℕ) → marks ≡ valid.AllInvalid → is_valid_at marks i ≡ false
invalid_unmarked marks i is = ap (λ v. is_valid_at v i) is

-- a block that has no marks
pub block_unmarked : (marks : Validity) (a from n k : ℕ) (passed : ℕ → Bool) (some : Bool) → some ≡ false → (some ≡ false → (i : ℕ) → i < n → is_valid_at marks (from + i) ≡ false) → a ≡ from → k ≡ n → 0 ≡ count_below (both (marked_from marks a) passed) k
block_unmarked marks a from n k passed some off none first size =
    none_marked_from marks a k passed (λ i h. ap (λ (m : ℕ). is_valid_at marks (m + i)) first ∙ none off i (omega arith))

-- ---- one block
-- the answers for marked items are those of their integers
pub block_answered : (test : ℤ → Bool) (marks : Validity) (c : Column) (answers : List ℕ) (start at n j offset : ℕ) → Marks marks c → AreBlockAnswers test answers j offset c → start + n ≤ length c.items
    → ((i : ℕ) → i < n → ((offset + (start + i)) / 1024 ≡ j) × ((offset + (start + i)) % 1024 ≡ at + i))
    → count_below (both (marked_from marks start) (answered_from answers at)) n ≡ count_below (both (marked_from marks start) (passed_in test (between start (start + n) (integers_in c)))) n
unfolding both marked_from answered_from passed_in
block_answered test marks c answers start at n j offset of are room placed =
    same_below (both (marked_from marks start) (answered_from answers at)) (both (marked_from marks start) (passed_in test (between start (start + n) (integers_in c)))) n (λ i h.
    alike (is_valid_at marks (start + i)) (has_bit answers (at + i)) (test (get_or (between start (start + n) (integers_in c)) i (pos 0))) (λ on.
    let o = get_or c.items (start + i) None in
    let z = unwrap_or o (pos 0) in
    let place = placed i h in
    let there = there_is o (of.valid (start + i) (omega arith) on) in
    ap (has_bit answers) (sym place.1) ∙ (are (start + i) z (omega arith) place.0 there ∙ ap test (sym (get_or-between (integers_in c) start (start + n) i (pos 0) (omega arith) ∙ integer_at c (start + i) (omega arith))))))

-- ---- one block more
pub block_more : (test : ℤ → Bool) (marks : Validity) (zs : List ℤ) (a b count here : ℕ) → a ≤ b → count ≡ count_below (both (marked_from marks 0) (passed_in test zs)) a → here ≡ count_below (both (marked_from marks a) (passed_in test (between a b zs))) (b - a)
    → count + here ≡ count_below (both (marked_from marks 0) (passed_in test zs)) b
unfolding both marked_from passed_in
block_more test marks zs a b count here order so_far is =
    let f = both (marked_from marks 0) (passed_in test zs) in
    let g = both (marked_from marks a) (passed_in test (between a b zs)) in
    let more = count_more f a (b - a) in
    let same : count_below (λ i. f (a + i)) (b - a) ≡ count_below g (b - a) = same_below (λ i. f (a + i)) g (b - a) (λ i h.
    let place : 0 + (a + i) ≡ a + i = omega arith in
    ap (λ (k : ℕ). is_valid_at marks k && test (get_or zs (a + i) (pos 0))) place ∙ ap (λ z. is_valid_at marks (a + i) && test z) (sym (get_or-between zs a b i (pos 0) (omega arith)))) in
    let whole : a + (b - a) ≡ b = omega arith in
    let all : count_below f (a + (b - a)) ≡ count_below f b = ap (count_below f) whole in
    omega arith

-- ---- all items
pub first_below : (f : ℕ → Bool) (n : ℕ) → count_below f (suc n) ≡ cond (f 0) 1 0 + count_below (λ i. f (suc i)) n
first_below f n =
    let whole : suc n ≡ 1 + n = omega arith in
    let one = one_below f 0 in
    let more = count_more f 1 n in
    let same : count_below (λ i. f (1 + i)) n ≡ count_below (λ i. f (suc i)) n = same_below (λ i. f (1 + i)) (λ i. f (suc i)) n (λ i h. let next : 1 + i ≡ suc i = omega arith in ap f next) in
    let none : count_below f 0 ≡ 0 = refl in
    let start : count_below f 1 ≡ count_below f (0 + 1) = refl in
    ap (count_below f) whole ∙ omega arith

passed_all : (test : ℤ → Bool) (zs : List ℤ) → count_by test zs ≡ count_below (λ i. test (get_or zs i (pos 0))) (length zs)
passed_all test [] = refl
passed_all test (z ∷ zs) = counted_first test z zs ∙ (ap (λ n. cond (test z) 1 0 + n) (passed_all test zs) ∙ sym (first_below (λ i. test (get_or (z ∷ zs) i (pos 0))) (length zs)))

passed_kept : (test : ℤ → Bool) (bits : List Bool) (zs : List ℤ) → length bits ≡ length zs → count_by test (kept bits zs) ≡ count_below (λ i. get_or bits i false && test (get_or zs i (pos 0))) (length zs)
passed_kept test [] [] h = refl
passed_kept test [] (z ∷ zs) h = absurd (omega arith)
passed_kept test (bit ∷ bits) [] h = absurd (omega arith)
passed_kept test (true ∷ bits) (z ∷ zs) h =
    counted_first test z (kept bits zs) ∙ (ap (λ n. cond (test z) 1 0 + n) (passed_kept test bits zs (omega arith)) ∙ sym (first_below (λ i. get_or (true ∷ bits) i false && test (get_or (z ∷ zs) i (pos 0))) (length zs)))
passed_kept test (false ∷ bits) (z ∷ zs) h =
    let none : count_by test (kept bits zs) ≡ 0 + count_by test (kept bits zs) = omega arith in
    none ∙ (ap (λ n. 0 + n) (passed_kept test bits zs (omega arith)) ∙ sym (first_below (λ i. get_or (false ∷ bits) i false && test (get_or (z ∷ zs) i (pos 0))) (length zs)))

all_marked : (test : ℤ → Bool) (v : Validity) (zs : List ℤ) (g : ℕ → Bool) → ((i : ℕ) → i < length zs → (is_valid_at v i && test (get_or zs i (pos 0))) ≡ g i) → count_below (both (marked_from v 0) (passed_in test zs)) (length zs) ≡ count_below g (length zs)
unfolding both marked_from passed_in
all_marked test v zs g each = same_below (both (marked_from v 0) (passed_in test zs)) g (length zs) (λ i h.
    let place : 0 + i ≡ i = omega arith in
    ap (λ (k : ℕ). is_valid_at v k && test (get_or zs i (pos 0))) place ∙ each i h)

same_length : (bits : List Bool) (n : ℕ) → (length bits == n) ≡ true → length bits ≡ n
same_length bits n h = grind arith

-- the valid ones of these integers that pass are those that are marked and pass
pub counted_all : (test : ℤ → Bool) (v : Validity) (zs : List ℤ) → IsTrue (covers v (length zs)) → count_by test (filter_map (λ o. o) (items_of v zs)) ≡ count_below (both (marked_from v 0) (passed_in test zs)) (length zs)
counted_all test valid.NonNullable zs h = ap (count_by test) (valid_all zs) ∙ (passed_all test zs ∙ sym (all_marked test valid.NonNullable zs (λ i. test (get_or zs i (pos 0))) (λ i k. refl)))
counted_all test valid.AllValid zs h = ap (count_by test) (valid_all zs) ∙ (passed_all test zs ∙ sym (all_marked test valid.AllValid zs (λ i. test (get_or zs i (pos 0))) (λ i k. refl)))
counted_all test valid.AllInvalid zs h = ap (count_by test) (valid_none zs) ∙ sym (all_marked test valid.AllInvalid zs (λ i. false) (λ i k. refl) ∙ none_below (λ i. false) (length zs) (λ i k. refl))
counted_all test (valid.Array bits) zs h = ap (count_by test) (valid_masked bits zs) ∙ (passed_kept test bits zs (same_length bits (length zs) h) ∙ sym (all_marked test (valid.Array bits) zs (λ i. get_or bits i false && test (get_or zs i (pos 0))) (λ i k. refl)))

pub counted_column : (test : ℤ → Bool) (marks : Validity) (c : Column) (count n : ℕ) → Marks marks c → n ≡ length c.items → count ≡ count_below (both (marked_from marks 0) (passed_in test (integers_in c))) n → count ≡ count_by test (marked_items marks c)
counted_column test marks c count n of all is =
    let long = length_integers c in
    let covered : IsTrue (covers marks (length (integers_in c))) = subst (λ (k : ℕ). IsTrue (covers marks k)) (sym long) of.covered in
    let size : n ≡ length (integers_in c) = omega arith in
    is ∙ (ap (count_below (both (marked_from marks 0) (passed_in test (integers_in c)))) size ∙ sym (counted_all test marks (integers_in c) covered))

-- a validity that covers items reaches any part of them
pub reaches_part : (v : Validity) (n m : ℕ) → IsTrue (covers v n) → m ≤ n → Reaches v m
reaches_part valid.NonNullable n m h le = tt
reaches_part valid.AllValid n m h le = tt
reaches_part valid.AllInvalid n m h le = tt
reaches_part (valid.Array bits) n m h le = let long = same_length bits n h in omega arith

-- plain arrays
pub counted_plain : (test : ℤ → Bool) (p : PrimitiveParts) (v : Validity) (zs : List ℤ) (count n : ℕ) → v ≡ p.validity → zs ≡ p.slots → IsTrue (covers p.validity (length p.slots)) → n ≡ length zs → count ≡ count_below (both (marked_from v 0) (passed_in test zs)) n
    → count ≡ count_of test (column_of_primitive p)
counted_plain test p v zs count n same slots covered long is =
    let size : n ≡ length p.slots = long ∙ ap length slots in
    is ∙ (ap (λ u. count_below (both (marked_from u 0) (passed_in test zs)) n) same ∙ (ap (λ ys. count_below (both (marked_from p.validity 0) (passed_in test ys)) n) slots
    ∙ (ap (count_below (both (marked_from p.validity 0) (passed_in test p.slots))) size ∙ sym (counted_all test p.validity p.slots covered))))

-- constants
repeated_passes : (test : ℤ → Bool) (z : ℤ) (n : ℕ) → test z ≡ true → count_by test (replicate n z) ≡ n
repeated_passes test z zero h = refl
repeated_passes test z (suc n) h =
    let one : ◌≡◌ {A = ℕ} (cond (test z) 1 0) 1 = ap (λ b. cond b 1 0) h in
    counted_first test z (replicate n z) ∙ (ap (λ m. cond (test z) 1 0 + m) (repeated_passes test z n h) ∙ omega arith)

repeated_fails : (test : ℤ → Bool) (z : ℤ) (n : ℕ) → test z ≡ false → count_by test (replicate n z) ≡ 0
repeated_fails test z zero h = refl
repeated_fails test z (suc n) h =
    let none : ◌≡◌ {A = ℕ} (cond (test z) 1 0) 0 = ap (λ b. cond b 1 0) h in
    counted_first test z (replicate n z) ∙ (ap (λ m. cond (test z) 1 0 + m) (repeated_fails test z n h) ∙ omega arith)

pub constant_counted : (test : ℤ → Bool) (k : ConstantParts) (z : ℤ) (n : ℕ) → Some z ≡ k.scalar.value → n ≡ k.len → test z ≡ true → n ≡ count_of test (column_of_constant k)
constant_counted test k z n is long h = sym (ap (count_by test) (constant_valid k z n is long) ∙ repeated_passes test z n h)

pub constant_uncounted : (test : ℤ → Bool) (k : ConstantParts) (z : ℤ) (n : ℕ) → Some z ≡ k.scalar.value → n ≡ k.len → test z ≡ false → 0 ≡ count_of test (column_of_constant k)
constant_uncounted test k z n is long h = sym (ap (count_by test) (constant_valid k z n is long) ∙ repeated_fails test z n h)

pub null_uncounted : (test : ℤ → Bool) (k : ConstantParts) → None ≡ k.scalar.value → 0 ≡ count_of test (column_of_constant k)
null_uncounted test k is = sym (ap (count_by test) (constant_null k is))

-- a part by its ends
pub same_part : (test : ℤ → Bool) (marks : Validity) (zs : List ℤ) (from n a b : ℕ) → a ≡ from → b ≡ from + n
    → count_below (both (marked_from marks from) (passed_in test (between from (from + n) zs))) n ≡ count_below (both (marked_from marks a) (passed_in test (between a b zs))) (b - a)
same_part test marks zs from n a b first last =
    let size : n ≡ b - a = omega arith in
    ap (λ (k : ℕ). count_below (both (marked_from marks from) (passed_in test (between from (from + n) zs))) k) size
    ∙ (ap (λ (k : ℕ). count_below (both (marked_from marks k) (passed_in test (between k (from + n) zs))) (b - a)) (sym first) ∙ ap (λ (k : ℕ). count_below (both (marked_from marks a) (passed_in test (between a k zs))) (b - a)) (sym last))

-- nothing is counted before the first block
pub none_before : (f : ℕ → Bool) (n : ℕ) → n ≡ 0 → 0 ≡ count_below f n
none_before f n is = ap (count_below f) (sym is)

-- ---- ranges
-- tests that answer alike count alike
pub counted_alike : (f g : ℤ → Bool) (zs : List ℤ) → ((z : ℤ) → f z ≡ g z) → count_by f zs ≡ count_by g zs
counted_alike f g zs same = ap (λ (p : ℤ → Bool). count_by p zs) (λ i z. same z i)

pub comparison_range : (ptype : PType) (operator o : CompareOperator) (constant x : ℤ) (range : RangeTest) → ((z : ℤ) → passes range z ≡ holds operator constant z) → range.reference ≡ None → o ≡ operator → x ≡ constant → IsRange ptype (λ z. holds o x z) range
comparison_range ptype operator o constant x range is plain same equal = record {
  typed = subst (λ r. IfSome r (λ reference. ptype_of_value reference ≡ ptype)) (sym plain) tt;
  same = λ z. is z ∙ (ap (λ p. holds p constant z) (sym same) ∙ ap (λ y. holds o y z) (sym equal));
}

pub between_range : (ptype : PType) (options o : BetweenOptions) (lower upper x y : ℤ) (range : RangeTest) → ((z : ℤ) → passes range z ≡ is_between options lower upper z) → range.reference ≡ None → o ≡ options → x ≡ lower → y ≡ upper
    → IsRange ptype (λ z. is_between o x y z) range
between_range ptype options o lower upper x y range is plain same low high = record {
  typed = subst (λ r. IfSome r (λ reference. ptype_of_value reference ≡ ptype)) (sym plain) tt;
  same = λ z. is z ∙ (ap (λ p. is_between p lower upper z) (sym same) ∙ (ap (λ w. is_between o w upper z) (sym low) ∙ ap (λ w. is_between o x w z) (sym high)));
}
