-- Marks of the items that a mask keeps and that are not null.
use Rattle.std.proofs.Common.{◌≡◌, ◌==◌, ◌&&◌, ℕ, ℤ, pos, zero, suc, ◌+◌, ◌-◌, ◌*◌, ◌<◌, ◌++◌, List, [], ◌∷◌, length, map, get_or, min, replicate, bit_and, Bool, true, false, Option, Some, None, IsTrue, refl, ap, sym, ◌∙◌, arith, inl, inr, length-append}
use Rattle.std.specs.Prelude.{filter_map, is_some, unwrap_or}
use Rattle.std.specs.Int.{bit_at}
use Rattle.std.proofs.lemmas.Bool.{cases_lt}
use Rattle.std.proofs.lemmas.List.{get_or-append-add, get_or-replicate, get_or_append_left, length-replicate}
use Rattle.std.proofs.lemmas.List.FromFn.{get_or-map-range_with_len, length-map-range_with_len}
use Rattle.std.proofs.lemmas.Nat.Bits.{bit_at_and, bit_at-lt}
use Rattle.fl_types.specs.declared.mask.Mask.{Mask}
use Rattle.fl_types.specs.declared.mask.Mask.TheVariants.{AllFalse, AllTrue, Values}
use Rattle.fl_types.specs.declared.validity.Validity.{Validity}
use Rattle.fl_types.specs.declared.validity.Validity.TheVariants as valid
use Rattle.fl_types.specs.Bits.{bit_of_word, kept, tabulate}
use Rattle.fl_types.specs.Masks.{mask_bits, mask_len}
use Rattle.fl_types.specs.Validities.{covers, is_valid_at}
use Rattle.fl_column.specs.Columns.{Column, integers_in}
use Rattle.fl_column.specs.Operations.{filter_of}
use Rattle.fl_column.proofs.ListLaws.{and_second}
use Rattle.fl_array.specs.Reads.{IsValidityOf}
use Rattle.fl_scan.specs.Blocks.{Marks, marked_items}
use Rattle.fl_scan.specs.Totals.{valid_items}
use Rattle.fl_scan.proofs.ValidLaws.{valid_all, valid_masked, valid_none}

-- ---- bits
test_and : (x y : ℕ) → x < 2 → y < 2 → (min x y == 1) ≡ ((x == 1) && (y == 1))
test_and zero zero h k = refl
test_and zero (suc zero) h k = refl
test_and (suc zero) zero h k = refl
test_and (suc zero) (suc zero) h k = refl
test_and (suc (suc x)) y h k = absurd (omega arith)
test_and x (suc (suc y)) h k = absurd (omega arith)

pub of_and : (a b j : ℕ) → bit_of_word (bit_and a b) j ≡ (bit_of_word a j && bit_of_word b j)
unfolding bit_of_word
of_and a b j = ap (λ (n : ℕ). n == 1) (bit_at_and a b j) ∙ test_and (bit_at a j) (bit_at b j) (bit_at-lt a j) (bit_at-lt b j)

-- one word more
pub both_more : (first second old new : List Bool) (k count a b : ℕ) → count ≡ min (length first - 64 * k) 64 → length old ≡ 64 * k
    → ((j : ℕ) → j < 64 → bit_of_word a j ≡ get_or first (64 * k + j) false) → ((j : ℕ) → j < 64 → bit_of_word b j ≡ get_or second (64 * k + j) false)
    → new ≡ old ++ tabulate (bit_of_word (bit_and a b)) count
    → ((i : ℕ) → i < 64 * k → get_or old i false ≡ (get_or first i false && get_or second i false))
    → (i : ℕ) → i < 64 * k + count → get_or new i false ≡ (get_or first i false && get_or second i false)
both_more first second old new k count a b few long one other pushed so_far i h = rw pushed (elim (cases_lt i (64 * k)) [
  | inl before ↦ get_or_append_left old (tabulate (bit_of_word (bit_and a b)) count) false i (omega arith) ∙ so_far i before
  | inr after ↦
      let j : ℕ = i - 64 * k in
      let place : length old + (i - 64 * k) ≡ i = omega arith in
      let same : 64 * k + (i - 64 * k) ≡ i = omega arith in
      let low : i - 64 * k < 64 = omega arith in
      ap (λ m. get_or (old ++ tabulate (bit_of_word (bit_and a b)) count) m false) (sym place)
      ∙ (get_or-append-add old (tabulate (bit_of_word (bit_and a b)) count) (i - 64 * k) false
      ∙ (get_or-map-range_with_len (bit_of_word (bit_and a b)) 0 count (i - 64 * k) (i - 64 * k) false (omega arith) (omega arith)
      ∙ (of_and a b (i - 64 * k) ∙ (ap (λ x. x && bit_of_word b (i - 64 * k)) (one (i - 64 * k) low ∙ ap (λ m. get_or first m false) same) ∙ ap (λ y. get_or first i false && y) (other (i - 64 * k) low ∙ ap (λ m. get_or second m false) same)))))
])

pub length_more : (old new : List Bool) (word count : ℕ) → new ≡ old ++ tabulate (bit_of_word word) count → length new ≡ length old + count
length_more old new word count pushed = ap length pushed ∙ (length-append old (tabulate (bit_of_word word) count) ∙ ap (λ n. length old + n) (length-map-range_with_len (bit_of_word word) 0 count))

-- ---- items
kept_both : (bits mask : List Bool) (items : List (Option ℤ)) → length bits ≡ length items → length mask ≡ length items → ((i : ℕ) → i < length items → get_or bits i false ≡ (get_or mask i false && is_some (get_or items i None)))
    → kept bits (map (λ item. unwrap_or item (pos 0)) items) ≡ filter_map (λ o. o) (kept mask items)
kept_both bits (m ∷ mask) [] even long each = absurd (omega arith)
kept_both (b ∷ bits) [] items even long each = absurd (omega arith)
kept_both [] [] items even long each = refl
kept_both [] (m ∷ mask) (o ∷ items) even long each = absurd (omega arith)
kept_both (b ∷ bits) (true ∷ mask) (Some z ∷ items) even long each = rw (each 0 (omega arith)) (ap (λ l. z ∷ l) (kept_both bits mask items (omega arith) (omega arith) (λ i h. each (suc i) (omega arith))))
kept_both (b ∷ bits) (true ∷ mask) (None ∷ items) even long each = rw (each 0 (omega arith)) (kept_both bits mask items (omega arith) (omega arith) (λ i h. each (suc i) (omega arith)))
kept_both (b ∷ bits) (false ∷ mask) (o ∷ items) even long each = rw (each 0 (omega arith)) (kept_both bits mask items (omega arith) (omega arith) (λ i h. each (suc i) (omega arith)))

each_both : (mask : List Bool) (items : List (Option ℤ)) → length mask ≡ length items → ((i : ℕ) → i < length items → true ≡ (get_or mask i false && is_some (get_or items i None)))
    → map (λ item. unwrap_or item (pos 0)) items ≡ filter_map (λ o. o) (kept mask items)
each_both [] [] long each = refl
each_both [] (o ∷ items) long each = absurd (omega arith)
each_both (m ∷ mask) [] long each = refl
each_both (true ∷ mask) (Some z ∷ items) long each = ap (λ l. z ∷ l) (each_both mask items (omega arith) (λ i h. each (suc i) (omega arith)))
each_both (true ∷ mask) (None ∷ items) long each = let wrong : true ≡ false = each 0 (omega arith) in cc
each_both (false ∷ mask) (o ∷ items) long each = let wrong : true ≡ false = each 0 (omega arith) in cc

none_both : (mask : List Bool) (items : List (Option ℤ)) → length mask ≡ length items → ((i : ℕ) → i < length items → false ≡ (get_or mask i false && is_some (get_or items i None)))
    → [] ≡ filter_map {Y = ℤ} (λ o. o) (kept mask items)
none_both [] items long each = refl
none_both (m ∷ mask) [] long each = refl
none_both (true ∷ mask) (Some z ∷ items) long each = let wrong : false ≡ true = each 0 (omega arith) in cc
none_both (true ∷ mask) (None ∷ items) long each = none_both mask items (omega arith) (λ i h. each (suc i) (omega arith))
none_both (false ∷ mask) (o ∷ items) long each = none_both mask items (omega arith) (λ i h. each (suc i) (omega arith))

covered_len : (bits : List Bool) (n : ℕ) → (length bits == n) ≡ true → length bits ≡ n
covered_len bits n h = grind arith

-- the marked items are those that a mask keeps, without the nulls
pub kept_marked : (marks : Validity) (mask : List Bool) (c : Column) → length mask ≡ length c.items → IsTrue (covers marks (length c.items)) → ((i : ℕ) → i < length c.items → is_valid_at marks i ≡ (get_or mask i false && is_some (get_or c.items i None)))
    → marked_items marks c ≡ valid_items (filter_of (Values mask) c)
kept_marked valid.NonNullable mask c long covered each = valid_all (integers_in c) ∙ each_both mask c.items long each
kept_marked valid.AllValid mask c long covered each = valid_all (integers_in c) ∙ each_both mask c.items long each
kept_marked valid.AllInvalid mask c long covered each = valid_none (integers_in c) ∙ none_both mask c.items long each
kept_marked (valid.Array bits) mask c long covered each = valid_masked bits (integers_in c) ∙ kept_both bits mask c.items (covered_len bits (length c.items) covered) long each

-- none of them is null
pub kept_marks : (marks : Validity) (mask : List Bool) (c : Column) → IsTrue (covers marks (length c.items)) → ((i : ℕ) → i < length c.items → is_valid_at marks i ≡ (get_or mask i false && is_some (get_or c.items i None))) → Marks marks c
kept_marks marks mask c covered each = record { covered = covered; valid = λ i h on. and_second (get_or mask i false) (is_some (get_or c.items i None)) (sym (each i h) ∙ on) }

-- by the validity of the column
pub marks_each : (marks v : Validity) (mask : List Bool) (c : Column) → IsValidityOf v c → length mask ≡ length c.items → ((i : ℕ) → i < length mask → is_valid_at marks i ≡ (get_or mask i false && is_valid_at v i))
    → (i : ℕ) → i < length c.items → is_valid_at marks i ≡ (get_or mask i false && is_some (get_or c.items i None))
marks_each marks v mask c of long each i h = each i (omega arith) ∙ ap (λ b. get_or mask i false && b) (of.valid i h)

-- ---- masks by their form
all_kept_by : (n i : ℕ) (b : Bool) → i < n → b ≡ (get_or (replicate n true) i false && b)
all_kept_by n i b h = rw (get_or-replicate n i true false h) refl

none_kept_by : (n i : ℕ) (b : Bool) → i < n → false ≡ (get_or (replicate n false) i false && b)
none_kept_by n i b h = rw (get_or-replicate n i false false h) refl

pub all_true_marks : (m : Mask) (n i : ℕ) (b : Bool) → m ≡ AllTrue n → i < mask_len m → b ≡ (get_or (mask_bits m) i false && b)
all_true_marks (AllTrue k) n i b is h = all_kept_by k i b h
all_true_marks (AllFalse k) n i b is h = cc
all_true_marks (Values bits) n i b is h = cc

pub all_false_marks : (m : Mask) (n i : ℕ) (b : Bool) → m ≡ AllFalse n → i < mask_len m → false ≡ (get_or (mask_bits m) i false && b)
all_false_marks (AllTrue k) n i b is h = cc
all_false_marks (AllFalse k) n i b is h = none_kept_by k i b h
all_false_marks (Values bits) n i b is h = cc

pub mask_long : (m : Mask) → length (mask_bits m) ≡ mask_len m
mask_long (AllTrue n) = length-replicate n true
mask_long (AllFalse n) = length-replicate n false
mask_long (Values bits) = refl
