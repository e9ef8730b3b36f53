-- Totals over the best widths of blocks, one block at a time.
use Rattle.std.proofs.Common.{◌≡◌, ℕ, ℤ, ◌+◌, ◌*◌, ◌≤◌, ◌<◌, ◌==◌, ◌&&◌, Bool, true, false, not, nat_lt, List, [], ◌∷◌, ◌++◌, length, get_or, sum, Option, refl, ap, sym, ◌∙◌, arith}
use Rattle.std.specs.List.{list_all, list_any}
use Rattle.std.proofs.lemmas.List.{take_all}
use Rattle.std.proofs.lemmas.List.Folds.{list_all-append}
use Rattle.std.proofs.lemmas.List.Sums.{sum_by_push}
use Rattle.fl_types.specs.declared.dtype.PType.{PType}
use Rattle.fl_types.specs.Bits.{between}
use Rattle.fl_types.specs.Integers.{bits_of_type, fits, is_unsigned}
use Rattle.fl_column.specs.Chunks.{chunk_count}
use Rattle.fl_column.specs.Columns.{option_all}
use Rattle.fl_patches.specs.Costs.{best_width, best_widths, block_histogram, count_above, first_widths}
use Rattle.fl_patches.specs.Exceptions.{exception_count, histogram_of, is_negative, width_of_block}
use Rattle.fl_patches.proofs.LeastTotals.{chosen_after, exceptions_few, exceptions_more, exceptions_to, widths_more}
use Rattle.fl_statistics.specs.BitStatistics.{bit_statistics}
use Rattle.fl_statistics.specs.declared.widths.WidthTotals.{WidthTotals}
use Rattle.fl_statistics.specs.WidthTotals.{AreWidthTotals}
use Rattle.fl_patches.proofs.Histograms.{entry_at}
use Rattle.fl_patches.proofs.Signs.{signs_counted}
use Rattle.fl_statistics.proofs.Counts.{first_part}

next_widths : (t : PType) (items : List (Option ℤ)) (block w : ℕ) → w ≡ best_width t (block_histogram t items block) → first_widths t items block ++ w ∷ [] ≡ first_widths t items (block + 1)
next_widths t items block w best = widths_more t items block w (first_widths t items block) (first_widths t items block ++ w ∷ []) best refl refl

pub sum_more : (t : PType) (items : List (Option ℤ)) (block w total : ℕ) → w ≡ best_width t (block_histogram t items block) → total ≡ sum (first_widths t items block) → total + w ≡ sum (first_widths t items (block + 1))
sum_more t items block w total best so = ap (λ n. n + w) so ∙ (sym (sum_by_push (λ (x : ℕ). x) (first_widths t items block) w) ∙ ap sum (next_widths t items block w best))

and_true : (b : Bool) → (b && true) ≡ b
and_true true = refl
and_true false = refl

all_push : (f : ℕ → Bool) (xs : List ℕ) (x : ℕ) → list_all f (xs ++ x ∷ []) ≡ (list_all f xs && f x)
all_push f xs x = list_all-append f xs (x ∷ []) ∙ ap (λ b. list_all f xs && b) (and_true (f x))

-- whether all widths are the type's bits, and the next one
pub native_more : (t : PType) (items : List (Option ℤ)) (block w : ℕ) (native last : Bool) → w ≡ best_width t (block_histogram t items block) → native ≡ list_all (λ width. width == bits_of_type t) (first_widths t items block) → last ≡ (w == bits_of_type t)
    → (native && last) ≡ list_all (λ width. width == bits_of_type t) (first_widths t items (block + 1))
native_more t items block w native last best so is =
    let f : ℕ → Bool = λ width. width == bits_of_type t in
    ap (λ a. a && last) so ∙ (ap (λ b. list_all f (first_widths t items block) && b) is ∙ (sym (all_push f (first_widths t items block) w) ∙ ap (list_all f) (next_widths t items block w best)))

-- ---- the answer
pub statistics_are : (t : PType) (items : List (Option ℤ)) (blocks width exceptions widths block_exceptions bits : ℕ) (all : List ℕ) (native negative : Bool) → list_all (option_all (fits t)) items ≡ true → negative ≡ (not (is_unsigned t) && nat_lt 0 (get_or all bits 0)) → blocks ≡ chunk_count (length items) → bits ≡ bits_of_type t → all ≡ histogram_of t (between 0 (1024 * blocks) items)
    → width ≡ best_width t all → exceptions ≡ count_above width all → widths ≡ sum (first_widths t items blocks) → block_exceptions ≡ exceptions_to t items blocks → native ≡ list_all (λ w. w == bits_of_type t) (first_widths t items blocks)
    → record { negative = negative; width = width; exceptions = exceptions; block_widths = widths; block_exceptions = block_exceptions; all_native = native; widest = get_or all bits 0 } ≡ bit_statistics t items
unfolding bit_statistics
statistics_are t items blocks width exceptions widths block_exceptions bits all native negative fit wide last room counted best out sums left natives =
    let whole : all ≡ histogram_of t items = counted ∙ ap (histogram_of t) all_items in
    let chosen = chosen_after t items blocks (first_widths t items blocks) block_exceptions last refl left in
    let lost : block_exceptions ≡ exception_count t (width_of_block (best_widths t items)) items = ap (λ c. c.exceptions) chosen in
    let entry = ap (λ n. get_or all n 0) room ∙ (ap (λ es. get_or es (bits_of_type t) 0) whole ∙ entry_at t items (bits_of_type t) (omega arith)) in
    let below : negative ≡ list_any is_negative items = wide ∙ (ap (λ n. not (is_unsigned t) && nat_lt 0 (get_or all n 0)) room ∙ signs_counted t items all whole fit) in
    rw (below, entry, lost, natives, sums, out, best, whole, last) refl
  where
    all_items : between 0 (1024 * blocks) items ≡ items
    all_items = first_part items (1024 * blocks) ∙ take_all (1024 * blocks) items (omega (arith, last))

-- ---- before the first block
pub sum_none : (t : PType) (items : List (Option ℤ)) → 0 ≡ sum (first_widths t items 0)
unfolding first_widths
sum_none t items = refl

pub native_none : (t : PType) (items : List (Option ℤ)) → true ≡ list_all (λ width. width == bits_of_type t) (first_widths t items 0)
unfolding first_widths
native_none t items = refl

-- ---- the totals
pub no_totals : (t : PType) (items : List (Option ℤ)) (totals : WidthTotals) → totals ≡ record { widths = 0; exceptions = 0; all_native = true } → AreWidthTotals t items 0 totals
no_totals t items totals e = rw e (record { widths = sum_none t items; exceptions = refl; all_native = native_none t items })

pub totals_more : (t : PType) (items : List (Option ℤ)) (block w out : ℕ) (old new : WidthTotals) → 1024 * block < length items → w ≡ best_width t (block_histogram t items block) → out ≡ count_above w (block_histogram t items block) → AreWidthTotals t items block old
    → new.widths ≡ old.widths + w → new.exceptions ≡ old.exceptions + out → new.all_native ≡ (old.all_native && (w == bits_of_type t)) → AreWidthTotals t items (block + 1) new
unfolding exceptions_to
totals_more t items block w out old new begun best above were sums lost natives = record {
  widths = sums ∙ sum_more t items block w old.widths best were.widths;
  exceptions = lost ∙ exceptions_more t items block w old.exceptions out begun best above were.exceptions;
  all_native = natives ∙ native_more t items block w old.all_native (w == bits_of_type t) best were.all_native refl;
}

-- what the histogram of all items and the totals of all blocks say
pub statistics_from : (t : PType) (items : List (Option ℤ)) (totals : WidthTotals) (width exceptions : ℕ) (all : List ℕ) (negative : Bool) (bits : ℕ) → list_all (option_all (fits t)) items ≡ true → all ≡ histogram_of t items → AreWidthTotals t items (chunk_count (length items)) totals
    → bits ≡ bits_of_type t → negative ≡ (not (is_unsigned t) && nat_lt 0 (get_or all bits 0)) → width ≡ best_width t all → exceptions ≡ count_above width all
    → record { negative = negative; width = width; exceptions = exceptions; block_widths = totals.widths; block_exceptions = totals.exceptions; all_native = totals.all_native; widest = get_or all bits 0 } ≡ bit_statistics t items
unfolding exceptions_to
statistics_from t items totals width exceptions all negative bits fit counted are room wide best out =
    let blocks = chunk_count (length items) in
    let whole : between 0 (1024 * blocks) items ≡ items = first_part items (1024 * blocks) ∙ take_all (1024 * blocks) items (omega arith) in
    statistics_are t items blocks width exceptions totals.widths totals.exceptions bits all totals.all_native negative fit wide refl room (counted ∙ ap (histogram_of t) (sym whole)) best out are.widths are.exceptions are.all_native

-- they leave out no more items than there are
pub exceptions_most : (t : PType) (items : List (Option ℤ)) (block : ℕ) (totals : WidthTotals) → AreWidthTotals t items block totals → totals.exceptions ≤ length items
unfolding exceptions_to
exceptions_most t items block totals are = let few = exceptions_few t items block in omega (arith, are.exceptions)

-- the blocks have all items
pub whole_part : (items : List (Option ℤ)) (blocks : ℕ) → blocks ≡ chunk_count (length items) → between 0 (1024 * blocks) items ≡ items
whole_part items blocks all = first_part items (1024 * blocks) ∙ take_all (1024 * blocks) items (omega arith)
