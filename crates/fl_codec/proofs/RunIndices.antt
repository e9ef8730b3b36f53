-- Run indices: how many there are, and that those of a chunk begin with 0 and are below 1024.
use Rattle.std.proofs.Common.{◌≡◌, ℕ, ℤ, pos, zero, suc, ◌*◌, ◌/◌, ◌%◌, ◌<◌, ◌≤◌, ◌^◌, Bool, true, false, length, get_or, refl, ap, sym, ◌∙◌, arith, add-one, mod-eq_of_lt}
use Rattle.std.specs.Prelude.{int_le}
use Rattle.std.specs.List.{list_all}
use Rattle.std.proofs.lemmas.Int.{ints}
use Rattle.std.proofs.lemmas.List.{get_or-map, length-map}
use Rattle.std.proofs.lemmas.Bool.Decides.{Decides-int_eq}
use Rattle.fastlanes.specs.Layout.{bit_value}
use Rattle.fastlanes.specs.Runs.{counted}
use Rattle.fl_types.specs.declared.dtype.PType.TheVariants.{U16}
use Rattle.fl_types.specs.Integers.{fits, wrap}
use Rattle.fl_types.specs.Bits.{tabulate}
use Rattle.fl_column.specs.Columns.{PrimitiveParts}
use Rattle.fl_column.proofs.ListLaws.{all_from}
use Rattle.fl_codec.specs.Chunks.{chunks_of}
use Rattle.fl_codec.specs.ForwardFill.{Reset, fill_forward}
use Rattle.fl_codec.specs.Parts.{encode_runs, items_of_primitive}
use Rattle.fl_codec.specs.Runs.{differs_next, run_index}
use Rattle.fl_codec.proofs.RunLaws.{counted_next, counted_zero}
use Rattle.fl_codec.proofs.Tables.{get_or-table, length-table}

-- how many there are
pub length-indices : (p : PrimitiveParts) → length (encode_runs p).indices.slots ≡ 1024 * chunks_of (length p.slots)
length-indices p =
    let entry : ℕ → ℕ = λ i. run_index (fill_forward Reset (items_of_primitive p)) (i / 1024) (i % 1024) in
    let n = 1024 * chunks_of (length p.slots) in
    length-map (tabulate entry n) (λ m. pos m) ∙ length-table entry n

-- one of them
index_at : (p : PrimitiveParts) (i : ℕ) → i < 1024 * chunks_of (length p.slots) → get_or (encode_runs p).indices.slots i (pos 0) ≡ pos (run_index (fill_forward Reset (items_of_primitive p)) (i / 1024) (i % 1024))
index_at p i h =
    let entry : ℕ → ℕ = λ i. run_index (fill_forward Reset (items_of_primitive p)) (i / 1024) (i % 1024) in
    let n = 1024 * chunks_of (length p.slots) in
    get_or-map (λ m. pos m) (tabulate entry n) i 0 (pos 0) (rw length-table h) ∙ ap (λ m. pos m) (get_or-table entry n i 0 h)

one_bit : (b : Bool) → bit_value b ≤ 1
one_bit true = omega arith
one_bit false = omega arith

counted_most : (test : ℕ → Bool) (n : ℕ) → counted test n ≤ n
counted_most test zero = let none = counted_zero test in omega arith
counted_most test (suc n) =
    let before = counted_most test n in
    let next = counted_next test n in
    let one = one_bit (test n) in
    rw (sym (add-one n)) (omega arith)

index_few : (item : ℕ → ℤ) (k i : ℕ) → run_index item k (i % 1024) < 1024
index_few item k i = let most = counted_most (differs_next item k) (i % 1024) in omega arith

small_fits : (n : ℕ) → n < 1024 → fits U16 (pos n) ≡ true
small_fits n h = let same : n % 2 ^ 16 ≡ n = mod-eq_of_lt (omega arith) in (Decides-int_eq (wrap U16 (pos n)) (pos n)).1 (rw same refl)

-- they are integers of their type
pub indices_fit : (p : PrimitiveParts) → list_all (fits U16) (encode_runs p).indices.slots ≡ true
indices_fit p =
    all_from (fits U16) (encode_runs p).indices.slots (pos 0)
    (λ i h.
    let within : i < 1024 * chunks_of (length p.slots) = omega (arith, length-indices p) in
    ap (fits U16) (index_at p i within) ∙ small_fits _ (index_few (fill_forward Reset (items_of_primitive p)) (i / 1024) i))

from_zero : (n : ℕ) → int_le (pos 0) (pos n) ≡ true
from_zero n = grind (arith, ints)

-- none is below 0
pub indices_from_zero : (p : PrimitiveParts) → list_all (int_le (pos 0)) (encode_runs p).indices.slots ≡ true
indices_from_zero p =
    all_from (int_le (pos 0)) (encode_runs p).indices.slots (pos 0)
    (λ i h.
    let within : i < 1024 * chunks_of (length p.slots) = omega (arith, length-indices p) in
    ap (int_le (pos 0)) (index_at p i within) ∙ from_zero _)

-- each chunk begins with 0
pub indices_begin : (p : PrimitiveParts) (k : ℕ) → k < chunks_of (length p.slots) → get_or (encode_runs p).indices.slots (1024 * k) (pos 0) ≡ pos 0
indices_begin p k h =
    let item = fill_forward Reset (items_of_primitive p) in
    let first : 1024 * k % 1024 ≡ 0 = omega arith in
    index_at p (1024 * k) (omega arith) ∙ ap (λ n. pos n) (ap (run_index item (1024 * k / 1024)) first ∙ counted_zero (differs_next item (1024 * k / 1024)))
