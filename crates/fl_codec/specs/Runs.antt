-- Columns that are kept as runs, chunk by chunk.
use Rattle.std.specs.Prelude.{◌+◌, ◌-◌, ◌*◌, ◌/◌, ◌%◌, ℕ, ℤ, Bool, false, not, List, ◌∷◌, ◌++◌, length, map, replicate, Option, filter, flat_map}
use Rattle.std.specs.List.{range_with_len}
use Rattle.std.specs.Ordering.{int_eq}
use Rattle.fastlanes.specs.Runs.{counted}
use Rattle.fl_types.specs.declared.validity.Validity.{Validity}
use Rattle.fl_types.specs.declared.validity.Validity.TheVariants as valid
use Rattle.fl_types.specs.Bits.{tabulate}
use Rattle.fl_codec.specs.ForwardFill.{Reset, fill_forward}

-- item t + 1 of chunk k differs from item t
abbrev pub differs_next : (ℕ → ℤ) → ℕ → ℕ → Bool
differs_next item k t = not (int_eq (item (1024 * k + (t + 1))) (item (1024 * k + t)))

-- how many items of chunk k up to position q, except the first, differ from the one before
abbrev pub run_index : (ℕ → ℤ) → ℕ → ℕ → ℕ
run_index item k q = counted (differs_next item k) q

-- the first item of chunk k, and each that differs from the one before
abbrev pub chunk_values : (ℕ → ℤ) → ℕ → List ℤ
chunk_values item k = item (1024 * k) ∷ map (λ t. item (1024 * k + (t + 1))) (filter (differs_next item k) (range_with_len 0 1023))

-- the run values of the first chunks, one chunk after another
abbrev pub values_to : List (Option ℤ) → ℕ → List ℤ
values_to items chunks = flat_map (chunk_values (fill_forward Reset items)) (range_with_len 0 chunks)

-- the run index at each position of the first chunks, under nulls and in the padding too
abbrev pub indices_to : List (Option ℤ) → ℕ → List ℕ
indices_to items chunks = tabulate (λ p. run_index (fill_forward Reset items) (p / 1024) (p % 1024)) (1024 * chunks)

-- how many run values stand before each of the first chunks
abbrev pub offsets_to : List (Option ℤ) → ℕ → List ℕ
offsets_to items chunks = tabulate (λ k. length (values_to items k)) chunks

-- the validity of this many indices of a column: what the column's says of all items, or its bits and nulls in the padding
abbrev pub run_validity : Validity → ℕ → ℕ → Validity
run_validity valid.NonNullable len total = valid.NonNullable
run_validity valid.AllValid len total = valid.AllValid
run_validity valid.AllInvalid len total = valid.AllInvalid
run_validity (valid.Array bits) len total = valid.Array (bits ++ replicate (total - len) false)
