-- Run offsets that are all equal: no chunk but the last one has a run value.
use Rattle.std.proofs.Common.{◌≡◌, ◌==◌, ◌||◌, ◌&&◌, ◌-◌, ℕ, ◌<◌, true, false, Some, None, List, length, replicate, get_or, nat_le, nat_lt, pos, refl, ap, sym, ◌∙◌, arith}
use Rattle.std.specs.Prelude.{unsigned_abs, unwrap_or}
use Rattle.std.specs.List.{range_with_len}
use Rattle.std.proofs.lemmas.Bool.{lt-ltb}
use Rattle.std.proofs.lemmas.List.{get_or-replicate, length-replicate}
use Rattle.std.proofs.lemmas.List.FromFn.{get_or-range_with_len, length-range_with_len}
use Rattle.fl_types.specs.declared.error.FastLanesError.TheVariants.{RunOffsets}
use Rattle.fl_column.specs.Columns.{Column, ConstantParts, column_of_constant, numbers_of}
use Rattle.fl_column.proofs.ListLaws.{all_fails, and_false}
use Rattle.fl_codec.specs.RunColumns.{are_run_offsets, chunk_end, chunk_start, is_chunk_of_runs, run_count}
use Rattle.fl_codec.specs.RunRefusals.{rle_refusal, rle_types_refusal}
use Rattle.fl_bitpacking.proofs.EqualBoundaries.{equal_numbers}

first_fails : (offsets : List ℕ) (count : ℕ) → 1 < length offsets → get_or offsets 1 0 ≡ get_or offsets 0 0 → is_chunk_of_runs offsets count 0 ≡ false
first_fails offsets count h e =
    let inside : nat_lt 1 (length offsets) ≡ true = lt-ltb 1 (length offsets) h in
    let end_is : chunk_end offsets count 0 ≡ get_or offsets 1 0 - get_or offsets 0 0 = rw inside refl in
    let nothing : get_or offsets 0 0 - get_or offsets 0 0 ≡ 0 = omega arith in
    let empty : nat_lt (chunk_start offsets 0) (get_or offsets 1 0 - get_or offsets 0 0) ≡ false = rw (e, nothing) refl in
    let less : nat_lt (chunk_start offsets 0) (chunk_end offsets count 0) ≡ false = ap (nat_lt (chunk_start offsets 0)) end_is ∙ empty in
    and_false (nat_le (get_or offsets 0 0) (get_or offsets 0 0)) (ap (λ b. b && nat_le (run_count offsets count 0) 1024) less)

no_offsets : (offsets : List ℕ) (count : ℕ) → 1 < length offsets → get_or offsets 1 0 ≡ get_or offsets 0 0 → are_run_offsets offsets count ≡ false
no_offsets offsets count h e =
    let long : 0 < length (range_with_len 0 (length offsets)) = omega (arith, length-range_with_len 0 (length offsets)) in
    let first : get_or (range_with_len 0 (length offsets)) 0 0 ≡ 0 = get_or-range_with_len 0 (length offsets) 0 0 (omega arith) in
    and_false (nat_lt 0 (length offsets) || (count == 0)) (all_fails (is_chunk_of_runs offsets count) (range_with_len 0 (length offsets)) 0 0 long (rw first (first_fails offsets count h e)))

-- two chunks or more whose run offsets are one constant
pub constant_offsets : (c : ConstantParts) (count : ℕ) → 1 < c.len → are_run_offsets (numbers_of (column_of_constant c)) count ≡ false
constant_offsets c count h =
    let n = unsigned_abs (unwrap_or c.scalar.value (pos 0)) in
    let long : 1 < length (replicate c.len n) = omega (arith, length-replicate c.len n) in
    ap (λ ns. are_run_offsets ns count) (equal_numbers c) ∙ no_offsets (replicate c.len n) count long (get_or-replicate c.len 1 n 0 h ∙ sym (get_or-replicate c.len 0 n 0 (omega arith)))

-- what is refused for its run offsets
pub refused_by_offsets : (v i o : Column) (offset len : ℕ) → rle_types_refusal v.dtype i.dtype o.dtype (length i.items) (length o.items) offset len ≡ None → are_run_offsets (numbers_of o) (length v.items) ≡ false → rle_refusal v i o offset len ≡ Some RunOffsets
refused_by_offsets v i o offset len h e = rw (h, e) refl
