-- Boundaries that are all equal: each block between them has width 0.
use Rattle.std.proofs.Common.{◌≡◌, ◌==◌, ◌+◌, ◌*◌, ◌/◌, ℕ, zero, suc, ◌<◌, ◌≤◌, ◌-◌, false, length, map, replicate, get_or, pos, refl, ap, ◌∙◌, arith, Some, None, true}
use Rattle.std.specs.Prelude.{unsigned_abs, unwrap_or, not, if◌then◌else◌}
use Rattle.std.proofs.lemmas.Bool.{ne_eqb}
use Rattle.fl_types.specs.declared.error.FastLanesError.TheVariants.{BlockSpan}
use Rattle.fl_column.specs.Columns.{ConstantParts, column_of_constant, numbers_of}
use Rattle.fl_column.specs.Queries.{each_next}
use Rattle.fl_column.proofs.ItemLaws.{map-replicate}
use Rattle.fl_bitpacking.specs.Blocks.{are_blocks, boundary_blocks, global_blocks, is_block}
use Rattle.fl_bitpacking.specs.Columns.{BitPackedParts, block_count}
use Rattle.fl_bitpacking.specs.Refusals.{block_offsets_refusal, blocked_refusal, boundaries_refusal, positions_refusal, validity_and_patches_refusal}
use Rattle.fl_bitpacking.proofs.BoundaryLaws.{is_ends}

pub equal_numbers : (c : ConstantParts) → numbers_of (column_of_constant c) ≡ replicate c.len (unsigned_abs (unwrap_or c.scalar.value (pos 0)))
equal_numbers c = ap (map unsigned_abs) (map-replicate (λ item. unwrap_or item (pos 0)) c.len c.scalar.value) ∙ map-replicate unsigned_abs c.len (unwrap_or c.scalar.value (pos 0))

block_of_no_width : (bits size b : ℕ) → is_block bits size b b b ≡ true
block_of_no_width bits size b =
    let none : b - b ≡ 0 = omega arith in
    is_ends bits size b b b (record {
      low = omega arith;
      order = omega arith;
      room = omega arith;
      from = rw none refl;
      whole = rw none refl;
      narrow = rw none (omega arith);
    })

each_of_no_width : (bits size n b : ℕ) → each_next (is_block bits size b) (replicate n b) ≡ true
each_of_no_width bits size zero b = refl
each_of_no_width bits size (suc zero) b = refl
each_of_no_width bits size (suc (suc n)) b = rw (block_of_no_width bits size b) (each_of_no_width bits size (suc n) b)

are_of_no_width : (bits size n b : ℕ) → are_blocks bits size (replicate n b) ≡ true
are_of_no_width bits size zero b = refl
are_of_no_width bits size (suc n) b = each_of_no_width bits size (suc n) b

copy_or_nothing : (n k b : ℕ) → get_or (replicate n b) k 0 ≤ b
copy_or_nothing zero k b = omega arith
copy_or_nothing (suc n) zero b = omega arith
copy_or_nothing (suc n) (suc k) b = copy_or_nothing n k b

no_span : (n k b : ℕ) → get_or (replicate n b) k 0 - get_or (replicate n b) 0 0 ≡ 0
no_span zero k b = refl
no_span (suc n) k b = let first : get_or (replicate (suc n) b) 0 0 ≡ b = refl in rw first (omega (arith, copy_or_nothing (suc n) k b))

-- equal boundaries are those of blocks without bytes
pub equal_boundaries : (parts : BitPackedParts) (c : ConstantParts) → boundaries_refusal parts (numbers_of (column_of_constant c)) ≡ (if not (0 == length parts.packed) then Some BlockSpan else None)
equal_boundaries parts c = rw (equal_numbers c, are_of_no_width _ (length parts.packed) c.len _, no_span c.len (block_count parts) _) refl

-- where there are bytes, equal boundaries are refused for them
pub refused_bytes : (parts : BitPackedParts) (c : ConstantParts) → positions_refusal parts.offset parts.len ≡ None → block_offsets_refusal (block_count parts) (column_of_constant c).dtype (length (column_of_constant c).items) ≡ None
    → 0 < length parts.packed → Some BlockSpan ≡ blocked_refusal parts (column_of_constant c)
refused_bytes parts c a b h =
    let some : (0 == length parts.packed) ≡ false = ne_eqb 0 (length parts.packed) (λ e. absurd (omega arith)) in
    let span : boundaries_refusal parts (numbers_of (column_of_constant c)) ≡ Some BlockSpan = equal_boundaries parts c ∙ rw some refl in
    rw (a, b, span) refl

-- where there are none, the rest decides
pub judged_without_bytes : (parts : BitPackedParts) (c : ConstantParts) → positions_refusal parts.offset parts.len ≡ None → block_offsets_refusal (block_count parts) (column_of_constant c).dtype (length (column_of_constant c).items) ≡ None
    → length parts.packed ≡ 0 → validity_and_patches_refusal parts ≡ blocked_refusal parts (column_of_constant c)
judged_without_bytes parts c a b h =
    let sound : boundaries_refusal parts (numbers_of (column_of_constant c)) ≡ None = equal_boundaries parts c ∙ rw h refl in
    rw (a, b, sound) refl

never_more : (n j b : ℕ) → get_or (replicate n b) (j + 1) 0 ≤ get_or (replicate n b) j 0
never_more zero j b = omega arith
never_more (suc n) zero b = copy_or_nothing n 0 b
never_more (suc n) (suc j) b = let step : suc j + 1 ≡ suc (j + 1) = omega arith in rw step (never_more n j b)

no_start : (n j b : ℕ) → get_or (replicate n b) j 0 - get_or (replicate n b) 0 0 ≡ 128 * 0 * j
no_start n j b = omega (arith, no_span n j b)

no_width : (n j b : ℕ) → (get_or (replicate n b) (j + 1) 0 - get_or (replicate n b) j 0) / 128 ≡ 0
no_width n j b = let none : get_or (replicate n b) (j + 1) 0 - get_or (replicate n b) j 0 ≡ 0 = omega (arith, never_more n j b) in rw none refl

-- blocks between equal boundaries are blocks of width 0
pub equal_blocks : (c : ConstantParts) → boundary_blocks (numbers_of (column_of_constant c)) ≡ global_blocks 0
equal_blocks c = ap boundary_blocks (equal_numbers c) ∙ (λ i. record { start = λ j. no_start c.len j (unsigned_abs (unwrap_or c.scalar.value (pos 0))) i; width = λ j. no_width c.len j (unsigned_abs (unwrap_or c.scalar.value (pos 0))) i })
