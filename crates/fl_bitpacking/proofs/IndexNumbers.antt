-- Columns of positions: unsigned integers without nulls.
use Rattle.std.proofs.Common.{◌≡◌, ◌==◌, ◌+◌, ℕ, ℤ, pos, true, false, not, List, [], ◌∷◌, length, map, Some, None, unwrap_or, refl, ap, if◌then◌else◌, Bool}
use Rattle.std.specs.Prelude.{unsigned_abs}
use Rattle.fl_types.specs.declared.error.FastLanesError.{FastLanesError}
use Rattle.fl_types.specs.declared.error.FastLanesError.TheVariants.{BlockOffsetsType, BlockOffsetsCount}
use Rattle.fl_types.specs.declared.dtype.DType.{DType}
use Rattle.fl_types.specs.declared.dtype.PType.{PType}
use Rattle.fl_types.specs.declared.validity.Validity.{Validity}
use Rattle.fl_types.specs.declared.validity.Validity.TheVariants as valid
use Rattle.fl_types.specs.Types.{is_index_type}
use Rattle.fl_column.specs.Columns.{PrimitiveParts, column_of_primitive, integers_in, numbers_of}
use Rattle.fl_column.specs.Numbers.{numbers}
use Rattle.fl_bitpacking.specs.Columns.{BitPackedParts, block_count}
use Rattle.fl_bitpacking.specs.Refusals.{blocked_refusal, boundaries_refusal, validity_and_patches_refusal, block_offsets_refusal, positions_refusal}

-- the items are the slots where none can be null
slots_of_items : (xs : List ℤ) → map (λ item. unwrap_or item (pos 0)) (map (λ x. Some x) xs) ≡ xs
slots_of_items [] = refl
slots_of_items (x ∷ xs) = ap (λ ys. x ∷ ys) (slots_of_items xs)

pub integers_of_non_nullable : (ptype : PType) (slots : List ℤ) → integers_in (column_of_primitive (record { ptype = ptype; slots = slots; validity = valid.NonNullable })) ≡ slots
integers_of_non_nullable ptype slots = slots_of_items slots

-- the numbers of a column of positions are those that are stored
index_numbers : (ptype : PType) (slots : List ℤ) (v : Validity) → is_index_type (column_of_primitive (record { ptype = ptype; slots = slots; validity = v })).dtype ≡ true
    → numbers_of (column_of_primitive (record { ptype = ptype; slots = slots; validity = v })) ≡ map unsigned_abs slots
index_numbers ptype slots valid.NonNullable h = ap (map unsigned_abs) (slots_of_items slots)
index_numbers ptype slots valid.AllValid h = cc
index_numbers ptype slots valid.AllInvalid h = cc
index_numbers ptype slots (valid.Array bits) h = cc

pub numbers_of_index : (p : PrimitiveParts) → is_index_type (column_of_primitive p).dtype ≡ true → numbers_of (column_of_primitive p) ≡ numbers p
numbers_of_index p h = index_numbers p.ptype p.slots p.validity h

counted_test : (fit count : Bool) (a b : FastLanesError) → (if not fit then Some a else if not count then Some b else None) ≡ None → (fit ≡ true) × (count ≡ true)
counted_test true true a b h = (refl, refl)
counted_test true false a b h = cc
counted_test false c a b h = cc

-- boundaries of an accepted type and number
pub counted : (blocks : ℕ) (dtype : DType) (n : ℕ) → block_offsets_refusal blocks dtype n ≡ None → (is_index_type dtype ≡ true) × ((n == blocks + 1) ≡ true)
counted blocks dtype n h = counted_test (is_index_type dtype) (n == blocks + 1) BlockOffsetsType BlockOffsetsCount h

-- the refusal of the boundaries themselves
pub against_boundaries : (parts : BitPackedParts) (p : PrimitiveParts) (refusal : FastLanesError) → positions_refusal parts.offset parts.len ≡ None → block_offsets_refusal (block_count parts) (column_of_primitive p).dtype (length (column_of_primitive p).items) ≡ None
    → Some refusal ≡ boundaries_refusal parts (numbers p) → Some refusal ≡ blocked_refusal parts (column_of_primitive p)
against_boundaries parts p refusal a b e =
    let same = numbers_of_index p (counted (block_count parts) (column_of_primitive p).dtype (length (column_of_primitive p).items) b).0 in
    rw (a, b, same, ← e) refl

-- the refusal of the rest
pub against_contents : (parts : BitPackedParts) (p : PrimitiveParts) → positions_refusal parts.offset parts.len ≡ None → block_offsets_refusal (block_count parts) (column_of_primitive p).dtype (length (column_of_primitive p).items) ≡ None
    → boundaries_refusal parts (numbers p) ≡ None → validity_and_patches_refusal parts ≡ blocked_refusal parts (column_of_primitive p)
against_contents parts p a b e =
    let same = numbers_of_index p (counted (block_count parts) (column_of_primitive p).dtype (length (column_of_primitive p).items) b).0 in
    rw (a, b, same, e) refl

-- the same of numbers that are the same
pub same_count : (a b n m : ℕ) (d e : DType) → a ≡ b → d ≡ e → n ≡ m → block_offsets_refusal a d n ≡ None → block_offsets_refusal b e m ≡ None
same_count a b n m d e p q r h = rw (← p, ← q, ← r) h
