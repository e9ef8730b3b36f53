-- The numbers and the validity of a part of a column.
use Rattle.std.proofs.Common.{◌≡◌, ◌+◌, ◌-◌, ◌<◌, ℕ, ℤ, pos, false, true, List, [], ◌∷◌, length, map, Some, refl, ap, ◌∙◌, unwrap_or}
use Rattle.std.specs.Prelude.{unsigned_abs}
use Rattle.std.proofs.lemmas.List.{length-map}
use Rattle.fl_types.specs.declared.dtype.PType.{PType}
use Rattle.fl_types.specs.declared.validity.Validity.{Validity}
use Rattle.fl_types.specs.declared.validity.Validity.TheVariants as valid
use Rattle.fl_types.specs.Bits.{between}
use Rattle.fl_types.specs.Integers.{is_unsigned}
use Rattle.fl_types.specs.Types.{is_index_type}
use Rattle.fl_types.specs.Validities.{is_valid_at, validity_between}
use Rattle.fl_column.specs.Columns.{Column, PrimitiveParts, column_of_primitive, integers_in, numbers_of}
use Rattle.fl_column.specs.Operations.{slice_of}
use Rattle.fl_codec.proofs.Tables.{get_or-between, map-between}

-- the items of a part of the validity
pub valid-between : (v : Validity) (start end i : ℕ) → i < end - start → is_valid_at (validity_between start end v) i ≡ is_valid_at v (start + i)
valid-between valid.NonNullable start end i h = refl
valid-between valid.AllValid start end i h = refl
valid-between valid.AllInvalid start end i h = refl
valid-between (valid.Array bits) start end i h = get_or-between bits start end i false h

pub length-numbers_of : (c : Column) → length (numbers_of c) ≡ length c.items
length-numbers_of c = length-map (integers_in c) unsigned_abs ∙ length-map c.items (λ item. unwrap_or item (pos 0))

-- the numbers of a part
pub numbers_of-slice : (c : Column) (start end : ℕ) → numbers_of (slice_of start end c) ≡ between start end (numbers_of c)
numbers_of-slice c start end = ap (map unsigned_abs) (map-between (λ item. unwrap_or item (pos 0)) c.items start end) ∙ map-between unsigned_abs (integers_in c) start end

-- the items are the slots where none can be null
slots_of_items : (xs : List ℤ) → map (λ item. unwrap_or item (pos 0)) (map (λ x. Some x) xs) ≡ xs
slots_of_items [] = refl
slots_of_items (x ∷ xs) = ap (λ ys. x ∷ ys) (slots_of_items xs)

pub integers_of_non_nullable : (ptype : PType) (slots : List ℤ) → integers_in (column_of_primitive (record { ptype = ptype; slots = slots; validity = valid.NonNullable })) ≡ slots
integers_of_non_nullable ptype slots = slots_of_items slots

-- positions are unsigned
unsigned_by : (ptype : PType) (slots : List ℤ) (v : Validity) → is_index_type (column_of_primitive (record { ptype = ptype; slots = slots; validity = v })).dtype ≡ true → is_unsigned ptype ≡ true
unsigned_by ptype slots valid.NonNullable h = h
unsigned_by ptype slots valid.AllValid h = cc
unsigned_by ptype slots valid.AllInvalid h = cc
unsigned_by ptype slots (valid.Array bits) h = cc

pub unsigned_positions : (p : PrimitiveParts) → is_index_type (column_of_primitive p).dtype ≡ true → is_unsigned p.ptype ≡ true
unsigned_positions p h = unsigned_by p.ptype p.slots p.validity h
