-- A column as text: a line for each item, a number or `null`.
use Rattle.std.specs.Prelude.{◌≡◌, ◌++◌, ◌<◌, ◌&&◌, ◌==◌, ◌^◌, ℕ, ℤ, pos, neg_ℤ, unsigned_abs, Bool, not, List, [], ◌∷◌, length, map, nat_lt, nat_le, if◌then◌else◌, Option, Some, None, option_map, option_and_then, is_some, unwrap_or, bytes_eq, codes}
use Rattle.std.specs.List.{list_all}
use Rattle.std.specs.Fmt.{signed_decimal}
use Rattle.std.specs.Str.{all_ascii_digits}
use Rattle.std.specs.Str.Parse.{digits_value}
use Rattle.fl_types.specs.declared.dtype.DType.TheVariants.{Primitive}
use Rattle.fl_types.specs.declared.dtype.Nullability.{Nullability}
use Rattle.fl_types.specs.declared.dtype.Nullability.TheVariants.{NonNullable, Nullable}
use Rattle.fl_types.specs.declared.dtype.PType.{PType}
use Rattle.fl_types.specs.declared.validity.Validity.{Validity}
use Rattle.fl_types.specs.declared.validity.Validity.TheVariants as valid
use Rattle.fl_types.specs.Integers.{fits}
use Rattle.fl_types.specs.Types.{can_be_null, nullability_in}
use Rattle.fl_column.specs.Columns.{Column, PrimitiveParts, integers_in, ptype_of_column}

-- ---- lines
-- a byte before the first line
abbrev pub on_first_line : ℕ → List (List ℕ) → List (List ℕ)
on_first_line b [] = (b ∷ []) ∷ []
on_first_line b (line ∷ lines) = (b ∷ line) ∷ lines

-- the lines of a text: each is ended by a line feed, and the last one also by the end
abbrev pub lines_of : List ℕ → List (List ℕ)
lines_of [] = []
lines_of (b ∷ bs) = if b == 10 then [] ∷ lines_of bs else on_first_line b (lines_of bs)

-- ---- numbers
-- the number that one or more decimal digits write; zeros may lead
abbrev pub number_in_digits : List ℕ → Option ℕ
number_in_digits ds = if nat_lt 0 (length ds) && all_ascii_digits ds then Some (digits_value 10 ds) else None

-- the same where it is at most max
abbrev pub number_up_to : ℕ → List ℕ → Option ℕ
number_up_to max ds = option_and_then (λ n. if nat_le n max then Some n else None) (number_in_digits ds)

-- the integer that digits write, with a minus before them or not
abbrev pub integer_in_text : List ℕ → Option ℤ
integer_in_text [] = None
integer_in_text (b ∷ bs) = if b == 45 then option_map (λ n. neg_ℤ (pos n)) (number_in_digits bs) else option_map (λ n. pos n) (number_in_digits (b ∷ bs))

-- the same where it lies between -2^64 and 2^64, as the integers of every type do
abbrev pub integer_of_64_bits : List ℕ → Option ℤ
integer_of_64_bits text = option_and_then (λ z. if nat_lt (unsigned_abs z) (2 ^ 64) then Some z else None) (integer_in_text text)

-- the same where it is one of the type
abbrev pub integer_of_type : PType → List ℕ → Option ℤ
integer_of_type ptype text = option_and_then (λ z. if fits ptype z then Some z else None) (integer_in_text text)

-- ---- columns
-- the item that a line says: a null where one may stand, else an integer of the type
abbrev pub item_in_line : PType → Nullability → List ℕ → Option (Option ℤ)
item_in_line ptype nullability line = if can_be_null nullability && bytes_eq line (codes "null") then Some None else option_map (λ z. Some z) (integer_of_type ptype line)

-- the items that lines say, where each says one
abbrev pub items_in_lines : PType → Nullability → List (List ℕ) → Option (List (Option ℤ))
items_in_lines ptype nullability [] = Some []
items_in_lines ptype nullability (line ∷ lines) = option_and_then (λ item. option_map (λ items. item ∷ items) (items_in_lines ptype nullability lines)) (item_in_line ptype nullability line)

-- the column of a type that a text says, where it says one
abbrev pub column_in_text : PType → Nullability → List ℕ → Option Column
column_in_text ptype nullability text = option_map (λ items. record { dtype = Primitive ptype nullability; items = items }) (items_in_lines ptype nullability (lines_of text))

-- the first line of a text says this item, and this is behind it
pub record BeginsWithItem (ptype : PType) (nullability : Nullability) (text : List ℕ) (item : Option ℤ) (rest : List ℕ) : Type 0 where
  pub first : items_in_lines ptype nullability (lines_of text) ≡ option_map (λ items. item ∷ items) (items_in_lines ptype nullability (lines_of rest))
  pub shorter : length rest < length text

-- ---- arrays
-- the validity of items that are null where their bit is not set: bits only where some are set and some are not
abbrev pub validity_of_bits : Nullability → List Bool → Validity
validity_of_bits NonNullable bits = valid.NonNullable
validity_of_bits Nullable bits =
    if list_all (λ bit. bit) bits then valid.AllValid
    else if list_all not bits then valid.AllInvalid
    else valid.Array bits

-- the plain array of a column of integers: 0 under a null, and bits only where some items are null and some are not
abbrev pub primitive_of_column : Column → PrimitiveParts
primitive_of_column c = record { ptype = ptype_of_column c; slots = integers_in c; validity = validity_of_bits (nullability_in c.dtype) (map is_some c.items) }

-- these slots and this validity are those of the plain array of these items
pub record AreParts (nullability : Nullability) (items : List (Option ℤ)) (slots : List ℤ) (validity : Validity) : Type 0 where
  pub integers : slots ≡ map (λ item. unwrap_or item (pos 0)) items
  pub nulls : validity ≡ validity_of_bits nullability (map is_some items)

-- ---- printing
-- an item of a column of integers, as it is printed
abbrev pub item_text : Option ℤ → List ℕ
item_text None = codes "null"
item_text (Some z) = signed_decimal z

-- items as they are printed, each on a line of its own
abbrev pub items_text : List (Option ℤ) → List ℕ
items_text [] = []
items_text (item ∷ items) = item_text item ++ 10 ∷ items_text items
