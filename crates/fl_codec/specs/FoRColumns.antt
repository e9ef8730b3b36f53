-- Columns that are kept less a reference.
use Rattle.std.specs.Prelude.{◌+◌, ◌/◌, ◌^◌, ◌+ℤ◌, ◌-ℤ◌, ℕ, ℤ, pos, List, [], ◌∷◌, length, map, take, Option, Some, None, option_map, unwrap_or, slice_index_or, int_le, int_lt, find, filter_map, if◌then◌else◌}
use Rattle.std.specs.List.{list_all}
use Rattle.std.specs.Ordering.{int_eq}
use Rattle.fl_types.specs.declared.dtype.PType.{PType}
use Rattle.fl_types.specs.declared.dtype.PType.TheVariants.{U8, U16, U32, U64}
use Rattle.fl_types.specs.Bits.{tabulate}
use Rattle.fl_types.specs.Integers.{is_unsigned, other_sign, wrap}
use Rattle.fl_column.specs.Columns.{Column, ptype_of_column}
use Rattle.fl_codec.specs.Chunks.{chunk, chunks_of}
use Rattle.fl_codec.specs.ForwardFill.{first_some, last_some}
use Rattle.fl_codec.specs.declared.for_.ItemOrder.{ItemOrder}
use Rattle.fl_codec.specs.declared.for_.ItemOrder.TheVariants.{Natural, Signed}

-- an item plus a reference, modulo 2 to the type's bits
abbrev pub plus_reference : PType → ℤ → Option ℤ → Option ℤ
plus_reference ptype reference item = option_map (λ z. wrap ptype (z +ℤ reference)) item

-- each item plus one reference
abbrev pub global_for : ℤ → Column → Column
global_for reference c = record { dtype = c.dtype; items = map (plus_reference (ptype_of_column c) reference) c.items }

-- item i plus the reference of chunk (offset + i) / 1024
abbrev pub chunked_for : List ℤ → ℕ → Column → Column
chunked_for references offset c = record { dtype = c.dtype; items = tabulate (λ i. plus_reference (ptype_of_column c) (slice_index_or references ((offset + i) / 1024) (pos 0)) (slice_index_or c.items i None)) (length c.items) }

-- the slots of a chunked FoR, each plus the reference of its chunk
abbrev pub chunked_sums : PType → List ℤ → ℕ → List ℤ → List ℤ
chunked_sums ptype references offset slots = tabulate (λ i. wrap ptype (slice_index_or slots i (pos 0) +ℤ slice_index_or references ((offset + i) / 1024) (pos 0))) (length slots)

-- ---- the least items
-- the items that are not null
abbrev pub valid_items : List (Option ℤ) → List ℤ
valid_items items = filter_map (λ item. item) items

-- an integer of a type as an order compares it: itself, or read as a signed one of as many bits
abbrev pub reading : ItemOrder → PType → ℤ → ℤ
reading Natural ptype z = z
reading Signed ptype z = if is_unsigned ptype then wrap (other_sign ptype) z else z

-- the valid item whose reading is above that of no other
abbrev pub least_by : (ℤ → ℤ) → List (Option ℤ) → Option ℤ
least_by read items = find (λ z. list_all (λ x. int_le (read z) (read x)) (valid_items items)) (valid_items items)

-- the valid item that is above no other
abbrev pub least_valid : List (Option ℤ) → Option ℤ
least_valid items = least_by (λ z. z) items

-- what is subtracted from an integer so that its order becomes the natural one, modulo 2 to the type's bits: its own negative
abbrev pub origin_of : ItemOrder → PType → ℤ
origin_of Signed U8 = pos (2 ^ 7)
origin_of Signed U16 = pos (2 ^ 15)
origin_of Signed U32 = pos (2 ^ 31)
origin_of Signed U64 = pos (2 ^ 63)
origin_of order ptype = pos 0

-- an integer less an origin, modulo 2 to the type's bits
abbrev pub turned : PType → ℤ → ℤ → ℤ
turned ptype origin z = wrap ptype (z -ℤ origin)

-- the lesser of two items, of which a null is none
abbrev pub min_valid : Option ℤ → Option ℤ → Option ℤ
min_valid None other = other
min_valid (Some x) None = Some x
min_valid (Some x) (Some y) = Some (if int_lt y x then y else x)

-- the least valid item of each chunk, if it has one
abbrev pub chunk_leasts : (ℤ → ℤ) → List (Option ℤ) → List (Option ℤ)
chunk_leasts read items = tabulate (λ k. least_by read (chunk k items)) (chunks_of (length items))

-- ---- the references
-- a chunk of nulls repeats the reference before it, and leading ones take the first that there is
abbrev pub reference_of_chunk : List (Option ℤ) → ℕ → ℤ
reference_of_chunk leasts k = unwrap_or (last_some (take (k + 1) leasts)) (unwrap_or (first_some leasts) (pos 0))

-- the reference of each chunk
abbrev pub chunk_references : (ℤ → ℤ) → List (Option ℤ) → List ℤ
chunk_references read items = tabulate (reference_of_chunk (chunk_leasts read items)) (chunks_of (length items))

-- the one reference that all of them are, 0 of no references; none where they differ
abbrev pub common_reference : List ℤ → Option ℤ
common_reference [] = Some (pos 0)
common_reference (first ∷ others) = if list_all (int_eq first) others then Some first else None

-- ---- the child
-- the slot of an item less its reference, 0 under a null
abbrev pub minus_reference : PType → ℤ → Option ℤ → ℤ
minus_reference ptype reference item = unwrap_or (option_map (λ z. wrap ptype (z -ℤ reference)) item) (pos 0)

-- item i less the reference of its chunk
abbrev pub chunked_slots : PType → List ℤ → List (Option ℤ) → List ℤ
chunked_slots ptype references items = tabulate (λ i. minus_reference ptype (slice_index_or references (i / 1024) (pos 0)) (slice_index_or items i None)) (length items)
