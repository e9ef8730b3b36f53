-- Items less references.
use Rattle.std.specs.Prelude.{◌/◌, ◌-ℤ◌, ℕ, ℤ, List, length, map, Option, None, option_map, pos, slice_index_or, unwrap_or}
use Rattle.fl_types.specs.declared.dtype.PType.{PType}
use Rattle.fl_types.specs.Bits.{tabulate}
use Rattle.fl_types.specs.Integers.{read_as, wrap}
use Rattle.fl_column.specs.Columns.{PrimitiveParts}
use Rattle.fl_codec.specs.Parts.{compress_deltas, items_of_primitive}

-- an integer less a reference, modulo 2 to the type's bits
abbrev pub difference : PType → ℤ → ℤ → ℤ
difference ptype reference z = wrap ptype (z -ℤ reference)

-- each item less the reference of its block of 1024, or less one where the list has no reference for the block; a null stays a null
unfoldable pub less_references : PType → ℤ → List ℤ → List (Option ℤ) → List (Option ℤ)
less_references ptype one references items =
    tabulate (λ i. option_map (difference ptype (slice_index_or references (i / 1024) one)) (slice_index_or items i None)) (length items)

-- the deltas of an array, none of which is null
abbrev pub deltas_of : PrimitiveParts → List (Option ℤ)
deltas_of p = items_of_primitive (compress_deltas p).1

-- the integer of an item, 0 of a null
abbrev pub slot_of : Option ℤ → ℤ
slot_of item = unwrap_or item (pos 0)

-- words, each read as an integer of a type
abbrev pub read_words : {X : Type 0} → (X → ℕ) → PType → List X → List ℤ
read_words pattern ptype words = map (λ word. read_as ptype (pattern word)) words
