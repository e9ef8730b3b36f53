-- Schemes with how many bytes they take.
use Rattle.std.specs.Prelude.{◌≡◌, ◌≤◌, ℕ, ℤ, pos, List, length, Option, Some, None, option_map}
use Rattle.fl_types.specs.Validities.{items_of}
use Rattle.fl_column.specs.Columns.{PrimitiveParts}
use Rattle.fl_statistics.specs.declared.widths.BitStatistics.{BitStatistics}
use Rattle.fl_statistics.specs.BitStatistics.{bit_statistics}
use Rattle.fl_statistics.specs.Differences.{less_references}
use Rattle.fl_codec.specs.declared.for_.ItemOrder.{ItemOrder}
use Rattle.fl_codec.specs.FoRColumns.{chunk_references, common_reference, least_by, reading}
use Rattle.fl_codec.specs.Parts.{compress_deltas, items_of_primitive}
use Rattle.fl_encode.specs.SchemeShapes.{shape}
use Rattle.fl_encode.specs.Shapes.{RLE, Shape}
use Rattle.fl_encode.specs.Shapes as shapes
use Rattle.fl_compress.specs.declared.choice.Choice.{Choice}
use Rattle.fl_compress.specs.declared.choice.RunValues.{RunValues}
use Rattle.fl_compress.specs.declared.choice.RunValues.TheVariants.{Dictionary, Runs}
use Rattle.fl_compress.specs.declared.parts.Part.{Part}
use Rattle.fl_compress.specs.declared.parts.Part.TheVariants.{Deltas, Items}
use Rattle.fl_compress.specs.Candidates.{over_chunk_references, over_one_reference}
use Rattle.fl_compress.specs.Cheapest.{cheaper, cheapest}
use Rattle.fl_compress.specs.EncodedBytes.{encoded_bytes}

-- a scheme and its bytes
abbrev pub chosen : Choice → Option (Shape × ℕ)
chosen choice = Some (shape choice.scheme, choice.bytes)

-- the same, if there is one
abbrev pub chosen_in : Option Choice → Option (Shape × ℕ)
chosen_in None = None
chosen_in (Some choice) = chosen choice

-- a shape with these bytes, if there are any
abbrev pub with_bytes : Shape → Option ℕ → Option (Shape × ℕ)
with_bytes s bytes = option_map (λ n. (s, n)) bytes

-- the array with these slots in place of its own
abbrev pub with_slots : PrimitiveParts → List ℤ → PrimitiveParts
with_slots p slots = record { ptype = p.ptype; slots = slots; validity = p.validity }

-- these are the statistics of an array
abbrev pub AreStatisticsOf : BitStatistics → PrimitiveParts → Type 0
AreStatisticsOf statistics p = statistics ≡ bit_statistics p.ptype (items_of p.validity p.slots)

-- the slots hold an array's items less the references of their blocks, less one where the list has none
abbrev pub HoldDifferences : List ℤ → PrimitiveParts → ℤ → List ℤ → Type 0
HoldDifferences slots p one references = (length slots ≡ length p.slots) × (items_of p.validity slots ≡ less_references p.ptype one references (items_of p.validity p.slots))

-- two shapes as one thing
abbrev pub two : Shape → Shape → Shape × Shape
two first other = (first, other)

-- which run values a chunk has, in the words of shapes
abbrev pub run_values_of : RunValues → shapes.RunValues
run_values_of Runs = shapes.Runs
run_values_of Dictionary = shapes.Dictionary

-- runs or dictionaries over run values, and run indices and run offsets
abbrev pub runs_of : shapes.RunValues → Shape → Shape × Shape → Shape
runs_of which values others = RLE which values others.0 others.1

-- the cheapest of frames of reference of an order over these, or another choice
abbrev pub or_frames : ItemOrder → PrimitiveParts → List Shape → Option (Shape × ℕ) → Option (Shape × ℕ)
or_frames order p children best = cheaper (cheaper best (cheapest (encoded_bytes p) (over_one_reference order children))) (cheapest (encoded_bytes p) (over_chunk_references order children))

-- the items of an array, or its deltas, as an array
abbrev pub part_of : Part → PrimitiveParts → PrimitiveParts
part_of Items p = p
part_of Deltas p = (compress_deltas p).1

-- so many bytes are at most those of a choice, if there is one
abbrev pub CostsNoMore : ℕ → Option (Shape × ℕ) → Type 0
CostsNoMore bytes None = Unit
CostsNoMore bytes (Some choice) = bytes ≤ choice.1

-- the references have one in common, which is this integer
abbrev pub AreAll : List ℤ → Option ℤ → Type 0
AreAll references least = (z : ℤ) × (least ≡ Some z) × (common_reference references ≡ Some z)

-- by an order, 0 is the least item, and the reference of each chunk
abbrev pub HasZeroLeasts : ItemOrder → PrimitiveParts → Type 0
HasZeroLeasts order p =
    (least_by (reading order p.ptype) (items_of_primitive p) ≡ Some (pos 0)) × (common_reference (chunk_references (reading order p.ptype) (items_of_primitive p)) ≡ Some (pos 0))
