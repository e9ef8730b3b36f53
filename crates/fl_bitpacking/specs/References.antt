-- References that are added to the items of a packed column.
use Rattle.std.specs.Prelude.{◌≡◌, ◌≤◌, ◌+ℤ◌, ℕ, ℤ, pos, Bool, List, length, slice_index_or}
use Rattle.fl_types.specs.declared.dtype.PType.{PType}
use Rattle.fl_types.specs.Integers.{wrap}
use Rattle.fl_types.specs.Values.{integer_of, ptype_of_value}
use Rattle.fl_column.specs.Columns.{Column}
use Rattle.fl_codec.specs.FoRColumns.{chunked_for, global_for}
use Rattle.fl_bitpacking.specs.declared.references.References.{References}
use Rattle.fl_bitpacking.specs.declared.references.References.TheVariants as added

-- the references, if there are any, are integers of this type, one for all or one for each of this many blocks
abbrev pub AreReferencesOf : PType → ℕ → References → Type 0
AreReferencesOf ptype count added.None = Unit {0}
AreReferencesOf ptype count (added.Global reference) = ptype_of_value reference ≡ ptype
AreReferencesOf ptype count (added.PerBlock references) = (references.now.ptype ≡ ptype) × (count ≤ length references.now.slots)

-- each item of a column plus its reference, if there are references, where the first item stands at an offset in its block
abbrev pub plus_references : References → ℕ → Column → Column
plus_references added.None offset c = c
plus_references (added.Global reference) offset c = global_for (integer_of reference) c
plus_references (added.PerBlock references) offset c = chunked_for references.now.slots offset c

-- a predicate of the sum of an integer of block j and the reference of the block
abbrev pub of_sum : PType → List ℤ → (ℤ → Bool) → ℕ → ℤ → Bool
of_sum ptype references predicate j z = predicate (wrap ptype (z +ℤ slice_index_or references j (pos 0)))

-- a predicate of the sum of an integer of block j and its reference, or of the integer itself where nothing is added
abbrev pub of_sums : PType → References → (ℤ → Bool) → ℕ → ℤ → Bool
of_sums ptype added.None predicate j z = predicate z
of_sums ptype (added.Global reference) predicate j z = predicate (wrap ptype (z +ℤ integer_of reference))
of_sums ptype (added.PerBlock references) predicate j z = of_sum ptype references.now.slots predicate j z
