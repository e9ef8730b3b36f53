-- Arrays as chunks of a file.
use Rattle.std.specs.Prelude.{◌≡◌, ◌⊎◌, ℕ, List, Option, Some, None, Result, Ok, Err}
use Rattle.fl_types.specs.declared.error.FastLanesError.{FastLanesError}
use Rattle.fl_types.specs.declared.error.FastLanesError.TheVariants.{OutOfMemory}
use Rattle.fl_column.specs.Columns.{Column}
use Rattle.fl_array.specs.Trees.{Tree, column}
use Rattle.fl_serde.specs.Reading.{reading}
use Rattle.fl_serde.specs.Writing.{written}
use Rattle.fl_serialized.specs.Nodes.{Node}
use Rattle.flcol_container.specs.Container.{HasNoContainer}
use Rattle.flcol_container.specs.ContainerReading.{container_of}
use Rattle.flcol_file.specs.declared.error.ColumnFileError.{ColumnFileError}
use Rattle.flcol_file.specs.declared.error.ColumnFileError.TheVariants.{Array, BadContainer}

-- an array, or why it is refused
abbrev pub of_reading : Result Tree FastLanesError → Result Tree ColumnFileError
of_reading (Ok t) = Ok t
of_reading (Err e) = Err (Array e)

-- the array of a container's node, or why there is none
abbrev pub array_of_node : Option Node → Result Tree ColumnFileError
array_of_node None = Err BadContainer
array_of_node (Some node) = of_reading (reading node)

-- the array whose container the bytes are, or why there is none
unfoldable pub array_of : List ℕ → Result Tree ColumnFileError
array_of bytes = array_of_node (container_of bytes)

-- the bytes are the container of an array with this column
abbrev pub IsChunkOf : Column → List ℕ → Type 0
IsChunkOf c bytes = (t : Tree) × (array_of bytes ≡ Ok t) × (column t ≡ c)

-- an array has no container, since it is too deep or a part of it does not fit its field
unfoldable pub LacksContainer : Tree → Type 0
LacksContainer t = HasNoContainer (written t)

-- a chunk of an array's column was given, seen by view; or memory ran out, or the array has no container
abbrev pub GivesChunk : {X : Type 0} → (X → List ℕ) → Tree → Result X ColumnFileError → Type 0
GivesChunk view t (Ok x) = IsChunkOf (column t) (view x)
GivesChunk view t (Err e) = (e ≡ Array OutOfMemory) ⊎ ((e ≡ BadContainer) × LacksContainer t)
