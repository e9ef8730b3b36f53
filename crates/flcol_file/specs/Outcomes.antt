-- The errors of files of columns.
use Rattle.std.specs.Prelude.{◌≡◌, ◌⊎◌, Bool, true, Result, Ok, Err}
use Rattle.fl_types.specs.declared.error.FastLanesError.TheVariants.{OutOfMemory}
use Rattle.fl_file.specs.declared.error.FileError.{FileError}
use Rattle.fl_file.specs.declared.error.FileError.TheVariants as files
use Rattle.flcol_container.specs.declared.error.ContainerError.{ContainerError}
use Rattle.flcol_container.specs.declared.error.ContainerError.TheVariants as containers
use Rattle.flcol_file.specs.declared.error.ColumnFileError.{ColumnFileError}
use Rattle.flcol_file.specs.declared.error.ColumnFileError.TheVariants.{Array, BadContainer, File}

-- the error of a container's error
abbrev pub of_container : ContainerError → ColumnFileError
of_container containers.OutOfMemory = Array OutOfMemory
of_container containers.BadContainer = BadContainer

-- the error of a file's error
abbrev pub of_file : FileError → ColumnFileError
of_file files.OutOfMemory = Array OutOfMemory
of_file e = File e

-- memory ran out, or a read failed, where it can
abbrev pub IsFault : Bool → ColumnFileError → Type 0
IsFault fails e = (e ≡ Array OutOfMemory) ⊎ ((e ≡ File files.ReadFault) × (fails ≡ true))

-- what a call answered, seen by view, is this, unless memory ran out or a read failed, where it can
abbrev pub AnswersFrom : {X Y : Type 0} → Bool → (X → Y) → Result X ColumnFileError → Result Y ColumnFileError → Type 0
AnswersFrom fails view (Ok x) answer = answer ≡ Ok (view x)
AnswersFrom fails view (Err e) answer = IsFault fails e ⊎ (answer ≡ Err e)
