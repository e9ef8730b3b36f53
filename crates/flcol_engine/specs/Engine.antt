-- What the contracts of a whole run say.
use Rattle.std.specs.Prelude.{◌≡◌, ◌≢◌, ℕ, List, Option, if◌then◌else◌, nat_lt, IsOkAnd, Result, Ok, Err, ⊤}
use Rattle.std.specs.Option.{option_map_or}
use Rattle.std.specs.Io.KnownBytes.{Appends, Keeps, IsAtEnd}
use Rattle.fl_types.specs.declared.error.FastLanesError.TheVariants as errors
use Rattle.fl_types.specs.Integers.{bits_of_type}
use Rattle.fl_column.specs.Columns.{Column, integers_in, ptype_of_column}
use Rattle.fl_bitpacking.specs.Blocks.{ArePacked, global_blocks}
use Rattle.flcol_engine.specs.declared.commands.Pack.{Pack}
use Rattle.flcol_engine.specs.declared.fault.Fault.{Fault}
use Rattle.flcol_engine.specs.declared.fault.Fault.TheVariants as faults
use Rattle.flcol_engine.specs.Ends.{AppendsFront}
use Rattle.flcol_engine.specs.Faults.{out_of_memory}
use Rattle.flcol_engine.specs.Text.{column_in_text}

-- ---- pack
-- the column that a text says and that is packed at a width, or what the packing is refused with
abbrev pub column_to_pack : Pack → List ℕ → Result Column Fault
column_to_pack command text =
    option_map_or (λ c. if nat_lt (bits_of_type command.ptype) command.width then Err (faults.Refused errors.WidthTooLarge) else Ok c)
    (column_in_text command.ptype command.nullability text) (Err faults.BadColumn)

-- these bytes are the packed low bits of a column's integers, with 0 in place of a null
abbrev pub IsPackedColumn : ℕ → Column → List ℕ → Type 0
IsPackedColumn width c bytes = ArePacked (ptype_of_column c) (integers_in c) (global_blocks width) bytes

-- known bytes grow by a column's packed bytes
abbrev pub AppendsPacked : ℕ → Option (List ℕ) → Option (List ℕ) → Column → Type 0
AppendsPacked width old new c = (bytes : List ℕ) × IsPackedColumn width c bytes × Appends old new bytes

-- known bytes grow by some beginning of a column's packed bytes
abbrev pub AppendsPackedFront : ℕ → Option (List ℕ) → Option (List ℕ) → Column → Type 0
AppendsPackedFront width old new c = (bytes : List ℕ) × IsPackedColumn width c bytes × AppendsFront old new bytes

-- A write fault comes only where there is a column to pack. A read fault and `OutOfMemory` may come with any text, every other fault only where it is expected.
abbrev pub IsPackRefusal : Fault → Pack → List ℕ → Option (List ℕ) → Option (List ℕ) → Type 0
IsPackRefusal faults.WriteFault command text old new = IsOkAnd (column_to_pack command text) (AppendsPackedFront command.width old new)
IsPackRefusal faults.ReadFault command text old new = ⊤
IsPackRefusal faults.BadColumn command text old new = column_to_pack command text ≡ Err faults.BadColumn
IsPackRefusal faults.BadContainer command text old new = column_to_pack command text ≡ Err faults.BadContainer
IsPackRefusal (faults.Refused error) command text old new = error ≢ errors.OutOfMemory → column_to_pack command text ≡ Err (faults.Refused error)

-- a run over a source that tells its bytes: its column's packed bytes are written, or the run is refused, and where the sink failed a beginning of the packed bytes is written
abbrev pub IsPackOutcome : Result (Unit {0}) Fault → Pack → List ℕ → Option (List ℕ) → Option (List ℕ) → Type 0
IsPackOutcome (Ok _) command text old new = IsOkAnd (column_to_pack command text) (AppendsPacked command.width old new)
IsPackOutcome (Err e) command text old new = IsPackRefusal e command text old new

-- ---- every command
-- a run that didn't stop at a read has read all
abbrev pub ReadsAll : Result (Unit {0}) Fault → Option (List ℕ) → Type 0
ReadsAll (Ok _) left = IsAtEnd left
ReadsAll (Err e) left = e ≢ out_of_memory → e ≢ faults.ReadFault → IsAtEnd left

-- an error other than a write fault leaves nothing written
abbrev pub IsSilent : Result (Unit {0}) Fault → Option (List ℕ) → Option (List ℕ) → Type 0
IsSilent (Ok _) old new = ⊤
IsSilent (Err e) old new = e ≢ faults.WriteFault → Keeps old new
