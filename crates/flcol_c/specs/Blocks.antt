-- Whole blocks of 1024 items that C packs and unpacks.
use Rattle.std.specs.Prelude.{ℤ, pos, Result, Ok, Err, ⊤}
use Rattle.fl_types.specs.declared.error.FastLanesError.TheVariants as refusals
use Rattle.fl_blocks.specs.declared.error.BlocksError.{BlocksError}
use Rattle.fl_blocks.specs.declared.error.BlocksError.TheVariants as blocks
use Rattle.flcol_c.specs.declared.fault.Fault.{Fault}
use Rattle.flcol_c.specs.declared.fault.Fault.TheVariants.{Refused, WrongLength}
use Rattle.flcol_c.specs.Statuses.{status_of}

-- the fault of an error of blocks
abbrev pub of_blocks : BlocksError → Fault
of_blocks blocks.WidthTooLarge = Refused refusals.WidthTooLarge
of_blocks blocks.WrongLength = WrongLength

-- the status of what was answered on blocks
abbrev pub blocks_status : Result ⊤ BlocksError → ℤ
blocks_status (Ok done) = pos 0
blocks_status (Err error) = status_of (of_blocks error)
