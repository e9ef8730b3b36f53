-- What is gathered for C of the items that a bitmap keeps.
use Rattle.std.specs.Prelude.{◌≡◌, ◌==◌, ℕ, ℤ, Bool, Option, Some, None, List, length, is_none, if◌then◌else◌}
use Rattle.fl_types.specs.declared.dtype.PType.{PType}
use Rattle.fl_types.specs.Types.{has_ptype}
use Rattle.fl_column.specs.Bitmaps.{bitmap_len, bits_in}
use Rattle.fl_column.specs.Columns.{Column}
use Rattle.fl_column.specs.Operations.{filter_of}
use Rattle.fl_scan.specs.Selections.{passed_under}
use Rattle.flcol_c.specs.Aggregates.{sum_fault}
use Rattle.flcol_c.specs.Answering.{compare_fault, operator_of, test_fault}
use Rattle.flcol_c.specs.Operations.{mask_fault, mask_in}
use Rattle.flcol_c.specs.Statuses.{first_of}
use Rattle.flcol_c.specs.declared.fault.Fault.{Fault}
use Rattle.flcol_c.specs.declared.fault.Fault.TheVariants.{BadOperator, WrongLength, WrongType}

-- why so many bytes are not the bitmap of n answers, if they are not
abbrev pub bitmap_fault : ℕ → ℕ → Option Fault
bitmap_fault bytes n = if bytes == bitmap_len n then None else Some WrongLength

-- the items of a column that a bitmap keeps
abbrev pub kept_by : List ℕ → Column → Column
kept_by mask c = filter_of (mask_in mask (length c.items)) c

-- why the items of a type that a bitmap of so many bytes keeps are not gathered, if they are not
abbrev pub kept_fault : PType → ℕ → Column → Option Fault
kept_fault ptype bytes c = if has_ptype ptype c.dtype then mask_fault bytes c else Some WrongType

-- the same of a comparison, whose operator a number names
abbrev pub kept_count_fault : PType → ℕ → ℕ → Column → Option Fault
kept_count_fault ptype operator bytes c = if is_none (operator_of operator) then Some BadOperator else kept_fault ptype bytes c

-- why there is no sum of the items that a bitmap of so many bytes keeps, if there is none: none of such a column, or of such a bitmap
abbrev pub kept_sum_fault : Bool → ℕ → Column → Option Fault
kept_sum_fault unsigned bytes c = first_of (sum_fault unsigned c) (mask_fault bytes c)

-- why the items that a bitmap of so many bytes keeps are not tested into so many others, if they are not: the fault of a test of all items, or of the bitmap
abbrev pub kept_test_fault : PType → ℕ → ℕ → Column → Option Fault
kept_test_fault ptype bytes bits c = first_of (test_fault ptype bits c) (mask_fault bytes c)

-- the same of a comparison, whose operator a number names
abbrev pub kept_compare_fault : PType → ℕ → ℕ → ℕ → Column → Option Fault
kept_compare_fault ptype operator bytes bits c = first_of (compare_fault ptype operator bits c) (mask_fault bytes c)

-- the bits are set of the items that a bitmap keeps, that are not null and that pass a test, and of no others
abbrev pub AreThosePassed : (ℤ → Bool) → List ℕ → Column → List ℕ → Type 0
AreThosePassed test mask c bits = bits_in bits (length c.items) ≡ passed_under (mask_in mask (length c.items)) test c
