-- Arrays that are encoded as small as they get.
use Rattle.std.specs.Prelude.{◌≡◌, ◌==◌, ◌/◌, ◌%◌, ℕ, Bool, IfOk, Result, Ok, Err, nat_lt, if◌then◌else◌}
use Rattle.fl_column.specs.Columns.{PrimitiveParts}
use Rattle.fl_array.specs.Trees.{Tree, column}
use Rattle.fl_compress.specs.declared.limits.Limits.{Limits}
use Rattle.fl_compress.specs.Candidates.{candidates, default_limits}
use Rattle.fl_compress.specs.Smallest.{IsSmallest}
use Rattle.flcol_c.specs.declared.fault.Fault.{Fault}
use Rattle.flcol_c.specs.declared.fault.Fault.TheVariants.{BadEncodings}
use Rattle.flcol_c.specs.Plain.{IsSimplestOf}

-- the array is the smallest that a candidate within the limits makes of a plain array of the same column with the simplest validity, and has that column
abbrev pub IsCompressionWithin : Limits → Tree → Tree → Type 0
IsCompressionWithin limits t smallest = (plain : PrimitiveParts) × IsSimplestOf (column t) plain × IsSmallest (candidates limits) plain smallest × (column smallest ≡ column t)

-- the same within three levels of all encodings
abbrev pub IsCompressionOf : Tree → Tree → Type 0
IsCompressionOf t smallest = IsCompressionWithin default_limits t smallest

-- the bit of a power of 2 is set
abbrev pub is_bit : ℕ → ℕ → Bool
is_bit power bits = bits / power % 2 == 1

-- the limits that bits of encodings and a depth say, or that a bit stands for no encoding
abbrev pub limits_of : ℕ → ℕ → Result Limits Fault
limits_of bits depth =
    if nat_lt bits 64
    then Ok (record { depth = depth; constant = is_bit 1 bits; bitpacked = is_bit 2 bits; for_ = is_bit 4 bits; delta = is_bit 8 bits; rle = is_bit 16 bits; dict = is_bit 32 bits })
    else Err BadEncodings

-- the array is the smallest within the limits that bits and a depth say
abbrev pub IsCompressionBy : ℕ → ℕ → Tree → Tree → Type 0
IsCompressionBy bits depth t smallest = IfOk (limits_of bits depth) (λ limits. IsCompressionWithin limits t smallest)
