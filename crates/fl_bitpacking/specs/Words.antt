-- Packed bytes as words.
use Rattle.std.specs.Prelude.{◌/◌, ℕ, ℤ, List, length}
use Rattle.fastlanes.specs.Layout.{word_at}
use Rattle.fl_types.specs.declared.dtype.PType.{PType}
use Rattle.fl_types.specs.Bits.{tabulate}
use Rattle.fl_types.specs.Integers.{bits_of_type, read_as}

-- word m of these bytes, read as an integer of the type
unfoldable pub word_as : PType → List ℕ → ℕ → ℤ
word_as ptype bytes m = read_as ptype (word_at (bits_of_type ptype) bytes m)

-- the whole words of these bytes, read as integers of the type; bytes behind the last one are dropped
abbrev pub words_as : PType → List ℕ → List ℤ
words_as ptype bytes = tabulate (word_as ptype bytes) (length bytes / (bits_of_type ptype / 8))
