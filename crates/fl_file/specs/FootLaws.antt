-- What is written of a foot is read again.
use Rattle.std.specs.Prelude.{◌≡◌, ◌-◌, ◌<◌, ◌≤◌, ◌^◌, ◌++◌, ◌&&◌, ℕ, Bool, not, List, length, Option, None, Some, IfSome, IsTrue, FitsSigned, Ok, int_le, nat_lt}
use Rattle.std.specs.Int.{w128}
use Rattle.std.specs.List.{AllByRecursion}
use Rattle.fl_types.specs.declared.dtype.PType.{PType}
use Rattle.fl_types.specs.Integers.{fits}
use Rattle.fl_file.specs.declared.foot.ChunkEntry.{ChunkEntry}
use Rattle.fl_file.specs.declared.statistics.ChunkStatistics.{ChunkStatistics}
use Rattle.fl_file.specs.declared.statistics.Extremes.{Extremes}
use Rattle.fl_file.specs.Foot.{FootParts, foot_bytes}
use Rattle.fl_file.specs.FootReading.{foot_of, lie_between}

-- the least and the greatest item are of the type and in order, and there if and only if an item is valid
abbrev pub extremes_fit : PType → Bool → Option Extremes → Bool
extremes_fit ptype some None = not some
extremes_fit ptype some (Some e) = some && (fits ptype e.least && fits ptype e.greatest && int_le e.least e.greatest)

-- an integer of 128 bits each
abbrev pub ExtremesAreHeld : Option Extremes → Type 0
ExtremesAreHeld extremes = IfSome extremes (λ e. FitsSigned w128 e.least × FitsSigned w128 e.greatest)

-- no statistic of a chunk of this type is out of its range
pub record StatisticsFit (ptype : PType) (s : ChunkStatistics) : Type 0 where
  pub len : s.len < 2 ^ 63
  pub null_count : s.null_count ≤ s.len
  pub extremes : IsTrue (extremes_fit ptype (nat_lt s.null_count s.len) s.extremes)
  pub held : ExtremesAreHeld s.extremes
  pub sum : FitsSigned w128 s.sum

-- no field of an entry is out of its range
pub record EntryFits (ptype : PType) (e : ChunkEntry) : Type 0 where
  pub offset : e.offset < 2 ^ 64
  pub size : e.size < 2 ^ 64
  pub checksum : e.checksum < 2 ^ 32
  pub statistics : StatisticsFit ptype e.statistics

-- a foot of a file with so many bytes: its fields are in their ranges, and its chunks lie before it
pub record IsFootOf (file_len : ℕ) (foot : FootParts) : Type 0 where
  pub entries : AllByRecursion (EntryFits foot.ptype) foot.chunks
  pub places : IsTrue (lie_between 4 (file_len - length (foot_bytes foot)) foot.chunks)
  pub len : length (foot_bytes foot) < 2 ^ 64

-- a law: behind any bytes that the file has before it, a foot is read as it was written
abbrev pub FootIsRead : Type 0
FootIsRead = (foot : FootParts) (front : List ℕ) (file_len : ℕ) → IsFootOf file_len foot → length (front ++ foot_bytes foot) ≤ file_len → foot_of (front ++ foot_bytes foot) file_len ≡ Ok foot
