-- What C knows of a chunk of a file.
use Rattle.std.specs.Prelude.{◌^◌, ◌+ℤ◌, ◌*ℤ◌, ℕ, ℤ, pos, List, [], ◌∷◌, Option, Some, None}
use Rattle.fl_types.specs.declared.dtype.PType.{PType}
use Rattle.fl_file.specs.declared.foot.ChunkEntry.{ChunkEntry}
use Rattle.fl_file.specs.Foot.{bit_word, greatest_of, least_of}
use Rattle.fl_file.specs.FootReading.{◌>>=◌, entry_of, statistics_of}
use Rattle.flcol_c.specs.declared.fault.Fault.{Fault}
use Rattle.flcol_c.specs.declared.fault.Fault.TheVariants.{BadField}
use Rattle.flcol_c.specs.declared.records.ChunkRecord.{ChunkRecord}
use Rattle.flcol_c.specs.declared.records.Integer.{Integer}

-- the integer of two words, of which the high one has the sign
abbrev pub value_of : Integer → ℤ
value_of integer = integer.high *ℤ pos (2 ^ 64) +ℤ pos integer.low

-- the fields of an entry of a foot, as numbers
pub record ChunkFields : Type 0 where
  pub offset : ℕ
  pub size : ℕ
  pub checksum : ℕ
  pub len : ℕ
  pub null_count : ℕ
  pub order : ℕ
  pub least : ℤ
  pub greatest : ℤ
  pub sum : ℤ

-- those that a record has
abbrev pub fields_in : ChunkRecord → ChunkFields
fields_in r = record { offset = r.offset; size = r.size; checksum = r.checksum; len = r.len; null_count = r.null_count; order = r.is_sorted; least = value_of r.least; greatest = value_of r.greatest; sum = value_of r.sum }

-- those of a chunk
abbrev pub fields_of : ChunkEntry → ChunkFields
fields_of e = record { offset = e.offset; size = e.size; checksum = e.checksum; len = e.statistics.len; null_count = e.statistics.null_count; order = bit_word e.statistics.is_sorted; least = least_of e.statistics.extremes; greatest = greatest_of e.statistics.extremes; sum = e.statistics.sum }

-- the chunk that these fields say, where none is out of its range
abbrev pub entry_said : PType → ChunkFields → Option ChunkEntry
entry_said ptype f = entry_of f.offset f.size f.checksum (statistics_of ptype f.len f.null_count f.order f.least f.greatest f.sum)

-- the chunks that records say, where no field is out of its range
abbrev pub entries_said : PType → List ChunkRecord → Option (List ChunkEntry)
entries_said ptype [] = Some []
entries_said ptype (r ∷ rs) = entry_said ptype (fields_in r) >>= λ first. entries_said ptype rs >>= λ others. Some (first ∷ others)

-- why records say no chunks, if they say none
abbrev pub field_fault : Option (List ChunkEntry) → Option Fault
field_fault None = Some BadField
field_fault (Some entries) = None
