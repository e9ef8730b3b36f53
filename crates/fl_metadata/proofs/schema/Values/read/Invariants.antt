use Rattle.std.proofs.Common.{◌≡◌, length, map}
use Rattle.std.specs.Prelude.{option_map}
use Rattle.fl_metadata.specs.WireReading.{seen}
use Rattle.fl_metadata.specs.Schemas.{values_of}
use Rattle.fl_metadata.proofs.SchemaSteps.{after}
use Rattle.fl_metadata.proofs.schema.Values.read.Given as goal

-- the values so far and what the rest adds to them are those of the whole
abbrev pub invariant-loop-rest : goal.invariant-loop-rest
invariant-loop-rest l = record { whole : length l.last ≡ 7; same : after l.schema (map (option_map seen) l.last) l.rest ≡ values_of l.schema l.bytes }

abbrev pub decreases-loop-rest : goal.decreases-loop-rest
decreases-loop-rest l = length l.rest
