use Rattle.std.proofs.Common.{◌≡◌, ◌<◌, ℕ, true, None, map}
use Rattle.std.specs.Prelude.{option_map}
use Rattle.std.specs.List.{slice_index_or}
use Rattle.fl_metadata.specs.WireReading.{seen}
use Rattle.fl_metadata.specs.Schemas.{kind_at, is_within}
use Rattle.fl_metadata.proofs.schema.Values.are_allowed.Given as goal

-- each tag so far keeps its limit
abbrev pub invariant-loop-tag : goal.invariant-loop-tag
invariant-loop-tag l = (k : ℕ) → k < l.tag → is_within (kind_at l.schema k) (slice_index_or (map (option_map seen) l.self.last) k None) ≡ true
