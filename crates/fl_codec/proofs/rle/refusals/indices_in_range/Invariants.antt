use Rattle.std.proofs.Common.{◌≡◌, ◌<◌, ℕ, None, get_or, true}
use Rattle.fl_codec.specs.Chunks.{chunk}
use Rattle.fl_codec.specs.Parts.{items_of_primitive}
use Rattle.fl_codec.specs.RunColumns.{is_run_index}
use Rattle.fl_codec.proofs.rle.refusals.indices_in_range.Given as goal

-- the indices so far are
abbrev pub invariant-loop-q : goal.invariant-loop-q
invariant-loop-q g l = (j : ℕ) → j < l.q → is_run_index l.count (get_or (chunk l.k (items_of_primitive l.indices)) j None) ≡ true
