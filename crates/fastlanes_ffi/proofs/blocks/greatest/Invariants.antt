use Rattle.std.proofs.Common.{ℕ, ◌<◌, ◌≤◌}
use Rattle.std.specs.Prelude.{slice_index}
use Rattle.fastlanes_ffi.proofs.blocks.greatest.Given as goal

abbrev pub invariant-loop-q : goal.invariant-loop-q
invariant-loop-q l = (j : ℕ) → j < l.q → slice_index l.indices j ≤ l.most
