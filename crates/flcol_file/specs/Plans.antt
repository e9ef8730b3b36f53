-- Which chunks a scan reads.
use Rattle.std.specs.Prelude.{ℕ, suc, Bool, true, false, List, [], ◌∷◌, ⊤, if◌then◌else◌}
use Rattle.fl_file.specs.Pruning.{IsPruningOf}
use Rattle.fl_file.specs.declared.pruning.Pruning.{Pruning}
use Rattle.fl_file.specs.declared.pruning.Pruning.TheVariants as prunings
use Rattle.fl_file.specs.declared.pruning.Test.{Test}
use Rattle.fl_file.specs.declared.statistics.ChunkStatistics.{ChunkStatistics}

-- for each of these statistics, what they say of the test
abbrev pub ArePruningsOf : Test → List ChunkStatistics → List Pruning → Type 0
ArePruningsOf test [] [] = ⊤
ArePruningsOf test [] (p ∷ plan) = ⊥
ArePruningsOf test (s ∷ statistics) [] = ⊥
ArePruningsOf test (s ∷ statistics) (p ∷ plan) = IsPruningOf test s p × ArePruningsOf test statistics plan

-- a plan does not say of the chunk that no item passes, or that each does
abbrev pub is_open : Pruning → Bool
is_open prunings.Skip = false
is_open prunings.All = false
is_open prunings.Some = true

-- the numbers of the chunks of which a plan says what passes the test; the first chunk has this number
abbrev pub chunks_where : (Pruning → Bool) → ℕ → List Pruning → List ℕ
chunks_where test k [] = []
chunks_where test k (p ∷ plan) = if test p then k ∷ chunks_where test (suc k) plan else chunks_where test (suc k) plan
