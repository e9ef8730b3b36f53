-- A plan with one chunk more.
use Rattle.std.proofs.Common.{ℕ, ◌+◌, ◌<◌, ◌++◌, List, [], ◌∷◌, length, take, get_or, sym, subst}
use Rattle.std.proofs.lemmas.List.{take_more}
use Rattle.fl_file.specs.declared.foot.ChunkEntry.{ChunkEntry}
use Rattle.fl_file.specs.declared.pruning.Pruning.{Pruning}
use Rattle.fl_file.specs.declared.pruning.Test.{Test}
use Rattle.fl_file.specs.Pruning.{IsPlanOf, IsPruningOf}

one_more : (test : Test) (es : List ChunkEntry) (ps : List Pruning) (e : ChunkEntry) (p : Pruning) → IsPlanOf test es ps → IsPruningOf test e.statistics p → IsPlanOf test (es ++ e ∷ []) (ps ++ p ∷ [])
one_more test [] [] e p h is = (is, tt)
one_more test [] (q ∷ ps) e p h is = absurd h
one_more test (x ∷ es) [] e p h is = absurd h
one_more test (x ∷ es) (q ∷ ps) e p h is = (h.0, one_more test es ps e p h.1 is)

pub plan_more : (test : Test) (es : List ChunkEntry) (i : ℕ) (e : ChunkEntry) (ps : List Pruning) (p : Pruning) → i < length es → IsPlanOf test (take i es) ps → IsPruningOf test (get_or es i e).statistics p → IsPlanOf test (take (i + 1) es) (ps ++ p ∷ [])
plan_more test es i e ps p lt h is = subst (λ l. IsPlanOf test l (ps ++ p ∷ [])) (sym (take_more es i e lt)) (one_more test (take i es) ps (get_or es i e) p h is)
