use Rattle.std.proofs.Common.{◌≡◌, ◌≤◌, ◌∙◌, Bool, List, Ok, Option, None, Some, ap, arith, cond, length, map, refl, sym, true, ℕ, take}
use Rattle.std.proofs.lemmas.List.{take_all}
use Rattle.std.specs.Prelude.{is_some}
use Rattle.std.specs.List.{list_all}
use Rattle.flcol_engine.proofs.OperationLemmas.{all_some}
use Rattle.flcol_engine.proofs.operations.all_indices.Goals as goal

all_taken : (numbers : List ℕ) (indices : List (Option ℕ)) (i : ℕ) → length indices ≤ i → map Some numbers ≡ take i indices → cond (list_all is_some indices) (Some indices) None ≡ Some (map Some numbers)
all_taken numbers indices i end e =
    let same : map Some numbers ≡ indices = e ∙ take_all i indices end in
    rw (← same, all_some numbers) refl

pub returns : goal.returns
returns c = ap Ok (all_taken c.loop-index.numbers.items c.args.indices.now c.loop-index.index-index (omega (arith, c.loop-index-test.false)) c.loop-index.invariant)
