use Rattle.std.proofs.Common.{◌≡◌, Bool, List, Ok, Option, None, Some, ap, cond, false, map, refl, sym, true, ℕ}
use Rattle.std.specs.Prelude.{is_some, Result}
use Rattle.std.specs.List.{list_all}
use Rattle.fl_types.specs.declared.error.FastLanesError.{FastLanesError}
use Rattle.fl_column.specs.Columns.{PrimitiveParts}
use Rattle.fl_array.specs.Trees.{Primitive}
use Rattle.flcol_engine.proofs.OperationLemmas.{numbers_array, options_array}
use Rattle.flcol_engine.proofs.operations.indices_array.Goals as goal

numbers_are : (given : Bool) (indices : List (Option ℕ)) (numbers : List ℕ) → ◌≡◌ {A = Result (Option (List (Option ℕ))) FastLanesError} (Ok (cond given (Some indices) None)) (Ok (Some (map Some numbers))) → map Some numbers ≡ indices
numbers_are true indices numbers e = cc
numbers_are false indices numbers e = absurd cc

nulls_are : (given : Bool) (indices : List (Option ℕ)) → ◌≡◌ {A = Result (Option (List (Option ℕ))) FastLanesError} (Ok (cond given (Some indices) None)) (Ok None) → given ≡ false
nulls_are true indices e = absurd cc
nulls_are false indices e = refl

made_is : (made array : PrimitiveParts) → ◌≡◌ {A = Result PrimitiveParts FastLanesError} (Ok made) (Ok array) → made ≡ array
made_is made array e = cc

pub returns-in-Some : goal.returns-in-Some
returns-in-Some c =
    let given = c.in_ok-numbers.ensures in
    let said = rw c.in-Some.is at given in
    ap Ok (rw (c.into_array.ensures, c.non_nullable.ensures) (ap Primitive (numbers_array c.in-Some.numbers.items c.args.indices.now (numbers_are _ c.args.indices.now c.in-Some.numbers.items said))))

pub returns-in_ok-from_options-in-None : goal.returns-in_ok-from_options-in-None
returns-in_ok-from_options-in-None c =
    let given = c.in_ok-numbers.ensures in
    let said = rw c.in-None.is at given in
    ap Ok (rw (c.into_array-in-None.ensures, ← made_is _ _ c.in_ok-from_options-in-None.ensures.plain) (ap Primitive (options_array c.args.indices.now (nulls_are _ c.args.indices.now said))))
