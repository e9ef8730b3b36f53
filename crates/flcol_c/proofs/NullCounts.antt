-- How many items are null.
use Rattle.std.proofs.Common.{◌≡◌, List, [], ◌∷◌, Option, Some, None, map, option_map, count_by, arith, refl}
use Rattle.std.specs.Prelude.{is_none}
use Rattle.flcol_c.proofs.ValidityLaws.{one_null, one_value}

-- as many nulls as before
pub nulls_mapped : {A B : Type 0} (f : A → B) (items : List (Option A)) → count_by is_none (map (option_map f) items) ≡ count_by is_none items
nulls_mapped f [] = refl
nulls_mapped f (None ∷ items) =
    let more = one_null (map (option_map f) items) in let more_before = one_null items in let rest = nulls_mapped f items in omega (arith, more, more_before, rest)
nulls_mapped f (Some x ∷ items) =
    let same = one_value (f x) (map (option_map f) items) in let same_before = one_value x items in let rest = nulls_mapped f items in omega (arith, same, same_before, rest)
