-- What the loops over ranks and over positions keep from step to step, and what they have made at the end.
use Rattle.std.proofs.Common.{◌≡◌, ℕ, ℤ, pos, ◌+◌, ◌<◌, ◌≤◌, List, [], ◌∷◌, ◌++◌, length, map, take, get_or, nat_lt, Option, None, option_and_then, unsigned_abs, true, Ok, refl, ap, ◌∙◌, sym, arith, length-take}
use Rattle.std.specs.List.{list_all}
use Rattle.std.proofs.lemmas.Bool.{ltb-true}
use Rattle.std.proofs.lemmas.List.{map-append, map_more, take_all, length-map}
use Rattle.fl_types.specs.Refusals.{Answers}
use Rattle.fl_types.specs.Validities.{full_validity, nullability_of}
use Rattle.fl_types.specs.declared.dtype.PType.{PType}
use Rattle.fl_types.specs.declared.dtype.Nullability.{Nullability}
use Rattle.fl_types.specs.declared.validity.Validity.{Validity}
use Rattle.fl_column.specs.Columns.{PrimitiveParts, without_nulls}
use Rattle.fl_column.proofs.GatherLaws.{mapped_more, value_read}
use Rattle.fl_column.proofs.ListLaws.{all_at}
use Rattle.fl_patches.specs.PatchMaps.{AreFound, rank_of, ranks_at}
use Rattle.fl_column.specs.Numbers.{numbers_by}

-- the value of one more rank
pub picked_more : {A : Type 0} (f : A → ℤ) (xs : List A) (zs : List ℤ) (ranks : List ℕ) (i : ℕ) (old new : List A) (x : A) → map f xs ≡ zs → list_all (λ rank. nat_lt rank (length zs)) ranks ≡ true → i < length ranks
    → new ≡ old ++ x ∷ [] → map f old ≡ map (λ rank. get_or zs rank (pos 0)) (take i ranks) → x ≡ get_or xs (get_or ranks i 0) x → map f new ≡ map (λ rank. get_or zs rank (pos 0)) (take (i + 1) ranks)
picked_more f xs zs ranks i old new x slots ranked within added before is =
    let low = ltb-true (get_or ranks i 0) (length zs) (all_at (λ rank. nat_lt rank (length zs)) ranks i 0 ranked within) in
    let each : length xs ≡ length zs = sym (length-map xs f) ∙ ap length slots in
    let here : get_or zs (get_or ranks i 0) (pos 0) ≡ f x = rw (← slots) (value_read f xs (get_or ranks i 0) x is (omega arith)) in
    rw (added, map-append, before, ← here) (sym (map_more (λ rank. get_or zs rank (pos 0)) ranks i 0 within))

-- the array of the values of all ranks
pub picked_all : (t u : PType) (v : Validity) (n : Nullability) (ys zs : List ℤ) (ranks : List ℕ) (i : ℕ) (array : PrimitiveParts) → array ≡ without_nulls t n ys → n ≡ nullability_of v → u ≡ t
    → ys ≡ map (λ rank. get_or zs rank (pos 0)) (take i ranks) → length ranks ≤ i
    → Answers (λ a. a) (Ok array) (Ok (record { ptype = u; slots = map (λ rank. get_or zs rank (pos 0)) ranks; validity = full_validity (nullability_of v) }))
picked_all t u v n ys zs ranks i array made nullable same picked end =
    let all : take i ranks ≡ ranks = take_all i ranks end in
    rw (made, picked, all, nullable, same) refl

-- the patch at one more position
pub found_more : (offset : ℕ) (numbers : List ℕ) (positions : List (Option ℕ)) (i : ℕ) (rank : Option ℕ) (places ranks more_places more_ranks : List ℕ)
    → ((items : List (Option ℕ)) → length items ≡ i → AreFound places ranks items → AreFound more_places more_ranks (items ++ rank ∷ [])) → AreFound places ranks (ranks_at offset numbers (take i positions))
    → rank ≡ option_and_then (λ j. rank_of (offset + j) numbers) (get_or positions i None) → i < length positions → AreFound more_places more_ranks (ranks_at offset numbers (take (i + 1) positions))
found_more offset numbers positions i rank places ranks more_places more_ranks push found is within =
    let items = ranks_at offset numbers (take i positions) in
    let long : length (ranks_at offset numbers (take i positions)) ≡ i = length-map (take i positions) (option_and_then (λ j. rank_of (offset + j) numbers)) ∙ (omega (arith, length-take i positions)) in
    let next : ranks_at offset numbers (take (i + 1) positions) ≡ ranks_at offset numbers (take i positions) ++ rank ∷ [] = sym (mapped_more (option_and_then (λ j. rank_of (offset + j) numbers)) items (items ++ rank ∷ []) positions i None rank refl refl is within) in
    rw next (push items long found)

-- the patches at all positions
pub found_all : {A : Type 0} (f : A → ℤ) (xs : List A) (zs : List ℤ) (offset : ℕ) (positions : List (Option ℕ)) (i : ℕ) (places ranks : List ℕ) → map f xs ≡ zs → AreFound places ranks (ranks_at offset (numbers_by f xs) (take i positions)) → length positions ≤ i
    → AreFound places ranks (ranks_at offset (map unsigned_abs zs) positions)
found_all f xs zs offset positions i places ranks slots found end =
    let all : take i positions ≡ positions = take_all i positions end in
    rw (← slots) (rw all at found)
