-- The least of two lists.
use Rattle.std.proofs.Common.{◌≡◌, ℤ, ◌+◌, ◌-◌, Bool, true, false, List, ◌++◌, length, get_or, Option, Some, None, refl, ap, sym, subst, ◌∙◌, arith, int_le, int_lt, if◌then◌else◌, length-append}
use Rattle.std.specs.List.{list_all}
use Rattle.std.proofs.lemmas.List.{append-nil, get_or_append_left, get_or-append_right}
use Rattle.std.proofs.lemmas.List.Elements.{filter_map-append}
use Rattle.fl_column.proofs.ListLaws.{and_true, list_all-append}
use Rattle.fl_codec.specs.FoRColumns.{least_valid, min_valid, valid_items}
use Rattle.fl_codec.proofs.FoRLaws.{IsLeast, all_above_less, below, find-least, not_below}
use Rattle.fl_codec.proofs.WithNulls.{least_is}

-- of two lists whose least are m and b
joined : (m b : ℤ) (xs ys : List ℤ) (lower : Bool) → int_lt b m ≡ lower → IsLeast (Some m) xs → IsLeast (Some b) ys → IsLeast (Some (if lower then b else m)) (xs ++ ys)
joined m b xs ys true e first other = (
  (length xs + other.0.0, (rw length-append (let h = other.0.1.0 in omega arith), get_or-append_right xs ys (length xs) (length xs + other.0.0) b refl (omega arith) ∙ (ap (λ k. get_or ys k b) (let back : length xs + other.0.0 - length xs ≡ other.0.0 = omega arith in back) ∙ other.0.1.1))),
  list_all-append (int_le b) xs ys ∙ and_true (list_all (int_le b) xs) (list_all (int_le b) ys) (all_above_less b m xs (below m b e) first.1) other.1,
)
joined m b xs ys false e first other = (
  (first.0.0, (rw length-append (let h = first.0.1.0 in omega arith), get_or_append_left xs ys m first.0.0 first.0.1.0 ∙ first.0.1.1)),
  list_all-append (int_le m) xs ys ∙ and_true (list_all (int_le m) xs) (list_all (int_le m) ys) first.1 (all_above_less m b ys (not_below m b e) other.1),
)

-- the lesser of two that are the least
pub leasts_joined : (a b : Option ℤ) (xs ys : List ℤ) → IsLeast a xs → IsLeast b ys → IsLeast (min_valid a b) (xs ++ ys)
leasts_joined None b xs ys first other = rw first other
leasts_joined (Some m) None xs ys first other = rw (other, append-nil) first
leasts_joined (Some m) (Some b) xs ys first other = joined m b xs ys (int_lt b m) refl first other

-- the least of both lists
pub least_of_both : (x y : Option ℤ) (xs ys : List (Option ℤ)) → x ≡ least_valid xs → y ≡ least_valid ys → min_valid x y ≡ least_valid (xs ++ ys)
least_of_both x y xs ys e f =
    let first : IsLeast x (valid_items xs) = subst (λ o. IsLeast o (valid_items xs)) (sym e) (least_is (valid_items xs)) in
    let second : IsLeast y (valid_items ys) = subst (λ o. IsLeast o (valid_items ys)) (sym f) (least_is (valid_items ys)) in
    let all : valid_items (xs ++ ys) ≡ valid_items xs ++ valid_items ys = filter_map-append (λ (item : Option ℤ). item) xs ys in
    sym (find-least (min_valid x y) (valid_items (xs ++ ys)) (subst (λ zs. IsLeast (min_valid x y) zs) (sym all) (leasts_joined x y (valid_items xs) (valid_items ys) first second)))
