-- Lines of answers, one item after another.
use Rattle.std.proofs.Common.{◌≡◌, ◌<◌, ◌+◌, ℕ, ℤ, List, [], ◌++◌, length, map, get_or, take, Bool, true, false, Option, None, Some, IsTrue, refl, ◌∙◌, arith}
use Rattle.std.specs.Prelude.{option_map}
use Rattle.std.proofs.lemmas.List.{flat_map_more, get_or-map, length-map, take_more}
use Rattle.fl_types.specs.declared.dtype.DType.{DType}
use Rattle.fl_types.specs.declared.dtype.DType.TheVariants as dtypes
use Rattle.fl_types.specs.declared.dtype.Nullability.{Nullability}
use Rattle.fl_types.specs.Values.{bool_number}
use Rattle.fl_types.specs.declared.validity.Validity.{Validity}
use Rattle.fl_types.specs.Validities.{covers, is_valid_at, items_of}
use Rattle.fl_column.proofs.ItemLaws.{get_or-items_of}
use Rattle.flcol_engine.specs.Printing.{line, text_of_item, text_of_items}

-- one more item is printed
pub item_printed : (dtype : DType) (items : List (Option ℤ)) (i : ℕ) (text : List ℕ) → i < length items → text ≡ text_of_items dtype (take i items)
    → text ++ line (text_of_item dtype (get_or items i None)) ≡ text_of_items dtype (take (i + 1) items)
item_printed dtype items i text h before =
    rw (before, take_more items i None h) (flat_map_more (λ item. line (text_of_item dtype item)) [] (take i items) (get_or items i None))

-- a valid item is its slot
pub valid_item : {X : Type 0} (value : X → ℤ) (v : Validity) (xs : List X) (i : ℕ) (x : X) → IsTrue (covers v (length xs)) → i < length xs → is_valid_at v i ≡ true → get_or xs i x ≡ x → get_or (items_of v (map value xs)) i None ≡ Some (value x)
valid_item value v xs i x bit h valid is =
    get_or-items_of v (map value xs) i (value x) (rw length-map bit) (rw length-map h) ∙ (rw (valid, get_or-map value xs i x (value x) h, is) refl)

-- an item that is not valid is a null
pub null_item : {X : Type 0} (value : X → ℤ) (v : Validity) (xs : List X) (i : ℕ) (d : ℤ) → IsTrue (covers v (length xs)) → i < length xs → is_valid_at v i ≡ false → get_or (items_of v (map value xs)) i None ≡ None
null_item value v xs i d bit h valid = get_or-items_of v (map value xs) i d (rw length-map bit) (rw length-map h) ∙ rw valid refl

-- one more truth value is printed
pub bool_printed : (nullability : Nullability) (bools : List (Option Bool)) (i n : ℕ) (text piece : List ℕ) → i < n → n ≡ length (map (option_map bool_number) bools) → text ≡ text_of_items (dtypes.Bool nullability) (take i (map (option_map bool_number) bools))
    → piece ≡ line (text_of_item (dtypes.Bool nullability) (option_map bool_number (get_or bools i None))) → text ++ piece ≡ text_of_items (dtypes.Bool nullability) (take (i + 1) (map (option_map bool_number) bools))
bool_printed nullability bools i n text piece below len before is =
    let same : length (map (option_map bool_number) bools) ≡ length bools = rw length-map refl in
    let h : i < length bools = omega (arith, len, same) in
    let item : get_or (map (option_map bool_number) bools) i None ≡ option_map bool_number (get_or bools i None) = get_or-map (option_map bool_number) bools i None None h in
    rw (is, ← item) (item_printed (dtypes.Bool nullability) (map (option_map bool_number) bools) i text (rw length-map h) before)
