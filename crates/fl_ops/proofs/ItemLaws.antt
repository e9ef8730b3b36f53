-- Items that are taken one by one.
use Rattle.std.proofs.Common.{◌≡◌, ◌∙◌, ℕ, ℤ, ◌<◌, ◌||◌, ◌&&◌, Bool, true, false, List, [], ◌∷◌, ◌++◌, length, map, get_or, Option, None, Some, Ok, IsTrue, is_none, is_some, not, option_map, unsigned_abs, refl, sym, Result, Err}
use Rattle.std.specs.Prelude.{IsErrAnd}
use Rattle.std.specs.List.{list_all}
use Rattle.fl_types.specs.declared.dtype.DType.{DType}
use Rattle.fl_types.specs.declared.dtype.DType.TheVariants as dtypes
use Rattle.fl_types.specs.declared.dtype.Nullability.{Nullability}
use Rattle.fl_types.specs.declared.dtype.Nullability.TheVariants.{NonNullable, Nullable}
use Rattle.fl_types.specs.declared.dtype.PType.{PType}
use Rattle.fl_types.specs.declared.error.FastLanesError.{FastLanesError}
use Rattle.fl_types.specs.declared.error.FastLanesError.TheVariants.{OutOfMemory}
use Rattle.fl_types.specs.declared.validity.Validity.{Validity}
use Rattle.fl_types.specs.declared.validity.Validity.TheVariants as valid
use Rattle.fl_types.specs.Refusals.{Answers}
use Rattle.fl_types.specs.Types.{can_be_null, either_nullable, is_nullable, nullability_in}
use Rattle.fl_types.specs.Validities.{items_of, nullability_of}
use Rattle.fl_column.specs.Columns.{Column, PrimitiveParts, column_of_primitive}
use Rattle.fl_column.specs.Operations.{item_named, take_column}
use Rattle.fl_column.specs.Selections.{are_below_length, items_at, positions_in}
use Rattle.fl_column.proofs.ListLaws.{all_at, and_first, and_second, and_true, list_all-append}
use Rattle.fl_column.proofs.SelectionLaws.{ok_positions, taken_below, taken_named}

-- memory ran out on the way to an answer
pub out_of_memory : {X Z : Type 0} (view : X → Z) (r : Result X FastLanesError) (answer : Result Z FastLanesError) (e : FastLanesError) → IsErrAnd r (λ f. f ≡ e) → e ≡ OutOfMemory → Answers view r answer
out_of_memory view (Ok x) answer e h memory = absurd h
out_of_memory view (Err f) answer e h memory = rw (h, memory) tt

-- no items, of which none is null
pub no_nulls_yet : (n : Nullability) (items : List (Option ℤ)) → items ≡ [] → IsTrue (can_be_null n || list_all is_some items)
no_nulls_yet NonNullable items none = rw none refl
no_nulls_yet Nullable items none = refl

-- an item at a position of a column without nulls
item_there : (nullable : Bool) (position : Option ℕ) (y : Option ℤ) → not nullable ≡ true → is_some position ≡ true → IsTrue (nullable || (is_none position || is_some y)) → is_some y ≡ true
item_there true position y without there h = cc
item_there false None y without there h = cc
item_there false (Some i) y without there h = h

-- one more item, where none may be null
pub without_nulls_more : (n : Nullability) (nullable : Bool) (positions : List (Option ℕ)) (i : ℕ) (old new : List (Option ℤ)) (y : Option ℤ) → new ≡ old ++ y ∷ []
    → IsTrue (can_be_null n || list_all is_some old) → IsTrue (can_be_null n || (not nullable && list_all is_some positions)) → IsTrue (nullable || (is_none (get_or positions i None) || is_some y)) → i < length positions
    → IsTrue (can_be_null n || list_all is_some new)
without_nulls_more Nullable nullable positions i old new y added before none here within = refl
without_nulls_more NonNullable nullable positions i old new y added before none here within =
    let without : not nullable ≡ true = and_first (not nullable) (list_all is_some positions) none in
    let named : is_some (get_or positions i None) ≡ true = all_at is_some positions i None (and_second (not nullable) (list_all is_some positions) none) within in
    let there : is_some y ≡ true = item_there nullable (get_or positions i None) y without named here in
    rw added (list_all-append is_some old (y ∷ []) ∙ and_true (list_all is_some old) (list_all is_some (y ∷ [])) before (and_true (is_some y) true there refl))

all_named : (slots : List ℤ) → list_all is_some (map (option_map unsigned_abs) (map (λ z. Some z) slots)) ≡ true
all_named [] = refl
all_named (z ∷ slots) = all_named slots

-- where no result may be null, neither an item nor an index may
pub without_nulls : (d : DType) (v : Validity) (slots : List ℤ) (n : Nullability) → n ≡ either_nullable (nullability_in d) (nullability_of v) → IsTrue (can_be_null n || (not (is_nullable d) && list_all is_some (map (option_map unsigned_abs) (items_of v slots))))
without_nulls (dtypes.Primitive p Nullable) v slots n e = rw e refl
without_nulls (dtypes.Bool Nullable) v slots n e = rw e refl
without_nulls (dtypes.Primitive p NonNullable) valid.NonNullable slots n e = rw e (all_named slots)
without_nulls (dtypes.Primitive p NonNullable) valid.AllValid slots n e = rw e refl
without_nulls (dtypes.Primitive p NonNullable) valid.AllInvalid slots n e = rw e refl
without_nulls (dtypes.Primitive p NonNullable) (valid.Array bits) slots n e = rw e refl
without_nulls (dtypes.Bool NonNullable) valid.NonNullable slots n e = rw e (all_named slots)
without_nulls (dtypes.Bool NonNullable) valid.AllValid slots n e = rw e refl
without_nulls (dtypes.Bool NonNullable) valid.AllInvalid slots n e = rw e refl
without_nulls (dtypes.Bool NonNullable) (valid.Array bits) slots n e = rw e refl

-- the positions that indices name are below the length
pub named_below : (len : ℕ) (indices : List (Option ℤ)) (positions : List (Option ℕ)) → positions_in len indices ≡ Ok positions → IsTrue (are_below_length len positions)
named_below len indices positions h =
    let ok = ok_positions len indices positions h in
    rw (← ok.1) (taken_below len indices ok.0)

-- what a take makes of the positions that the indices name
pub taken_by_positions : (c : Column) (indices : PrimitiveParts) (ptype : PType) (before n : Nullability) (positions : List (Option ℕ)) → c.dtype ≡ dtypes.Primitive ptype before → n ≡ either_nullable before (nullability_of indices.validity)
    → positions_in (length c.items) (items_of indices.validity indices.slots) ≡ Ok positions
    → take_column (column_of_primitive indices) c ≡ Ok (record { dtype = dtypes.Primitive ptype n; items = items_at c.items positions })
taken_by_positions c indices ptype before n positions typed e h =
    let named = items_of indices.validity indices.slots in
    let ok = ok_positions (length c.items) named positions h in
    let same : map (item_named c.items) named ≡ items_at c.items positions = rw (← ok.1) (sym (taken_named c.items named)) in
    rw (typed, ok.0, same, e) refl
