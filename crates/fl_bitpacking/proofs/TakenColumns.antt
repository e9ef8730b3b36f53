-- Columns of the items at positions.
use Rattle.std.proofs.Common.{◌≡◌, ℕ, ℤ, pos, zero, suc, ◌+◌, ◌<◌, Bool, true, false, List, [], ◌∷◌, length, map, drop, get_or, unsigned_abs, Option, Some, None, refl, ap, sym, ◌∙◌, arith, IsTrue}
use Rattle.std.specs.List.{list_all, list_any}
use Rattle.std.specs.Prelude.{if◌then◌else◌, ◌&&◌, ◌||◌, is_none, not, OnOk, Result, Ok, Err}
use Rattle.std.proofs.Math.Seq.{drop-cons}
use Rattle.std.proofs.lemmas.List.{length-map}
use Rattle.fl_types.specs.declared.dtype.DType.TheVariants.{Primitive}
use Rattle.fl_types.specs.declared.dtype.Nullability.{Nullability}
use Rattle.fl_types.specs.declared.dtype.Nullability.TheVariants.{NonNullable, Nullable}
use Rattle.fl_types.specs.declared.dtype.PType.{PType}
use Rattle.fl_types.specs.declared.validity.Validity.{Validity}
use Rattle.fl_types.specs.declared.validity.Validity.TheVariants as valid
use Rattle.fl_types.specs.Bits.{tabulate}
use Rattle.fl_types.specs.declared.error.FastLanesError.{FastLanesError}
use Rattle.fl_types.specs.declared.error.FastLanesError.TheVariants.{IndexOutOfBounds, NotInteger}
use Rattle.fl_types.specs.Refusals.{Refuses}
use Rattle.fl_types.proofs.RefusalLaws.{Refuses_map}
use Rattle.fl_types.specs.Types.{can_be_null, either_nullable, is_integer}
use Rattle.fl_types.specs.Validities.{covers, full_validity, is_valid_at, items_of, nullability_of}
use Rattle.fl_column.specs.Columns.{PrimitiveParts, column_of_primitive, without_nulls}
use Rattle.fl_column.specs.Operations.{is_in_range, item_named, take_column, take_of}
use Rattle.fl_column.proofs.ItemLaws.{get_or-items_of, length-items_of}
use Rattle.fl_column.proofs.ListLaws.{and_first, and_second}
use Rattle.fl_bitpacking.specs.Blocks.{Blocks, blocks_of, value_at}
use Rattle.fl_bitpacking.specs.Columns.{BitPackedParts, column_of_packed, packed_item}
use Rattle.fl_bitpacking.specs.Parts.{parts_of}
use Rattle.fl_column.specs.Selections.{is_full}
use Rattle.fl_bitpacking.specs.Taken.{ArePositions, AreSlots, items_named, items_taken, named_positions, named_positions_in, slot_at}
use Rattle.fl_bitpacking.specs.declared.compute.take.Taking.{Taking}
use Rattle.fl_bitpacking.proofs.TakenLaws.{in_range_of}
use Rattle.fl_bitpacking.proofs.Tables.{get_or-table, length-table}

-- an item that is there, and one that is not
pub item_there : (parts : BitPackedParts) (blocks : Blocks) (p : ℕ) (z : ℤ) → is_valid_at parts.validity p ≡ true → z ≡ slot_at parts blocks p → Some z ≡ packed_item parts blocks p
unfolding packed_item
item_there parts blocks p z valid is = rw valid (ap (λ y. Some y) is)

pub item_gone : (parts : BitPackedParts) (blocks : Blocks) (p : ℕ) → is_valid_at parts.validity p ≡ false → None ≡ packed_item parts blocks p
unfolding packed_item
item_gone parts blocks p null = rw null refl

-- values of which each is the item at a position
all_there : (f : ℕ → Option ℤ) (values : List ℤ) (positions : List ℕ) → length values ≡ length positions → ((i : ℕ) → i < length positions → Some (get_or values i (pos 0)) ≡ f (get_or positions i 0)) → map (λ z. Some z) values ≡ map f positions
all_there f [] [] long each = refl
all_there f [] (p ∷ positions) long each = absurd (omega (arith, long))
all_there f (z ∷ values) [] long each = absurd (omega (arith, long))
all_there f (z ∷ values) (p ∷ positions) long each =
    ap (λ x. x ∷ map (λ y. Some y) values) (each 0 (omega arith)) ∙ ap (λ xs. f p ∷ xs) (all_there f values positions (omega (arith, long)) (λ i h. each (suc i) (omega (arith, h))))

full_items : (n : Nullability) (values : List ℤ) → items_of (full_validity n) values ≡ map (λ z. Some z) values
full_items NonNullable values = refl
full_items Nullable values = refl

full_nullability : (n : Nullability) → nullability_of (full_validity n) ≡ n
full_nullability NonNullable = refl
full_nullability Nullable = refl

-- the slots without a null are the items at the positions
pub slots_are_items : {X : Type 0} (value : X → ℤ) (taking : Taking) (slots : List X) (ptype : PType) (n : Nullability) → AreSlots value taking slots → ptype ≡ taking.column.ptype → ((i : ℕ) → is_valid_at taking.column.validity.now i ≡ true)
    → column_of_primitive (without_nulls ptype n (map value slots)) ≡ record { dtype = Primitive taking.column.ptype n; items = items_taken taking }
unfolding value_at
slots_are_items value taking slots ptype n are typed valid =
    let parts = parts_of taking.column in
    let blocks = blocks_of taking.widths in
    let long : length (map value slots) ≡ length taking.positions.now = length-map slots value ∙ are.even in
    let even = are.even in
    let items : items_of (full_validity n) (map value slots) ≡ items_taken taking = full_items n (map value slots) ∙ all_there (packed_item parts blocks) (map value slots) taking.positions.now long
    (λ i h. item_there parts blocks (get_or taking.positions.now i 0) (get_or (map value slots) i (pos 0)) (valid (get_or taking.positions.now i 0)) (are.each i (omega arith))) in
    rw (typed, full_nullability n, items) refl

-- ---- nulls between the items
first_of : (positions : List ℕ) (next p : ℕ) (rest : List ℕ) → p ∷ rest ≡ drop next positions → (next < length positions) × ((get_or positions next 0 ≡ p) × (rest ≡ drop (suc next) positions))
first_of [] zero p rest e = cc
first_of [] (suc next) p rest e = cc
first_of (q ∷ positions) zero p rest e = (omega arith, (cc, cc))
first_of (q ∷ positions) (suc next) p rest e = let tail = first_of positions next p rest e in let inside = tail.0 in (omega arith, (tail.1.0, tail.1.1))

-- the positions of the indices that are still to come
pub next_named : (indices : List (Option ℤ)) (positions : List ℕ) (k next : ℕ) (z : ℤ) → k < length indices → get_or indices k None ≡ Some z → named_positions (drop k indices) ≡ drop next positions
    → (next < length positions) × ((get_or positions next 0 ≡ unsigned_abs z) × (named_positions (drop (k + 1) indices) ≡ drop (next + 1) positions))
next_named indices positions k next z inside here rest =
    let is : unsigned_abs z ∷ named_positions (drop (suc k) indices) ≡ drop next positions = sym (ap named_positions (drop-cons indices k None inside ∙ ap (λ x. x ∷ drop (suc k) indices) here)) ∙ rest in
    let k_next : k + 1 ≡ suc k = omega arith in
    let next_next : next + 1 ≡ suc next = omega arith in
    rw (k_next, next_next) (first_of positions next (unsigned_abs z) (named_positions (drop (suc k) indices)) is)

pub none_named : (indices : List (Option ℤ)) (positions : List ℕ) (k next : ℕ) → k < length indices → get_or indices k None ≡ None → named_positions (drop k indices) ≡ drop next positions → named_positions (drop (k + 1) indices) ≡ drop next positions
none_named indices positions k next inside here rest = let k_next : k + 1 ≡ suc k = omega arith in rw k_next (sym (ap named_positions (drop-cons indices k None inside ∙ ap (λ x. x ∷ drop (suc k) indices) here)) ∙ rest)

-- what an index names
pub item_of_name : (taking : Taking) (z : ℤ) (p : ℕ) → p ≡ unsigned_abs z → p < taking.column.len
    → packed_item (parts_of taking.column) (blocks_of taking.widths) p ≡ item_named (column_of_packed (parts_of taking.column) (blocks_of taking.widths)).items (Some z)
item_of_name taking z p is below =
    let f = packed_item (parts_of taking.column) (blocks_of taking.widths) in
    sym (ap (λ (i : ℕ). get_or (tabulate f taking.column.len) i None) (sym is) ∙ get_or-table f taking.column.len p None below)

-- ---- the take
-- without a null index the items are those at the positions
named_items : (taking : Taking) (indices : List (Option ℤ)) → list_any is_none indices ≡ false → list_all (is_in_range taking.column.len) indices ≡ true
    → map (packed_item (parts_of taking.column) (blocks_of taking.widths)) (named_positions indices) ≡ items_named taking indices
named_items taking [] full range = refl
named_items taking (None ∷ indices) full range = cc
named_items taking (Some z ∷ indices) full range =
    let fits = and_first (is_in_range taking.column.len (Some z)) (list_all (is_in_range taking.column.len) indices) range in
    let rest = and_second (is_in_range taking.column.len (Some z)) (list_all (is_in_range taking.column.len) indices) range in
    ap (λ x. x ∷ map (packed_item (parts_of taking.column) (blocks_of taking.widths)) (named_positions indices)) (item_of_name taking z (unsigned_abs z) refl (in_range_of taking.column.len z fits))
    ∙ ap (λ xs. item_named (column_of_packed (parts_of taking.column) (blocks_of taking.widths)).items (Some z) ∷ xs) (named_items taking indices full rest)

pub taken_without_nulls : (taking : Taking) (indices : List (Option ℤ)) → list_any is_none indices ≡ false → ArePositions taking.column.len indices taking.positions.now → items_taken taking ≡ items_named taking indices
taken_without_nulls taking indices full are = ap (λ (ps : List ℕ). map (packed_item (parts_of taking.column) (blocks_of taking.widths)) ps) are.named ∙ named_items taking indices full are.range

pub full_valid : (v : Validity) → is_full v ≡ true → (i : ℕ) → is_valid_at v i ≡ true
full_valid valid.NonNullable h i = refl
full_valid valid.AllValid h i = refl
full_valid valid.AllInvalid h i = cc
full_valid (valid.Array bits) h i = cc

-- where an item may be null, it may in the result
pub may_be_null : (v : Validity) (n : Nullability) → is_full v ≡ false → IsTrue (can_be_null n || not (can_be_null (nullability_of v))) → IsTrue (can_be_null n)
may_be_null v Nullable h may = refl
may_be_null valid.NonNullable NonNullable h may = cc
may_be_null valid.AllValid NonNullable h may = cc
may_be_null valid.AllInvalid NonNullable h may = cc
may_be_null (valid.Array bits) NonNullable h may = cc

either_of : (v : Validity) (m n : Nullability) → n ≡ either_nullable (nullability_of v) m → IsTrue (can_be_null n || not (can_be_null (nullability_of v)))
either_of valid.NonNullable NonNullable n is = rw is refl
either_of valid.NonNullable Nullable n is = rw is refl
either_of valid.AllValid m n is = rw is refl
either_of valid.AllInvalid m n is = rw is refl
either_of (valid.Array bits) m n is = rw is refl

pub either_stands : (v : Validity) (p : PrimitiveParts) (n : Nullability) → n ≡ either_nullable (nullability_of v) (nullability_of p.validity) → IsTrue (can_be_null n || not (can_be_null (nullability_of v)))
either_stands v p n is = either_of v (nullability_of p.validity) n is

no_null_in : (xs : List ℤ) → list_any is_none (map (λ z. Some z) xs) ≡ false
no_null_in [] = refl
no_null_in (x ∷ xs) = no_null_in xs

nullable_by_null : (v : Validity) (xs : List ℤ) → list_any is_none (items_of v xs) ≡ true → nullability_of v ≡ Nullable
nullable_by_null valid.NonNullable xs h = let none = no_null_in xs in cc
nullable_by_null valid.AllValid xs h = refl
nullable_by_null valid.AllInvalid xs h = refl
nullable_by_null (valid.Array bits) xs h = refl

either_second : (m n : Nullability) → n ≡ Nullable → Nullable ≡ either_nullable m n
either_second NonNullable n is = sym is
either_second Nullable n is = refl

pub either_by_null : (v : Validity) (p : PrimitiveParts) → list_any is_none (column_of_primitive p).items ≡ true → Nullable ≡ either_nullable (nullability_of v) (nullability_of p.validity)
either_by_null v p h = either_second (nullability_of v) (nullability_of p.validity) (nullable_by_null p.validity p.slots h)

three_ok : {A : Type 0} (a b : Bool) (e g : FastLanesError) (x : A) → a ≡ false → b ≡ false → (if a then Err e else if b then Err g else Ok x) ≡ Ok x
three_ok true b e g x h k = cc
three_ok false true e g x h k = cc
three_ok false false e g x h k = refl

-- what is taken, where each index is in range
pub taken_is : (taking : Taking) (p : PrimitiveParts) (n : Nullability) → n ≡ either_nullable (nullability_of taking.column.validity.now) (nullability_of p.validity) → ArePositions taking.column.len (column_of_primitive p).items taking.positions.now
    → take_column (column_of_primitive p) (column_of_packed (parts_of taking.column) (blocks_of taking.widths)) ≡ Ok (record { dtype = Primitive taking.column.ptype n; items = items_named taking (column_of_primitive p).items })
taken_is taking p n n_is are =
    let c = column_of_packed (parts_of taking.column) (blocks_of taking.widths) in
    let size : length c.items ≡ taking.column.len = length-table (packed_item (parts_of taking.column) (blocks_of taking.widths)) taking.column.len in
    let fits : not (list_all (is_in_range (length c.items)) (column_of_primitive p).items) ≡ false = ap (λ (len : ℕ). not (list_all (is_in_range len) (column_of_primitive p).items)) size ∙ ap not are.range in
    three_ok (not (is_integer c.dtype && is_integer (column_of_primitive p).dtype)) (not (list_all (is_in_range (length c.items)) (column_of_primitive p).items)) NotInteger IndexOutOfBounds (take_of (column_of_primitive p) c) refl fits
    ∙ ap (λ (m : Nullability). Ok (record { dtype = Primitive taking.column.ptype m; items = items_named taking (column_of_primitive p).items })) (sym n_is)

pub taken_without_nulls_is : (taking : Taking) (p : PrimitiveParts) (n : Nullability) → n ≡ either_nullable (nullability_of taking.column.validity.now) (nullability_of p.validity) → list_any is_none (column_of_primitive p).items ≡ false
    → ArePositions taking.column.len (column_of_primitive p).items taking.positions.now
    → take_column (column_of_primitive p) (column_of_packed (parts_of taking.column) (blocks_of taking.widths)) ≡ Ok (record { dtype = Primitive taking.column.ptype n; items = items_taken taking })
taken_without_nulls_is taking p n n_is full are =
    taken_is taking p n n_is are ∙ ap (λ (xs : List (Option ℤ)). Ok (record { dtype = Primitive taking.column.ptype n; items = xs })) (sym (taken_without_nulls taking (column_of_primitive p).items full are))

pub on_ok : {X E : Type 0} (r : Result X E) {P : Type 0} → P → OnOk r P
on_ok (Ok x) holds = holds
on_ok (Err e) holds = tt

err_again : {A B : Type 0} (b : Bool) (x : A) (y : B) (e : FastLanesError) → (if b then Ok x else Err IndexOutOfBounds) ≡ Err e → (if not b then Err IndexOutOfBounds else Ok y) ≡ Err e
err_again true x y e h = cc
err_again false x y e h = let same : IndexOutOfBounds ≡ e = cc in ap (λ (f : FastLanesError). Err f) same

-- what is refused of the indices is refused of the take
pub refused_take : (e : FastLanesError) (parts : BitPackedParts) (blocks : Blocks) (p : PrimitiveParts) → Refuses e (named_positions_in parts.len (column_of_primitive p).items) → Refuses e (take_column (column_of_primitive p) (column_of_packed parts blocks))
refused_take e parts blocks p h =
    let c = column_of_packed parts blocks in
    let size : length c.items ≡ parts.len = length-table (packed_item parts blocks) parts.len in
    let items = (column_of_primitive p).items in
    Refuses_map e (named_positions_in parts.len items) (take_column (column_of_primitive p) c) (λ (refused : named_positions_in parts.len items ≡ Err e).
    ap (λ (len : ℕ). if not (list_all (is_in_range len) items) then Err IndexOutOfBounds else Ok (take_of (column_of_primitive p) c)) size
    ∙ err_again (list_all (is_in_range parts.len) items) (named_positions items) (take_of (column_of_primitive p) c) e refused) h

-- ---- an index
pub index_there : (p : PrimitiveParts) (v : Validity) (k : ℕ) → v ≡ p.validity → IsTrue (covers p.validity (length p.slots)) → k < length p.slots → is_valid_at v k ≡ true
    → (k < length (column_of_primitive p).items) × (get_or (column_of_primitive p).items k None ≡ Some (get_or p.slots k (pos 0)))
index_there p v k is covered inside valid =
    let long = length-items_of p.validity p.slots covered in
    let here : is_valid_at p.validity k ≡ true = rw is at valid in
    (omega arith, get_or-items_of p.validity p.slots k (pos 0) covered inside ∙ rw here refl)

pub index_gone : (p : PrimitiveParts) (v : Validity) (k : ℕ) → v ≡ p.validity → IsTrue (covers p.validity (length p.slots)) → k < length p.slots → is_valid_at v k ≡ false
    → (k < length (column_of_primitive p).items) × (get_or (column_of_primitive p).items k None ≡ None)
index_gone p v k is covered inside null =
    let long = length-items_of p.validity p.slots covered in
    let here : is_valid_at p.validity k ≡ false = rw is at null in
    (omega arith, get_or-items_of p.validity p.slots k (pos 0) covered inside ∙ rw here refl)
