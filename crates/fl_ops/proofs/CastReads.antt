-- Items that are read and cast.
use Rattle.std.proofs.Common.{◌≡◌, ◌&&◌, ◌||◌, ℕ, ℤ, pos, ◌+◌, ◌-◌, ◌<◌, ◌≤◌, ◌∙◌, Bool, true, false, List, [], ◌∷◌, ◌++◌, length, map, get_or, Option, Some, None, Result, Ok, Err, IsTrue, is_none, is_some, not, option_map, take, unwrap_or, refl, ap, sym, subst, arith, inl, inr, if◌then◌else◌}
use Rattle.std.specs.List.{list_all, list_any}
use Rattle.std.proofs.lemmas.Bool.{cases_lt}
use Rattle.std.proofs.lemmas.List.{append_assoc, get_or-map, length-map, map-append}
use Rattle.fl_types.specs.Bits.{between}
use Rattle.fl_types.specs.Integers.{fits}
use Rattle.fl_types.specs.Refusals.{Answers}
use Rattle.fl_types.specs.Types.{can_be_null, is_integer}
use Rattle.fl_types.specs.Validities.{covers, items_of}
use Rattle.fl_types.specs.declared.dtype.DType.TheVariants.{Primitive}
use Rattle.fl_types.specs.declared.dtype.Nullability.{Nullability}
use Rattle.fl_types.specs.declared.dtype.Nullability.TheVariants.{NonNullable, Nullable}
use Rattle.fl_types.specs.declared.dtype.PType.{PType}
use Rattle.fl_types.specs.declared.error.FastLanesError.{FastLanesError}
use Rattle.fl_types.specs.declared.error.FastLanesError.TheVariants.{CastOutOfRange}
use Rattle.fl_types.specs.declared.validity.Validity.{Validity}
use Rattle.fl_types.specs.declared.validity.Validity.TheVariants as valid
use Rattle.fl_column.specs.Casts.{cast_slot}
use Rattle.fl_column.specs.Columns.{Column, PrimitiveParts, column_of_primitive, option_all}
use Rattle.fl_column.specs.Operations.{cast_column, cast_items}
use Rattle.fl_column.specs.Selections.{any_null}
use Rattle.fl_column.proofs.CastLaws.{any_null_is}
use Rattle.fl_column.proofs.ItemLaws.{map_read}
use Rattle.fl_column.proofs.ListLaws.{all_at, all_from, all_part, list_all-append}
use Rattle.fl_bitpacking.specs.Blocks.{value_at}
use Rattle.fl_array.specs.Readers.{AreItemsFrom}
use Rattle.fl_array.specs.Reads.{IsValidityOf, integer_column}
use Rattle.fl_ops.specs.BlockReads.{AreCast, AreFirst, validity_in}
use Rattle.fl_ops.proofs.Answered.{decoded_is}
use Rattle.fl_ops.proofs.BlockLaws.{part_all, part_each, read_integers}
use Rattle.fl_ops.proofs.ReadLists.{first_all, first_more, first_none, first_unread, plain_column, unread}

-- ---- parts
fit_at : (t : PType) (o : Option ℤ) (z : ℤ) → option_all (fits t) o ≡ true → o ≡ Some z → fits t z ≡ true
fit_at t None z fit e = cc
fit_at t (Some y) z fit e = let same : y ≡ z = cc in ap (fits t) (sym same) ∙ fit

slot_is : (t : PType) (z : ℤ) → fits t z ≡ true → cast_slot t z ≡ z
slot_is t z fit = rw fit refl

-- none yet
pub cast_none_yet : {X : Type 0} (value : X → ℤ) (t : PType) (slots : List X) (n : ℕ) (c : Column) → slots ≡ [] → n ≡ 0 → AreCast t (map value slots) n c
cast_none_yet value t slots n c empty none = record {
  first = rw (ap (map value) empty) (first_none n c none);
  fit = λ i h. absurd (omega arith);
}

-- a part more, whose items the type has
pub cast_more : {X : Type 0} (value : X → ℤ) (t : PType) (old new : List ℤ) (xs : List X) (n : ℕ) (c : Column) → n + length xs ≤ length c.items → AreItemsFrom n (length xs) (value_at value xs) c → new ≡ old ++ map (cast_slot t) (map value xs)
    → list_all (option_all (fits t)) (between n (n + length xs) c.items) ≡ true → AreCast t old n c → AreCast t new (n + length xs) c
unfolding value_at
cast_more value t old new xs n c room read pushed fit begun =
    let size = length-map xs value in
    let cast_size = length-map (map value xs) (cast_slot t) in
    let here : (k : ℕ) → n ≤ k → k < n + length xs → option_all (fits t) (get_or c.items k None) ≡ true = λ k low high. part_each (option_all (fits t)) c.items n (n + length xs) k None room fit low high in
    record {
      first = rw pushed (first_more old (map (cast_slot t) (map value xs)) n (length xs) c (cast_size ∙ size) (λ i z h e.
          get_or-map (cast_slot t) (map value xs) i (pos 0) (pos 0) (omega (arith, size))
          ∙ (ap (cast_slot t) (read i z h e) ∙ slot_is t z (fit_at t (get_or c.items (n + i) None) z (here (n + i) (omega arith) (omega arith)) e))) begun.first);
      fit = λ i h. elim (cases_lt i n) [
        | inl before ↦ begun.fit i before
        | inr after ↦ here i after h
      ];
    }

-- where the type has all slots of a part, it has its items
pub part_fits : {X : Type 0} (value : X → ℤ) (t : PType) (xs : List X) (n : ℕ) (c : Column) → n + length xs ≤ length c.items → AreItemsFrom n (length xs) (value_at value xs) c → list_all (fits t) (map value xs) ≡ true
    → list_all (option_all (fits t)) (between n (n + length xs) c.items) ≡ true
unfolding value_at
part_fits value t xs n c room read all =
    let size = length-map xs value in
    part_all (option_all (fits t)) c.items n (n + length xs) None (omega arith) room (λ k low high. item (get_or c.items k None) (k - n) (omega arith) (let place : n + (k - n) ≡ k = omega arith in ap (λ m. get_or c.items m None) place))
  where
    item : (o : Option ℤ) (i : ℕ) → i < length xs → get_or c.items (n + i) None ≡ o → option_all (fits t) o ≡ true
    item None i h e = refl
    item (Some z) i h e = ap (fits t) (sym (read i z h e)) ∙ all_at (fits t) (map value xs) i (pos 0) all (let size = length-map xs value in omega arith)

-- a part with an item that the type doesn't have
pub whole_unfit : {A : Type 0} (test : A → Bool) (xs : List A) (start end : ℕ) → list_all test (between start end xs) ≡ false → list_all test xs ≡ false
whole_unfit test xs start end fails = by_case (list_all test xs) refl
  where
    by_case : (b : Bool) → list_all test xs ≡ b → list_all test xs ≡ false
    by_case false e = e
    by_case true e = let wrong : true ≡ false = sym (all_part test xs start end e) ∙ fails in cc

-- all of them
pub all_cast : (t : PType) (slots : List ℤ) (c : Column) → AreCast t slots (length c.items) c → list_all (option_all (fits t)) c.items ≡ true
all_cast t slots c cast = all_from (option_all (fits t)) c.items None cast.fit

-- ---- nulls
-- a validity says whether any item is null
pub any_null_of : (v : Validity) (c : Column) → IsValidityOf v c → any_null v (length c.items) ≡ list_any is_none c.items
any_null_of v c of =
    let zs = [] ++ unread c 0 (length c.items) in
    let none : AreFirst [] 0 c = first_none 0 c refl in
    let all : 0 + length c.items ≡ length c.items = omega arith in
    let first : AreFirst zs (length c.items) c = subst (λ (n : ℕ). AreFirst zs n c) all (first_unread [] 0 (length c.items) c (omega arith) none) in
    let same : items_of v zs ≡ c.items = first_all zs (length c.items) c refl first v of in
    let size : length c.items ≡ length zs = sym first.long in
    any_null_is v zs (length c.items) size (let long : length zs ≡ length c.items = first.long in rw long of.covered) ∙ ap (list_any is_none) same

-- ---- columns
-- the column of the items in another type
abbrev pub cast_to_type : PType → Nullability → Column → Column
cast_to_type t n c = record { dtype = Primitive t n; items = c.items }

pub validity_cast : (t : PType) (n : Nullability) (v : Validity) (c : Column) → IsValidityOf v c → IsTrue (can_be_null n || list_all is_some c.items) → IsValidityOf (validity_in n v) (cast_to_type t n c)
validity_cast t NonNullable v c of nulls = record { covered = refl; nullable = refl; valid = λ i h. sym (all_at is_some c.items i None nulls h) }
validity_cast t Nullable valid.NonNullable c of nulls = record { covered = refl; nullable = refl; valid = of.valid }
validity_cast t Nullable valid.AllValid c of nulls = record { covered = refl; nullable = refl; valid = of.valid }
validity_cast t Nullable valid.AllInvalid c of nulls = record { covered = refl; nullable = refl; valid = of.valid }
validity_cast t Nullable (valid.Array bits) c of nulls = record { covered = of.covered; nullable = refl; valid = of.valid }

-- the validity covers what was cast
pub cast_covered : {X : Type 0} (value : X → ℤ) (t : PType) (n : Nullability) (v w : Validity) (xs : List X) (c : Column) → IsValidityOf v c → IsTrue (can_be_null n || list_all is_some c.items) → AreCast t (map value xs) (length c.items) c → w ≡ validity_in n v → IsTrue (covers w (length xs))
cast_covered value t n v w xs c of nulls cast is =
    let long : length xs ≡ length c.items = sym (length-map xs value) ∙ cast.first.long in
    rw (is, long) (validity_cast t n v c of nulls).covered

-- the plain array of what was cast
pub cast_answered : {X : Type 0} (value : X → ℤ) (t : PType) (n : Nullability) (v w : Validity) (xs : List X) (c : Column) (p : PrimitiveParts) → IsValidityOf v c → IsTrue (can_be_null n || list_all is_some c.items) → AreCast t (map value xs) (length c.items) c → w ≡ validity_in n v
    → p ≡ record { ptype = t; slots = map value xs; validity = w } → Answers column_of_primitive (Ok p) (cast_items t n c.items)
cast_answered value t n v w xs c p of nulls cast is made =
    let d = cast_to_type t n c in
    let first : AreFirst (map value xs) (length d.items) d = record { long = cast.first.long; items = cast.first.items } in
    let same : column_of_primitive (record { ptype = t; slots = map value xs; validity = validity_in n v }) ≡ d = plain_column d (validity_in n v) (map value xs) t n refl (validity_cast t n v c of nulls) (first_all (map value xs) (length d.items) d refl first) in
    rw (all_cast t (map value xs) c cast, made, is, same) refl

-- the cast of the column that is read
pub cast_read_answered : (t : PType) (n : Nullability) (c d : Column) (r : Result PrimitiveParts FastLanesError) → integer_column c ≡ Ok d → (not (can_be_null n) && list_any is_none c.items) ≡ false → Answers column_of_primitive r (cast_items t n d.items) → Answers column_of_primitive r (cast_column (Primitive t n) c)
cast_read_answered t n c d r e none answer =
    let same = decoded_is c d e in
    rw (read_integers c d e, none, same) answer

-- ---- slots
slot_cast : {B : Type 0} (value : B → ℤ) (b : Bool) (z : ℤ) (cast : Option B) (zero : B) → option_map value cast ≡ (if b then Some z else None) → value zero ≡ pos 0 → (value (unwrap_or cast zero) ≡ (if b then z else pos 0)) × (is_some cast ≡ b)
slot_cast value true z (Some y) zero e none = (cc, refl)
slot_cast value true z None zero e none = cc
slot_cast value false z (Some y) zero e none = cc
slot_cast value false z None zero e none = (none, refl)

and_end : (b : Bool) → (b && true) ≡ b
and_end true = refl
and_end false = refl

-- one more slot behind others
pub slots_more : {A B : Type 0} (value : B → ℤ) (f : A → ℤ) (t : PType) (before : List ℤ) (old new : List B) (cast : Option B) (zero : B) (z : ℤ) (fit : Bool) (xs : List A) (i : ℕ) (x : A) → i < length xs → x ≡ get_or xs i x → z ≡ f x → value zero ≡ pos 0
    → option_map value cast ≡ (if fits t z then Some z else None) → new ≡ old ++ unwrap_or cast zero ∷ [] → map value old ≡ before ++ map (cast_slot t) (map f (take i xs)) → fit ≡ list_all (fits t) (map f (take i xs))
    → (map value new ≡ before ++ map (cast_slot t) (map f (take (i + 1) xs))) × ((fit && is_some cast) ≡ list_all (fits t) (map f (take (i + 1) xs)))
slots_more value f t before old new cast zero z fit xs i x within is read none converted added so_far fitted =
    let done = map f (take i xs) in
    let y = value (unwrap_or cast zero) in
    let one = slot_cast value (fits t z) z cast zero converted none in
    let here : y ≡ cast_slot t (f x) = one.0 ∙ ap (cast_slot t) read in
    let next : map f (take (i + 1) xs) ≡ done ++ f x ∷ [] = map_read f xs i x within is in
    let slots : map (cast_slot t) (map f (take (i + 1) xs)) ≡ map (cast_slot t) done ++ cast_slot t (f x) ∷ [] = ap (map (cast_slot t)) next ∙ map-append (cast_slot t) done (f x ∷ []) in
    let more : list_all (fits t) (map f (take (i + 1) xs)) ≡ (list_all (fits t) done && fits t (f x)) =
    ap (list_all (fits t)) next ∙ (list_all-append (fits t) done (f x ∷ []) ∙ ap (λ b. list_all (fits t) done && b) (and_end (fits t (f x)))) in
    let fitted_here : is_some cast ≡ fits t (f x) = one.1 ∙ ap (fits t) read in (
      ap (map value) added ∙ (map-append value old (unwrap_or cast zero ∷ []) ∙ (ap (λ l. l ++ y ∷ []) so_far ∙ (append_assoc before (map (cast_slot t) done) (y ∷ [])
          ∙ ap (λ l. before ++ l) (ap (λ w. map (cast_slot t) done ++ w ∷ []) here ∙ sym slots)))),
      rw (fitted, fitted_here) (sym more),
    )

-- a cast is refused for an item that the type doesn't have
pub cast_refused : (t : PType) (n : Nullability) (items : List (Option ℤ)) → list_all (option_all (fits t)) items ≡ false → cast_items t n items ≡ Err CastOutOfRange
cast_refused t n items unfit = rw unfit refl
