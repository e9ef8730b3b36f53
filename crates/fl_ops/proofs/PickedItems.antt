-- Items that indices name, as they are read.
use Rattle.std.proofs.Common.{◌≡◌, ℕ, ℤ, pos, negsuc, ◌+◌, ◌-◌, ◌<◌, ◌≤◌, ◌∙◌, Bool, true, false, List, length, map, get_or, Option, Some, None, option_map, unsigned_abs, is_some, IsTrue, int_le, nat_lt, Result, Ok, Err, refl, ap, sym, subst, arith, inl, inr}
use Rattle.std.specs.Prelude.{◌&&◌}
use Rattle.std.specs.List.{list_all}
use Rattle.std.proofs.lemmas.Bool.{cases_lt}
use Rattle.std.proofs.lemmas.Bool.Decides.{Decides-eqb, Decides-ltb}
use Rattle.std.proofs.lemmas.List.{get_or-map, length-map}
use Rattle.fl_types.specs.declared.dtype.DType.{DType}
use Rattle.fl_types.specs.declared.dtype.DType.TheVariants as dtypes
use Rattle.fl_types.specs.declared.dtype.Nullability.{Nullability}
use Rattle.fl_types.specs.declared.dtype.Nullability.TheVariants.{NonNullable, Nullable}
use Rattle.fl_types.specs.declared.dtype.PType.{PType}
use Rattle.fl_types.specs.declared.error.FastLanesError.{FastLanesError}
use Rattle.fl_types.specs.declared.error.FastLanesError.TheVariants.{IndexOutOfBounds}
use Rattle.fl_types.specs.declared.validity.Validity.{Validity}
use Rattle.fl_types.specs.declared.validity.Validity.TheVariants as valid
use Rattle.fl_types.specs.Refusals.{Answers}
use Rattle.fl_types.specs.Types.{either_nullable, has_ptype, nullability_in, with_nullability}
use Rattle.fl_types.specs.Validities.{covers, full_validity, is_valid_at, items_of, nullability_of}
use Rattle.fl_column.specs.Columns.{Column, PrimitiveParts, column_of_primitive}
use Rattle.fl_column.specs.Operations.{is_in_range, item_named, take_column, take_of}
use Rattle.fl_column.specs.Selections.{is_full}
use Rattle.fl_column.proofs.ItemLaws.{length-items_of}
use Rattle.fl_column.proofs.ListLaws.{all_at, and_second}
use Rattle.fl_bitpacking.specs.Blocks.{value_at}
use Rattle.fl_array.specs.Readers.{AreItemsFrom}
use Rattle.fl_array.specs.Reads.{AreItemsOf, IsValidityOf, integer_column}
use Rattle.fl_array.proofs.ReadLaws.{column_read, items_read}
use Rattle.fl_ops.proofs.Answered.{decoded_is}
use Rattle.fl_ops.proofs.BlockLaws.{read_integers}
use Rattle.fl_ops.specs.TakenItems.{ArePicked, IsRun}
use Rattle.fl_ops.specs.declared.by_blocks.take.Run.{Run}

-- ---- indices
-- an index that names no position is null
pub no_position : (o : Option ℤ) (z : ℤ) → None ≡ option_map unsigned_abs o → o ≡ Some z → ⊥
no_position None z none e = cc
no_position (Some y) z none e = cc

-- the position that an index names
pub position_is : (o : Option ℤ) (z : ℤ) (p : ℕ) → Some p ≡ option_map unsigned_abs o → o ≡ Some z → unsigned_abs z ≡ p
position_is None z p named e = cc
position_is (Some y) z p named e = let same : y ≡ z = cc in ap unsigned_abs (sym same) ∙ (let there : p ≡ unsigned_abs y = cc in sym there)

-- an index in range names an item
pub named_below : (len : ℕ) (z : ℤ) → is_in_range len (Some z) ≡ true → unsigned_abs z < len
named_below len (pos n) h = (Decides-ltb n len).0 (and_second (int_le (pos 0) (pos n)) (nat_lt n len) h)
named_below len (negsuc n) h = cc

pub index_below : (len : ℕ) (indices : List (Option ℤ)) (k : ℕ) (z : ℤ) → list_all (is_in_range len) indices ≡ true → k < length indices → get_or indices k None ≡ Some z → unsigned_abs z < len
index_below len indices k z range within e = named_below len z (ap (is_in_range len) (sym e) ∙ all_at (is_in_range len) indices k None range within)

-- there are as many indices as slots
pub as_many : {A : Type 0} (f : A → ℤ) (v : Validity) (xs : List A) (c d : Column) → d ≡ c → d.items ≡ items_of v (map f xs) → IsTrue (covers v (length xs)) → length xs ≡ length c.items
as_many f v xs c d same items covered = sym (ap (λ (x : Column). length x.items) (sym same) ∙ (ap length items ∙ (length-items_of v (map f xs) (rw (length-map xs f) covered) ∙ length-map xs f)))

-- ---- runs
-- a null index has no item
pub null_picked : (integer : ℕ → ℤ) (indices : List (Option ℤ)) (n end : ℕ) (c : Column) → None ≡ option_map unsigned_abs (get_or indices n None) → ArePicked integer indices n end c → ArePicked integer indices (n + 1) end c
null_picked integer indices n end c null picked k z y h e low item = elim (cases_lt k n) [
  | inl before ↦ picked k z y before e low item
  | inr last ↦
      let here : n ≡ k = omega arith in
      absurd (no_position (get_or indices n None) z null (ap (λ i. get_or indices i None) here ∙ e))
]

-- the items of one run more
pub run_picked : (old new read : ℕ → ℤ) (indices : List (Option ℤ)) (run : Run) (size end : ℕ) (c : Column) → IsRun indices run → run.low + size ≡ run.high → AreItemsFrom run.low size read c
    → ((k : ℕ) (z : ℤ) → run.from ≤ k → k < run.to → get_or indices k None ≡ Some z → run.low ≤ unsigned_abs z → unsigned_abs z < run.low + size → new k ≡ read (unsigned_abs z - run.low))
    → ((k : ℕ) → k < run.from → new k ≡ old k) → ArePicked old indices run.from end c → ArePicked new indices run.to end c
run_picked old new read indices run size end c is long items here before picked k z y h e low item = elim (cases_lt k run.from) [
  | inl first ↦ before k first ∙ picked k z y first e low item
  | inr behind ↦
      let above = is.above k z behind h e in
      let below = is.below k z behind h e in
      let place : run.low + (unsigned_abs z - run.low) ≡ unsigned_abs z = omega arith in
      here k z behind h e above (omega arith) ∙ items (unsigned_abs z - run.low) y (omega arith) (ap (λ i. get_or c.items i None) place ∙ item)
]

-- the items of one window more
pub window_picked : (old new read : ℕ → ℤ) (indices : List (Option ℤ)) (low size n : ℕ) (c : Column) → AreItemsFrom low size read c
    → ((k : ℕ) (z : ℤ) → 0 ≤ k → k < n → get_or indices k None ≡ Some z → low ≤ unsigned_abs z → unsigned_abs z < low + size → new k ≡ read (unsigned_abs z - low))
    → ((k : ℕ) (z : ℤ) → get_or indices k None ≡ Some z → unsigned_abs z < low → new k ≡ old k) → ArePicked old indices n low c → ArePicked new indices n (low + size) c
window_picked old new read indices low size n c items here below picked k z y h e inside item = elim (cases_lt (unsigned_abs z) low) [
  | inl first ↦ below k z e first ∙ picked k z y h e first item
  | inr behind ↦
      let place : low + (unsigned_abs z - low) ≡ unsigned_abs z = omega arith in
      here k z (omega arith) h e behind inside ∙ items (unsigned_abs z - low) y (omega arith) (ap (λ i. get_or c.items i None) place ∙ item)
]

-- ---- what is taken
named_item : (items : List (Option ℤ)) (o : Option ℤ) (y x : ℤ) → ((z : ℤ) → o ≡ Some z → get_or items (unsigned_abs z) None ≡ Some y → x ≡ y) → item_named items o ≡ Some y → x ≡ y
named_item items None y x each e = cc
named_item items (Some z) y x each e = each z refl e

-- all that is picked is what is taken
pub picked_shown : {X : Type 0} (value : X → ℤ) (xs : List X) (indices c : Column) → length xs ≡ length indices.items → list_all (is_in_range (length c.items)) indices.items ≡ true
    → ArePicked (value_at value xs) indices.items (length indices.items) (length c.items) c → AreItemsOf (map value xs) (take_of indices c)
unfolding value_at
picked_shown value xs indices c long range picked =
    let size : length (take_of indices c).items ≡ length indices.items = length-map indices.items (item_named c.items) in
    let same : length (map value xs) ≡ length indices.items = length-map xs value ∙ long in
    items_read (map value xs) (take_of indices c) (same ∙ sym size) (λ k y h e.
    let within : k < length indices.items = omega arith in
    let first : 0 + k ≡ k = omega arith in
    let named : item_named c.items (get_or indices.items k None) ≡ Some y = sym (get_or-map (item_named c.items) indices.items k None None within) ∙ (ap (λ i. get_or (take_of indices c).items i None) (sym first) ∙ e) in
    named_item c.items (get_or indices.items k None) y (get_or (map value xs) k (pos 0)) (λ z there item. picked k z y within there (index_below (length c.items) indices.items k z range within there) item) named)

typed_alike : (d : DType) (ptype : PType) (n : Nullability) → has_ptype ptype d ≡ true → has_ptype ptype (with_nullability n d) ≡ true
typed_alike (dtypes.Primitive p other) ptype n h = h
typed_alike (dtypes.Bool other) ptype n h = h

-- the column of what is taken
pub taken_is : {X : Type 0} (value : X → ℤ) (xs : List X) (indices c : Column) (v : Validity) (ptype : PType) (p : PrimitiveParts) → has_ptype ptype c.dtype ≡ true → length xs ≡ length indices.items → list_all (is_in_range (length c.items)) indices.items ≡ true
    → ArePicked (value_at value xs) indices.items (length indices.items) (length c.items) c → IsValidityOf v (take_of indices c) → p ≡ record { ptype = ptype; slots = map value xs; validity = v } → take_of indices c ≡ column_of_primitive p
taken_is value xs indices c v ptype p typed long range picked of is =
    let n = either_nullable (nullability_in c.dtype) (nullability_in indices.dtype) in
    sym (column_read value ptype (take_of indices c) v xs p (typed_alike c.dtype ptype n typed) of (picked_shown value xs indices c long range picked) is)

-- its validity has a bit for each item
pub taken_covered : {X : Type 0} (xs : List X) (indices c : Column) (v : Validity) → length xs ≡ length indices.items → IsValidityOf v (take_of indices c) → IsTrue (covers v (length xs))
taken_covered xs indices c v long of =
    let size : length xs ≡ length (take_of indices c).items = long ∙ sym (length-map indices.items (item_named c.items)) in
    rw size of.covered

-- ---- nulls
nullability_with : (d : DType) (n : Nullability) → nullability_in (with_nullability n d) ≡ n
nullability_with (dtypes.Primitive p other) n = refl
nullability_with (dtypes.Bool other) n = refl

full_at : (v : Validity) (i : ℕ) → is_full v ≡ true → is_valid_at v i ≡ true
full_at valid.NonNullable i h = refl
full_at valid.AllValid i h = refl
full_at valid.AllInvalid i h = cc
full_at (valid.Array bits) i h = cc

from_full : (n : Nullability) (i : ℕ) → is_valid_at (full_validity n) i ≡ true
from_full NonNullable i = refl
from_full Nullable i = refl

from_covers : (n : Nullability) (i : ℕ) → covers (full_validity n) i ≡ true
from_covers NonNullable i = refl
from_covers Nullable i = refl

from_nullable : (n : Nullability) → nullability_of (full_validity n) ≡ n
from_nullable NonNullable = refl
from_nullable Nullable = refl

-- whether an item that an index names is there
pub named_there : (c : Column) (v : Validity) (o : Option ℤ) (p : ℕ) → IsValidityOf v c → Some p ≡ option_map unsigned_abs o → p < length c.items → is_valid_at v p ≡ is_some (item_named c.items o)
named_there c v None p of named below = cc
named_there c v (Some z) p of named below = let here : p ≡ unsigned_abs z = cc in of.valid p below ∙ ap (λ i. is_some (get_or c.items i None)) here

pub named_null : (items : List (Option ℤ)) (o : Option ℤ) → None ≡ option_map unsigned_abs o → false ≡ is_some (item_named items o)
named_null items None null = refl
named_null items (Some z) null = cc

there : (items : List (Option ℤ)) (o : Option ℤ) → is_some o ≡ true → ((z : ℤ) → o ≡ Some z → is_some (get_or items (unsigned_abs z) None) ≡ true) → is_some (item_named items o) ≡ true
there items None some each = cc
there items (Some z) some each = each z refl

-- no item that is taken is null where neither an item nor an index is
pub full_taken : (v w : Validity) (indices c : Column) (n : Nullability) → is_full v ≡ true → is_full w ≡ true → IsValidityOf v c → IsValidityOf w indices → list_all (is_in_range (length c.items)) indices.items ≡ true → n ≡ either_nullable (nullability_of v) (nullability_of w)
    → IsValidityOf (full_validity n) (take_of indices c)
full_taken v w indices c n full full_w of of_w range is =
    let size : length (take_of indices c).items ≡ length indices.items = length-map indices.items (item_named c.items) in
    let either : either_nullable (nullability_of v) (nullability_of w) ≡ either_nullable (nullability_in c.dtype) (nullability_in indices.dtype) = rw (of.nullable, of_w.nullable) refl in
    record {
      covered = from_covers n (length (take_of indices c).items);
      nullable = from_nullable n ∙ (is ∙ (either ∙ sym (nullability_with c.dtype (either_nullable (nullability_in c.dtype) (nullability_in indices.dtype)))));
      valid = λ k h.
          let within : k < length indices.items = omega arith in
          let index : is_some (get_or indices.items k None) ≡ true = sym (of_w.valid k within) ∙ full_at w k full_w in
          let item : is_some (item_named c.items (get_or indices.items k None)) ≡ true = there c.items (get_or indices.items k None) index (λ z e. (let below = index_below (length c.items) indices.items k z range within e in sym (of.valid (unsigned_abs z) below) ∙ full_at v (unsigned_abs z) full)) in
          from_full n k ∙ (sym item ∙ ap (λ (o : Option ℤ). is_some o) (sym (get_or-map (item_named c.items) indices.items k None None within)));
    }

null_forms : (v w : Validity) → (is_full v && is_full w) ≡ false → either_nullable (nullability_of v) (nullability_of w) ≡ Nullable
null_forms valid.NonNullable valid.NonNullable h = cc
null_forms valid.NonNullable valid.AllValid h = refl
null_forms valid.NonNullable valid.AllInvalid h = refl
null_forms valid.NonNullable (valid.Array bits) h = refl
null_forms valid.AllValid w h = refl
null_forms valid.AllInvalid w h = refl
null_forms (valid.Array bits) w h = refl

-- a bit for each item that is taken
pub bits_taken : (v w : Validity) (bits : List Bool) (indices c : Column) → (is_full v && is_full w) ≡ false → IsValidityOf v c → IsValidityOf w indices → length bits ≡ length indices.items
    → ((k : ℕ) → k < length indices.items → get_or bits k false ≡ is_some (item_named c.items (get_or indices.items k None))) → IsValidityOf (valid.Array bits) (take_of indices c)
bits_taken v w bits indices c forms of of_w long each =
    let size : length (take_of indices c).items ≡ length indices.items = length-map indices.items (item_named c.items) in
    let either : either_nullable (nullability_in c.dtype) (nullability_in indices.dtype) ≡ Nullable = rw (← of.nullable, ← of_w.nullable) (null_forms v w forms) in
    record {
      covered = (Decides-eqb (length bits) (length (take_of indices c).items)).1 (long ∙ sym size);
      nullable = sym (nullability_with c.dtype (either_nullable (nullability_in c.dtype) (nullability_in indices.dtype)) ∙ either);
      valid = λ k h.
          let within : k < length indices.items = omega arith in
          each k within ∙ ap (λ (o : Option ℤ). is_some o) (sym (get_or-map (item_named c.items) indices.items k None None within));
    }

-- ---- answers
-- what is taken of the column that is read
pub take_answered : (b : PrimitiveParts) (c d : Column) (r : Result PrimitiveParts FastLanesError) → integer_column c ≡ Ok d → list_all (is_in_range (length c.items)) (column_of_primitive b).items ≡ true
    → Answers column_of_primitive r (Ok (take_of (column_of_primitive b) d)) → Answers column_of_primitive r (take_column (column_of_primitive b) c)
take_answered b c d r e range answer =
    let same = decoded_is c d e in
    rw (read_integers c d e, range, same) answer

-- an index that names no item
pub take_refused : (b : PrimitiveParts) (c : Column) (ptype : PType) (n : Nullability) → c.dtype ≡ dtypes.Primitive ptype n → list_all (is_in_range (length c.items)) (column_of_primitive b).items ≡ false → take_column (column_of_primitive b) c ≡ Err IndexOutOfBounds
take_refused b c ptype n typed range = rw (typed, range) refl
