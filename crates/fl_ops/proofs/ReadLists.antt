-- The integers that were read of a column so far.
use Rattle.std.proofs.Common.{◌≡◌, ◌==◌, ℕ, ℤ, pos, Result, Ok, ◌+◌, ◌-◌, ◌<◌, ◌≤◌, Bool, true, false, List, [], ◌∷◌, ◌++◌, length, map, get_or, take, drop, Option, Some, None, IsTrue, refl, ap, sym, subst, ◌∙◌, arith, inl, inr, length-append, length-drop, length-take}
use Rattle.std.specs.Prelude.{unwrap_or}
use Rattle.std.proofs.lemmas.Bool.{cases_lt}
use Rattle.std.proofs.lemmas.Bool.Decides.{Decides-eqb}
use Rattle.std.proofs.lemmas.List.{get_or-append-add, get_or-drop, get_or-map, get_or-take, get_or_append_left, length-map, map-append}
use Rattle.fl_types.specs.Bits.{between, kept, true_count}
use Rattle.fl_types.specs.declared.dtype.DType.{DType}
use Rattle.fl_types.specs.declared.dtype.DType.TheVariants.{Bool as BoolType, Primitive}
use Rattle.fl_types.specs.declared.mask.Mask.TheVariants.{Values}
use Rattle.fl_types.specs.Refusals.{Answers}
use Rattle.fl_types.specs.Types.{has_ptype, nullability_in}
use Rattle.fl_types.specs.declared.dtype.Nullability.{Nullability}
use Rattle.fl_types.specs.declared.dtype.PType.{PType}
use Rattle.fl_types.specs.declared.error.FastLanesError.{FastLanesError}
use Rattle.fl_types.specs.declared.validity.Validity.{Validity}
use Rattle.fl_types.specs.Validities.{covers, nullability_of}
use Rattle.fl_column.specs.Columns.{Column, PrimitiveParts, column_of_primitive}
use Rattle.fl_column.specs.Operations.{filter_column, filter_of}
use Rattle.fl_column.specs.Selections.{kept_validity}
use Rattle.fl_column.proofs.FilterLaws.{filtered_column, kept_agree, kept_covers, kept_few, kept_map}
use Rattle.fl_bitpacking.proofs.SoundParts.{same_ptype_is}
use Rattle.fl_bitpacking.specs.Blocks.{value_at}
use Rattle.fl_array.specs.Readers.{AreItemsFrom}
use Rattle.fl_ops.specs.BlockReads.{AreFirst, AreKept}
use Rattle.fl_array.specs.Reads.{AreItemsOf, IsValidityOf, integer_column}
use Rattle.fl_array.proofs.ReadLaws.{items_read}
use Rattle.fl_ops.proofs.Answered.{decoded_is}
use Rattle.fl_ops.proofs.BlockLaws.{read_integers}

-- none yet
pub first_none : (n : ℕ) (c : Column) → n ≡ 0 → AreFirst [] n c
first_none n c none = record { long = sym none; items = λ i z h e. absurd (omega arith) }

-- those of a part more
pub first_more : (zs ys : List ℤ) (n m : ℕ) (c : Column) → length ys ≡ m → ((i : ℕ) (z : ℤ) → i < m → get_or c.items (n + i) None ≡ Some z → get_or ys i (pos 0) ≡ z) → AreFirst zs n c → AreFirst (zs ++ ys) (n + m) c
first_more zs ys n m c size part first =
    let front = first.long in
    let whole = length-append zs ys in record {
      long = omega (arith, whole);
      items = λ i z h e. elim (cases_lt i n) [
        | inl before ↦ get_or_append_left zs ys (pos 0) i (omega arith) ∙ first.items i z before e
        | inr after ↦
            let place : length zs + (i - n) ≡ i = omega arith in
            let index : n + (i - n) ≡ 0 + i = omega arith in
            ap (λ k. get_or (zs ++ ys) k (pos 0)) (sym place) ∙ (get_or-append-add zs ys (i - n) (pos 0) ∙ part (i - n) z (omega arith) (ap (λ k. get_or c.items k None) index ∙ e))
      ];
    }

-- a part that was read
pub first_read : {X : Type 0} (value : X → ℤ) (zs : List ℤ) (xs : List X) (n m : ℕ) (c : Column) → length xs ≡ m → AreItemsFrom n m (value_at value xs) c → AreFirst zs n c → AreFirst (zs ++ map value xs) (n + m) c
unfolding value_at
first_read value zs xs n m c size read first = first_more zs (map value xs) n m c (length-map xs value ∙ size) read first

-- the integers of a part that is not read
abbrev pub unread : Column → ℕ → ℕ → List ℤ
unread c n m = map (λ item. unwrap_or item (pos 0)) (take m (drop n c.items))

unread_item : (o : Option ℤ) (z : ℤ) → o ≡ Some z → unwrap_or o (pos 0) ≡ z
unread_item None z e = cc
unread_item (Some y) z e = cc

pub first_unread : (zs : List ℤ) (n m : ℕ) (c : Column) → n + m ≤ length c.items → AreFirst zs n c → AreFirst (zs ++ unread c n m) (n + m) c
first_unread zs n m c room first =
    let rest = length-drop n c.items in
    let part = length-take m (drop n c.items) in
    let size : length (unread c n m) ≡ m = length-map (take m (drop n c.items)) (λ item. unwrap_or item (pos 0)) ∙ omega arith in
    first_more zs (unread c n m) n m c size (λ i z h e.
    get_or-map (λ (item : Option ℤ). unwrap_or item (pos 0)) (take m (drop n c.items)) i None (pos 0) (omega arith)
    ∙ unread_item (get_or (take m (drop n c.items)) i None) z (get_or-take m (drop n c.items) i None h ∙ (get_or-drop n c.items i None ∙ e))) first

-- all of them
pub first_all : (zs : List ℤ) (n : ℕ) (c : Column) → n ≡ length c.items → AreFirst zs n c → AreItemsOf zs c
first_all zs n c all first = items_read zs c (first.long ∙ all) (λ i z h e. first.items i z (let size = first.long in omega arith) e)

-- the plain array of a column's integers under its validity
pub plain_column : (c : Column) (v : Validity) (zs : List ℤ) (ptype : PType) (n : Nullability) → c.dtype ≡ Primitive ptype n → IsValidityOf v c → AreItemsOf zs c → column_of_primitive (record { ptype = ptype; slots = zs; validity = v }) ≡ c
plain_column c v zs ptype n typed of all =
    let same : nullability_of v ≡ n = of.nullable ∙ (rw typed refl) in
    rw (same, all v of, ← typed) refl

-- ---- masks
kept_of_none : {A : Type 0} (bits : List Bool) → kept {A = A} bits [] ≡ []
kept_of_none [] = refl
kept_of_none (b ∷ bits) = refl

-- what is kept of a list and of what follows
kept_behind : {A : Type 0} (bits : List Bool) (zs ys : List A) → kept bits (zs ++ ys) ≡ kept bits zs ++ kept (drop (length zs) bits) ys
kept_behind bits [] ys = ap (λ l. l ++ kept bits ys) (sym (kept_of_none bits))
kept_behind [] (z ∷ zs) ys = refl
kept_behind (true ∷ bits) (z ∷ zs) ys = ap (λ l. z ∷ l) (kept_behind bits zs ys)
kept_behind (false ∷ bits) (z ∷ zs) ys = kept_behind bits zs ys

-- a part more is kept
pub kept_read : {X : Type 0} (value : X → ℤ) (bits : List Bool) (zs : List ℤ) (old new xs : List X) (n : ℕ) → length zs ≡ n → new ≡ old ++ kept (drop n bits) xs → map value old ≡ kept bits zs → map value new ≡ kept bits (zs ++ map value xs)
kept_read value bits zs old new xs n size is before =
    ap (map value) is ∙ (map-append value old (kept (drop n bits) xs) ∙ (ap (λ l. l ++ map value (kept (drop n bits) xs)) before
    ∙ (ap (λ l. kept bits zs ++ l) (sym (kept_map value (drop n bits) xs) ∙ ap (λ k. kept (drop k bits) (map value xs)) (sym size)) ∙ sym (kept_behind bits zs (map value xs)))))

nil_of : {A : Type 0} (xs : List A) → length xs ≤ 0 → xs ≡ []
nil_of [] h = refl
nil_of (x ∷ xs) h = absurd (omega (arith, h))

append_nothing : {A : Type 0} (xs : List A) → xs ++ [] ≡ xs
append_nothing [] = refl
append_nothing (x ∷ xs) = ap (λ l. x ∷ l) (append_nothing xs)

-- nothing is kept of a part without a set bit
pub kept_unread : (bits : List Bool) (taken zs ys : List ℤ) (n m : ℕ) → length zs ≡ n → length ys ≡ m → n + m ≤ length bits → true_count (between n (n + m) bits) ≤ 0 → taken ≡ kept bits zs → taken ≡ kept bits (zs ++ ys)
kept_unread bits taken zs ys n m size part room none before =
    let here = drop n bits in
    let rest = length-drop n bits in
    let count : n + m - n ≡ m = omega arith in
    let cut = length-take m here in
    let few : true_count (take m here) ≤ 0 = rw count at none in
    let same : kept here ys ≡ kept (take m here) ys = kept_agree here (take m here) ys (omega arith) (omega arith) (λ i h. sym (get_or-take m here i false (omega arith))) in
    let nothing : kept (drop (length zs) bits) ys ≡ [] = ap (λ k. kept (drop k bits) ys) size ∙ (same ∙ nil_of (kept (take m here) ys) (let most = kept_few (take m here) ys in omega arith)) in
    before ∙ (sym (append_nothing (kept bits zs)) ∙ (ap (λ l. kept bits zs ++ l) (sym nothing) ∙ sym (kept_behind bits zs ys)))

-- a block more, of which nothing is kept
pub kept_skipped : (bits : List Bool) (taken : List ℤ) (n m end : ℕ) (c : Column) → n + m ≡ end → end ≤ length c.items → length bits ≡ length c.items → true_count (between n (n + m) bits) ≡ 0 → AreKept bits taken n c → AreKept bits taken end c
kept_skipped bits taken n m end c is room long none begun =
    let rest = length-drop n c.items in
    let part = length-take m (drop n c.items) in
    let size : length (unread c n m) ≡ m = length-map (take m (drop n c.items)) (λ item. unwrap_or item (pos 0)) ∙ omega arith in
    subst (λ (k : ℕ). AreKept bits taken k c) is
    (begun.0 ++ unread c n m, (first_unread begun.0 n m c (omega arith) begun.1.0, kept_unread bits taken begun.0 (unread c n m) n m begun.1.0.long size (omega arith) (omega arith) begun.1.1))

-- a block more that was read
pub kept_pushed : {X : Type 0} (value : X → ℤ) (bits : List Bool) (old new xs : List X) (n m end : ℕ) (c : Column) → n + m ≡ end → length xs ≡ m → AreItemsFrom n m (value_at value xs) c → new ≡ old ++ kept (drop n bits) xs → AreKept bits (map value old) n c → AreKept bits (map value new) end c
kept_pushed value bits old new xs n m end c is size read pushed begun =
    subst (λ (k : ℕ). AreKept bits (map value new) k c) is
    (begun.0 ++ map value xs, (first_read value begun.0 xs n m c size read begun.1.0, kept_read value bits begun.0 old new xs n begun.1.0.long pushed begun.1.1))

-- before the first block
pub kept_none_yet : {X : Type 0} (value : X → ℤ) (bits : List Bool) (taken : List X) (n : ℕ) (c : Column) → taken ≡ [] → n ≡ 0 → AreKept bits (map value taken) n c
kept_none_yet value bits taken n c empty none = ([], (first_none n c none, ap (map value) empty ∙ sym (kept_of_none bits)))

-- ---- columns
-- the type of a column of integers of a type
pub dtype_is : (d : DType) (ptype : PType) → has_ptype ptype d ≡ true → d ≡ Primitive ptype (nullability_in d)
dtype_is (Primitive other n) ptype h = ap (λ (p : PType). Primitive p n) (sym (same_ptype_is ptype other h))
dtype_is (BoolType n) ptype h = cc

covered : (v : Validity) (zs : List ℤ) (n : ℕ) (c : Column) → n ≡ length c.items → IsValidityOf v c → AreFirst zs n c → IsTrue (covers v (length zs))
covered v zs n c all of first = let size : length zs ≡ length c.items = first.long ∙ all in rw size of.covered

-- the validity of what is kept covers it
pub kept_covered : {X : Type 0} (value : X → ℤ) (bits : List Bool) (xs : List X) (v w : Validity) (c : Column) → IsValidityOf v c → AreKept bits (map value xs) (length c.items) c → w ≡ kept_validity bits v → IsTrue (covers w (length xs))
kept_covered value bits xs v w c of taken valid =
    let long : length xs ≡ length (kept bits taken.0) = sym (length-map xs value) ∙ ap length taken.1.1 in
    rw (valid, long) (kept_covers v bits taken.0 (covered v taken.0 (length c.items) c refl of taken.1.0))

-- the column of what is kept
pub kept_is : {X : Type 0} (value : X → ℤ) (bits : List Bool) (xs : List X) (v w : Validity) (c : Column) (ptype : PType) (r : PrimitiveParts) → has_ptype ptype c.dtype ≡ true → IsValidityOf v c → AreKept bits (map value xs) (length c.items) c → w ≡ kept_validity bits v
    → r ≡ record { ptype = ptype; slots = map value xs; validity = w } → filter_of (Values bits) c ≡ column_of_primitive r
kept_is value bits xs v w c ptype r typed of taken valid is =
    let a : PrimitiveParts = record { ptype = ptype; slots = taken.0; validity = v } in
    let same : column_of_primitive a ≡ c = plain_column c v taken.0 ptype (nullability_in c.dtype) (dtype_is c.dtype ptype typed) of (first_all taken.0 (length c.items) c refl taken.1.0) in
    let parts : r ≡ record { ptype = ptype; slots = kept bits taken.0; validity = kept_validity bits v } = is ∙ (rw (taken.1.1, valid) refl) in
    ap (filter_of (Values bits)) (sym same) ∙ filtered_column a r bits (covered v taken.0 (length c.items) c refl of taken.1.0) parts

-- what is kept of the column that is read
pub filter_answered : (bits : List Bool) (c d : Column) (r : Result PrimitiveParts FastLanesError) → integer_column c ≡ Ok d → length bits ≡ length c.items → Answers column_of_primitive r (Ok (filter_of (Values bits) d)) → Answers column_of_primitive r (filter_column (Values bits) c)
filter_answered bits c d r e long answer =
    let same = decoded_is c d e in
    let even : (length bits == length c.items) ≡ true = (Decides-eqb (length bits) (length c.items)).1 long in
    rw (even, read_integers c d e, same) answer
