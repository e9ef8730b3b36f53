-- Queries to a column plus references that the column answers.
use Rattle.std.proofs.Common.{◌≡◌, ◌∙◌, ℤ, pos, ◌+ℤ◌, Bool, true, false, List, [], ◌∷◌, map, Option, Some, None, Ok, refl, ap, sym, subst}
use Rattle.std.specs.Prelude.{◌&&◌, ◌-ℤ◌, IfSome, option_and_then, option_map, unwrap_or}
use Rattle.std.specs.List.{list_all}
use Rattle.std.specs.Ordering.{int_eq}
use Rattle.std.proofs.lemmas.Bool.Decides.{Decides-int_eq}
use Rattle.std.proofs.lemmas.Int.{ints}
use Rattle.std.proofs.Common.{arith}
use Rattle.fl_types.specs.declared.dtype.DType.{DType}
use Rattle.fl_types.specs.declared.dtype.DType.TheVariants as dtypes
use Rattle.fl_types.specs.declared.dtype.PType.{PType}
use Rattle.fl_types.specs.Integers.{fits, wrap}
use Rattle.fl_types.specs.Types.{nullability_in}
use Rattle.fl_types.specs.declared.dtype.PType.TheVariants.{U8}
use Rattle.fl_types.specs.Values.{bool_number, fits_in}
use Rattle.fl_column.specs.Columns.{Column, integers_in, option_all, ptype_of_column}
use Rattle.fl_column.specs.Queries.{is_constant_column, same_item, tested}
use Rattle.fl_column.proofs.ListLaws.{and_first, and_second}
use Rattle.fl_codec.specs.FoRColumns.{global_for, plus_reference}
use Rattle.fl_codec.proofs.FoRRoundTrips.{fitting, wrap-wrap_left}
use Rattle.fl_types.specs.Types.{integer_type}
use Rattle.fl_types.specs.Values.{ScalarParts}
use Rattle.fastlanes.specs.Counts.{Counts}
use Rattle.fl_array.specs.FoRArrays.{ChunkReferences, FoRArrayParts, FoRReferencesParts, GlobalReference, for_in, for_tree, offset_of_references, packed_in_chunks, refusal_of_for, tree_of_for}
use Rattle.fl_array.specs.Ranges.{items_fit}
use Rattle.fl_array.specs.Trees.{Tree, column}
use Rattle.fl_array.specs.Trees as tree
use Rattle.fl_array.specs.BitPackedArrays.{BitPackedArrayParts, bitpacked_in}
use Rattle.fl_array.specs.UnpackedBlocks.{IsComparisonOfSums}
use Rattle.fl_ops.specs.Selections.{is_global_for}
use Rattle.fl_ops.specs.Unpacked.{IsTestOfArray}
use Rattle.fl_array.proofs.FoRLaws.{for_dtype}
use Rattle.fl_array.proofs.FoRSound.{global_column, has_reference}

-- ---- sums and differences
minus_plus : (z r : ℤ) → z -ℤ r +ℤ r ≡ z
minus_plus z r = omega (arith, ints)

plus_minus : (z r : ℤ) → z +ℤ r -ℤ r ≡ z
plus_minus z r = omega (arith, ints)

minus_is : (z r : ℤ) → z +ℤ (pos 0 -ℤ r) ≡ z -ℤ r
minus_is z r = omega (arith, ints)

wrapped_less : (ptype : PType) (x r : ℤ) → wrap ptype (wrap ptype x -ℤ r) ≡ wrap ptype (x -ℤ r)
wrapped_less ptype x r =
    ap (wrap ptype) (sym (minus_is (wrap ptype x) r)) ∙ wrap-wrap_left ptype x (pos 0 -ℤ r) ∙ ap (wrap ptype) (minus_is x r)

-- a sum less the reference is the integer, and a difference plus the reference
sum_back : (ptype : PType) (z r : ℤ) → fits ptype z ≡ true → wrap ptype (wrap ptype (z +ℤ r) -ℤ r) ≡ z
sum_back ptype z r fit = wrapped_less ptype (z +ℤ r) r ∙ ap (wrap ptype) (plus_minus z r) ∙ fitting ptype z fit

-- ---- equality
same_eq : (a b x y : ℤ) → (x ≡ y → a ≡ b) → (a ≡ b → x ≡ y) → int_eq a b ≡ int_eq x y
same_eq a b x y to from = each (int_eq a b) (int_eq x y) refl refl
  where
    each : (p q : Bool) → int_eq a b ≡ p → int_eq x y ≡ q → p ≡ q
    each true true e f = refl
    each false false e f = refl
    each true false e f = let both : int_eq x y ≡ true = (Decides-int_eq x y).1 (from ((Decides-int_eq a b).0 e)) in sym both ∙ f
    each false true e f = let both : int_eq a b ≡ true = (Decides-int_eq a b).1 (to ((Decides-int_eq x y).0 f)) in sym e ∙ both

-- ---- constancy
same_sums : (ptype : PType) (r : ℤ) (x y : Option ℤ) → option_all (fits ptype) x ≡ true → option_all (fits ptype) y ≡ true → same_item (plus_reference ptype r x) (plus_reference ptype r y) ≡ same_item x y
same_sums ptype r None None a b = refl
same_sums ptype r None (Some y) a b = refl
same_sums ptype r (Some x) None a b = refl
same_sums ptype r (Some x) (Some y) a b =
    same_eq (wrap ptype (x +ℤ r)) (wrap ptype (y +ℤ r)) x y (λ (e : x ≡ y). ap (λ z. wrap ptype (z +ℤ r)) e)
    (λ (e : wrap ptype (x +ℤ r) ≡ wrap ptype (y +ℤ r)). sym (sum_back ptype x r a) ∙ ap (λ z. wrap ptype (z -ℤ r)) e ∙ sum_back ptype y r b)

one_against : (ptype : PType) (r : ℤ) (x : Option ℤ) (ys : List (Option ℤ)) → option_all (fits ptype) x ≡ true → list_all (option_all (fits ptype)) ys ≡ true → list_all (same_item (plus_reference ptype r x)) (map (plus_reference ptype r) ys) ≡ list_all (same_item x) ys
one_against ptype r x [] a b = refl
one_against ptype r x (y ∷ ys) a b =
    (λ i. same_sums ptype r x y a (and_first (option_all (fits ptype) y) (list_all (option_all (fits ptype)) ys) b) i && one_against ptype r x ys a (and_second (option_all (fits ptype) y) (list_all (option_all (fits ptype)) ys) b) i)

all_against : (ptype : PType) (r : ℤ) (xs ys : List (Option ℤ)) → list_all (option_all (fits ptype)) xs ≡ true → list_all (option_all (fits ptype)) ys ≡ true
    → list_all (λ x. list_all (same_item x) (map (plus_reference ptype r) ys)) (map (plus_reference ptype r) xs) ≡ list_all (λ x. list_all (same_item x) ys) xs
all_against ptype r [] ys a b = refl
all_against ptype r (x ∷ xs) ys a b =
    (λ i. one_against ptype r x ys (and_first (option_all (fits ptype) x) (list_all (option_all (fits ptype)) xs) a) b i && all_against ptype r xs ys (and_second (option_all (fits ptype) x) (list_all (option_all (fits ptype)) xs) a) b i)

-- items plus a reference are all equal where the items are
pub constant_of_global : (r : ℤ) (c : Column) → items_fit c ≡ true → is_constant_column (global_for r c) ≡ is_constant_column c
constant_of_global r c fit = each c.dtype fit
  where
    each : (d : DType) → list_all (option_all (fits_in d)) c.items ≡ true → is_constant_column (global_for r (record { dtype = d; items = c.items })) ≡ is_constant_column (record { dtype = d; items = c.items })
    each (dtypes.Primitive p m) fit = ap (λ (b : Bool). Ok b) (all_against p r c.items c.items fit fit)
    each (dtypes.Bool m) fit = refl

-- ---- arrays
pub constant_over : (a : FoRArrayParts) (t : Tree) (r : ScalarParts) → GlobalReference r ≡ a.references → tree_of_for a ≡ t → items_fit (column a.encoded) ≡ true → is_constant_column (column a.encoded) ≡ is_constant_column (column t)
constant_over a t r same is fit =
    sym (constant_of_global (unwrap_or r.value (pos 0)) (column a.encoded) fit) ∙ ap is_constant_column (sym (global_column a r same) ∙ ap column is)

-- ---- tests
-- the answers for items plus a reference
tested_sums : (t : PType) (r : ℤ) (f g : ℤ → Bool) (items : List (Option ℤ)) → ((z : ℤ) → g z ≡ f (wrap t (z +ℤ r))) → map (option_map (λ z. bool_number (g z))) items ≡ map (option_map (λ z. bool_number (f z))) (map (plus_reference t r) items)
tested_sums t r f g [] same = refl
tested_sums t r f g (None ∷ items) same = ap (λ rest. None ∷ rest) (tested_sums t r f g items same)
tested_sums t r f g (Some z ∷ items) same = (λ i. Some (bool_number (same z i)) ∷ tested_sums t r f g items same i)

pub tested_over : (a : FoRArrayParts) (t : Tree) (r : ScalarParts) (f g : ℤ → Bool) → GlobalReference r ≡ a.references → tree_of_for a ≡ t → ((z : ℤ) → g z ≡ f (wrap (ptype_of_column (column a.encoded)) (z +ℤ unwrap_or r.value (pos 0))))
    → tested g (column a.encoded) ≡ tested f (column t)
tested_over a t r f g same is each =
    let c = column a.encoded in
    ap (λ items. record { dtype = dtypes.Bool (nullability_in c.dtype); items = items }) (tested_sums (ptype_of_column c) (unwrap_or r.value (pos 0)) f g c.items each)
    ∙ ap (tested f) (sym (global_column a r same) ∙ ap column is)

-- what the encoded array unpacks
pub unpacked_over : (a : FoRArrayParts) (t : Tree) (r : ScalarParts) (f g : ℤ → Bool) (work : Counts) → GlobalReference r ≡ a.references → tree_of_for a ≡ t → ((z : ℤ) → g z ≡ f (wrap (ptype_of_column (column a.encoded)) (z +ℤ unwrap_or r.value (pos 0))))
    → IsTestOfArray a.encoded g work → IsTestOfArray t f work
unpacked_over a t r f g work same is each h =
    let over : tree.FoRGlobal a.encoded r ≡ t = ap (for_tree a.encoded) same ∙ is in
    let sums : g ≡ (λ z. f (wrap (ptype_of_column (column a.encoded)) (z +ℤ unwrap_or r.value (pos 0)))) = λ i z. each z i in
    let P : (ℤ → Bool) → Type 0 = λ p. IsTestOfArray a.encoded p work in
    let Q : Tree → Type 0 = λ x. IsTestOfArray x f work in
    subst Q over (subst P sums h)

-- what the packed blocks of sums unpack
pub unpacked_sums : (a : FoRArrayParts) (t references : Tree) (p : BitPackedArrayParts) (f : ℤ → Bool) (work : Counts) → ChunkReferences references (offset_of_references a.references) ≡ a.references → tree_of_for a ≡ t → Some p ≡ packed_in_chunks a
    → IsComparisonOfSums p (integers_in (column references)) f work → IsTestOfArray t f work
unpacked_sums a t references p f work same is found h =
    let offset = offset_of_references a.references in
    let over : tree.FoRChunked a.encoded references offset ≡ t = ap (for_tree a.encoded) same ∙ is in
    let chunks : FoRReferencesParts → FoRArrayParts = λ r. record { encoded = a.encoded; references = r } in
    let packed : packed_in_chunks (chunks (ChunkReferences references offset)) ≡ Some p = ap (λ r. packed_in_chunks (chunks r)) same ∙ sym found in
    let P : Option BitPackedArrayParts → Type 0 = λ o. IfSome o (λ b. IsComparisonOfSums b (integers_in (column references)) f work) in
    let Q : Tree → Type 0 = λ x. IsTestOfArray x f work in
    subst Q over (subst P (sym packed) h)

-- nothing is said of what another array unpacks
pub not_packed : (t : Tree) (test : ℤ → Bool) (work : Counts) → is_global_for t ≡ false → bitpacked_in t ≡ None → option_and_then packed_in_chunks (for_in t) ≡ None → IsTestOfArray t test work
not_packed (tree.Primitive p) test work other none apart = tt
not_packed (tree.Constant c) test work other none apart = tt
not_packed (tree.Bool b) test work other none apart = tt
not_packed (tree.BitPackedGlobal parts width) test work other none apart = cc
not_packed (tree.BitPackedBlocked parts boundaries) test work other none apart = cc
not_packed (tree.FoRGlobal encoded reference) test work other none apart = cc
not_packed (tree.FoRChunked encoded references offset) test work other none apart =
    let P : Option BitPackedArrayParts → Type 0 = λ o. IfSome o (λ b. IsComparisonOfSums b (integers_in (column references)) test work) in
    subst P (sym apart) tt
not_packed (tree.Delta bases deltas parts) test work other none apart = tt
not_packed (tree.RLE values indices offsets window) test work other none apart = tt

-- a FoR array whose chunks are no packed blocks
pub no_blocks : (a : FoRArrayParts) (t : Tree) → Some a ≡ for_in t → packed_in_chunks a ≡ None → option_and_then packed_in_chunks (for_in t) ≡ None
no_blocks a t is none = ap (λ o. option_and_then packed_in_chunks o) (sym is) ∙ none

pub no_for : (t : Tree) → (let none : Option FoRArrayParts = None in none) ≡ for_in t → option_and_then packed_in_chunks (for_in t) ≡ None
no_for t is = ap (λ o. option_and_then packed_in_chunks o) (sym is)

-- ---- types
pub encoded_type : (a : FoRArrayParts) (t : Tree) → tree_of_for a ≡ t → ptype_of_column (column t) ≡ ptype_of_column (column a.encoded)
encoded_type a t is = sym (ap (λ (x : Tree). ptype_of_column (column x)) is) ∙ ap (λ d. unwrap_or (integer_type d) U8) (for_dtype a)

-- the reference is of the encoded items' type
pub reference_typed : (a : FoRArrayParts) (r : ScalarParts) (p : PType) → refusal_of_for a ≡ None → GlobalReference r ≡ a.references → integer_type r.dtype ≡ Some p → p ≡ ptype_of_column (column a.encoded)
reference_typed a r p h same typed =
    let s = has_reference a r h same in
    ap (λ (o : Option PType). unwrap_or o U8) (sym typed ∙ s.typed)
