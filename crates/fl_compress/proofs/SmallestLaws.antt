-- The array that is encoded by the cheapest scheme is the smallest.
use Rattle.std.proofs.Common.{◌≡◌, ◌<◌, ◌≤◌, ℕ, true, List, [], ◌∷◌, ◌++◌, length, Option, Some, refl, ap, sym, subst, ◌∙◌, arith}
use Rattle.std.specs.Prelude.{IsTrue, option_map}
use Rattle.std.specs.List.{All}
use Rattle.std.proofs.lemmas.Bool.{eqb-true}
use Rattle.std.proofs.lemmas.Bool.Decides.{nat_tests}
use Rattle.std.proofs.lemmas.List.Elements.{All-append, All-cons, All-head, All-same, All-weaker}
use Rattle.fl_types.specs.declared.dtype.PType.{PType}
use Rattle.fl_types.specs.declared.dtype.PType.TheVariants.{U8, U16, U32, U64, I8, I16, I32, I64}
use Rattle.fl_types.specs.declared.validity.Validity.{Validity}
use Rattle.fl_types.specs.declared.validity.Validity.TheVariants as valid
use Rattle.fl_types.specs.Validities.{covers}
use Rattle.fl_column.specs.Columns.{PrimitiveParts, column_of_primitive}
use Rattle.fl_column.specs.Queries.{are_constant}
use Rattle.fl_array.specs.Trees.{Tree}
use Rattle.fl_array.specs.Trees as tree
use Rattle.fl_encode.specs.declared.scheme.Packing.TheVariants.{BestWidth, BestWidths}
use Rattle.fl_encode.specs.Encodings.{IsEncodedAs}
use Rattle.fl_encode.specs.Packings.{constant_of}
use Rattle.fl_encode.specs.Shapes.{Shape}
use Rattle.fl_encode.specs.Shapes as shapes
use Rattle.fl_serde.specs.ByteCounts.{primitive_bytes, tree_bytes, validity_bytes}
use Rattle.fl_serde.specs.Leaves.{slots_size}
use Rattle.fl_compress.specs.declared.limits.Limits.{Limits}
use Rattle.fl_compress.specs.Candidates.{candidates, delta_schemes, framed_schemes, has_level, packed_schemes, where_allowed}
use Rattle.fl_compress.specs.Cheapest.{cheaper, cheapest}
use Rattle.fl_compress.specs.EncodedBytes.{encoded_bytes}
use Rattle.fl_compress.specs.Smallest.{IsMadeAs, IsSmallest, TakesMore, TakesNoFewer}
use Rattle.fl_compress.proofs.CheapestLaws.{IsFirstCheapest, first_cheapest, free_first}
use Rattle.fl_compress.proofs.MadeBytes.{free_of_refusal, made_bytes}

-- ---- the smallest
made_size : (s : Shape) (p : PrimitiveParts) (u : Tree) → IsMadeAs s p u → encoded_bytes p s ≡ Some (tree_bytes u)
made_size s p u (none, is) = made_bytes s p u none is

the_bytes : (o : Option ℕ) (m n : ℕ) → o ≡ Some m → o ≡ Some n → m ≡ n
the_bytes o m n e f = cc

pub smallest_is : (schemes : List Shape) (p : PrimitiveParts) (scheme : Shape) (n : ℕ) (t : Tree) → cheapest (encoded_bytes p) schemes ≡ Some (scheme, n) → IsEncodedAs scheme p t → IsSmallest schemes p t
smallest_is schemes p scheme n t e is =
    let first : IsFirstCheapest (encoded_bytes p) schemes scheme n = first_cheapest (encoded_bytes p) schemes (scheme, n) e in
    let none = free_of_refusal scheme p n first.own in
    let bytes : n ≡ tree_bytes t = the_bytes (encoded_bytes p scheme) n (tree_bytes t) first.own (made_bytes scheme p t none is) in
    let larger : All (TakesMore p t) first.before = All-weaker (λ y. (m : ℕ) → encoded_bytes p y ≡ Some m → n < m) (TakesMore p t) (λ y more u made. let lt : n < tree_bytes u = more (tree_bytes u) (made_size y p u made) in omega arith) first.before first.dearer in
    let no_larger : All (TakesNoFewer p t) first.before = All-weaker (TakesMore p t) (TakesNoFewer p t) (λ y more u made. let lt : tree_bytes t < tree_bytes u = more u made in omega arith) first.before larger in
    let own : TakesNoFewer p t scheme = λ u made. (let same : n ≡ tree_bytes u = the_bytes (encoded_bytes p scheme) n (tree_bytes u) first.own (made_size scheme p u made) in omega arith) in
    let rest : All (TakesNoFewer p t) first.behind = All-weaker (λ y. (m : ℕ) → encoded_bytes p y ≡ Some m → n ≤ m) (TakesNoFewer p t) (λ y fewer u made. let le : n ≤ tree_bytes u = fewer (tree_bytes u) (made_size y p u made) in omega arith) first.behind first.no_cheaper in
    record {
      before = first.before;
      chosen = scheme;
      behind = first.behind;
      place = first.place;
      made = (none, is);
      larger = larger;
      no_smaller = All-same (TakesNoFewer p t) schemes (first.before ++ scheme ∷ first.behind) first.place (All-append (TakesNoFewer p t) first.before (scheme ∷ first.behind) no_larger (All-cons (TakesNoFewer p t) scheme first.behind own rest));
    }

-- ---- plain arrays
-- a plain array is the first candidate
record BeginsPlain (schemes : List Shape) : Type 0 where
  rest : List Shape
  begins : schemes ≡ shapes.Primitive ∷ rest

first_is_plain : (limits : Limits) → BeginsPlain (candidates limits)
unfolding candidates delta_schemes framed_schemes packed_schemes
first_is_plain limits = record { rest = _; begins = refl }

pub never_larger : (limits : Limits) (p : PrimitiveParts) (t : Tree) → IsSmallest (candidates limits) p t → tree_bytes t ≤ primitive_bytes p
never_larger limits p t small =
    let plain = first_is_plain limits in
    All-head (TakesNoFewer p t) shapes.Primitive plain.rest (All-same (TakesNoFewer p t) (shapes.Primitive ∷ plain.rest) (candidates limits) (sym plain.begins) small.no_smaller) (tree.Primitive p) (refl, refl)

-- ---- arrays without items
no_bits : (v : Validity) → IsTrue (covers v 0) → validity_bytes 0 v ≡ 0
no_bits valid.NonNullable h = refl
no_bits valid.AllValid h = refl
no_bits valid.AllInvalid h = refl
no_bits (valid.Array bits) h = let none : length bits ≡ 0 = eqb-true (length bits) 0 h in rw none refl

pub no_bytes : (p : PrimitiveParts) → length p.slots ≡ 0 → IsTrue (covers p.validity (length p.slots)) → primitive_bytes p ≡ 0
no_bytes p e h =
    let bits : validity_bytes (length p.slots) p.validity ≡ 0 = ap (λ n. validity_bytes n p.validity) e ∙ no_bits p.validity (subst (λ n. IsTrue (covers p.validity n)) e h) in
    let slots : slots_size p.ptype (length p.slots) ≡ slots_size p.ptype 0 = ap (slots_size p.ptype) e in
    omega arith

made_as : (scheme other : Shape) (p : PrimitiveParts) (t : Tree) → scheme ≡ other → IsEncodedAs scheme p t → IsEncodedAs other p t
made_as scheme other p t e is = subst (λ (s : Shape). IsEncodedAs s p t) e is

same_choice : (s u : Shape) (m n : ℕ) (o : Option (Shape × ℕ)) → o ≡ Some (s, m) → o ≡ Some (u, n) → s ≡ u
same_choice s u m n o e f =
    let same = same_some (s, m) (u, n) (sym e ∙ f) in
    ap (λ (c : Shape × ℕ). c.0) same
  where
    same_some : (a b : Shape × ℕ) → (let first : Option (Shape × ℕ) = Some a in first) ≡ Some b → a ≡ b
    same_some a b e = cc

plain_free : (limits : Limits) (p : PrimitiveParts) → primitive_bytes p ≡ 0 → cheapest (encoded_bytes p) (candidates limits) ≡ Some (shapes.Primitive, 0)
unfolding cheapest encoded_bytes
plain_free limits p none =
    let plain = first_is_plain limits in
    ap (cheapest (encoded_bytes p)) plain.begins
    ∙ (ap (λ n. cheaper (Some (shapes.Primitive, n)) (cheapest (encoded_bytes p) plain.rest)) none
    ∙ free_first shapes.Primitive (cheapest (encoded_bytes p) plain.rest))

pub empty_is_plain : (limits : Limits) (p : PrimitiveParts) (scheme : Shape) (n : ℕ) (t : Tree) → IsTrue (covers p.validity (length p.slots)) → cheapest (encoded_bytes p) (candidates limits) ≡ Some (scheme, n) → IsEncodedAs scheme p t
    → length p.slots ≡ 0 → t ≡ tree.Primitive p
empty_is_plain limits p scheme n t h e is none =
    made_as scheme shapes.Primitive p t (same_choice scheme shapes.Primitive n 0 (cheapest (encoded_bytes p) (candidates limits)) e (plain_free limits p (no_bytes p none h))) is

-- ---- constant arrays
some_slots : (ptype : PType) (n : ℕ) → 0 < n → 0 < slots_size ptype n
some_slots U8 n h = omega arith
some_slots U16 n h = omega arith
some_slots U32 n h = omega arith
some_slots U64 n h = omega arith
some_slots I8 n h = omega arith
some_slots I16 n h = omega arith
some_slots I32 n h = omega arith
some_slots I64 n h = omega arith

-- where constant arrays are allowed, the second candidate is one
record BeginsConstant (schemes : List Shape) : Type 0 where
  rest : List Shape
  begins : schemes ≡ shapes.Primitive ∷ shapes.Constant ∷ rest

constant_and_more : (schemes others : List Shape) → BeginsConstant schemes → BeginsConstant (schemes ++ others)
constant_and_more schemes others h = record { rest = h.rest ++ others; begins = ap (λ s. s ++ others) h.begins }

packed_constant : (limits : Limits) (depth : ℕ) → limits.constant ≡ true → BeginsConstant (packed_schemes limits depth)
unfolding packed_schemes
packed_constant limits depth e =
    let packed = where_allowed (has_level limits.bitpacked depth) (shapes.BitPacked BestWidth ∷ shapes.BitPacked BestWidths ∷ []) in
    record { rest = packed; begins = ap (λ b. shapes.Primitive ∷ (where_allowed b (shapes.Constant ∷ []) ++ packed)) e }

second_is_constant : (limits : Limits) → limits.constant ≡ true → BeginsConstant (candidates limits)
unfolding candidates delta_schemes framed_schemes
second_is_constant limits e =
    constant_and_more _ _ (constant_and_more _ _ (constant_and_more _ _ (packed_constant limits limits.depth e)))

free_second : (n : ℕ) (rest : Option (Shape × ℕ)) → 0 < n → cheaper (Some (shapes.Primitive, n)) (cheaper (Some (shapes.Constant, 0)) rest) ≡ Some (shapes.Constant, 0)
free_second n rest h = rw (free_first shapes.Constant rest) (grind (arith, nat_tests))

constant_free : (limits : Limits) (p : PrimitiveParts) → limits.constant ≡ true → 0 < length p.slots → are_constant (column_of_primitive p).items ≡ true → cheapest (encoded_bytes p) (candidates limits) ≡ Some (shapes.Constant, 0)
unfolding cheapest encoded_bytes
constant_free limits p e h same =
    let constant = second_is_constant limits e in
    let some : 0 < slots_size p.ptype (length p.slots) = some_slots p.ptype (length p.slots) h in
    let none : encoded_bytes p shapes.Constant ≡ Some 0 = rw same refl in
    ap (cheapest (encoded_bytes p)) constant.begins
    ∙ (ap (λ o. cheaper (Some (shapes.Primitive, primitive_bytes p)) (cheaper (option_map (λ n. (shapes.Constant, n)) o) (cheapest (encoded_bytes p) constant.rest))) none
    ∙ free_second (primitive_bytes p) (cheapest (encoded_bytes p) constant.rest) (omega arith))

pub constant_is_constant : (limits : Limits) (p : PrimitiveParts) (scheme : Shape) (n : ℕ) (t : Tree) → cheapest (encoded_bytes p) (candidates limits) ≡ Some (scheme, n) → IsEncodedAs scheme p t
    → limits.constant ≡ true → 0 < length p.slots → are_constant (column_of_primitive p).items ≡ true → t ≡ tree.Constant (constant_of p)
constant_is_constant limits p scheme n t e is allowed h same =
    made_as scheme shapes.Constant p t (same_choice scheme shapes.Constant n 0 (cheapest (encoded_bytes p) (candidates limits)) e (constant_free limits p allowed h same)) is
