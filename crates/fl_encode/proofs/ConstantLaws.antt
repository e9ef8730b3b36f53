-- Copies of one item: when a column is them, and that the references of chunks are not.
use Rattle.std.proofs.Common.{◌≡◌, ◌&&◌, ℕ, ℤ, pos, Bool, true, false, List, [], ◌∷◌, length, map, replicate, Option, Some, None, Ok, IsTrue, refl, ap, sym, subst, ◌∙◌, inl, inr}
use Rattle.std.specs.Prelude.{Result, is_none, nat_lt, slice_index_or, if◌then◌else◌}
use Rattle.std.specs.List.{list_all}
use Rattle.std.specs.Ordering.{int_eq}
use Rattle.std.proofs.lemmas.Bool.{cases_Bool}
use Rattle.std.proofs.lemmas.Bool.Decides.{Decides-int_eq}
use Rattle.fl_types.specs.declared.error.FastLanesError.{FastLanesError}
use Rattle.fl_types.specs.Validities.{covers}
use Rattle.fl_types.specs.Values.{ScalarParts}
use Rattle.fl_column.specs.Columns.{Column, ConstantParts, PrimitiveParts, column_of_constant, column_of_primitive, new_constant}
use Rattle.fl_column.specs.Queries.{are_constant, same_item}
use Rattle.fl_column.proofs.ConstantLaws.{constant_is_constant}
use Rattle.fl_column.proofs.ItemLaws.{length-items_of}
use Rattle.fl_column.proofs.ListLaws.{and_first, and_second}
use Rattle.fl_codec.specs.FoRColumns.{chunk_references, common_reference, reading}
use Rattle.fl_codec.specs.declared.for_.ItemOrder.{ItemOrder}
use Rattle.fl_codec.specs.Parts.{ByChunk, Nulls, encode_chunked_by, items_of_primitive, less_chunk_leasts, less_common, non_nullable, null_constant, reference_scalar}
use Rattle.fl_array.specs.Reads.{constant_in}
use Rattle.fl_array.specs.Trees.{BitPackedBlocked, BitPackedGlobal, Constant, Delta, FoRChunked, FoRGlobal, Primitive, RLE, Tree, column}
use Rattle.fl_array.specs.Trees as tree
use Rattle.fl_array.proofs.EncodedRLE.{ok_is}
use Rattle.fl_encode.specs.Encodings.{Makes}
use Rattle.fl_encode.specs.Packings.{constant_of, constant_refusal, repeated}

-- ---- a constant array
is_same : (x y : Option ℤ) → same_item x y ≡ true → y ≡ x
is_same None None h = refl
is_same None (Some y) h = cc
is_same (Some x) None h = cc
is_same (Some x) (Some y) h = ap (λ (z : ℤ). Some z) (sym ((Decides-int_eq x y).0 h))

all_same : (x : Option ℤ) (ys : List (Option ℤ)) → list_all (same_item x) ys ≡ true → replicate (length ys) x ≡ ys
all_same x [] h = refl
all_same x (y ∷ ys) h =
    let first : y ≡ x = is_same x y (and_first (same_item x y) (list_all (same_item x) ys) h) in
    let rest = all_same x ys (and_second (same_item x y) (list_all (same_item x) ys) h) in
    rw first (ap (λ zs. x ∷ zs) rest)

copies : (items : List (Option ℤ)) (d : Option ℤ) → are_constant items ≡ true → replicate (length items) (slice_index_or items 0 d) ≡ items
copies [] d h = refl
copies (x ∷ ys) d h = all_same x (x ∷ ys) (and_first (list_all (same_item x) (x ∷ ys)) (list_all (λ y. list_all (same_item y) (x ∷ ys)) ys) h)

pub constant_column : (p : PrimitiveParts) → IsTrue (covers p.validity (length p.slots)) → are_constant (column_of_primitive p).items ≡ true → column_of_constant (constant_of p) ≡ column_of_primitive p
constant_column p covered h =
    let long : length (column_of_primitive p).items ≡ length p.slots = length-items_of p.validity p.slots covered in
    let items = ap (λ n. replicate n (slice_index_or (column_of_primitive p).items 0 (Some (pos 0)))) (sym long) ∙ copies (column_of_primitive p).items (Some (pos 0)) h in
    ap (λ (xs : List (Option ℤ)). record { dtype = (column_of_primitive p).dtype; items = xs }) items

repeated_parts : (p : PrimitiveParts) (scalar : ScalarParts) (n : ℕ) (k : ConstantParts) → scalar ≡ (constant_of p).scalar → n ≡ length p.slots → ◌≡◌ {A = Result ConstantParts FastLanesError} (Ok k) (new_constant scalar n) → k ≡ constant_of p
repeated_parts p scalar n k e f is =
    let there : ◌≡◌ {A = Result ConstantParts FastLanesError} (Ok k) (new_constant (constant_of p).scalar (length p.slots)) = is ∙ (ap (λ (s : ScalarParts). new_constant s n) e ∙ ap (new_constant (constant_of p).scalar) f) in
    ok_is k (constant_of p) there

-- the constant array of items that are equal is what repetition answers
pub repeat_is : (p : PrimitiveParts) (scalar : ScalarParts) (n : ℕ) (k : ConstantParts) (t : Tree) (equal : Bool) → equal ≡ are_constant (column_of_primitive p).items → equal ≡ true → scalar ≡ (constant_of p).scalar → n ≡ length p.slots
    → ◌≡◌ {A = Result ConstantParts FastLanesError} (Ok k) (new_constant scalar n) → t ≡ Constant k → ◌≡◌ {A = Result Tree FastLanesError} (Ok t) (repeated p)
repeat_is p scalar n k t equal is so e f made own =
    let all : are_constant (column_of_primitive p).items ≡ true = sym is ∙ so in
    let parts : t ≡ Constant (constant_of p) = own ∙ ap (λ (c : ConstantParts). Constant c) (repeated_parts p scalar n k e f made) in
    rw all (ap (λ (s : Tree). Ok s) parts)

-- the constant array of items that are equal
pub repeat_made : (p : PrimitiveParts) (scalar : ScalarParts) (n : ℕ) (k : ConstantParts) (t : Tree) (equal : Bool) → IsTrue (covers p.validity (length p.slots)) → equal ≡ are_constant (column_of_primitive p).items → equal ≡ true → scalar ≡ (constant_of p).scalar → n ≡ length p.slots
    → ◌≡◌ {A = Result ConstantParts FastLanesError} (Ok k) (new_constant scalar n) → t ≡ Constant k → Makes (constant_refusal p) (λ s. s ≡ Constant (constant_of p)) (column_of_primitive p) (Ok t)
repeat_made p scalar n k t equal covered is so e f made own =
    let all : are_constant (column_of_primitive p).items ≡ true = sym is ∙ so in
    let parts : t ≡ Constant (constant_of p) = own ∙ ap (λ (c : ConstantParts). Constant c) (repeated_parts p scalar n k e f made) in
    record {
      refused = rw all tt;
      form = parts;
      stands_for = ap column parts ∙ constant_column p covered all;
    }

-- ---- the references of chunks differ
and_false : (b : Bool) → (b && false) ≡ false
and_false true = refl
and_false false = refl

same_integers : (z : ℤ) (zs : List ℤ) → list_all (same_item (Some z)) (map (λ x. Some x) zs) ≡ list_all (int_eq z) zs
same_integers z [] = refl
same_integers z (x ∷ xs) = ap (λ b. int_eq z x && b) (same_integers z xs)

differ : (zs : List ℤ) → common_reference zs ≡ None → are_constant (map (λ x. Some x) zs) ≡ false
differ [] e = cc
differ (z ∷ zs) e = elim (cases_Bool (list_all (int_eq z) zs)) [
  | inl same ↦ let one : common_reference (z ∷ zs) ≡ Some z = rw same refl in cc
  | inr other ↦ rw (same_integers z zs, other, and_false (int_eq z z)) refl
]

common_differ : (p : PrimitiveParts) (references : List ℤ) (one : Option ℤ) (child others : PrimitiveParts) → common_reference references ≡ one → less_common p references one ≡ ByChunk child others → are_constant (column_of_primitive others).items ≡ false
common_differ p references None child others e is =
    let same : non_nullable p.ptype references ≡ others = cc in
    subst (λ (o : PrimitiveParts). are_constant (column_of_primitive o).items ≡ false) same (differ references e)
common_differ p references (Some z) child others e is = cc

chosen_differ : (order : ItemOrder) (p : PrimitiveParts) (all : Bool) (child others : PrimitiveParts) → (if all then Nulls (null_constant p.ptype (length p.slots)) (reference_scalar p.ptype (pos 0)) else less_chunk_leasts order p) ≡ ByChunk child others → are_constant (column_of_primitive others).items ≡ false
chosen_differ order p true child others is = cc
chosen_differ order p false child others is = common_differ p (chunk_references (reading order p.ptype) (items_of_primitive p)) (common_reference (chunk_references (reading order p.ptype) (items_of_primitive p))) child others refl is

pub references_differ : (order : ItemOrder) (p child others : PrimitiveParts) → encode_chunked_by order p ≡ ByChunk child others → are_constant (column_of_primitive others).items ≡ false
references_differ order p child others is = chosen_differ order p (nat_lt 0 (length p.slots) && list_all is_none (items_of_primitive p)) child others is

-- an array of items that differ is no constant one
pub no_constant : (t : Tree) (c : Column) → column t ≡ c → are_constant c.items ≡ false → constant_in t ≡ None
no_constant (Constant k) c is h =
    let same : are_constant (replicate k.len k.scalar.value) ≡ are_constant c.items = ap (λ (d : Column). are_constant d.items) is in
    let all = constant_is_constant k.scalar.value k.len in
    cc
no_constant (Primitive p) c is h = refl
no_constant (tree.Bool b) c is h = refl
no_constant (BitPackedGlobal parts width) c is h = refl
no_constant (BitPackedBlocked parts boundaries) c is h = refl
no_constant (FoRGlobal encoded reference) c is h = refl
no_constant (FoRChunked encoded references offset) c is h = refl
no_constant (Delta bases deltas parts) c is h = refl
no_constant (RLE values indices offsets window) c is h = refl
