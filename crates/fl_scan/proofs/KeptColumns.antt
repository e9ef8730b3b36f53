-- The items that a mask keeps.
use Rattle.std.proofs.Common.{◌≡◌, ◌==◌, ◌&&◌, ℕ, ◌<◌, ◌≤◌, length, map, get_or, true, false, Some, Ok, Err, IsTrue, refl, ap, sym, ◌∙◌, arith}
use Rattle.std.specs.Prelude.{if◌then◌else◌}
use Rattle.std.proofs.Math.Path.{subst}
use Rattle.std.proofs.lemmas.List.{length-map}
use Rattle.fl_types.specs.declared.error.FastLanesError.TheVariants.{NotInteger}
use Rattle.fl_types.specs.declared.mask.Mask.{Mask}
use Rattle.fl_types.specs.declared.validity.Validity.{Validity}
use Rattle.fl_types.specs.Masks.{mask_bits, mask_len}
use Rattle.fl_types.specs.Types.{is_integer}
use Rattle.fl_types.specs.Validities.{covers, is_valid_at, items_of}
use Rattle.fl_column.specs.Columns.{Column, integers_in}
use Rattle.fl_column.specs.Operations.{filter_of}
use Rattle.fl_column.proofs.ItemLaws.{length-items_of}
use Rattle.fl_array.specs.Reads.{IsValidityOf, integer_column}
use Rattle.fl_scan.specs.Blocks.{Marks, marked_column, marked_items}
use Rattle.fl_scan.specs.Totals.{of_integers, of_kept, valid_column, valid_items}
use Rattle.fl_scan.proofs.BlockLaws.{length_integers}
use Rattle.fl_scan.proofs.FinalLaws.{few_valid}
use Rattle.fl_scan.proofs.MarkLaws.{kept_marked, kept_marks, marks_each, mask_long}
use Rattle.fl_scan.proofs.SourceLaws.{read_integers, read_is}

-- the marks of a mask, where the array is read
each_mark : (c : Column) (v marks : Validity) (m : Mask) → IsValidityOf v c → mask_len m ≡ length c.items → ((i : ℕ) → i < mask_len m → is_valid_at marks i ≡ (get_or (mask_bits m) i false && is_valid_at v i))
    → (i : ℕ) → i < length (mask_bits m) → is_valid_at marks i ≡ (get_or (mask_bits m) i false && is_valid_at v i)
each_mark c v marks m of long each i h = let size = mask_long m in each i (omega arith)

-- the marks of an array's items
pub marks_kept : (c : Column) (v marks : Validity) (m : Mask) → IsValidityOf v c → mask_len m ≡ length c.items → IsTrue (covers marks (mask_len m)) → ((i : ℕ) → i < mask_len m → is_valid_at marks i ≡ (get_or (mask_bits m) i false && is_valid_at v i)) → Marks marks c
marks_kept c v marks m of long covered each =
    let covers_all : IsTrue (covers marks (length c.items)) = subst (λ (n : ℕ). IsTrue (covers marks n)) long covered in
    kept_marks marks (mask_bits m) c covers_all (marks_each marks v (mask_bits m) c of (mask_long m ∙ long) (each_mark c v marks m of long each))

pub marks_read : (c d : Column) (v marks : Validity) (m : Mask) → integer_column c ≡ Ok d → IsValidityOf v c → mask_len m ≡ length c.items → IsTrue (covers marks (mask_len m)) → ((i : ℕ) → i < mask_len m → is_valid_at marks i ≡ (get_or (mask_bits m) i false && is_valid_at v i))
    → Marks marks d
marks_read c d v marks m e of long covered each = subst (λ (x : Column). Marks marks x) (read_is c d e) (marks_kept c v marks m of long covered each)

pub kept_read : (c d : Column) (v marks : Validity) (m : Mask) → integer_column c ≡ Ok d → IsValidityOf v c → mask_len m ≡ length c.items → IsTrue (covers marks (mask_len m)) → ((i : ℕ) → i < mask_len m → is_valid_at marks i ≡ (get_or (mask_bits m) i false && is_valid_at v i))
    → of_integers c (valid_column (filter_of m c)) ≡ Ok (marked_column marks d)
kept_read c d v marks m e of long covered each =
    let covers_all : IsTrue (covers marks (length c.items)) = subst (λ (n : ℕ). IsTrue (covers marks n)) long covered in
    let same : marked_items marks c ≡ valid_items (filter_of m c) = kept_marked marks (mask_bits m) c (mask_long m ∙ long) covers_all (marks_each marks v (mask_bits m) c of (mask_long m ∙ long) (each_mark c v marks m of long each)) in
    ap (λ b. if b then Ok (valid_column (filter_of m c)) else Err NotInteger) (read_integers c d e)
    ∙ (ap (λ zs. Ok (record { dtype = c.dtype; items = map (λ z. Some z) zs })) (sym same) ∙ ap (λ (x : Column). Ok (marked_column marks x)) (read_is c d e))

-- there are no more than items
pub marked_few : (marks : Validity) (c : Column) → Marks marks c → length (marked_column marks c).items ≤ length c.items
marked_few marks c of =
    let all = length_integers c in
    let covered : IsTrue (covers marks (length (integers_in c))) = subst (λ (n : ℕ). IsTrue (covers marks n)) (sym all) of.covered in
    let size = length-items_of marks (integers_in c) covered in
    let few = few_valid (items_of marks (integers_in c)) in
    let mapped = length-map (marked_items marks c) (λ z. Some z) in
    omega arith

-- an answer for the items that a mask keeps
pub kept_answer : {A : Type 0} (m : Mask) (c : Column) (answer : Column → A) → mask_len m ≡ length c.items → is_integer c.dtype ≡ true → of_kept m c answer ≡ Ok (answer (filter_of m c))
kept_answer m c answer long typed =
    let even : (mask_len m == length c.items) ≡ true = even_lengths (mask_len m) (length c.items) long in
    rw (even, typed) refl
  where
    even_lengths : (n k : ℕ) → n ≡ k → (n == k) ≡ true
    even_lengths n k e = grind arith
