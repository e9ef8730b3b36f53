-- Items of packed arrays with references.
use Rattle.std.proofs.Common.{◌≡◌, ℕ, ℤ, ◌∙◌, ◌+◌, ◌+ℤ◌, ◌/◌, ◌≤◌, Bool, List, Option, Some, None, length, true, get_or, pos, unwrap_or, ap, refl, sym, arith}
use Rattle.std.proofs.lemmas.List.{get_or-map, length-map}
use Rattle.fl_types.specs.declared.dtype.PType.{PType}
use Rattle.fl_types.specs.declared.dtype.PType.TheVariants.{U8}
use Rattle.fl_types.specs.Integers.{wrap}
use Rattle.fl_types.specs.Types.{has_ptype, integer_type}
use Rattle.fl_types.specs.Values.{integer_of}
use Rattle.fl_column.specs.Columns.{Column, ptype_of_column}
use Rattle.fl_codec.specs.FoRColumns.{chunked_for, global_for, plus_reference}
use Rattle.fl_codec.proofs.FoRSlices.{length-chunked}
use Rattle.fl_bitpacking.proofs.Tables.{get_or-table}
use Rattle.fl_array.specs.BitPackedArrays.{tree_of_bitpacked}
use Rattle.fl_array.specs.BlockAnswers.{AreBlockAnswers}
use Rattle.fl_array.specs.PackedSums.{AreHeldReferences, column_of_sums, plus_held}
use Rattle.fl_array.specs.PrimitiveCows.{primitive_of_cow}
use Rattle.fl_array.specs.Trees.{column}
use Rattle.fl_array.specs.declared.reader.packed.HeldReferences.{HeldReferences}
use Rattle.fl_array.specs.declared.reader.packed.HeldReferences.TheVariants as held
use Rattle.fl_array.specs.declared.reader.packed.PackedSums.{PackedSums}
use Rattle.fl_array.proofs.BitPackedLaws.{bitpacked_dtype}
use Rattle.fl_array.proofs.ItemTypes.{bitpacked_typed}

len_plus : (references : HeldReferences) (offset : ℕ) (c : Column) → length (plus_held references offset c).items ≡ length c.items
len_plus held.None offset c = refl
len_plus (held.Global reference) offset c = length-map c.items (plus_reference (ptype_of_column c) (integer_of reference))
len_plus (held.PerBlock references) offset c = length-chunked (primitive_of_cow references).slots offset c

-- there is a sum for each packed item
pub sums_len : (p : PackedSums) → length (column_of_sums p).items ≡ length (column (tree_of_bitpacked p.array.now)).items
sums_len p = len_plus p.added p.array.now.parts.offset (column (tree_of_bitpacked p.array.now))

pub dtype_plus : (references : HeldReferences) (offset : ℕ) (c : Column) → (plus_held references offset c).dtype ≡ c.dtype
dtype_plus held.None offset c = refl
dtype_plus (held.Global reference) offset c = refl
dtype_plus (held.PerBlock references) offset c = refl

-- the sums have the type of the packed items
pub sums_typed : (p : PackedSums) (ptype : PType) → has_ptype ptype (column_of_sums p).dtype ≡ true → p.array.now.parts.ptype ≡ ptype
sums_typed p ptype h = bitpacked_typed p.array.now ptype (ap (has_ptype ptype) (sym (dtype_plus p.added p.array.now.parts.offset (column (tree_of_bitpacked p.array.now)))) ∙ h)

pub packed_type : (p : PackedSums) (ptype : PType) → has_ptype ptype (column_of_sums p).dtype ≡ true → ptype_of_column (column (tree_of_bitpacked p.array.now)) ≡ ptype
packed_type p ptype h = ap (λ d. unwrap_or (integer_type d) U8) (bitpacked_dtype p.array.now) ∙ sums_typed p ptype h

-- references of blocks are those of fewer
pub held_fewer : (ptype : PType) (n k : ℕ) (references : HeldReferences) → k ≤ n → AreHeldReferences ptype n references → AreHeldReferences ptype k references
held_fewer ptype n k held.None le are = are
held_fewer ptype n k (held.Global reference) le are = are
held_fewer ptype n k (held.PerBlock references) le are = (are.0, let enough = are.1 in omega arith)

-- ---- tests of sums
-- what is added to a reference
summand : (ptype : PType) (r : ℤ) (item : Option ℤ) (w : ℤ) → plus_reference ptype r item ≡ Some w → (z : ℤ) × (item ≡ Some z) × (wrap ptype (z +ℤ r) ≡ w)
summand ptype r None w h = cc
summand ptype r (Some z) w h = (z, refl, cc)

-- answers for items are answers for their sums with one reference
pub sums_answered : (test of : ℤ → Bool) (ptype own : PType) (r : ℤ) (bits : List ℕ) (j offset : ℕ) (c : Column) → own ≡ ptype → ptype_of_column c ≡ ptype → ((z : ℤ) → test z ≡ of (wrap own (z +ℤ r))) → AreBlockAnswers test bits j offset c → AreBlockAnswers of bits j offset (global_for r c)
sums_answered test of ptype own r bits j offset c same typed each answers = λ i w inside at e.
    let here = rw length-map at inside in
    let sum = summand (ptype_of_column c) r (get_or c.items i None) w (sym (get_or-map (plus_reference (ptype_of_column c) r) c.items i None None here) ∙ e) in
    answers i sum.0 here at sum.1 ∙ (each sum.0 ∙ (ap (λ t. of (wrap t (sum.0 +ℤ r))) (same ∙ sym typed) ∙ ap of sum.2))

-- or with those of their blocks
pub block_sums_answered : (test of : ℤ → Bool) (ptype own : PType) (r : ℤ) (references : List ℤ) (bits : List ℕ) (j offset : ℕ) (c : Column) → own ≡ ptype → ptype_of_column c ≡ ptype → r ≡ get_or references j (pos 0) → ((z : ℤ) → test z ≡ of (wrap own (z +ℤ r))) → AreBlockAnswers test bits j offset c
    → AreBlockAnswers of bits j offset (chunked_for references offset c)
block_sums_answered test of ptype own r references bits j offset c same typed is each answers = λ i w inside at e.
    let item = λ (k : ℕ). plus_reference (ptype_of_column c) (get_or references ((offset + k) / 1024) (pos 0)) (get_or c.items k None) in
    let long = length-chunked references offset c in
    let here = rw long at inside in
    let sum = summand (ptype_of_column c) (get_or references ((offset + i) / 1024) (pos 0)) (get_or c.items i None) w (sym (get_or-table item (length c.items) i None here) ∙ e) in
    let reference : r ≡ get_or references ((offset + i) / 1024) (pos 0) = is ∙ ap (λ k. get_or references k (pos 0)) (sym at) in
    answers i sum.0 here at sum.1 ∙ (each sum.0 ∙ (ap (λ t. of (wrap t (sum.0 +ℤ r))) (same ∙ sym typed) ∙ (ap (λ q. of (wrap (ptype_of_column c) (sum.0 +ℤ q))) reference ∙ ap of sum.2)))
