-- Parts whose chunks begin with 0, and of which nothing is below it.
use Rattle.std.proofs.Common.{◌≡◌, ℕ, ℤ, pos, ◌+◌, ◌-◌, ◌*◌, ◌/◌, ◌%◌, ◌^◌, ◌<◌, true, List, [], ◌∷◌, length, map, drop, get_or, take, Option, Some, None, unwrap_or, IsTrue, refl, ap, sym, subst, ◌∙◌, arith, int_le, find, if◌then◌else◌}
use Rattle.std.specs.List.{list_all}
use Rattle.std.specs.Ordering.{int_eq}
use Rattle.std.proofs.lemmas.Bool.Decides.{Decides-int_eq}
use Rattle.std.proofs.lemmas.Int.{ints}
use Rattle.std.proofs.lemmas.List.{length-drop, length-map, length-take}
use Rattle.fl_types.specs.declared.dtype.PType.{PType}
use Rattle.fl_types.specs.declared.dtype.PType.TheVariants.{U8, U16, U32, U64, I8, I16, I32, I64}
use Rattle.fl_types.specs.Integers.{fits, is_unsigned, pattern_of}
use Rattle.fl_types.specs.Validities.{covers}
use Rattle.fl_types.proofs.Patterns.{read_pattern}
use Rattle.fl_column.specs.Columns.{PrimitiveParts}
use Rattle.fl_column.proofs.ItemLaws.{length-items_of}
use Rattle.fl_column.proofs.ListLaws.{all_at, all_from, all_part, and_first, and_second}
use Rattle.fl_codec.specs.Chunks.{chunk, chunks_of}
use Rattle.fl_codec.specs.Deltas.{delta_of}
use Rattle.fl_codec.specs.ForwardFill.{Carry, either, fill_forward, first_some, last_some}
use Rattle.fl_codec.specs.FoRColumns.{chunk_leasts, chunk_references, common_reference, least_by, reference_of_chunk, valid_items}
use Rattle.fl_codec.specs.declared.for_.ItemOrder.TheVariants.{Natural}
use Rattle.fl_codec.specs.Parts.{compress_deltas, items_of_primitive}
use Rattle.fl_codec.proofs.DeltaLeasts.{deltas_fit, length-deltas}
use Rattle.fl_codec.proofs.FoRLaws.{find-least}
use Rattle.fl_codec.proofs.ReferenceLaws.{last_more}
use Rattle.fl_codec.proofs.Tables.{get_or-between, get_or-table, length-table, map-between}
use Rattle.fl_statistics.proofs.DeltaBlocks.{first_row}
use Rattle.fl_compress.specs.Choices.{HasZeroLeasts}

-- integers as items that are there
abbrev there : List ℤ → List (Option ℤ)
there zs = map (λ z. Some z) zs

valid_there : (zs : List ℤ) → valid_items (there zs) ≡ zs
valid_there [] = refl
valid_there (z ∷ zs) = ap (λ ys. z ∷ ys) (valid_there zs)

least_zero : (zs : List ℤ) → 0 < length zs → get_or zs 0 (pos 0) ≡ pos 0 → list_all (int_le (pos 0)) zs ≡ true → least_by (λ z. z) (there zs) ≡ Some (pos 0)
least_zero zs some first all =
    ap (λ ys. find (λ z. list_all (λ x. int_le z x) ys) ys) (valid_there zs) ∙ find-least (Some (pos 0)) zs ((0, (some, first)), all)

-- chunks that begin with 0
pub record BeginWithZero (slots : List ℤ) (n : ℕ) : Type 0 where
  pub long : length slots ≡ 1024 * n
  pub some : 0 < n
  pub first : (k : ℕ) → k < n → get_or slots (1024 * k) (pos 0) ≡ pos 0
  pub all : list_all (int_le (pos 0)) slots ≡ true

chunk_least : (slots : List ℤ) (n k : ℕ) → BeginWithZero slots n → k < n → least_by (λ z. z) (chunk k (there slots)) ≡ Some (pos 0)
chunk_least slots n k so within =
    let part = chunk k slots in
    let size : 0 < length part = omega (arith, so.long, length-take (1024 * (k + 1) - 1024 * k) (drop (1024 * k) slots), length-drop (1024 * k) slots) in
    let none : 1024 * k + 0 ≡ 1024 * k = omega arith in
    let first : get_or part 0 (pos 0) ≡ pos 0 = get_or-between slots (1024 * k) (1024 * (k + 1)) 0 (pos 0) (omega arith) ∙ (ap (λ i. get_or slots i (pos 0)) none ∙ so.first k within) in
    ap (least_by (λ z. z)) (sym (map-between (λ z. Some z) slots (1024 * k) (1024 * (k + 1)))) ∙ least_zero part size first (all_part (int_le (pos 0)) slots (1024 * k) (1024 * (k + 1)) so.all)

common_zero : (zs : List ℤ) → 0 < length zs → list_all (int_eq (pos 0)) zs ≡ true → common_reference zs ≡ Some (pos 0)
common_zero [] some all = absurd (omega arith)
common_zero (z ∷ zs) some all =
    let same : pos 0 ≡ z = (Decides-int_eq (pos 0) z).0 (and_first (int_eq (pos 0) z) (list_all (int_eq (pos 0)) zs) all) in
    subst (λ y. (if list_all (int_eq y) zs then Some y else None) ≡ Some (pos 0)) same (ap (λ b. if b then Some (pos 0) else None) (and_second (int_eq (pos 0) z) (list_all (int_eq (pos 0)) zs) all))

-- the references are 0, and the least item is
pub zero_leasts : (slots : List ℤ) (n : ℕ) → BeginWithZero slots n → (least_by (λ z. z) (there slots) ≡ Some (pos 0)) × (common_reference (chunk_references (λ z. z) (there slots)) ≡ Some (pos 0))
zero_leasts slots n so =
    let items = there slots in
    let leasts = chunk_leasts (λ z. z) items in
    let size : length items ≡ 1024 * n = length-map slots (λ z. Some z) ∙ so.long in
    let many : chunks_of (length items) ≡ n = omega arith in
    let whole = chunks_of (length items) in
    let count : length leasts ≡ whole = length-table (λ k. least_by (λ z. z) (chunk k items)) whole in
    let none : 1024 * 0 ≡ 0 = omega arith in
    let first : get_or slots 0 (pos 0) ≡ pos 0 = ap (λ i. get_or slots i (pos 0)) (sym none) ∙ so.first 0 so.some in
    let each : (k : ℕ) → k < whole → reference_of_chunk leasts k ≡ pos 0 = λ k h.
    let entry : get_or leasts k None ≡ Some (pos 0) = get_or-table (λ j. least_by (λ z. z) (chunk j items)) whole k None h ∙ chunk_least slots n k so (omega arith) in
    ap (λ o. unwrap_or o (unwrap_or (first_some leasts) (pos 0))) (last_more leasts k (omega arith) ∙ ap (λ o. either o (last_some (take k leasts))) entry) in
    let references = chunk_references (λ z. z) items in
    let long : length references ≡ whole = length-table (reference_of_chunk leasts) whole in (
      least_zero slots (omega (arith, so.long, so.some)) first so.all,
      common_zero references (omega (arith, so.some)) (all_from (int_eq (pos 0)) references (pos 0) (λ i h. ap (int_eq (pos 0)) (get_or-table (reference_of_chunk leasts) whole i (pos 0) (omega arith) ∙ each i (omega arith)))),
    )

-- ---- deltas
natural_from_zero : (n : ℕ) → int_le (pos 0) (pos n) ≡ true
natural_from_zero n = grind (arith, ints)

from_zero : (t : PType) (z : ℤ) → is_unsigned t ≡ true → IsTrue (fits t z) → int_le (pos 0) z ≡ true
from_zero U8 z e fit = subst (λ y. int_le (pos 0) y ≡ true) (read_pattern U8 z fit) (natural_from_zero (pattern_of U8 z % 2 ^ 8))
from_zero U16 z e fit = subst (λ y. int_le (pos 0) y ≡ true) (read_pattern U16 z fit) (natural_from_zero (pattern_of U16 z % 2 ^ 16))
from_zero U32 z e fit = subst (λ y. int_le (pos 0) y ≡ true) (read_pattern U32 z fit) (natural_from_zero (pattern_of U32 z % 2 ^ 32))
from_zero U64 z e fit = subst (λ y. int_le (pos 0) y ≡ true) (read_pattern U64 z fit) (natural_from_zero (pattern_of U64 z % 2 ^ 64))
from_zero I8 z e fit = cc
from_zero I16 z e fit = cc
from_zero I32 z e fit = cc
from_zero I64 z e fit = cc

pub deltas_zero : (p : PrimitiveParts) → IsTrue (covers p.validity (length p.slots)) → 0 < length p.slots → is_unsigned p.ptype ≡ true → HasZeroLeasts Natural (compress_deltas p).1
deltas_zero p covered some unsigned =
    let slots = (compress_deltas p).1.slots in
    let many = length-items_of p.validity p.slots covered in
    let n = chunks_of (length (items_of_primitive p)) in
    let entry : ℕ → ℤ = λ k. delta_of p.ptype (fill_forward Carry (items_of_primitive p)) (k / 1024) (k % 1024) in
    zero_leasts slots n (record {
      long = length-deltas p;
      some = omega arith;
      first = λ k h.
          let start : 1024 * k % 1024 ≡ 0 = omega arith in
          get_or-table entry (1024 * n) (1024 * k) (pos 0) (omega arith) ∙ (ap (delta_of p.ptype (fill_forward Carry (items_of_primitive p)) (1024 * k / 1024)) start ∙ first_row p.ptype (fill_forward Carry (items_of_primitive p)) (1024 * k / 1024));
      all = all_from (int_le (pos 0)) slots (pos 0) (λ i h. from_zero p.ptype (get_or slots i (pos 0)) unsigned (all_at (fits p.ptype) slots i (pos 0) (deltas_fit p) h));
    })
