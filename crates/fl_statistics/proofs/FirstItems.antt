-- Items that are compared with the first, block by block.
use Rattle.std.proofs.Common.{◌≡◌, ℕ, ℤ, ◌+◌, ◌*◌, ◌<◌, Bool, true, false, List, ◌++◌, length, get_or, Option, None, refl, ap, sym, subst, ◌∙◌, arith}
use Rattle.std.specs.List.{list_all}
use Rattle.std.proofs.lemmas.Bool.{true≢false}
use Rattle.fl_types.specs.Bits.{between}
use Rattle.fl_column.specs.Queries.{are_constant, same_item}
use Rattle.fl_column.proofs.ListLaws.{all_at, all_part, and_true, list_all-append}
use Rattle.fl_column.proofs.QueryLaws.{constant_from_first}
use Rattle.fl_codec.specs.Chunks.{chunk}
use Rattle.fl_patches.proofs.Blocks.{take_between}
use Rattle.fl_statistics.proofs.Counts.{first_part}

-- one more block is equal to the first
pub equal_after : (items : List (Option ℤ)) (k : ℕ) (first : Option ℤ) → list_all (same_item first) (between 0 (1024 * k) items) ≡ true → list_all (same_item first) (chunk k items) ≡ true → list_all (same_item first) (between 0 (1024 * (k + 1)) items) ≡ true
equal_after items k first before here =
    let joined : between 0 (1024 * (k + 1)) items ≡ between 0 (1024 * k) items ++ chunk k items = first_part items (1024 * (k + 1)) ∙ (take_between items (1024 * k) (1024 * (k + 1)) (omega arith) ∙ ap (λ xs. xs ++ chunk k items) (sym (first_part items (1024 * k)))) in
    ap (list_all (same_item first)) joined ∙ (list_all-append (same_item first) (between 0 (1024 * k) items) (chunk k items) ∙ and_true (list_all (same_item first) (between 0 (1024 * k) items)) (list_all (same_item first) (chunk k items)) before here)

-- all are equal to the first
pub all_equal : (items : List (Option ℤ)) (first : Option ℤ) → (0 < length items → get_or items 0 None ≡ first) → list_all (same_item first) items ≡ true → are_constant items ≡ true
all_equal items first is all = constant_from_first items (λ i h. ap (λ x. same_item x (get_or items i None)) (is (omega arith)) ∙ all_at (same_item first) items i None all h)

-- a block is not
pub not_equal : (items : List (Option ℤ)) (k : ℕ) (first : Option ℤ) → get_or items 0 None ≡ first → 0 < length items → list_all (same_item first) (chunk k items) ≡ false → are_constant items ≡ false
not_equal items k first is some differs = by_answer (are_constant items) refl
  where
    by_answer : (b : Bool) → are_constant items ≡ b → are_constant items ≡ false
    by_answer false e = e
    by_answer true e =
        let all : list_all (same_item first) items ≡ true = subst (λ x. list_all (same_item x) items ≡ true) is (all_at (λ x. list_all (same_item x) items) items 0 None e some) in
        absurd (true≢false (sym (all_part (same_item first) items (1024 * k) (1024 * (k + 1)) all) ∙ differs))
