-- Predicates that answer alike, and counts of the blocks that they leave undecided.
use Rattle.std.proofs.Common.{◌≡◌, ℕ, ℤ, pos, zero, suc, ◌^◌, ◌≤◌, ◌+◌, List, [], ◌∷◌, Bool, true, false, cond, eqb, not, map, Option, Some, None, option_map, refl, ap, ◌∙◌, inl, inr, arith}
use Rattle.std.specs.Prelude.{◌||◌, nat_lt}
use Rattle.std.specs.Prelude.{◌&&◌}
use Rattle.std.specs.Bool.{beq}
use Rattle.std.specs.List.{list_all, range_with_len}
use Rattle.std.proofs.lemmas.Bool.{cases_Bool}
use Rattle.std.proofs.lemmas.List.FromFn.{length-map-range_with_len}
use Rattle.std.proofs.lemmas.List.Sums.{count_by-le-length}
use Rattle.fl_types.specs.declared.dtype.PType.{PType}
use Rattle.fl_types.specs.Bits.{tabulate, true_count}
use Rattle.fl_types.specs.Integers.{bits_of_type}
use Rattle.fl_types.specs.Values.{bool_number}
use Rattle.fl_types.proofs.BitLists.{same_tables}
use Rattle.fl_bitpacking.specs.Blocks.{Blocks, global_blocks}
use Rattle.fl_bitpacking.specs.Columns.{BitPackedParts, block_count}
use Rattle.fl_bitpacking.specs.Decided.{is_decided, undecided_below, undecided_blocks, undecided_by_block, undecided_of_one_width}
use Rattle.fl_bitpacking.proofs.ComparedLaws.{undecided_more, undecided_none}

items_alike : (f g : ℤ → Bool) → ((z : ℤ) → f z ≡ g z) → (xs : List (Option ℤ)) → map (option_map (λ z. bool_number (f z))) xs ≡ map (option_map (λ z. bool_number (g z))) xs
items_alike f g same [] = refl
items_alike f g same (None ∷ xs) = ap (λ ys. None ∷ ys) (items_alike f g same xs)
items_alike f g same (Some z ∷ xs) = rw (same z) (ap (λ ys. Some (bool_number (g z)) ∷ ys) (items_alike f g same xs))

all_alike : (p q : ℕ → Bool) → ((x : ℕ) → p x ≡ q x) → (xs : List ℕ) → list_all p xs ≡ list_all q xs
all_alike p q same [] = refl
all_alike p q same (x ∷ xs) = rw (same x) (ap (λ b. q x && b) (all_alike p q same xs))

pub decided_alike : (t : PType) (width : ℕ) (f g : ℤ → Bool) → ((z : ℤ) → f z ≡ g z) → is_decided t width f ≡ is_decided t width g
unfolding is_decided
decided_alike t width f g same = ap (λ b. nat_lt width (bits_of_type t) && b) (all_alike (λ x. beq (f (pos x)) (f (pos 0))) (λ x. beq (g (pos x)) (g (pos 0))) (λ x. rw (same (pos x), same (pos 0)) refl) (range_with_len 0 (2 ^ width)))

pub undecided_alike : (t : PType) (blocks : Blocks) (f g : ℤ → Bool) (n : ℕ) → ((z : ℤ) → f z ≡ g z) → undecided_below t blocks (λ j. f) n ≡ undecided_below t blocks (λ j. g) n
unfolding undecided_below
undecided_alike t blocks f g n same = ap true_count (same_tables (λ j. not (is_decided t (blocks.width j) f)) (λ j. not (is_decided t (blocks.width j) g)) n (λ j h. ap not (decided_alike t (blocks.width j) f g same)))

pub undecided_most : (t : PType) (blocks : Blocks) (f : ℕ → ℤ → Bool) (n : ℕ) → undecided_below t blocks f n ≤ n
unfolding undecided_below
undecided_most t blocks f n =
    let most = count_by-le-length (λ (bit : Bool). bit) (tabulate (λ j. not (is_decided t (blocks.width j) (f j))) n) in
    let size = length-map-range_with_len (λ j. not (is_decided t (blocks.width j) (f j))) 0 n in
    omega arith

one_width_below : (t : PType) (width : ℕ) (f : ℤ → Bool) (n : ℕ) → undecided_below t (global_blocks width) (λ j. f) n ≡ cond (is_decided t width f) 0 n
one_width_below t width f zero = undecided_none t (global_blocks width) (λ j. f) ∙ none (is_decided t width f)
  where
    none : (b : Bool) → ◌≡◌ {A = ℕ} 0 (cond b 0 0)
    none true = refl
    none false = refl
one_width_below t width f (suc n) =
    let all : ℕ → ℤ → Bool = λ j. f in
    let step : undecided_below t (global_blocks width) all (n + 1) ≡ undecided_below t (global_blocks width) all n + cond (is_decided t width f) 0 1 = undecided_more t (global_blocks width) all n in
    let one : suc n ≡ n + 1 = omega arith in
    rw (one, step, one_width_below t width f n) (more (is_decided t width f) n)
  where
    more : (b : Bool) (n : ℕ) → cond b 0 n + cond b 0 1 ≡ cond b 0 (n + 1)
    more true n = refl
    more false n = refl

either : (empty decided : Bool) (n : ℕ) → cond empty 0 (cond decided 0 n) ≡ cond (empty || decided) 0 n
either true decided n = refl
either false true n = refl
either false false n = refl

-- blocks of one width are all decided, or none is
pub one_width : (parts : BitPackedParts) (width : ℕ) (f : ℤ → Bool) → undecided_blocks parts (global_blocks width) f ≡ undecided_of_one_width parts width f
one_width parts width f = ap (λ n. cond (eqb parts.len 0) 0 n) (one_width_below parts.ptype width f (block_count parts)) ∙ either (eqb parts.len 0) (is_decided parts.ptype width f) (block_count parts)

pub blocks_alike : (parts : BitPackedParts) (blocks : Blocks) (f g : ℤ → Bool) → ((z : ℤ) → f z ≡ g z) → undecided_blocks parts blocks f ≡ undecided_blocks parts blocks g
blocks_alike parts blocks f g same = ap (λ n. cond (eqb parts.len 0) 0 n) (undecided_alike parts.ptype blocks f g (block_count parts) same)

pub blocks_most : (parts : BitPackedParts) (blocks : Blocks) (f : ℕ → ℤ → Bool) → undecided_by_block parts blocks f ≤ block_count parts
blocks_most parts blocks f = elim (cases_Bool (eqb parts.len 0)) [
  | inl empty ↦ rw empty (omega arith)
  | inr some ↦ rw some (undecided_most parts.ptype blocks f (block_count parts))
]
