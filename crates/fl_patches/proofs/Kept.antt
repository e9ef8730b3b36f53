-- Positions that a mask keeps.
use Rattle.std.proofs.Common.{◌≡◌, ℕ, ◌+◌, ◌<◌, ◌≤◌, Bool, true, false, List, [], ◌∷◌, ◌++◌, length, map, take, get_or, Some, refl, ap, sym, ◌∙◌, arith}
use Rattle.std.proofs.lemmas.List.{take_all}
use Rattle.std.proofs.lemmas.List.FromFn.{length-map-range_with_len, get_or-map-range_with_len}
use Rattle.fl_types.specs.Bits.{tabulate}
use Rattle.fl_types.specs.declared.mask.Mask.TheVariants.{AllTrue, AllFalse, Values}
use Rattle.fl_column.specs.Operations.{kept}
use Rattle.fl_column.proofs.ListLaws.{kept_no, kept_yes}
use Rattle.fl_column.proofs.SelectionLaws.{kept_all, kept_none}
use Rattle.fl_patches.specs.PatchMaps.{kept_positions, rank_of, ranks_at}

-- the kept positions below i
abbrev pub kept_to : List Bool → ℕ → ℕ → List ℕ
kept_to bits n i = kept (take i bits) (take i (tabulate (λ j. j) n))

pub length_positions : (n : ℕ) → length (tabulate (λ j. j) n) ≡ n
length_positions n = length-map-range_with_len (λ j. j) 0 n

pub kept_to_yes : (bits : List Bool) (n i : ℕ) → length bits ≡ n → i < n → get_or bits i false ≡ true → kept_to bits n (i + 1) ≡ kept_to bits n i ++ i ∷ []
kept_to_yes bits n i len h e =
    kept_yes bits (tabulate (λ j. j) n) i 0 (omega arith) (omega (arith, length_positions n)) e ∙ ap (λ j. kept_to bits n i ++ j ∷ []) (get_or-map-range_with_len (λ j. j) 0 n i i 0 h (omega arith))

pub kept_to_no : (bits : List Bool) (n i : ℕ) → length bits ≡ n → i < n → get_or bits i false ≡ false → kept_to bits n (i + 1) ≡ kept_to bits n i
kept_to_no bits n i len h e = kept_no bits (tabulate (λ j. j) n) i (omega arith) (omega (arith, length_positions n)) e

-- all of them
pub kept_to_end : (bits : List Bool) (i : ℕ) → length bits ≤ i → kept_to bits (length bits) i ≡ kept_positions (Values bits) (length bits)
kept_to_end bits i h =
    let all_bits : take i bits ≡ bits = take_all i bits h in
    let all_positions : take i (tabulate (λ j. j) (length bits)) ≡ tabulate (λ j. j) (length bits) = take_all i (tabulate (λ j. j) (length bits)) (omega (arith, length_positions (length bits))) in
    rw (all_bits, all_positions) refl

-- the positions of a mask that keeps all, and of one that keeps none
pub positions_all : (n : ℕ) → kept_positions (AllTrue n) n ≡ tabulate (λ i. i) n
positions_all n = kept_all n (tabulate (λ i. i) n) (sym (length_positions n))

pub positions_none : (n len : ℕ) → kept_positions (AllFalse n) len ≡ []
positions_none n len = kept_none n (tabulate (λ i. i) len)

-- the rank at one more position
pub ranks_more : (offset : ℕ) (indices positions : List ℕ) (i : ℕ) → ranks_at offset indices (map (λ j. Some j) (positions ++ i ∷ [])) ≡ ranks_at offset indices (map (λ j. Some j) positions) ++ rank_of (offset + i) indices ∷ []
ranks_more offset indices [] i = refl
ranks_more offset indices (position ∷ positions) i = ap (λ ranks. rank_of (offset + position) indices ∷ ranks) (ranks_more offset indices positions i)
