-- The parts of a reader, one after the other.
use Rattle.std.proofs.Common.{◌≡◌, ℕ, zero, suc, ◌+◌, ◌-◌, ◌*◌, ◌/◌, ◌%◌, ◌<◌, ℤ, Bool, true, false, List, [], ◌∷◌, ◌++◌, Some, None, min, nat_lt, refl, ap, sym, ◌∙◌, arith}
use Rattle.std.specs.Prelude.{◌==◌, ◌&&◌, ◌||◌, unwrap_or, if◌then◌else◌}
use Rattle.std.proofs.lemmas.Bool.{eqb-true, eqb-false, ltb-true, ltb-false}
use Rattle.std.proofs.lemmas.List.{append-nil, append_assoc}
use Rattle.std.proofs.lemmas.List.FromFn.{map-range_with_len_more}
use Rattle.fl_types.specs.Bits.{tabulate}
use Rattle.fl_types.specs.declared.dtype.PType.{PType}
use Rattle.fl_types.proofs.BitLists.{same_tables}
use Rattle.fl_column.specs.Chunks.{chunk_count}
use Rattle.fl_bitpacking.specs.Blocks.{global_blocks, item_of_blocks}
use Rattle.fl_bitpacking.specs.Readers.{Reader, items_in_parts}
use Rattle.fl_bitpacking.specs.WholeBlocks.{WholeBlocks, after_next, block_items_at, next_items, rest_items}

-- so many items of a list from a place on
abbrev P : (ℕ → ℤ) → ℕ → ℕ → List ℤ
P item from count = tabulate (λ k. item (from + k)) count

table_append : (f : ℕ → ℤ) (m n : ℕ) → tabulate f (m + n) ≡ tabulate f m ++ tabulate (λ k. f (m + k)) n
table_append f m zero = let same : m + 0 ≡ m = omega arith in rw same (sym (append-nil (tabulate f m)))
table_append f m (suc n) =
    let same : m + suc n ≡ (m + n) + 1 = omega arith in
    let more : suc n ≡ n + 1 = omega arith in
    rw same (map-range_with_len_more f 0 (m + n) (m + n) (omega arith)
    ∙ (ap (λ xs. xs ++ f (m + n) ∷ []) (table_append f m n)
    ∙ (append_assoc (tabulate f m) (tabulate (λ k. f (m + k)) n) (f (m + n) ∷ [])
    ∙ ap (λ xs. tabulate f m ++ xs) (sym (ap (tabulate (λ k. f (m + k))) more ∙ map-range_with_len_more (λ k. f (m + k)) 0 n n (omega arith))))))

two : (item : ℕ → ℤ) (o a b s l : ℕ) → l ≡ a + b → s ≡ o + a → P item o a ++ P item s b ≡ P item o l
two item o a b s l long starts =
    let moved : tabulate (λ k. item (o + (a + k))) b ≡ P item s b = same_tables (λ k. item (o + (a + k))) (λ k. item (s + k)) b (λ k h. ap item (omega arith)) in
    rw long (sym (table_append (λ k. item (o + k)) a b ∙ ap (λ xs. P item o a ++ xs) moved))

three : (item : ℕ → ℤ) (o a b t s u l : ℕ) → l ≡ a + (b + t) → s ≡ o + a → u ≡ s + b → P item o a ++ (P item s b ++ P item u t) ≡ P item o l
three item o a b t s u l long starts next = ap (λ xs. P item o a ++ xs) (two item s b t u (b + t) refl next) ∙ two item o a (b + t) s l long starts

-- what the first block, whole blocks and the last block lend by these tests
lends : (ℕ → ℤ) → ℕ → ℕ → ℕ → ℕ → Bool → Bool → List ℤ
lends item o l e n hi ht =
    unwrap_or (if hi then Some (P item o (min l (1024 - o))) else None) []
    ++ (P item (1024 * (if hi then 1 else 0)) (1024 * (n - (if ht then 1 else 0) - (if hi then 1 else 0)))
    ++ unwrap_or (if ht then Some (P item (1024 * (e / 1024)) (e % 1024)) else None) [])

in_order : (item : ℕ → ℤ) (o l e n : ℕ) (cut one more rest : Bool) → o < 1024 → e ≡ o + l → n ≡ (e + 1023) / 1024
    → nat_lt 0 o ≡ cut → (n == 1) ≡ one → nat_lt 1 n ≡ more → nat_lt 0 (e % 1024) ≡ rest
    → lends item o l e n (cut || one) (more && rest) ≡ P item o l
unfolding lends
in_order item o l e n true one true true ho he hn hc h1 hm hr =
    let a = ltb-true 0 o hc in
    let b = ltb-true 1 n hm in
    let c = ltb-true 0 (e % 1024) hr in
    three item o (min l (1024 - o)) (1024 * (n - 1 - 1)) (e % 1024) 1024 (1024 * (e / 1024)) l (omega arith) (omega arith) (omega arith)
in_order item o l e n true one true false ho he hn hc h1 hm hr =
    let a = ltb-true 0 o hc in
    let b = ltb-true 1 n hm in
    let c = ltb-false 0 (e % 1024) hr in
    three item o (min l (1024 - o)) (1024 * (n - 0 - 1)) 0 1024 (1024 + 1024 * (n - 0 - 1)) l (omega arith) (omega arith) (omega arith)
in_order item o l e n true one false rest ho he hn hc h1 hm hr =
    let a = ltb-true 0 o hc in
    let b = ltb-false 1 n hm in
    let none : 1024 * (n - 0 - 1) ≡ 0 = omega arith in
    let all : min l (1024 - o) ≡ l = omega arith in
    rw (none, all) (append-nil (P item o l))
in_order item o l e n false true true rest ho he hn hc h1 hm hr = let a = eqb-true n 1 h1 in let b = ltb-true 1 n hm in absurd (omega arith)
in_order item o l e n false true false rest ho he hn hc h1 hm hr =
    let a = ltb-false 0 o hc in
    let b = eqb-true n 1 h1 in
    let none : 1024 * (n - 0 - 1) ≡ 0 = omega arith in
    let all : min l (1024 - o) ≡ l = omega arith in
    rw (none, all) (append-nil (P item o l))
in_order item o l e n false false true true ho he hn hc h1 hm hr =
    let a = ltb-false 0 o hc in
    let b = ltb-true 1 n hm in
    let c = ltb-true 0 (e % 1024) hr in
    three item o 0 (1024 * (n - 1 - 0)) (e % 1024) 0 (1024 * (e / 1024)) l (omega arith) (omega arith) (omega arith)
in_order item o l e n false false true false ho he hn hc h1 hm hr =
    let a = ltb-false 0 o hc in
    let b = ltb-true 1 n hm in
    let c = ltb-false 0 (e % 1024) hr in
    three item o 0 (1024 * (n - 0 - 0)) 0 0 (1024 * (n - 0 - 0)) l (omega arith) (omega arith) (omega arith)
in_order item o l e n false false false rest ho he hn hc h1 hm hr =
    let a = ltb-false 0 o hc in
    let b = ltb-false 1 n hm in
    let c = eqb-false n 1 h1 in
    three item o 0 (1024 * (n - 0 - 0)) 0 0 (1024 * (n - 0 - 0)) l (omega arith) (omega arith) (omega arith)

-- the parts lend the items of the column in order
pub parts_lend : (ptype : PType) (r : Reader) → r.offset < 1024 → items_in_parts ptype r ≡ block_items_at ptype r.bit_width r.packed r.offset r.len
unfolding lends
parts_lend ptype r h =
    let e = r.offset + r.len in
    in_order (item_of_blocks ptype (global_blocks r.bit_width) r.packed) r.offset r.len e (chunk_count e) (nat_lt 0 r.offset) (chunk_count e == 1) (nat_lt 1 (chunk_count e)) (nat_lt 0 (e % 1024)) h refl refl refl refl refl refl

by_test : (ptype : PType) (b : WholeBlocks) (more : Bool) → nat_lt b.next b.end ≡ more → rest_items ptype b ≡ unwrap_or (next_items ptype b) [] ++ rest_items ptype (after_next b)
by_test ptype b true h =
    let below = ltb-true b.next b.end h in
    rw h (sym (two (item_of_blocks ptype (global_blocks b.bit_width) b.packed) (1024 * b.next) 1024 (1024 * (b.end - (b.next + 1))) (1024 * (b.next + 1)) (1024 * (b.end - b.next)) (omega arith) (omega arith)))
by_test ptype b false h = rw h refl

-- whole blocks lend the next one, and then the rest
pub blocks_lend : (ptype : PType) (b : WholeBlocks) → rest_items ptype b ≡ unwrap_or (next_items ptype b) [] ++ rest_items ptype (after_next b)
blocks_lend ptype b = by_test ptype b (nat_lt b.next b.end) refl
