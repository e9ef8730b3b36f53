-- Patches that are put into a column one by one.
use Rattle.std.proofs.Common.{◌≡◌, ◌≢◌, ℕ, ℤ, pos, ◌+◌, ◌<◌, true, List, length, get_or, set, nat_lt, nat_le, unsigned_abs, Option, Some, None, option_map, unwrap_or, refl, ap, sym, ◌∙◌, arith, inl, inr}
use Rattle.std.specs.Prelude.{if◌then◌else◌}
use Rattle.std.proofs.lemmas.Bool.{cases_eq, cases_lt, lt-ltb, le-ltb, and_parts, leb-true, ltb-true}
use Rattle.std.proofs.lemmas.List.{length-map}
use Rattle.fl_column.specs.Numbers.{numbers}
use Rattle.fl_patches.specs.PatchMaps.{PatchesParts, is_index_within, is_rising, rank_of}
use Rattle.fl_patches.proofs.Parts.{AreSound}
use Rattle.fl_column.proofs.ListLaws.{all_at}
use Rattle.fl_bitpacking.specs.Placed.{ArePlaced}
use Rattle.fl_patches.proofs.Rising.{cases_rank, rank_at, rank_found}
use Rattle.fl_bitpacking.specs.Blocks.{value_at}
use Rattle.fl_bitpacking.proofs.Natives.{value_at_set_same, value_at_set_other}

-- the value of a rank, if it is one of the first
abbrev pub found_below : List ℤ → ℕ → Option ℕ → Option ℤ
found_below slots k None = None
found_below slots k (Some rank) = if nat_lt rank k then Some (get_or slots rank (pos 0)) else None

pub none_found : (slots : List ℤ) (rank : Option ℕ) → found_below slots 0 rank ≡ None
none_found slots None = refl
none_found slots (Some rank) = rw (le-ltb rank 0 (omega arith)) refl

pub all_found : (slots : List ℤ) (xs : List ℕ) (index n : ℕ) → n ≡ length xs → found_below slots n (rank_of index xs) ≡ option_map (λ rank. get_or slots rank (pos 0)) (rank_of index xs)
all_found slots xs index n is = elim (cases_rank xs index) [
  | inl none ↦ rw none refl
  | inr some ↦ (let at = rank_at xs index some.0 some.1 in rw (some.1, lt-ltb some.0 n (rw is at.0)) refl)
]

pub skipped : (slots : List ℤ) (k : ℕ) (rank : Option ℕ) → rank ≢ Some k → found_below slots k rank ≡ found_below slots (k + 1) rank
skipped slots k None other = refl
skipped slots k (Some rank) other = elim (cases_lt rank k) [
  | inl below ↦ rw (lt-ltb rank k below, lt-ltb rank (k + 1) (omega arith)) refl
  | inr above ↦ elim (cases_eq rank k) [
    | inl same ↦ absurd (other (ap (λ n. Some n) same))
    | inr apart ↦ rw (le-ltb rank k above, le-ltb rank (k + 1) (omega arith)) refl
  ]
]

-- one more patch, whose value becomes an item by its place
pub patch_more : {X : Type 0} (value : X → ℤ) (item : ℕ → ℤ → ℤ) (items : List X) (was : ℕ → ℤ) (slots : List ℤ) (xs : List ℕ) (offset k at : ℕ) (x : X) → is_rising xs ≡ true → k < length xs → get_or xs k 0 ≡ offset + at → at < length items → value x ≡ item at (get_or slots k (pos 0))
    → ((i : ℕ) → i < length items → value_at value items i ≡ unwrap_or (option_map (item i) (found_below slots k (rank_of (offset + i) xs))) (was i))
    → (i : ℕ) → i < length items → value_at value (set items at x) i ≡ unwrap_or (option_map (item i) (found_below slots (k + 1) (rank_of (offset + i) xs))) (was i)
patch_more value item items was slots xs offset k at x rise inside is room read done i h =
    elim (cases_eq i at) [
      | inl same ↦
          let found = rank_found xs (offset + i) k rise inside (is ∙ ap (λ n. offset + n) (sym same)) in
          value_at_set_same value items at i x same room ∙ (read ∙ (ap (λ n. item n (get_or slots k (pos 0))) (sym same) ∙ sym (rw (found, lt-ltb k (k + 1) (omega arith)) refl)))
      | inr other ↦
          let apart : rank_of (offset + i) xs ≢ Some k = λ e. other (let here = rank_at xs (offset + i) k e in omega (arith, here.1)) in
          value_at_set_other value items at i x other ∙ (done i h ∙ ap (λ o. unwrap_or (option_map (item i) o) (was i)) (skipped slots k (rank_of (offset + i) xs) apart))
    ]

-- the parts of patches are placed
pub placed_of : (p : PatchesParts) (n : ℕ) → AreSound p → n ≡ length p.values.slots → ArePlaced (numbers p.indices) n p.offset p.array_len
placed_of p n s is =
    let xs = numbers p.indices in
    let len = length-map p.indices.slots unsigned_abs in
    let even = s.even in
    record {
      even = omega arith;
      rising = s.rising;
      within = λ k h.
          let ends = and_parts (nat_le p.offset (get_or xs k 0)) _ (all_at (is_index_within p.offset p.array_len) xs k 0 s.within h) in
          (leb-true p.offset (get_or xs k 0) ends.0, ltb-true (get_or xs k 0) (p.offset + p.array_len) ends.1);
    }
