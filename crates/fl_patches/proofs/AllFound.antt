-- All patches, found one after the other: no position between two of them is looked at.
use Rattle.std.proofs.Common.{◌≡◌, ℕ, zero, suc, ◌+◌, ◌-◌, ◌<◌, true, List, [], ◌∷◌, ◌++◌, length, map, get_or, Option, Some, ap, ◌∙◌, sym, arith}
use Rattle.std.proofs.lemmas.List.{length-map}
use Rattle.std.proofs.lemmas.List.FromFn.{length-map-range_with_len, map-range_with_len_more}
use Rattle.fl_types.specs.Bits.{tabulate}
use Rattle.fl_patches.specs.PatchMaps.{AreFound, AreFoundTo, count_below, is_rising, rank_of, ranks_at, ranks_to}
use Rattle.fl_patches.proofs.Kept.{ranks_more}
use Rattle.fl_patches.proofs.Rising.{count_lt, count_next, count_split, count_up, rank_absent, rank_found, rising_at, rising_to}
use Rattle.fl_patches.proofs.Sparse.{found_none}

ranks_to_more : (offset : ℕ) (indices : List ℕ) (m : ℕ) → ranks_to offset indices (m + 1) ≡ ranks_to offset indices m ++ rank_of (offset + m) indices ∷ []
ranks_to_more offset indices m = ap (λ positions. ranks_at offset indices (map (λ i. Some i) positions)) (map-range_with_len_more (λ i. i) 0 m m (omega arith)) ∙ ranks_more offset indices (tabulate (λ i. i) m) m

length_ranks_to : (offset : ℕ) (indices : List ℕ) (m : ℕ) → length (ranks_to offset indices m) ≡ m
length_ranks_to offset indices m = length-map (map (λ i. Some i) (tabulate (λ i. i) m)) _ ∙ (length-map (tabulate (λ i. i) m) _ ∙ length-map-range_with_len (λ i. i) 0 m)

-- an index stands behind those below it
count_here : (xs : List ℕ) (k : ℕ) → is_rising xs ≡ true → k < length xs → count_below (get_or xs k 0) xs ≡ k
count_here xs k rise h = count_split xs (get_or xs k 0) k (omega arith) (λ i low. rising_at xs i k rise low h) (λ i high inside. rising_to xs k i rise high inside)

-- positions without an index add nothing
nothing_between : (offset : ℕ) (xs : List ℕ) (k m g : ℕ) (places ranks : List ℕ) → is_rising xs ≡ true → count_below (offset + m) xs ≡ k → count_below (offset + (m + g)) xs ≡ k → AreFound places ranks (ranks_to offset xs m) → AreFound places ranks (ranks_to offset xs (m + g))
nothing_between offset xs k m zero places ranks rise here there found = let same : m + 0 ≡ m = omega arith in rw same found
nothing_between offset xs k m (suc g) places ranks rise here there found =
    let next : offset + (m + 1) ≡ offset + m + 1 = omega arith in
    let low = count_up xs (offset + m) (offset + (m + 1)) rise (omega arith) in
    let high = count_up xs (offset + (m + 1)) (offset + (m + suc g)) rise (omega arith) in
    let stays : count_below (offset + (m + 1)) xs ≡ k = omega arith in
    let absent = rank_absent xs (offset + m) k rise (sym here) (λ h same. let one_more = count_next xs (offset + m) k rise h same in let kept = rw next at stays in omega arith) in
    let more : AreFound places ranks (ranks_to offset xs (m + 1)) = rw (ranks_to_more offset xs m, absent) (found_none places ranks (ranks_to offset xs m) found) in
    let end : m + 1 + g ≡ m + suc g = omega arith in
    let rest : count_below (offset + (m + 1 + g)) xs ≡ k = rw end there in
    rw (← end) (nothing_between offset xs k (m + 1) g places ranks rise stays rest more)

-- before the first index
pub none_found : (offset : ℕ) (xs : List ℕ) (places ranks : List ℕ) → is_rising xs ≡ true → count_below offset xs ≡ 0 → AreFound places ranks [] → AreFoundTo offset xs 0 places ranks
none_found offset xs places ranks rise first found m none =
    let start : offset + 0 ≡ offset = omega arith in
    let here : count_below (offset + 0) xs ≡ 0 = rw start first in
    let there : count_below (offset + (0 + m)) xs ≡ 0 = let same : 0 + m ≡ m = omega arith in rw same none in
    let end : 0 + m ≡ m = omega arith in
    rw (← end) (nothing_between offset xs 0 0 m places ranks rise here there found)

-- up to one more index
pub one_found : (offset : ℕ) (xs : List ℕ) (k place : ℕ) (places ranks more_places more_ranks : List ℕ) → is_rising xs ≡ true → k < length xs → get_or xs k 0 ≡ offset + place
    → ((items : List (Option ℕ)) → length items ≡ place → AreFound places ranks items → AreFound more_places more_ranks (items ++ Some k ∷ []))
    → AreFoundTo offset xs k places ranks → AreFoundTo offset xs (k + 1) more_places more_ranks
one_found offset xs k place places ranks more_places more_ranks rise inside is push found m count =
    let before : count_below (offset + place) xs ≡ k = rw (← is) (count_here xs k rise inside) in
    let pushed = push (ranks_to offset xs place) (length_ranks_to offset xs place) (found place before) in
    let there = rank_found xs (offset + place) k rise inside is in
    let next : offset + (place + 1) ≡ offset + place + 1 = omega arith in
    let here : AreFound more_places more_ranks (ranks_to offset xs (place + 1)) = rw (ranks_to_more offset xs place, there) pushed in
    let counted : count_below (offset + (place + 1)) xs ≡ k + 1 = rw next (count_next xs (offset + place) k rise inside is) in
    let low = count_lt xs (offset + m) k rise (omega arith) in
    let end : place + 1 + (m - (place + 1)) ≡ m = omega arith in
    let rest : count_below (offset + (place + 1 + (m - (place + 1)))) xs ≡ k + 1 = rw end count in
    rw (← end) (nothing_between offset xs (k + 1) (place + 1) (m - (place + 1)) more_places more_ranks rise counted rest here)
