-- Boundaries: where the blocks lie between them, and those of a part of the blocks.
use Rattle.std.proofs.Common.{◌≡◌, ◌==◌, ◌+◌, ◌*◌, ◌-◌, ◌/◌, ◌%◌, ◌<◌, ◌≤◌, ◌&&◌, ℕ, zero, suc, Bool, true, List, [], ◌∷◌, length, map, get_or, nat_le, refl, ap, ◌∙◌, arith}
use Rattle.std.specs.Prelude.{unsigned_abs, unwrap_or, pos}
use Rattle.std.proofs.lemmas.Bool.{eqb-true, leb-true, le-leb, eq-eqb}
use Rattle.std.proofs.lemmas.List.{length-map}
use Rattle.fl_types.specs.Bits.{between}
use Rattle.fl_column.specs.Columns.{Column, integers_in, numbers_of}
use Rattle.fl_column.specs.Operations.{slice_of}
use Rattle.fl_column.specs.Queries.{each_next}
use Rattle.fl_column.proofs.ListLaws.{and_first, and_second}
use Rattle.fl_column.proofs.ItemLaws.{length-between}
use Rattle.fl_column.proofs.QueryLaws.{next_holds}
use Rattle.fl_patches.proofs.Slices.{get_or-between, map-between}
use Rattle.fl_bitpacking.specs.Blocks.{are_blocks, boundary_blocks, is_block}
use Rattle.fl_bitpacking.proofs.PackedSlices.{AreLaterBlocks}

-- what holds of each two neighbours
pub next_at : {A : Type 0} (test : A → A → Bool) (xs : List A) (i : ℕ) (d : A) → each_next test xs ≡ true → i + 1 < length xs → test (get_or xs i d) (get_or xs (i + 1) d) ≡ true
next_at test [] i d h k = absurd (omega arith)
next_at test (x ∷ []) i d h k = absurd (omega arith)
next_at test (x ∷ y ∷ rest) zero d h k = and_first (test x y) (each_next test (y ∷ rest)) h
next_at test (x ∷ y ∷ rest) (suc i) d h k = let step : suc i + 1 ≡ suc (i + 1) = omega arith in rw step (next_at test (y ∷ rest) i d (and_second (test x y) (each_next test (y ∷ rest)) h) (omega arith))

-- two neighbouring boundaries of a block
pub record AreEnds (bits size first start end : ℕ) : Type 0 where
  pub low : first ≤ start
  pub order : start ≤ end
  pub room : end - first ≤ size
  pub from : (start - first) % 128 ≡ 0
  pub whole : (end - start) % 128 ≡ 0
  pub narrow : (end - start) / 128 ≤ bits

pub ends : (bits size first start end : ℕ) → is_block bits size first start end ≡ true → AreEnds bits size first start end
ends bits size first start end h =
    let a = nat_le first start in
    let b = nat_le start end in
    let d = nat_le (end - first) size in
    let e = (start - first) % 128 == 0 in
    let f = (end - start) % 128 == 0 in
    let g = nat_le ((end - start) / 128) bits in
    let h1 = and_second a (b && (d && (e && (f && g)))) h in
    let h2 = and_second b (d && (e && (f && g))) h1 in
    let h3 = and_second d (e && (f && g)) h2 in
    let h4 = and_second e (f && g) h3 in
    record {
      low = leb-true first start (and_first a (b && (d && (e && (f && g)))) h);
      order = leb-true start end (and_first b (d && (e && (f && g))) h1);
      room = leb-true (end - first) size (and_first d (e && (f && g)) h2);
      from = eqb-true ((start - first) % 128) 0 (and_first e (f && g) h3);
      whole = eqb-true ((end - start) % 128) 0 (and_first f g h4);
      narrow = leb-true ((end - start) / 128) bits (and_second f g h4);
    }

pub is_ends : (bits size first start end : ℕ) → AreEnds bits size first start end → is_block bits size first start end ≡ true
is_ends bits size first start end s =
    rw (le-leb first start s.low, le-leb start end s.order, le-leb (end - first) size s.room, eq-eqb ((end - start) % 128) 0 s.whole, eq-eqb ((start - first) % 128) 0 s.from, le-leb ((end - start) / 128) bits s.narrow) refl

pub ends_at : (bits size : ℕ) (bs : List ℕ) (j : ℕ) → are_blocks bits size bs ≡ true → j + 1 < length bs → AreEnds bits size (get_or bs 0 0) (get_or bs j 0) (get_or bs (j + 1) 0)
ends_at bits size bs j h k = ends bits size (get_or bs 0 0) (get_or bs j 0) (get_or bs (j + 1) 0) (next_at (is_block bits size (get_or bs 0 0)) bs j 0 h k)

-- boundaries don't fall
pub rising : (bits size : ℕ) (bs : List ℕ) (i n : ℕ) → are_blocks bits size bs ≡ true → i + n < length bs → get_or bs i 0 ≤ get_or bs (i + n) 0
rising bits size bs i zero h k = let same : i + 0 ≡ i = omega arith in rw same (omega arith)
rising bits size bs i (suc n) h k =
    let step : i + suc n ≡ i + n + 1 = omega arith in
    let here = ends_at bits size bs (i + n) h (omega arith) in
    let low = here.order in
    let before = rising bits size bs i n h (omega arith) in
    rw step (omega arith)

pub above_first : (bits size : ℕ) (bs : List ℕ) (j : ℕ) → are_blocks bits size bs ≡ true → j < length bs → get_or bs 0 0 ≤ get_or bs j 0
above_first bits size bs j h k = let up = rising bits size bs 0 j h (omega arith) in let same : 0 + j ≡ j = omega arith in rw same at up

pub length-numbers_of : (c : Column) → length (numbers_of c) ≡ length c.items
length-numbers_of c = length-map (integers_in c) unsigned_abs ∙ length-map c.items (λ item. unwrap_or item (pos 0))

-- the numbers of a part
pub numbers_of-slice : (c : Column) (start end : ℕ) → numbers_of (slice_of start end c) ≡ between start end (numbers_of c)
numbers_of-slice c start end = ap (map unsigned_abs) (map-between (λ item. unwrap_or item (pos 0)) c.items start end) ∙ map-between unsigned_abs (integers_in c) start end

apart_by_blocks : (x y z : ℕ) → z ≤ y → y ≤ x → (x - z) % 128 ≡ 0 → (y - z) % 128 ≡ 0 → (x - y) % 128 ≡ 0
apart_by_blocks x y z h k e f = omega arith

-- the boundaries of the blocks from one to another are boundaries of blocks in their bytes
pub part_of_blocks : (bits size : ℕ) (bs : List ℕ) (first last : ℕ) → are_blocks bits size bs ≡ true → first ≤ last → last < length bs
    → are_blocks bits (get_or bs last 0 - get_or bs first 0) (between first (last + 1) bs) ≡ true
part_of_blocks bits size bs first last h o k =
    let len = length-between bs first (last + 1) (omega arith) (omega arith) in
    let zero_at : get_or (between first (last + 1) bs) 0 0 ≡ get_or bs first 0 = get_or-between bs first (last + 1) 0 0 (omega arith) ∙ ap (λ n. get_or bs n 0) (omega arith) in
    next_holds (is_block bits (get_or bs last 0 - get_or bs first 0) (get_or (between first (last + 1) bs) 0 0)) (between first (last + 1) bs) 0 (λ i l.
    let here = ends_at bits size bs (first + i) h (omega arith) in
    let e0 : get_or (between first (last + 1) bs) i 0 ≡ get_or bs (first + i) 0 = get_or-between bs first (last + 1) i 0 (omega arith) in
    let next : first + (i + 1) ≡ first + i + 1 = omega arith in
    let e1 : get_or (between first (last + 1) bs) (i + 1) 0 ≡ get_or bs (first + i + 1) 0 = get_or-between bs first (last + 1) (i + 1) 0 (omega arith) ∙ ap (λ n. get_or bs n 0) next in
    let up = rising bits size bs first i h (omega arith) in
    let rest : first + i + 1 + (last - (first + i + 1)) ≡ last = omega arith in
    let to_last = rising bits size bs (first + i + 1) (last - (first + i + 1)) h (omega arith) in
    let to : get_or bs (first + i + 1) 0 ≤ get_or bs last 0 = rw rest at to_last in
    let at_first = above_first bits size bs first h (omega arith) in
    let f0 = here.from in
    let own = ends_at bits size bs first h (omega arith) in
    rw (zero_at, e0, e1) (is_ends bits (get_or bs last 0 - get_or bs first 0) (get_or bs first 0) (get_or bs (first + i) 0) (get_or bs (first + i + 1) 0) (record {
      low = up;
      order = here.order;
      room = omega arith;
      from = apart_by_blocks (get_or bs (first + i) 0) (get_or bs first 0) (get_or bs 0 0) at_first up f0 own.from;
      whole = here.whole;
      narrow = here.narrow;
    })))

-- ---- where blocks lie between boundaries
-- a block lies in the bytes
pub record LiesIn (bits size : ℕ) (bs : List ℕ) (j : ℕ) : Type 0 where
  pub room : (boundary_blocks bs).start j + 128 * (boundary_blocks bs).width j ≤ size
  pub narrow : (boundary_blocks bs).width j ≤ bits

-- no boundary is further from the first one than there are bytes
pub within_bytes : (bits size : ℕ) (bs : List ℕ) (j : ℕ) → are_blocks bits size bs ≡ true → j < length bs → get_or bs j 0 - get_or bs 0 0 ≤ size
within_bytes bits size bs zero h k = omega arith
within_bytes bits size bs (suc j) h k =
    let here = ends_at bits size bs j h (omega arith) in
    let room = here.room in
    let same : suc j ≡ j + 1 = omega arith in
    rw same room

-- the blocks from one to another lie as they did, counted from the first of them
pub later_boundary_blocks : (bits size : ℕ) (bs : List ℕ) (first last j : ℕ) → are_blocks bits size bs ≡ true → last < length bs → first + j < last → AreLaterBlocks (boundary_blocks bs) (boundary_blocks (between first (last + 1) bs)) first last j
later_boundary_blocks bits size bs first last j h k l =
    let zero_at : get_or (between first (last + 1) bs) 0 0 ≡ get_or bs first 0 = get_or-between bs first (last + 1) 0 0 (omega arith) ∙ ap (λ n. get_or bs n 0) (omega arith) in
    let e0 : get_or (between first (last + 1) bs) j 0 ≡ get_or bs (first + j) 0 = get_or-between bs first (last + 1) j 0 (omega arith) in
    let next : first + (j + 1) ≡ first + j + 1 = omega arith in
    let e1 : get_or (between first (last + 1) bs) (j + 1) 0 ≡ get_or bs (first + j + 1) 0 = get_or-between bs first (last + 1) (j + 1) 0 (omega arith) ∙ ap (λ n. get_or bs n 0) next in
    let here = ends_at bits size bs (first + j) h (omega arith) in
    let order_here = here.order in
    let up = rising bits size bs first j h (omega arith) in
    let rest : first + j + 1 + (last - (first + j + 1)) ≡ last = omega arith in
    let to_last = rising bits size bs (first + j + 1) (last - (first + j + 1)) h (omega arith) in
    let to : get_or bs (first + j + 1) 0 ≤ get_or bs last 0 = rw rest at to_last in
    let at_first = above_first bits size bs first h (omega arith) in
    record {
      start = rw (zero_at, e0) (omega arith);
      width = rw (e0, e1) refl;
      order = omega arith;
      within = omega arith;
    }
