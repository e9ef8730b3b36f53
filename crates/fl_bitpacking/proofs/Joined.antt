-- Blocks behind each other.
use Rattle.std.proofs.Common.{◌≡◌, ℕ, zero, suc, ◌+◌, ◌-◌, ◌*◌, ◌/◌, ◌%◌, ◌<◌, ◌≤◌, ℤ, Bool, true, List, [], ◌∷◌, length, nat_le, get_or, map, take, drop, refl, ap, sym, ◌∙◌, subst, arith, inl, inr, add-one}
use Rattle.std.proofs.lemmas.Bool.{cases_eq, cases_lt}
use Rattle.fastlanes.specs.Layout.{Packed, word_at, IsWordWidth}
use Rattle.fl_types.specs.declared.dtype.PType.{PType}
use Rattle.fl_types.specs.Bits.{between}
use Rattle.fl_types.specs.Integers.{bits_of_type, lanes_of_type, read_as}
use Rattle.fastlanes.proofs.SingleItems.{single_none}
use Rattle.std.proofs.Math.Nat.{mul-le-mul_left}
use Rattle.std.specs.Prelude.{◌==◌}
use Rattle.std.proofs.lemmas.Bool.{and_parts, eqb-true, leb-true}
use Rattle.fl_column.specs.Queries.{each_next}
use Rattle.fl_column.proofs.ListLaws.{and_first, and_second}
use Rattle.fl_bitpacking.specs.Blocks.{AreJoined, AreWithin, global_blocks, boundary_blocks, are_blocks, is_block, Blocks, block_item, bytes_of_block, item_of_blocks, pattern_in}
use Rattle.fl_bitpacking.proofs.Natives.{packed_by_items}
use Rattle.fl_bitpacking.proofs.Slices.{chunk_pattern}

-- a block ends before a later one starts
pub joined_before : (blocks : Blocks) (count size k j : ℕ) → AreJoined count size blocks → k < j → j ≤ count → blocks.start k + 128 * blocks.width k ≤ blocks.start j
joined_before blocks count size k zero joined h n = absurd (omega arith)
joined_before blocks count size k (suc j) joined h n =
    let next : blocks.start (suc j) ≡ blocks.start j + 128 * blocks.width j = rw add-one at (joined.next j (omega arith)) in
    elim (cases_lt k j) [
      | inl before ↦ (let earlier = joined_before blocks count size k j joined before (omega arith) in omega arith)
      | inr last ↦ (let same : k ≡ j = omega arith in rw same (omega arith))
    ]

-- one more packed block
pub packed_more : {X : Type 0} (value : X → ℤ) (ptype : PType) (T lanes : ℕ) (blocks : Blocks) (items chunk : List X) (old new : List ℕ) (j start width count size : ℕ) → IsWordWidth T lanes → AreJoined count size blocks → j < count
    → start ≡ blocks.start j → width ≡ blocks.width j → chunk ≡ take 1024 (drop (1024 * j) items)
    → ((a b : ℕ) → b ≤ start → between a b new ≡ between a b old)
    → Packed T lanes width (pattern_in ptype (map value chunk)) (word_at T (between start (start + 128 * width) new))
    → ((k : ℕ) → k < j → Packed T lanes (blocks.width k) (λ q. pattern_in ptype (map value items) (1024 * k + q)) (word_at T (bytes_of_block blocks old k)))
    → (k : ℕ) → k < j + 1 → Packed T lanes (blocks.width k) (λ q. pattern_in ptype (map value items) (1024 * k + q)) (word_at T (bytes_of_block blocks new k))
packed_more value ptype T lanes blocks items chunk old new j start width count size shape joined h start_is width_is is before here done k below =
    elim (cases_eq k j) [
      | inl same ↦
          let whole : Packed T lanes width (λ q. pattern_in ptype (map value items) (1024 * j + q)) (word_at T (between start (start + 128 * width) new)) =
          packed_by_items T lanes width (pattern_in ptype (map value chunk)) (λ q. pattern_in ptype (map value items) (1024 * j + q)) (word_at T (between start (start + 128 * width) new)) shape
          (λ q m. sym (ap (λ xs. pattern_in ptype (map value xs) q) is ∙ chunk_pattern value ptype items (1024 * j) q m)) here in
          rw same (rw (start_is, width_is) at whole)
      | inr other ↦
          let earlier = joined_before blocks count size k j joined (omega arith) (omega arith) in
          let kept : bytes_of_block blocks new k ≡ bytes_of_block blocks old k = before (blocks.start k) (blocks.start k + 128 * blocks.width k) (omega arith) in
          subst (λ (bs : List ℕ). Packed T lanes (blocks.width k) (λ q. pattern_in ptype (map value items) (1024 * k + q)) (word_at T bs)) (sym kept) (done k (omega arith))
    ]

-- the item at a position of block j
pub item_of_block : (ptype : PType) (blocks : Blocks) (bytes : List ℕ) (j q p : ℕ) → q < 1024 → p ≡ 1024 * j + q → item_of_blocks ptype blocks bytes p ≡ block_item ptype (blocks.width j) (bytes_of_block blocks bytes j) q
unfolding item_of_blocks
item_of_block ptype blocks bytes j q p h is =
    let block_no : p / 1024 ≡ j = omega arith in
    let place_no : p % 1024 ≡ q = omega arith in
    rw (block_no, place_no) refl

-- an item of a block at width 0
pub item_of_none : (ptype : PType) (blocks : Blocks) (bytes : List ℕ) (p : ℕ) → blocks.width (p / 1024) ≡ 0 → read_as ptype 0 ≡ item_of_blocks ptype blocks bytes p
unfolding item_of_blocks block_item
item_of_none ptype blocks bytes p none = ap (read_as ptype) (single_none (bits_of_type ptype) (lanes_of_type ptype) (blocks.width (p / 1024)) (word_at (bits_of_type ptype) (bytes_of_block blocks bytes (p / 1024))) (p % 1024) 0 none refl)

-- an item that was read from a block's bytes
pub item_read : (ptype : PType) (blocks : Blocks) (packed block : List ℕ) (j start width q p : ℕ) (z : ℤ) → start ≡ blocks.start j → width ≡ blocks.width j → block ≡ between start (start + 128 * width) packed → q < 1024 → p ≡ 1024 * j + q
    → z ≡ block_item ptype width block q → z ≡ item_of_blocks ptype blocks packed p
item_read ptype blocks packed block j start width q p z start_is width_is bytes_is h is read =
    read ∙ (ap (λ (bs : List ℕ). block_item ptype width bs q) bytes_is
    ∙ (ap (λ (s : ℕ). block_item ptype width (between s (s + 128 * width) packed) q) start_is
    ∙ (ap (λ (w : ℕ). block_item ptype w (between (blocks.start j) (blocks.start j + 128 * w) packed) q) width_is ∙ sym (item_of_block ptype blocks packed j q p h is))))

-- ---- blocks of one width
pub global_joined : (width count : ℕ) → AreJoined count (128 * width * count) (global_blocks width)
global_joined width count = record {
  first = omega arith;
  next = λ j h. grind arith;
  last = refl;
}

pub global_within : (bits width count size : ℕ) → width ≤ bits → 128 * width * count ≤ size → AreWithin bits count size (global_blocks width)
global_within bits width count size narrow room = record {
  room = λ j h. (
      let more : 128 * width * (j + 1) ≤ 128 * width * count = mul-le-mul_left (128 * width) (omega arith) in
      let next : 128 * width * (j + 1) ≡ 128 * width * j + 128 * width = grind arith in
      omega arith);
  narrow = λ j h. narrow;
}

-- each of so many blocks ends within the bytes
pub block_within : (width count len j : ℕ) → j < count → 128 * width * count ≤ len → 128 * width * (j + 1) ≤ len
block_within width count len j h room =
    let before : 128 * width * (j + 1) ≤ 128 * width * count = mul-le-mul_left (128 * width) (omega arith) in
    omega arith

-- ---- blocks between boundaries
each_next_at : (test : ℕ → ℕ → Bool) (xs : List ℕ) (i : ℕ) → each_next test xs ≡ true → i + 1 < length xs → test (get_or xs i 0) (get_or xs (i + 1) 0) ≡ true
each_next_at test [] i e h = absurd (omega arith)
each_next_at test (x ∷ []) i e h = absurd (omega arith)
each_next_at test (x ∷ y ∷ xs) zero e h = and_first (test x y) (each_next test (y ∷ xs)) e
each_next_at test (x ∷ y ∷ xs) (suc i) e h = let next : suc i + 1 ≡ suc (i + 1) = omega arith in rw next (each_next_at test (y ∷ xs) i (and_second (test x y) (each_next test (y ∷ xs)) e) (omega arith))

-- two boundaries of a block
pub record IsBlock (bits size first start end : ℕ) : Type 0 where
  pub behind : first ≤ start
  pub order : start ≤ end
  pub room : end - first ≤ size
  pub begins : (start - first) % 128 ≡ 0
  pub ends : (end - start) % 128 ≡ 0
  pub narrow : (end - start) / 128 ≤ bits

block_tested : (bits size first start end : ℕ) → is_block bits size first start end ≡ true → IsBlock bits size first start end
block_tested bits size first start end e =
    let a = and_parts (nat_le first start) _ e in
    let b = and_parts (nat_le start end) _ a.1 in
    let d = and_parts (nat_le (end - first) size) _ b.1 in
    let f = and_parts ((start - first) % 128 == 0) _ d.1 in
    let h = and_parts ((end - start) % 128 == 0) _ f.1 in
    record {
      behind = leb-true first start a.0;
      order = leb-true start end b.0;
      room = leb-true (end - first) size d.0;
      begins = eqb-true ((start - first) % 128) 0 f.0;
      ends = eqb-true ((end - start) % 128) 0 h.0;
      narrow = leb-true ((end - start) / 128) bits h.1;
    }

pub boundary_block : (bits size j : ℕ) (boundaries : List ℕ) → are_blocks bits size boundaries ≡ true → j + 1 < length boundaries → IsBlock bits size (get_or boundaries 0 0) (get_or boundaries j 0) (get_or boundaries (j + 1) 0)
boundary_block bits size j boundaries e h = block_tested bits size (get_or boundaries 0 0) (get_or boundaries j 0) (get_or boundaries (j + 1) 0) (each_next_at (is_block bits size (get_or boundaries 0 0)) boundaries j e h)

-- blocks between boundaries stand behind each other
pub boundary_joined : (bits count size : ℕ) (boundaries : List ℕ) → length boundaries ≡ count + 1 → are_blocks bits size boundaries ≡ true → AreJoined count ((boundary_blocks boundaries).start count) (boundary_blocks boundaries)
boundary_joined bits count size boundaries long e = record {
  first = omega arith;
  next = λ j h. (
      let block = boundary_block bits size j boundaries e (omega arith) in
      let behind = block.behind in
      let order = block.order in
      let ends = block.ends in
      omega arith);
  last = refl;
}

pub boundary_within : (bits count size : ℕ) (boundaries : List ℕ) → length boundaries ≡ count + 1 → are_blocks bits size boundaries ≡ true → AreWithin bits count size (boundary_blocks boundaries)
boundary_within bits count size boundaries long e = record {
  room = λ j h. (
      let block = boundary_block bits size j boundaries e (omega arith) in
      let behind = block.behind in
      let order = block.order in
      let room = block.room in
      omega arith);
  narrow = λ j h. (boundary_block bits size j boundaries e (omega arith)).narrow;
}
