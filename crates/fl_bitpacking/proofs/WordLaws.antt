-- Blocks of packed words behind each other.
use Rattle.std.proofs.Common.{◌≡◌, ℕ, ℤ, pos, ◌+◌, ◌*◌, ◌^◌, ◌<◌, ◌≤◌, List, [], ◌∷◌, ◌++◌, length, map, get_or, take, drop, ap, sym, ◌∙◌, subst, arith, inl, inr, append_assoc, length-append, length-take}
use Rattle.std.proofs.Math.Nat.{mul-le-mul_left}
use Rattle.std.proofs.lemmas.Bool.{cases_eq}
use Rattle.std.proofs.lemmas.List.{get_or-map, length-map, map-append, take_more, get_or_append_left, get_or-append-add}
use Rattle.std.proofs.lemmas.Simd.{map-map}
use Rattle.fastlanes.specs.Layout.{Packed, pattern_at, IsWordWidth}
use Rattle.fastlanes.proofs.Blocks.{packed_by_words}
use Rattle.fl_types.specs.declared.dtype.PType.{PType}
use Rattle.fl_types.specs.Integers.{bits_of_type, lanes_of_type, pattern_of, read_as}
use Rattle.fl_types.proofs.Patterns.{pattern_read}
use Rattle.fl_column.specs.Chunks.{chunk_count}
use Rattle.fl_bitpacking.specs.Blocks.{AreWords, pattern_in}
use Rattle.fl_bitpacking.proofs.Natives.{few_words, lanes_is, packed_by_items}
use Rattle.fl_bitpacking.proofs.Slices.{chunk_pattern}

-- the words at the front of a room for 1024 make a block
pub front_words : {W : Type 0} (T lanes width n : ℕ) (words front : List W) → IsWordWidth T lanes → width ≤ T → n ≡ lanes → length words ≡ 1024 → length front ≡ length (take (width * n) words) → length front ≡ width * lanes
front_words T lanes width n words front shape narrow named long is =
    let few = few_words T lanes width shape narrow in
    let size : width * n ≡ width * lanes = ap (λ (m : ℕ). width * m) named in
    let taken = length-take (width * n) words in
    omega arith

-- ---- words that are added
-- one more word, as an integer
pub word_pushed : {W X : Type 0} (value : X → ℤ) (read : W → ℤ) (before : List ℤ) (old new : List X) (x : X) (words : List W) (i : ℕ) (w : W) → new ≡ old ++ x ∷ [] → value x ≡ read w → i < length words → w ≡ get_or words i w
    → map value old ≡ before ++ map read (take i words) → map value new ≡ before ++ map read (take (i + 1) words)
word_pushed value read before old new x words i w is same h there done =
    let more : map read (take (i + 1) words) ≡ map read (take i words) ++ read w ∷ [] = ap (map read) (take_more words i w h) ∙ (map-append read (take i words) (get_or words i w ∷ []) ∙ ap (λ v. map read (take i words) ++ read v ∷ []) (sym there)) in
    ap (map value) is ∙ (map-append value old (x ∷ []) ∙ rw (done, same, more) (append_assoc before (map read (take i words)) (read w ∷ [])))

pub words_more : {W X : Type 0} (pattern : W → ℕ) (value : X → ℤ) (ptype : PType) (old new : List X) (words : List W) → map value new ≡ map value old ++ map (λ w. read_as ptype (pattern w)) words → length new ≡ length old + length words
words_more pattern value ptype old new words added =
    sym (length-map new value) ∙ (ap length added ∙ (length-append (map value old) (map (λ w. read_as ptype (pattern w)) words) ∙ (ap (λ (n : ℕ). n + length (map (λ w. read_as ptype (pattern w)) words)) (length-map old value) ∙ ap (λ (n : ℕ). length old + n) (length-map words (λ w. read_as ptype (pattern w))))))

-- the words before them stay
pub words_kept : {X : Type 0} (value : X → ℤ) (ptype : PType) (old new : List X) (added : List ℤ) → map value new ≡ map value old ++ added → (m : ℕ) → m < length old → pattern_in ptype (map value new) m ≡ pattern_in ptype (map value old) m
unfolding pattern_in
words_kept value ptype old new added is m h =
    ap (pattern_of ptype) (ap (λ zs. get_or zs m (pos 0)) is ∙ get_or_append_left (map value old) added (pos 0) m (rw length-map h))

-- their patterns are those of the words
pub words_added : {W X : Type 0} (pattern : W → ℕ) (value : X → ℤ) (ptype : PType) (old new : List X) (words : List W) (m : ℕ) → map value new ≡ map value old ++ map (λ w. read_as ptype (pattern w)) words → m < length words
    → pattern_at pattern words m < 2 ^ bits_of_type ptype → pattern_in ptype (map value new) (length old + m) ≡ pattern_at pattern words m
unfolding pattern_in pattern_at
words_added pattern value ptype old new words m is h small =
    let read = map (λ w. read_as ptype (pattern w)) words in
    let inside : m < length (map pattern words) = rw length-map h in
    let place : length (map value old) + m ≡ length old + m = ap (λ (n : ℕ). n + m) (length-map old value) in
    let right : get_or (map value old ++ read) (length old + m) (pos 0) ≡ get_or read m (pos 0) = ap (λ (n : ℕ). get_or (map value old ++ read) n (pos 0)) (sym place) ∙ get_or-append-add (map value old) read m (pos 0) in
    let word : get_or read m (pos 0) ≡ read_as ptype (get_or (map pattern words) m 0) = ap (λ zs. get_or zs m (pos 0)) (sym (map-map (read_as ptype) pattern words)) ∙ get_or-map (read_as ptype) (map pattern words) m 0 (pos 0) inside in
    ap (pattern_of ptype) (ap (λ zs. get_or zs (length old + m) (pos 0)) is ∙ (right ∙ word)) ∙ pattern_read ptype (get_or (map pattern words) m 0) small

-- the words of a block that is added are packed
pub block_added : {W X : Type 0} (pattern : W → ℕ) (value : X → ℤ) (ptype : PType) (T lanes width : ℕ) (item : ℕ → ℕ) (old new : List X) (words : List W) → IsWordWidth T lanes → T ≡ bits_of_type ptype → length words ≡ width * lanes
    → map value new ≡ map value old ++ map (λ w. read_as ptype (pattern w)) words → ((m : ℕ) → m < length words → pattern_at pattern words m < 2 ^ T)
    → Packed T lanes width item (pattern_at pattern words) → Packed T lanes width item (λ m. pattern_in ptype (map value new) (length old + m))
block_added pattern value ptype T lanes width item old new words shape bits long is small packed =
    packed_by_words T lanes width item (pattern_at pattern words) (λ m. pattern_in ptype (map value new) (length old + m)) shape
    (λ m h. words_added pattern value ptype old new words m is (rw long h) (rw (← bits) (small m (rw long h)))) packed

-- ---- blocks of words
-- one more packed block
pub words_packed_more : {X : Type 0} (value : X → ℤ) (ptype : PType) (T lanes width : ℕ) (items chunk old new : List X) (j : ℕ) → IsWordWidth T lanes → length old ≡ width * lanes * j → chunk ≡ take 1024 (drop (1024 * j) items)
    → ((m : ℕ) → m < length old → pattern_in ptype (map value new) m ≡ pattern_in ptype (map value old) m)
    → Packed T lanes width (pattern_in ptype (map value chunk)) (λ m. pattern_in ptype (map value new) (length old + m))
    → ((k : ℕ) → k < j → Packed T lanes width (λ q. pattern_in ptype (map value items) (1024 * k + q)) (λ m. pattern_in ptype (map value old) (width * lanes * k + m)))
    → (k : ℕ) → k < j + 1 → Packed T lanes width (λ q. pattern_in ptype (map value items) (1024 * k + q)) (λ m. pattern_in ptype (map value new) (width * lanes * k + m))
words_packed_more value ptype T lanes width items chunk old new j shape long is kept here done k below =
    elim (cases_eq k j) [
      | inl same ↦
          let whole : Packed T lanes width (λ q. pattern_in ptype (map value items) (1024 * j + q)) (λ m. pattern_in ptype (map value new) (length old + m)) =
          packed_by_items T lanes width (pattern_in ptype (map value chunk)) (λ q. pattern_in ptype (map value items) (1024 * j + q)) (λ m. pattern_in ptype (map value new) (length old + m)) shape
          (λ q m. sym (ap (λ xs. pattern_in ptype (map value xs) q) is ∙ chunk_pattern value ptype items (1024 * j) q m)) here in
          rw same (rw long at whole)
      | inr other ↦
          let earlier : width * lanes * (k + 1) ≤ width * lanes * j = mul-le-mul_left (width * lanes) (omega arith) in
          let next : width * lanes * (k + 1) ≡ width * lanes * k + width * lanes = grind arith in
          packed_by_words T lanes width (λ q. pattern_in ptype (map value items) (1024 * k + q)) (λ m. pattern_in ptype (map value old) (width * lanes * k + m)) (λ m. pattern_in ptype (map value new) (width * lanes * k + m)) shape
          (λ m h. kept (width * lanes * k + m) (omega arith)) (done k (omega arith))
    ]

-- the words of all blocks
pub words_made : {X : Type 0} (value : X → ℤ) (ptype : PType) (T lanes width : ℕ) (items words : List X) → IsWordWidth T lanes → T ≡ bits_of_type ptype → length words ≡ width * lanes * chunk_count (length items)
    → ((j : ℕ) → j < chunk_count (length items) → Packed T lanes width (λ q. pattern_in ptype (map value items) (1024 * j + q)) (λ m. pattern_in ptype (map value words) (width * lanes * j + m)))
    → AreWords ptype (map value items) width (map value words)
words_made value ptype T lanes width items words shape bits long each =
    let same : lanes ≡ lanes_of_type ptype = lanes_is ptype T lanes shape bits in
    let count : length (map value items) ≡ length items = length-map items value in
    record {
      size = length-map words value ∙ (long ∙ (ap (λ (n : ℕ). width * n * chunk_count (length items)) same ∙ ap (λ (n : ℕ). width * lanes_of_type ptype * chunk_count n) (sym count)));
      each = λ j h.
          subst (λ (t : ℕ). Packed t (lanes_of_type ptype) width (λ q. pattern_in ptype (map value items) (1024 * j + q)) (λ m. pattern_in ptype (map value words) (width * lanes_of_type ptype * j + m))) bits
          (subst (λ (n : ℕ). Packed T n width (λ q. pattern_in ptype (map value items) (1024 * j + q)) (λ m. pattern_in ptype (map value words) (width * n * j + m))) same (each j (rw count at h)));
    }
