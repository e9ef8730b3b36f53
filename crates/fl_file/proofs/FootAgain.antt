-- What is written of a foot is read again.
use Rattle.std.proofs.Common.{◌≡◌, ℕ, zero, suc, ℤ, pos, negsuc, ◌+◌, ◌-◌, ◌*◌, ◌/◌, ◌%◌, ◌^◌, ◌≤◌, ◌<◌, ◌&&◌, Bool, true, false, eqb, nat_le, nat_lt, List, [], ◌∷◌, ◌++◌, length, take, drop, codes, Option, Some, None, Ok, Err, refl, sym, ap, ◌∙◌, append_assoc, length-append, arith}
use Rattle.std.specs.Prelude.{FitsSigned, IsTrue, flat_map, int_le}
use Rattle.std.specs.Int.{cast_signed, cast_unsigned, from_le_bytes, to_le_bytes, w64, w128}
use Rattle.std.specs.List.{AllByRecursion}
use Rattle.std.proofs.lemmas.Bool.{and_from, cond-true, eq-eqb, le-leb, le-ltb, lt-ltb}
use Rattle.std.proofs.lemmas.Int.{to_z-of_z}
use Rattle.std.proofs.lemmas.List.{drop-drop, take_at}
use Rattle.std.proofs.lemmas.List.Concat.{flat_map-cons}
use Rattle.std.proofs.lemmas.Nat.{div-add-mod', from_le_bytes-to_le_bytes_8, mod_below, shr_below}
use Rattle.fl_types.specs.declared.dtype.Nullability.{Nullability}
use Rattle.fl_types.specs.declared.dtype.Nullability.TheVariants.{NonNullable, Nullable}
use Rattle.fl_types.specs.declared.dtype.PType.{PType}
use Rattle.fl_types.specs.declared.dtype.PType.TheVariants.{U8, U16, U32, U64, I8, I16, I32, I64}
use Rattle.fl_types.specs.Bits.{between}
use Rattle.fl_types.specs.Integers.{fits}
use Rattle.fl_file.specs.declared.foot.ChunkEntry.{ChunkEntry}
use Rattle.fl_file.specs.declared.statistics.Extremes.{Extremes}
use Rattle.fl_file.specs.Crc32c.{crc32c_of}
use Rattle.fl_file.specs.Foot.{FootParts, bit_word, body_bytes, end_bytes, entry_bytes, foot_bytes, greatest_of, least_of, type_word, word_bytes}
use Rattle.fl_file.proofs.FootSteps.{body_made}
use Rattle.fl_file.specs.FootLaws.{EntryFits, ExtremesAreHeld, IsFootOf, extremes_fit}
use Rattle.fl_file.specs.FootReading.{body_of, entries_at, entry_at, entry_of, extremes_of, foot_len_of, len_at_end, foot_of, foot_of_body, foot_with_len, integer_of_words, lie_between, order_of_word, placed, statistics_of, then_with, type_of_word, word_at}

-- ---- words and integers
word_again : (n : ℕ) → n < 2 ^ 64 → from_le_bytes w64 (to_le_bytes w64 n) ≡ n
word_again n h = from_le_bytes-to_le_bytes_8 n h

bits_below : (z : ℤ) → FitsSigned w128 z → cast_unsigned w128 z < 2 ^ 128
bits_below (pos n) h = omega (arith, h.sfits)
bits_below (negsuc n) h = omega arith

integer_again : (z : ℤ) → FitsSigned w128 z → integer_of_words (from_le_bytes w64 (to_le_bytes w64 (cast_unsigned w128 z % 2 ^ 64))) (from_le_bytes w64 (to_le_bytes w64 (cast_unsigned w128 z / 2 ^ 64))) ≡ z
integer_again z h =
    let n = cast_unsigned w128 z in
    let low : from_le_bytes w64 (to_le_bytes w64 (n % 2 ^ 64)) ≡ n % 2 ^ 64 = word_again (n % 2 ^ 64) (mod_below n (2 ^ 64) (omega arith)) in
    let high : from_le_bytes w64 (to_le_bytes w64 (n / 2 ^ 64)) ≡ n / 2 ^ 64 = word_again (n / 2 ^ 64) (shr_below n 64 64 (bits_below z h)) in
    ap (λ x. integer_of_words x (from_le_bytes w64 (to_le_bytes w64 (n / 2 ^ 64)))) low ∙ ap (integer_of_words (n % 2 ^ 64)) high ∙ ap (cast_signed w128) (div-add-mod' n (2 ^ 64)) ∙ to_z-of_z w128 z h

-- ---- entries
order_again : (b : Bool) → order_of_word (bit_word b) ≡ Some b
order_again true = refl
order_again false = refl

extremes_again : (t : PType) (some : Bool) (extremes : Option Extremes) → IsTrue (extremes_fit t some extremes) → extremes_of t some (least_of extremes) (greatest_of extremes) ≡ Some extremes
extremes_again t true None h = absurd cc
extremes_again t false None h = refl
extremes_again t true (Some e) h = cond-true (fits t e.least && fits t e.greatest && int_le e.least e.greatest) (Some (Some e)) None h
extremes_again t false (Some e) h = absurd cc

statistics_again : (t : PType) (len null_count : ℕ) (extremes : Option Extremes) (sorted : Bool) (sum : ℤ) → len < 2 ^ 63 → null_count ≤ len → IsTrue (extremes_fit t (nat_lt null_count len) extremes)
    → statistics_of t len null_count (bit_word sorted) (least_of extremes) (greatest_of extremes) sum ≡ Some (record { len = len; null_count = null_count; extremes = extremes; is_sorted = sorted; sum = sum })
unfolding statistics_of
statistics_again t len null_count extremes sorted sum small few h =
    rw (and_from (nat_lt len (2 ^ 63)) (nat_le null_count len) (lt-ltb len (2 ^ 63) small) (le-leb null_count len few), order_again sorted, extremes_again t (nat_lt null_count len) extremes h) refl

bit_word_below : (b : Bool) → bit_word b < 2 ^ 64
bit_word_below true = omega arith
bit_word_below false = omega arith

least_held : (extremes : Option Extremes) → ExtremesAreHeld extremes → FitsSigned w128 (least_of extremes) × FitsSigned w128 (greatest_of extremes)
least_held None h = (record { sfits = omega arith }, record { sfits = omega arith })
least_held (Some e) h = h

fields_same : (t : PType) (a a' b b' c c' d d' e e' f f' : ℕ) (g g' h h' i i' : ℤ) → a ≡ a' → b ≡ b' → c ≡ c' → d ≡ d' → e ≡ e' → f ≡ f' → g ≡ g' → h ≡ h' → i ≡ i'
    → entry_of a b c (statistics_of t d e f g h i) ≡ entry_of a' b' c' (statistics_of t d' e' f' g' h' i')
fields_same t a a' b b' c c' d d' e e' f f' g g' h h' i i' p q r s u v w x y = rw (p, q, r, s, u, v, w, x, y) refl

entry_again : (t : PType) (e : ChunkEntry) → EntryFits t e → entry_at t (entry_bytes e) ≡ Some e
unfolding entry_at
entry_again t e fit =
    let s = e.statistics in
    let held = least_held s.extremes fit.statistics.held in
    fields_same t _ e.offset _ e.size _ e.checksum _ s.len _ s.null_count _ (bit_word s.is_sorted) _ (least_of s.extremes) _ (greatest_of s.extremes) _ s.sum
    (word_again e.offset fit.offset) (word_again e.size fit.size) (word_again e.checksum (omega (arith, fit.checksum))) (word_again s.len (omega (arith, fit.statistics.len))) (word_again s.null_count (omega (arith, fit.statistics.len, fit.statistics.null_count))) (word_again (bit_word s.is_sorted) (bit_word_below s.is_sorted))
    (integer_again (least_of s.extremes) held.0) (integer_again (greatest_of s.extremes) held.1) (integer_again s.sum fit.statistics.sum)
    ∙ ap (entry_of e.offset e.size e.checksum) (statistics_again t s.len s.null_count s.extremes s.is_sorted s.sum fit.statistics.len fit.statistics.null_count fit.statistics.extremes)
    ∙ cond-true (nat_lt e.checksum (2 ^ 32)) (Some e) None (lt-ltb e.checksum (2 ^ 32) fit.checksum)

entries_step : (t : PType) (n : ℕ) (bytes : List ℕ) (e : ChunkEntry) (es : List ChunkEntry) → entry_at t (take 96 bytes) ≡ Some e → entries_at t n (drop 96 bytes) ≡ Some es → entries_at t (suc n) bytes ≡ Some (e ∷ es)
unfolding entries_at
entries_step t n bytes e es f g = rw (f, g) refl

entries_again : (t : PType) (es : List ChunkEntry) → AllByRecursion (EntryFits t) es → entries_at t (length es) (flat_map entry_bytes es) ≡ Some es
unfolding entries_at
entries_again t [] fit = refl
entries_again t (e ∷ es) fit =
    ap (entries_at t (suc (length es))) (flat_map-cons entry_bytes e es)
    ∙ entries_step t (length es) (entry_bytes e ++ flat_map entry_bytes es) e es (entry_again t e fit.0) (entries_again t es fit.1)

-- ---- a body
type_again : (t : PType) (n : Nullability) (rest : List ℕ) → type_of_word (word_at 0 (word_bytes (type_word t n ∷ []) ++ rest)) ≡ Some (t, n)
type_again U8 NonNullable rest = refl
type_again U16 NonNullable rest = refl
type_again U32 NonNullable rest = refl
type_again U64 NonNullable rest = refl
type_again I8 NonNullable rest = refl
type_again I16 NonNullable rest = refl
type_again I32 NonNullable rest = refl
type_again I64 NonNullable rest = refl
type_again U8 Nullable rest = refl
type_again U16 Nullable rest = refl
type_again U32 Nullable rest = refl
type_again U64 Nullable rest = refl
type_again I8 Nullable rest = refl
type_again I16 Nullable rest = refl
type_again I32 Nullable rest = refl
type_again I64 Nullable rest = refl

length_entries : (es : List ChunkEntry) → length (flat_map entry_bytes es) ≡ 96 * length es
length_entries [] = refl
length_entries (e ∷ es) =
    let more : length (flat_map entry_bytes (e ∷ es)) ≡ 96 + length (flat_map entry_bytes es) = ap length (flat_map-cons entry_bytes e es) ∙ length-append (entry_bytes e) (flat_map entry_bytes es) in
    omega (arith, more, length_entries es)

pub length_body : (foot : FootParts) → length (body_bytes foot) ≡ 8 + 96 * length foot.chunks
length_body foot = omega (arith, length-append (word_bytes (type_word foot.ptype foot.nullability ∷ [])) (flat_map entry_bytes foot.chunks), length_entries foot.chunks)

pub length_foot : (foot : FootParts) → length (foot_bytes foot) ≡ 28 + 96 * length foot.chunks
length_foot foot = length-append (body_bytes foot) (end_bytes (body_bytes foot)) ∙ ap (λ n. n + 20) (length_body foot) ∙ omega arith

body_again : (foot : FootParts) → AllByRecursion (EntryFits foot.ptype) foot.chunks → body_of (body_bytes foot) ≡ Some foot
body_again foot fit =
    body_made (body_bytes foot) foot.ptype foot.nullability (length foot.chunks) foot.chunks (type_again foot.ptype foot.nullability (flat_map entry_bytes foot.chunks)) (omega (arith, length_body foot)) (entries_again foot.ptype foot.chunks fit)

-- ---- a foot
tail_at : (P E : List ℕ) (k m : ℕ) → m ≡ length P + k → drop m (P ++ E) ≡ drop k E
tail_at [] E k m e = let same : m ≡ k = omega arith in ap (λ x. drop x E) same
tail_at (x ∷ P) E k zero e = absurd (omega arith)
tail_at (x ∷ P) E k (suc m) e = tail_at P E k m (omega arith)

len_step : (bytes : List ℕ) (file_len size : ℕ) → 28 ≤ length bytes → length bytes ≤ file_len → drop (length bytes - 4) bytes ≡ codes "FLC2" → word_at (length bytes - 12) bytes ≡ size → size % 96 ≡ 16 → size ≤ length bytes - 12
    → foot_len_of bytes file_len ≡ Ok size
unfolding len_at_end
len_step bytes file_len size long within mark word form room =
    let at : (k : ℕ) → drop k (drop (length bytes - 28) bytes) ≡ drop (length bytes - 28 + k) bytes = λ k. drop-drop k (length bytes - 28) bytes in
    let mark_there : drop 24 (drop (length bytes - 28) bytes) ≡ codes "FLC2" = at 24 ∙ ap (λ m. drop m bytes) (omega arith) ∙ mark in
    let word_there : word_at 16 (drop (length bytes - 28) bytes) ≡ size = ap (λ l. from_le_bytes w64 (take 8 l)) (at 16 ∙ ap (λ m. drop m bytes) (omega arith)) ∙ word in
    rw (le-ltb (length bytes) 28 long, le-ltb file_len (length bytes) within, mark_there, word_there, form, le-leb size (length bytes - 12) room) refl

body_is_read : (start : ℕ) (body : List ℕ) (foot : FootParts) (sum : ℕ) → sum ≡ crc32c_of body → body_of body ≡ Some foot → IsTrue (lie_between 4 start foot.chunks) → foot_of_body start body sum ≡ Ok foot
body_is_read start body foot sum e f g =
    cond-true (eqb sum (crc32c_of body)) (placed start (body_of body)) (Err _) (eq-eqb sum (crc32c_of body) e) ∙ ap (placed start) f ∙ cond-true (lie_between 4 start foot.chunks) (Ok foot) (Err _) g

pub foot_again : (foot : FootParts) (front : List ℕ) (file_len : ℕ) → IsFootOf file_len foot → length (front ++ foot_bytes foot) ≤ file_len → foot_of (front ++ foot_bytes foot) file_len ≡ Ok foot
foot_again foot front file_len is within =
    let body = body_bytes foot in
    let E = end_bytes body in
    let size = length body + 8 in
    let bytes = front ++ (body ++ E) in
    let n = length bytes in
    let crc = crc32c_of body in
    let long = length_body foot in
    let small : crc < 2 ^ 64 = omega arith in
    let all : length (body ++ E) ≡ length body + 20 = length-append body E in
    let total : n ≡ length front + (length body + 20) = length-append front (body ++ E) ∙ ap (λ x. length front + x) all in
    let grouped : bytes ≡ (front ++ body) ++ E = sym (append_assoc front body E) in
    let held : length (front ++ body) ≡ length front + length body = length-append front body in
    let ending : (k m : ℕ) → m ≡ length (front ++ body) + k → drop m bytes ≡ drop k E = (λ k m e. ap (drop m) grouped ∙ tail_at (front ++ body) E k m e) in
    let mark : drop (n - 4) bytes ≡ codes "FLC2" = ending 16 (n - 4) (omega arith) in
    let word : word_at (n - 12) bytes ≡ size = ap (λ x. from_le_bytes w64 (take 8 x)) (ending 8 (n - 12) (omega arith)) ∙ word_again size (omega (arith, is.len, all)) in
    let sum : word_at (n - 20) bytes ≡ crc = ap (λ x. from_le_bytes w64 (take 8 x)) (ending 0 (n - 20) (omega arith)) ∙ word_again crc small in
    let cut = n - 20 - (n - 12 - size) in
    let taken : between (n - 12 - size) (n - 20) bytes ≡ body = ap (take cut) (tail_at front (body ++ E) 0 (n - 12 - size) (omega arith)) ∙ take_at body E cut (omega arith) in
    let len = len_step bytes file_len size (omega (arith, long)) within mark word (omega (arith, long)) (omega arith) in
    let start : file_len - 12 - size ≡ file_len - length (foot_bytes foot) = omega arith in
    ap (λ r. then_with r (foot_with_len bytes file_len)) len
    ∙ ap (λ b. foot_of_body (file_len - 12 - size) b (word_at (n - 20) bytes)) taken
    ∙ ap (λ s. foot_of_body s body (word_at (n - 20) bytes)) start
    ∙ body_is_read (file_len - length (foot_bytes foot)) body foot (word_at (n - 20) bytes) sum (body_again foot is.entries) is.places
