-- Loops that write or read leaves.
use Rattle.std.proofs.Common.{◌≡◌, ℕ, ℤ, Bool, true, false, ◌==◌, ◌∙◌, ◌+◌, ◌*◌, ◌/◌, ◌%◌, ◌<◌, List, [], ◌∷◌, ◌++◌, length, map, take, take_all, drop, append-nil, get_or, ap, refl, sym, arith}
use Rattle.std.specs.Int.{bit_at, to_le_bytes, w64}
use Rattle.std.proofs.lemmas.List.{drop_all, flat_map_more}
use Rattle.fl_types.specs.Bits.{bit_of_word, tabulate}
use Rattle.fl_types.specs.Integers.{bits_of_type}
use Rattle.fl_types.specs.declared.dtype.PType.{PType}
use Rattle.fl_types.specs.declared.dtype.PType.TheVariants.{U8, U16, U32, U64, I8, I16, I32, I64}
use Rattle.fl_column.proofs.ItemLaws.{map_read}
use Rattle.fl_serde.specs.Leaves.{bit_of_bytes, bits_of_bytes, bits_size, byte_of_bits, bytes_of_bits, bytes_of_slot, bytes_of_slots, width_of_type}
use Rattle.std.proofs.lemmas.List.FromFn.{fill_by_all, length-map-range_with_len, map-range_with_len_more}
use Rattle.fastlanes.specs.Layout.{bit_value, from_bits}
use Rattle.fastlanes.proofs.BitSums.{bit_at_from_bits, bit_value_small, from_bits_below}
use Rattle.std.proofs.lemmas.Bool.{eqb-true}
use Rattle.std.proofs.lemmas.Bool.Decides.{nat_tests}
use Rattle.std.proofs.lemmas.Nat.Bits.{bit_at-lt, same_from_bits_below}
use Rattle.fl_column.specs.Bitmaps.{bit_in, bitmap_len, bits_in}

-- the bytes of one integer more
pub slots_more : {I : Type 0} (value : I → ℤ) (ptype : PType) (items : List I) (i : ℕ) (x : I) (old new : List ℕ) → i < length items → x ≡ get_or items i x
    → new ≡ old ++ bytes_of_slot ptype (value x) → old ≡ bytes_of_slots ptype (map value (take i items)) → new ≡ bytes_of_slots ptype (map value (take (i + 1) items))
slots_more value ptype items i x old new lt is added before =
    rw (added, before, map_read value items i x lt is) (flat_map_more (bytes_of_slot ptype) [] (map value (take i items)) (value x))

-- one item more of a table
pub table_more : {A : Type 0} (f : ℕ → A) (n : ℕ) → tabulate f (n + 1) ≡ tabulate f n ++ f n ∷ []
table_more f n = map-range_with_len_more f 0 n n (omega arith)

-- an item is added to those of a table
pub one_more : {A : Type 0} (f : ℕ → A) (n : ℕ) (old new : List A) (x : A) → new ≡ old ++ x ∷ [] → old ≡ tabulate f n → x ≡ f n → new ≡ tabulate f (n + 1)
one_more f n old new x added before is = rw (added, before, is) (sym (table_more f n))

pub length-table : {X : Type 0} (f : ℕ → X) (n : ℕ) → length (tabulate f n) ≡ n
length-table f n = length-map-range_with_len f 0 n

-- booleans that were read from a bitmap
pub bits_stored : (bytes : List ℕ) (len : ℕ) → bits_in bytes len ≡ bits_of_bytes bytes len
unfolding bit_in bit_of_word bit_of_bytes
bits_stored bytes len = refl

value_of_test : (x : ℕ) (b : Bool) → x < 2 → (x == 1) ≡ b → x ≡ bit_value b
value_of_test x true h e = eqb-true x 1 e
value_of_test x false h e = grind (arith, nat_tests)

byte_written : (bytes : List ℕ) (bits : List Bool) (k : ℕ) → get_or bytes k 0 < 256 → ((i : ℕ) → bit_in bytes i ≡ get_or bits i false) → get_or bytes k 0 ≡ byte_of_bits bits k
unfolding byte_of_bits bit_in bit_of_word
byte_written bytes bits k small same =
    let byte = get_or bytes k 0 in
    let bit = λ (j : ℕ). bit_value (get_or bits (8 * k + j) false) in
    let few = λ (j : ℕ). bit_value_small (get_or bits (8 * k + j) false) in
    same_from_bits_below 8 byte (from_bits bit 8) small (from_bits_below bit few 8) (λ j h.
    let at : (8 * k + j) / 8 ≡ k = omega arith in
    let rest : (8 * k + j) % 8 ≡ j = omega arith in
    let here : (bit_at byte j == 1) ≡ get_or bits (8 * k + j) false = sym (ap (λ (m : ℕ). bit_at (get_or bytes m 0) ((8 * k + j) % 8) == 1) at ∙ ap (λ (m : ℕ). bit_at byte m == 1) rest) ∙ same (8 * k + j) in
    value_of_test (bit_at byte j) (get_or bits (8 * k + j) false) (bit_at-lt byte j) here ∙ sym (bit_at_from_bits bit few 8 j h))

-- the bytes of a bitmap to which booleans were written
pub bytes_written : (bytes : List ℕ) (bits : List Bool) → length bytes ≡ bitmap_len (length bits) → ((k : ℕ) → get_or bytes k 0 < 256) → ((i : ℕ) → bit_in bytes i ≡ get_or bits i false) → bytes_of_bits bits ≡ bytes
bytes_written bytes bits long small same =
    let n = bits_size (length bits) in
    sym (fill_by_all (byte_of_bits bits) bytes n 0 (omega (arith, long)) (λ k h. byte_written bytes bits k (small k) same))

-- the bytes of a list that was lent whole
pub lent_whole : (bitmap items : List ℕ) (n : ℕ) → length bitmap ≡ n → length items ≡ n → take n (bitmap ++ drop (length bitmap) items) ≡ bitmap
lent_whole bitmap items n long even =
    ap (λ l. take n (bitmap ++ l)) (drop_all (length bitmap) items (omega arith)) ∙ ap (λ l. take n l) (append-nil bitmap) ∙ take_all n bitmap (omega arith)

-- the low bytes of a pattern are its bytes in its type
pub low_bytes : (ptype : PType) (n : ℕ) → take (bits_of_type ptype / 8) (to_le_bytes w64 n) ≡ to_le_bytes (width_of_type ptype) n
low_bytes U8 n = refl
low_bytes U16 n = refl
low_bytes U32 n = refl
low_bytes U64 n = refl
low_bytes I8 n = refl
low_bytes I16 n = refl
low_bytes I32 n = refl
low_bytes I64 n = refl
