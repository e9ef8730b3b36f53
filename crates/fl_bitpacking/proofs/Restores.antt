-- Packed integers that are read back.
use Rattle.std.proofs.Common.{◌≡◌, ℕ, ℤ, pos, ◌+◌, ◌*◌, ◌/◌, ◌%◌, ◌^◌, ◌<◌, true, List, length, get_or, Option, Some, None, unwrap_or, IsTrue, cond, refl, ap, sym, ◌∙◌, arith, inl, inr}
use Rattle.std.specs.List.{list_all}
use Rattle.std.proofs.Math.Nat.{mod-eq_of_lt}
use Rattle.std.proofs.lemmas.Bool.{cases_Bool}
use Rattle.std.proofs.lemmas.List.FromFn.{fill_by_all}
use Rattle.fastlanes.specs.Layout.{unpacked_item, word_at, IsWordWidth, bits_8, bits_16, bits_32, bits_64}
use Rattle.fastlanes.proofs.Unique.{items_read}
use Rattle.fl_types.specs.declared.dtype.PType.{PType}
use Rattle.fl_types.specs.declared.dtype.PType.TheVariants.{U8, U16, U32, U64, I8, I16, I32, I64}
use Rattle.fl_types.specs.Integers.{bits_of_type, fits, lanes_of_type, pattern_of, read_as}
use Rattle.fl_types.specs.Validities.{covers, is_valid_at, items_of}
use Rattle.fl_types.proofs.Patterns.{read_pattern}
use Rattle.fl_column.specs.Columns.{PrimitiveParts, column_of_primitive}
use Rattle.fl_column.proofs.ItemLaws.{get_or-items_of, length-items_of}
use Rattle.fl_column.proofs.ListLaws.{all_at}
use Rattle.fl_patches.specs.PatchMaps.{PatchesParts, patched_in}
use Rattle.fl_bitpacking.specs.Blocks.{ArePacked, Blocks, block_item, bytes_of_block, item_of_blocks, pattern_in}
use Rattle.fl_bitpacking.specs.Columns.{BitPackedParts, column_of_packed, packed_item}
use Rattle.fl_bitpacking.specs.Restored.{AreKept}

pub type_shape : (ptype : PType) → IsWordWidth (bits_of_type ptype) (lanes_of_type ptype)
type_shape U8 = bits_8
type_shape U16 = bits_16
type_shape U32 = bits_32
type_shape U64 = bits_64
type_shape I8 = bits_8
type_shape I16 = bits_16
type_shape I32 = bits_32
type_shape I64 = bits_64

-- an integer of no more bits than the width is read back
item_restored : (ptype : PType) (slots : List ℤ) (blocks : Blocks) (bytes : List ℕ) (i : ℕ) → ArePacked ptype slots blocks bytes → list_all (fits ptype) slots ≡ true → i < length slots
    → pattern_of ptype (get_or slots i (pos 0)) < 2 ^ blocks.width (i / 1024) → item_of_blocks ptype blocks bytes i ≡ get_or slots i (pos 0)
unfolding item_of_blocks block_item pattern_in
item_restored ptype slots blocks bytes i packed fit h small =
    let j = i / 1024 in
    let q = i % 1024 in
    let place : 1024 * (i / 1024) + i % 1024 ≡ i = omega arith in
    let here = packed.each j (omega arith) in
    let width = blocks.width j in
    let word = word_at (bits_of_type ptype) (bytes_of_block blocks bytes j) in
    let read = items_read (bits_of_type ptype) (lanes_of_type ptype) width (λ k. pattern_of ptype (get_or slots (1024 * j + k) (pos 0))) word (type_shape ptype) here q (omega arith) in
    let item : pattern_of ptype (get_or slots (1024 * j + q) (pos 0)) ≡ pattern_of ptype (get_or slots i (pos 0)) = ap (λ (n : ℕ). pattern_of ptype (get_or slots n (pos 0))) place in
    let low : pattern_of ptype (get_or slots i (pos 0)) % 2 ^ width ≡ pattern_of ptype (get_or slots i (pos 0)) = mod-eq_of_lt small in
    let same : unpacked_item (bits_of_type ptype) (lanes_of_type ptype) width word q ≡ pattern_of ptype (get_or slots i (pos 0)) = sym read ∙ (ap (λ (n : ℕ). n % 2 ^ width) item ∙ low) in
    ap (read_as ptype) same ∙ read_pattern ptype (get_or slots i (pos 0)) (all_at (fits ptype) slots i (pos 0) fit h)

-- each item is restored
pub column_restored : (p : PrimitiveParts) (patches : Option PatchesParts) (blocks : Blocks) (bytes : List ℕ) → IsTrue (covers p.validity (length p.slots)) → IsTrue (list_all (fits p.ptype) p.slots) → ArePacked p.ptype p.slots blocks bytes → AreKept p patches blocks
    → column_of_packed (record { packed = bytes; ptype = p.ptype; validity = p.validity; patches = patches; offset = 0; len = length p.slots }) blocks ≡ column_of_primitive p
unfolding packed_item
column_restored p patches blocks bytes covered fit packed kept =
    let parts : BitPackedParts = record { packed = bytes; ptype = p.ptype; validity = p.validity; patches = patches; offset = 0; len = length p.slots } in
    let items = fill_by_all (packed_item parts blocks) (items_of p.validity p.slots) (length p.slots) None (length-items_of p.validity p.slots covered)
    (λ i h. get_or-items_of p.validity p.slots i (pos 0) covered h ∙ elim (cases_Bool (is_valid_at p.validity i)) [
      | inl valid ↦
          let value = get_or p.slots i (pos 0) in
          let first : 0 + i ≡ i = omega arith in
          let same : value ≡ unwrap_or (patched_in patches i) (item_of_blocks p.ptype blocks bytes (0 + i)) = elim (kept.each i h valid) [
            | inl patch ↦ rw patch refl
            | inr plain ↦ rw (plain.0, first) (sym (item_restored p.ptype p.slots blocks bytes i packed fit h plain.1))
          ] in
          ap (λ z. cond (is_valid_at p.validity i) (Some z) None) same
      | inr gone ↦ rw gone refl
    ]) in
    ap (λ xs. record { dtype = (column_of_primitive p).dtype; items = xs }) (sym items)
