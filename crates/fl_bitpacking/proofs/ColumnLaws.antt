-- Columns of packed blocks.
use Rattle.std.proofs.Common.{◌≡◌, ℕ, ℤ, pos, ◌+◌, ◌<◌, List, length, map, Some, None, unwrap_or, IsTrue, true, ◌*◌, cond, Result, Ok, refl, ap, sym, ◌∙◌, subst}
use Rattle.std.proofs.lemmas.List.{length-map}
use Rattle.std.proofs.lemmas.List.FromFn.{fill_by_all}
use Rattle.fastlanes.specs.Layout.{Packed, word_at, IsWordWidth}
use Rattle.fl_types.specs.declared.dtype.PType.{PType}
use Rattle.fl_types.specs.declared.error.FastLanesError.{FastLanesError}
use Rattle.fl_types.specs.Bits.{tabulate}
use Rattle.fl_types.specs.Integers.{bits_of_type, lanes_of_type}
use Rattle.fl_types.specs.Refusals.{Answers}
use Rattle.fl_types.specs.Validities.{covers, is_valid_at, items_of}
use Rattle.fl_column.specs.Columns.{PrimitiveParts, column_of_primitive, new_primitive}
use Rattle.fl_column.proofs.ItemLaws.{get_or-items_of, length-items_of}
use Rattle.fl_column.specs.Chunks.{chunk_count}
use Rattle.fl_patches.specs.PatchMaps.{patched_in}
use Rattle.fl_bitpacking.specs.Blocks.{ArePacked, Blocks, bytes_of_block, pattern_in, value_at}
use Rattle.fl_bitpacking.specs.Columns.{BitPackedParts, column_of_packed, packed_item, stored}
use Rattle.fl_bitpacking.specs.Parts.{Fit}
use Rattle.fl_bitpacking.proofs.Natives.{lanes_is}

pub items_made : {X : Type 0} (value : X → ℤ) (parts : BitPackedParts) (blocks : Blocks) (items : List X) → IsTrue (covers parts.validity parts.len) → length items ≡ parts.len
    → ((i : ℕ) → i < parts.len → value_at value items i ≡ unwrap_or (patched_in parts.patches i) (stored parts blocks i))
    → items_of parts.validity (map value items) ≡ tabulate (packed_item parts blocks) parts.len
unfolding value_at packed_item
items_made value parts blocks items covered long each =
    let size : length (map value items) ≡ parts.len = length-map items value ∙ long in
    let covered_too : IsTrue (covers parts.validity (length (map value items))) = rw size covered in
    fill_by_all (packed_item parts blocks) (items_of parts.validity (map value items)) parts.len None (length-items_of parts.validity (map value items) covered_too ∙ size)
    (λ i h. get_or-items_of parts.validity (map value items) i (pos 0) covered_too (rw size h) ∙ ap (λ z. cond (is_valid_at parts.validity i) (Some z) None) (each i h))

-- a plain array of the items is the column
pub column_made : {X : Type 0} (value : X → ℤ) (parts : BitPackedParts) (blocks : Blocks) (items : List X) (r : Result PrimitiveParts FastLanesError) → Fit parts → length items ≡ parts.len
    → ((i : ℕ) → i < parts.len → value_at value items i ≡ unwrap_or (patched_in parts.patches i) (stored parts blocks i))
    → r ≡ new_primitive parts.ptype (map value items) parts.validity → Answers column_of_primitive r (Ok (column_of_packed parts blocks))
column_made value parts blocks items r fit long each is =
    let size : length (map value items) ≡ parts.len = length-map items value ∙ long in
    let covered : covers parts.validity (length (map value items)) ≡ true = rw size fit.covers in
    let made : r ≡ Ok (record { ptype = parts.ptype; slots = map value items; validity = parts.validity }) = is ∙ (rw covered refl) in
    rw (made, items_made value parts blocks items fit.covers long each) refl

-- packed blocks are a packed column
pub packed_column : {X : Type 0} (value : X → ℤ) (ptype : PType) (T lanes : ℕ) (blocks : Blocks) (items : List X) (slots : List ℤ) (bytes : List ℕ) → IsWordWidth T lanes → T ≡ bits_of_type ptype → map value items ≡ slots
    → length bytes ≡ blocks.start (chunk_count (length slots))
    → ((j : ℕ) → j < chunk_count (length items) → Packed T lanes (blocks.width j) (λ q. pattern_in ptype (map value items) (1024 * j + q)) (word_at T (bytes_of_block blocks bytes j)))
    → ArePacked ptype slots blocks bytes
packed_column value ptype T lanes blocks items slots bytes shape bits is long each =
    let same : lanes ≡ lanes_of_type ptype = lanes_is ptype T lanes shape bits in
    let count : length items ≡ length slots = sym (length-map items value) ∙ ap length is in
    record {
      size = long;
      each = λ j h.
          let here = each j (rw count h) in
          let by_slots = rw is at here in
          subst (λ (t : ℕ). Packed t (lanes_of_type ptype) (blocks.width j) (λ q. pattern_in ptype slots (1024 * j + q)) (word_at t (bytes_of_block blocks bytes j))) bits
          (subst (λ (n : ℕ). Packed T n (blocks.width j) (λ q. pattern_in ptype slots (1024 * j + q)) (word_at T (bytes_of_block blocks bytes j))) same by_slots);
    }
