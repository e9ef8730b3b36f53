-- Arrays of booleans.
use Rattle.std.proofs.Common.{◌≡◌, ℕ, List, Bool, true, Option, Some, None, Result, Ok, IsTrue, length, map, option_map, count_by, ◌∙◌, ap, refl}
use Rattle.std.specs.Prelude.{is_none}
use Rattle.std.proofs.lemmas.Bool.{and_parts, eq-eqb}
use Rattle.std.proofs.lemmas.List.FromFn.{length-map-range_with_len}
use Rattle.fl_types.specs.declared.error.FastLanesError.{FastLanesError}
use Rattle.fl_types.specs.declared.validity.Validity.{Validity}
use Rattle.fl_types.specs.Types.{is_integer}
use Rattle.fl_types.specs.Validities.{covers}
use Rattle.fl_types.specs.Values.{bool_number}
use Rattle.fl_column.specs.Bitmaps.{bit_in, bitmap_len, bits_in}
use Rattle.fl_column.specs.Columns.{BoolParts, Column, bools, column_of_bools, new_bools}
use Rattle.fl_array.specs.FoRArrays.{ChunkReferences, GlobalReference, for_refusal, has_no_constant}
use Rattle.fl_array.specs.Reads.{bools_in}
use Rattle.fl_array.specs.Trees.{Tree, column}
use Rattle.fl_array.specs.Trees as tree
use Rattle.fl_array.specs.WellFormed.{is_scalar, is_well_formed}
use Rattle.fl_array.proofs.FoRSound.{has_reference, has_references}
use Rattle.fl_bitmaps.specs.Bitmaps.{items_in, validity_in}
use Rattle.flcol_c.specs.Bitmaps.{room_fault}
use Rattle.flcol_c.specs.Booleans.{AreBooleans, booleans_fault, booleans_in}
use Rattle.flcol_c.proofs.NullCounts.{nulls_mapped}
use Rattle.flcol_c.proofs.ValidityLaws.{bitmap_covers}

none_is : {A : Type 0} (x : Option A) → is_none x ≡ true → x ≡ None
none_is None e = refl
none_is (Some x) e = absurd (let wrong : ⊥ = cc in wrong)

-- an array is of integers where it is not one of booleans
pub integers_else : (t : Tree) → IsTrue (is_well_formed t) → bools_in t ≡ None → is_integer (column t).dtype ≡ true
integers_else (tree.Primitive p) well e = refl
integers_else (tree.Constant c) well e = (and_parts (is_integer c.scalar.dtype) _ well).0
integers_else (tree.Bool b) well e = absurd (let wrong : ⊥ = cc in wrong)
integers_else (tree.BitPackedGlobal parts width) well e = refl
integers_else (tree.BitPackedBlocked parts boundaries) well e = refl
integers_else (tree.FoRGlobal encoded reference) well e =
    let kept : is_none (for_refusal (column encoded) (GlobalReference reference)) ≡ true = (and_parts (is_scalar reference) _ (and_parts (is_well_formed encoded) _ well).1).1 in
    (has_reference (record { encoded = encoded; references = GlobalReference reference }) reference (none_is _ kept) refl).integer
integers_else (tree.FoRChunked encoded references offset) well e =
    let kept : is_none (for_refusal (column encoded) (ChunkReferences references offset)) ≡ true =
    (and_parts (has_no_constant (ChunkReferences references offset)) _ (and_parts (is_well_formed references) _ (and_parts (is_well_formed encoded) _ well).1).1).1 in
    (has_references (record { encoded = encoded; references = ChunkReferences references offset }) references offset (none_is _ kept) refl).integer
integers_else (tree.Delta bases deltas parts) well e = refl
integers_else (tree.RLE values indices offsets window) well e = refl

-- the room for the booleans of an array
pub booleans_room : (bits bytes : ℕ) (c : Column) (b : BoolParts) → c ≡ column_of_bools b → length b.bits ≡ length (column_of_bools b).items → bits ≡ bitmap_len (length b.bits)
    → room_fault bytes (length b.bits) (count_by is_none (bools b)) ≡ booleans_fault bits bytes c
booleans_room bits bytes c b is long room =
    let whole : bits ≡ bitmap_len (length (column_of_bools b).items) = room ∙ ap bitmap_len long in
    let nulls = nulls_mapped bool_number (bools b) in
    rw (is, eq-eqb bits (bitmap_len (length (column_of_bools b).items)) whole, ← long, nulls) refl

-- the bits that were written are the booleans
pub booleans_written : (c : Column) (b : BoolParts) (bits validity : List ℕ) → c ≡ column_of_bools b → length b.bits ≡ length (column_of_bools b).items → bools b ≡ items_in (bits_in bits (length b.bits)) validity → AreBooleans c bits validity
booleans_written c b bits validity is long e = rw is (ap (map (option_map bool_number)) e ∙ ap (λ n. map (option_map bool_number) (items_in (bits_in bits n) validity)) long)

ok_is : {A : Type 0} (x y : A) → ◌≡◌ {A = Result A FastLanesError} (Ok x) (Ok y) → x ≡ y
ok_is x y e = cc

-- booleans that are made of bits
pub booleans_made : (bits : List ℕ) (n : ℕ) (validity : List ℕ) (list : List Bool) (v : Validity) → ◌≡◌ {A = Result (List Bool) FastLanesError} (Ok (bits_in bits n)) (Ok list) → ◌≡◌ {A = Result Validity FastLanesError} (Ok (validity_in validity n)) (Ok v)
    → new_bools list v ≡ Ok (booleans_in bits n validity)
booleans_made bits n validity list v made valid =
    let whole = ok_is (bits_in bits n) list made in
    let covered : covers (validity_in validity n) n ≡ true = bitmap_covers validity n in
    let long : length (bits_in bits n) ≡ n = length-map-range_with_len (bit_in bits) 0 n in
    rw (← whole, ← ok_is (validity_in validity n) v valid, long, covered) refl
