-- Bits that indices name, and the items that the slots under them are.
use Rattle.std.proofs.Common.{◌≡◌, ℕ, ℤ, ◌<◌, pos, Bool, true, false, List, [], ◌∷◌, length, map, get_or, slice_get, Some, None, Ok, Err, IsTrue, if◌then◌else◌, unsigned_abs, refl, ap, sym, ◌∙◌}
use Rattle.std.specs.List.{list_all}
use Rattle.std.proofs.lemmas.List.{length-map}
use Rattle.std.proofs.lemmas.Option.{get_or_from_slice_get}
use Rattle.std.proofs.lemmas.Bool.Decides.{Decides-eqb}
use Rattle.fl_types.specs.Validities.{covers, items_of, masked}
use Rattle.fl_types.specs.declared.error.FastLanesError.{FastLanesError}
use Rattle.fl_types.specs.declared.error.FastLanesError.TheVariants.{IndexOutOfBounds}
use Rattle.fl_types.specs.declared.validity.Validity.TheVariants as valid
use Rattle.fl_column.specs.Columns.{PrimitiveParts, column_of_primitive}
use Rattle.fl_column.specs.Operations.{is_in_range, item_named, take_column}
use Rattle.fl_column.specs.Selections.{any_null, bit_named, is_full, slot_named, slots_named, validity_of_bits}
use Rattle.fl_column.proofs.CastSlotLaws.{nullable_by, nulls_left}
use Rattle.fl_column.proofs.GatherLaws.{value_read}
use Rattle.fl_column.proofs.ItemLaws.{get_or-items_of, length-items_of}
use Rattle.fl_column.proofs.ListLaws.{all_at, and_first, and_second}
use Rattle.fl_column.proofs.NamedLaws.{full_items, if_err, if_ok, in_place, in_range_all}

-- an index that was read lies in range where all do
pub named_within : {A : Type 0} (f : A → ℤ) (n : ℕ) (xs : List A) (i : ℕ) (x : A) (k : ℕ) → x ≡ get_or xs i x → i < length xs → IsTrue (list_all (λ index. is_in_range n (Some index)) (map f xs)) → k ≡ unsigned_abs (f x) → k < n
named_within f n xs i x k is within range named =
    let inside : i < length (map f xs) = rw length-map within in
    let here : is_in_range n (Some (f x)) ≡ true = rw (value_read f xs i x is within) at (all_at (λ index. is_in_range n (Some index)) (map f xs) i (pos 0) range inside) in
    rw named (in_place n (f x) here)

-- the bit that was read is the one that the index names
pub bit_read : {A : Type 0} (f : A → ℤ) (bits : List Bool) (xs : List A) (i : ℕ) (x : A) (k : ℕ) (bit : Bool) → x ≡ get_or xs i x → i < length xs → k ≡ unsigned_abs (f x) → slice_get bits k ≡ Some bit → bit ≡ bit_named bits (get_or (map f xs) i (pos 0))
bit_read f bits xs i x k bit is within named got = rw (value_read f xs i x is within, ← named) (sym (get_or_from_slice_get bits k bit false got))

named_each : (bits : List Bool) (xs ys : List ℤ) → length bits ≡ length xs → list_all (λ z. is_in_range (length xs) (Some z)) ys ≡ true → map (item_named (masked bits xs)) (map (λ z. Some z) ys) ≡ masked (map (bit_named bits) ys) (map (slot_named xs) ys)
named_each bits xs [] even range = refl
named_each bits xs (y ∷ ys) even range =
    let first : is_in_range (length xs) (Some y) ≡ true = and_first (is_in_range (length xs) (Some y)) (list_all (λ z. is_in_range (length xs) (Some z)) ys) range in
    let rest = named_each bits xs ys even (and_second (is_in_range (length xs) (Some y)) (list_all (λ z. is_in_range (length xs) (Some z)) ys) range) in
    let here : get_or (masked bits xs) (unsigned_abs y) None ≡ (if bit_named bits y then Some (slot_named xs y) else None) =
    get_or-items_of (valid.Array bits) xs (unsigned_abs y) (pos 0) ((Decides-eqb (length bits) (length xs)).1 even) (in_place (length xs) y first) in
    (λ i. here i ∷ rest i)

bits_cover : (a : PrimitiveParts) (bits : List Bool) → a.validity ≡ valid.Array bits → length bits ≡ length a.slots → IsTrue (covers a.validity (length a.slots))
bits_cover a bits is even = rw is ((Decides-eqb (length bits) (length a.slots)).1 even)

-- the array of the slots and the bits that were named
pub masked_column : (a b r : PrimitiveParts) (bits named : List Bool) (zs : List ℤ) → a.validity ≡ valid.Array bits → length bits ≡ length a.slots → is_full b.validity ≡ true → slots_named a.slots b.slots ≡ Ok zs → named ≡ map (bit_named bits) b.slots
    → r ≡ record { ptype = a.ptype; slots = zs; validity = validity_of_bits named } → take_column (column_of_primitive b) (column_of_primitive a) ≡ Ok (column_of_primitive r)
masked_column a b r bits named zs is even full_b found bits_found parts =
    let items_b : items_of b.validity b.slots ≡ map (λ z. Some z) b.slots = full_items b.validity b.slots full_b in
    let ok = if_ok (list_all (λ index. is_in_range (length a.slots) (Some index)) b.slots) (map (slot_named a.slots) b.slots) zs IndexOutOfBounds found in
    let long : length (items_of a.validity a.slots) ≡ length a.slots = length-items_of a.validity a.slots (bits_cover a bits is even) in
    let range : list_all (is_in_range (length (items_of a.validity a.slots))) (items_of b.validity b.slots) ≡ true = rw (items_b, long) (in_range_all (length a.slots) b.slots ∙ ok.0) in
    let items : map (item_named (items_of a.validity a.slots)) (items_of b.validity b.slots) ≡ items_of (valid.Array named) zs = rw (is, items_b, bits_found, ← ok.1) (named_each bits a.slots b.slots even ok.0) in
    let each : length named ≡ length zs = rw (bits_found, ← ok.1, length-map, length-map) refl in
    let here : items_of (validity_of_bits named) zs ≡ items_of (valid.Array named) zs = nulls_left (valid.Array named) (length named) zs each ((Decides-eqb (length named) (length zs)).1 each) in
    rw (range, items, parts, here, nullable_by (any_null (valid.Array named) (length named)) (valid.Array named) refl, is) refl

-- an index that names no item refuses the take
pub unnamed_masked : (a b : PrimitiveParts) (bits : List Bool) (e : FastLanesError) → a.validity ≡ valid.Array bits → length bits ≡ length a.slots → is_full b.validity ≡ true → slots_named a.slots b.slots ≡ Err e → take_column (column_of_primitive b) (column_of_primitive a) ≡ Err e
unnamed_masked a b bits e is even full_b found =
    let items_b : items_of b.validity b.slots ≡ map (λ z. Some z) b.slots = full_items b.validity b.slots full_b in
    let err = if_err (list_all (λ index. is_in_range (length a.slots) (Some index)) b.slots) (map (slot_named a.slots) b.slots) IndexOutOfBounds e found in
    let long : length (items_of a.validity a.slots) ≡ length a.slots = length-items_of a.validity a.slots (bits_cover a bits is even) in
    let range : list_all (is_in_range (length (items_of a.validity a.slots))) (items_of b.validity b.slots) ≡ false = rw (items_b, long) (in_range_all (length a.slots) b.slots ∙ err.0) in
    rw range (ap (λ f. Err f) err.1)
