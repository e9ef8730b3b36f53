-- References that find nothing cheaper: 0, and those of chunks that are the least item of all.
use Rattle.std.proofs.Common.{◌≡◌, ℕ, ℤ, pos, ◌&&◌, Bool, true, false, List, [], ◌∷◌, ◌++◌, length, map, nat_lt, is_none, Option, Some, None, Ok, IsTrue, refl, ap, sym, ◌∙◌, arith}
use Rattle.std.specs.Prelude.{find, int_le, option_map}
use Rattle.std.specs.List.{All, list_all}
use Rattle.std.proofs.lemmas.Bool.Decides.{nat_tests}
use Rattle.std.proofs.lemmas.List.Elements.{All-append, All-cons, All-head, All-nil, All-tail}
use Rattle.fl_types.specs.Integers.{fits}
use Rattle.fl_types.specs.Validities.{covers, items_of}
use Rattle.fl_column.specs.Columns.{PrimitiveParts}
use Rattle.fl_codec.specs.declared.for_.ItemOrder.{ItemOrder}
use Rattle.fl_codec.specs.FoRColumns.{chunk_references, common_reference, least_by, minus_reference, reading, valid_items}
use Rattle.fl_codec.specs.Parts.{encode_global_by, items_of_primitive, subtract_min, subtract_reference}
use Rattle.fl_codec.proofs.DeltaRoundTrips.{items_fit}
use Rattle.fl_statistics.proofs.Differences.{less_none}
use Rattle.fl_array.proofs.EncodedRLE.{ok_is}
use Rattle.fl_encode.specs.declared.scheme.Packing.TheVariants.{BestWidth, BestWidths}
use Rattle.fl_encode.specs.Shapes.{BitPacked, Constant, FoR, FoRChunked, Primitive, Shape}
use Rattle.fl_compress.specs.declared.limits.Limits.{Limits}
use Rattle.fl_compress.specs.Candidates.{has_level, over_chunk_references, over_one_reference, packed_schemes, where_allowed}
use Rattle.fl_compress.specs.Cheapest.{cheaper, cheapest, combined, priced}
use Rattle.fl_compress.specs.Choices.{CostsNoMore, HasZeroLeasts, or_frames, with_slots}
use Rattle.fl_compress.specs.EncodedBytes.{encoded_bytes}
use Rattle.fl_compress.proofs.AnswerLaws.{Gives, gives}
use Rattle.fl_compress.proofs.CheapestLaws.{wrapped}
use Rattle.fl_compress.proofs.DifferenceLaws.{common_encoded, one_held, plain_alike}
use Rattle.fl_compress.proofs.ListLaws.{one_list, whole_list}

-- ---- arrays of the same items
cheapest_alike : (cost other : Shape → Option ℕ) (schemes : List Shape) → All (λ s. cost s ≡ other s) schemes → cheapest cost schemes ≡ cheapest other schemes
unfolding cheapest
cheapest_alike cost other [] all = refl
cheapest_alike cost other (s ∷ schemes) all =
    ap (λ o. cheaper (option_map (λ n. (s, n)) o) (cheapest cost schemes)) (All-head (λ x. cost x ≡ other x) s schemes all)
    ∙ ap (cheaper (priced other s)) (cheapest_alike cost other schemes (All-tail (λ x. cost x ≡ other x) s schemes all))

plain_bytes_alike : (p : PrimitiveParts) (slots : List ℤ) → length slots ≡ length p.slots → encoded_bytes (with_slots p slots) Primitive ≡ encoded_bytes p Primitive
unfolding encoded_bytes
plain_bytes_alike p slots long = ap (λ n. let o : Option ℕ = Some n in o) (sym (plain_alike p slots long))

constant_alike : (p : PrimitiveParts) (slots : List ℤ) → items_of p.validity slots ≡ items_of p.validity p.slots → encoded_bytes (with_slots p slots) Constant ≡ encoded_bytes p Constant
unfolding encoded_bytes
constant_alike p slots same = rw same refl

one_width_alike : (p : PrimitiveParts) (slots : List ℤ) → length slots ≡ length p.slots → items_of p.validity slots ≡ items_of p.validity p.slots → encoded_bytes (with_slots p slots) (BitPacked BestWidth) ≡ encoded_bytes p (BitPacked BestWidth)
unfolding encoded_bytes
one_width_alike p slots long same = rw (same, long) refl

many_widths_alike : (p : PrimitiveParts) (slots : List ℤ) → length slots ≡ length p.slots → items_of p.validity slots ≡ items_of p.validity p.slots → encoded_bytes (with_slots p slots) (BitPacked BestWidths) ≡ encoded_bytes p (BitPacked BestWidths)
unfolding encoded_bytes
many_widths_alike p slots long same = rw (same, long) refl

all_allowed : (Q : Shape → Type 0) (allowed : Bool) (schemes : List Shape) → All Q schemes → All Q (where_allowed allowed schemes)
all_allowed Q true schemes all = all
all_allowed Q false schemes all = All-nil Q

-- the same items are packed in as many bytes
packed_alike : (p : PrimitiveParts) (slots : List ℤ) (limits : Limits) (depth : ℕ) → length slots ≡ length p.slots → items_of p.validity slots ≡ items_of p.validity p.slots → cheapest (encoded_bytes (with_slots p slots)) (packed_schemes limits depth) ≡ cheapest (encoded_bytes p) (packed_schemes limits depth)
unfolding packed_schemes
packed_alike p slots limits depth long same =
    let Q : Shape → Type 0 = λ s. encoded_bytes (with_slots p slots) s ≡ encoded_bytes p s in
    let constant : List Shape = where_allowed limits.constant (Constant ∷ []) in
    let packed : List Shape = where_allowed (has_level limits.bitpacked depth) (BitPacked BestWidth ∷ BitPacked BestWidths ∷ []) in
    cheapest_alike (encoded_bytes (with_slots p slots)) (encoded_bytes p) (Primitive ∷ (constant ++ packed))
    (All-cons Q Primitive (constant ++ packed) (plain_bytes_alike p slots long)
    (All-append Q constant packed (all_allowed Q limits.constant (Constant ∷ []) (All-cons Q Constant [] (constant_alike p slots same) (All-nil Q)))
    (all_allowed Q (has_level limits.bitpacked depth) (BitPacked BestWidth ∷ BitPacked BestWidths ∷ [])
    (All-cons Q (BitPacked BestWidth) (BitPacked BestWidths ∷ []) (one_width_alike p slots long same) (All-cons Q (BitPacked BestWidths) [] (many_widths_alike p slots long same) (All-nil Q))))))

-- ---- the reference 0
-- nothing cheaper than what costs no more
no_cheaper : (s : Shape) (n : ℕ) (f : Shape → Shape) (choice : Option (Shape × ℕ)) → CostsNoMore n choice → cheaper (Some (s, n)) (wrapped f choice) ≡ Some (s, n)
no_cheaper s n f None h = refl
no_cheaper s n f (Some c) h = grind (arith, nat_tests)

pub zero_choice : (order : ItemOrder) (p : PrimitiveParts) (limits : Limits) (depth : ℕ) (s : Shape) (n : ℕ) (reference : ℤ) → IsTrue (covers p.validity (length p.slots)) → IsTrue (list_all (fits p.ptype) p.slots) → reference ≡ pos 0 → Some reference ≡ least_by (reading order p.ptype) (items_of_primitive p)
    → CostsNoMore n (cheapest (encoded_bytes p) (packed_schemes limits depth)) → Gives (cheaper (Some (s, n)) (cheapest (encoded_bytes p) (over_one_reference order (packed_schemes limits depth)))) (Some (s, n))
zero_choice order p limits depth s n reference covered fit zero least most =
    let schemes = packed_schemes limits depth in
    let parts = subtract_reference p (pos 0) in
    let slots = map (minus_reference p.ptype (pos 0)) (items_of_primitive p) in
    let held = one_held p (pos 0) covered in
    let same : items_of p.validity slots ≡ items_of p.validity p.slots = held.1 ∙ less_none p.ptype (items_of_primitive p) (items_fit p.ptype p.validity p.slots covered fit) in
    let encoded : encode_global_by order p ≡ Ok parts = ap (subtract_min p) (sym least ∙ ap (λ z. let o : Option ℤ = Some z in o) zero) in
    let child : cheapest (encoded_bytes parts.child) schemes ≡ cheapest (encoded_bytes p) schemes = packed_alike p slots limits depth held.0 same in
    gives _ _ (ap (cheaper (Some (s, n))) (one_list order p parts schemes encoded ∙ ap (wrapped (FoR order)) child) ∙ no_cheaper s n (FoR order) (cheapest (encoded_bytes p) schemes) most)

-- without a least item there is no reference
pub absent_choice : (a b : Option (Shape × ℕ)) → b ≡ None → Gives (cheaper a b) a
absent_choice None b e = gives _ _ e
absent_choice (Some a) b e = gives _ _ (ap (cheaper (Some a)) e)

-- ---- one reference for all chunks
no_valid : (items : List (Option ℤ)) → list_all is_none items ≡ true → valid_items items ≡ []
no_valid [] e = refl
no_valid (None ∷ items) e = no_valid items e
no_valid (Some z ∷ items) e = cc

some_valid : (read : ℤ → ℤ) (items : List (Option ℤ)) (z : ℤ) (b : Bool) → list_all is_none items ≡ b → least_by read items ≡ Some z → list_all is_none items ≡ false
some_valid read items z false e h = e
some_valid read items z true e h =
    let none = no_valid items e in
    let nothing : (let o : Option ℤ = None in o) ≡ Some z = ap (λ zs. find (λ y. list_all (λ x. int_le (read y) (read x)) zs) zs) (sym none) ∙ h in
    cc

not_both : (a b : Bool) → b ≡ false → (a && b) ≡ false
not_both true b e = e
not_both false b e = refl

as_dear : (first : Option (Shape × ℕ)) (f : Shape → Shape) (g : Shape → Shape → Shape) (choice : Option (Shape × ℕ)) → cheaper (cheaper first (wrapped f choice)) (combined g choice (Some (Primitive, 0))) ≡ cheaper first (wrapped f choice)
as_dear None f g None = refl
as_dear (Some a) f g None = refl
as_dear None f g (Some c) = grind (arith, nat_tests)
as_dear (Some a) f g (Some c) = grind (arith, nat_tests)

pub common_frames : (order : ItemOrder) (p : PrimitiveParts) (limits : Limits) (depth : ℕ) (first one : Option (Shape × ℕ)) (references : List ℤ) (z : ℤ) → least_by (reading order p.ptype) (items_of_primitive p) ≡ Some z → references ≡ chunk_references (reading order p.ptype) (items_of_primitive p) → common_reference references ≡ Some z
    → Gives (cheaper first (cheapest (encoded_bytes p) (over_one_reference order (packed_schemes limits depth)))) one → Gives (or_frames order p (packed_schemes limits depth) first) one
common_frames order p limits depth first one references z least are common given =
    let schemes = packed_schemes limits depth in
    let parts = subtract_reference p z in
    let child = cheapest (encoded_bytes parts.child) schemes in
    let some = not_both (nat_lt 0 (length p.slots)) (list_all is_none (items_of_primitive p)) (some_valid (reading order p.ptype) (items_of_primitive p) z (list_all is_none (items_of_primitive p)) refl least) in
    let of_one = one_list order p parts schemes (ap (subtract_min p) least) in
    let of_many = whole_list order p parts limits depth (common_encoded order p references z some are (sym common)) in
    gives _ _ (ap (λ c. cheaper (cheaper first c) (cheapest (encoded_bytes p) (over_chunk_references order schemes))) of_one
    ∙ (ap (cheaper (cheaper first (wrapped (FoR order) child))) of_many
    ∙ (as_dear first (FoR order) (FoRChunked order) child
    ∙ (ap (cheaper first) (sym of_one) ∙ ok_is _ _ given))))

-- where 0 is the least item and all references, no frame of reference is cheaper
pub zero_frames : (order : ItemOrder) (p : PrimitiveParts) (limits : Limits) (depth : ℕ) (s : Shape) (n : ℕ) → IsTrue (covers p.validity (length p.slots)) → IsTrue (list_all (fits p.ptype) p.slots) → HasZeroLeasts order p
    → CostsNoMore n (cheapest (encoded_bytes p) (packed_schemes limits depth)) → Gives (or_frames order p (packed_schemes limits depth) (Some (s, n))) (Some (s, n))
zero_frames order p limits depth s n covered fit zero most =
    common_frames order p limits depth (Some (s, n)) (Some (s, n)) (chunk_references (reading order p.ptype) (items_of_primitive p)) (pos 0) zero.0 refl zero.1
    (zero_choice order p limits depth s n (pos 0) covered fit refl (sym zero.0) most)
