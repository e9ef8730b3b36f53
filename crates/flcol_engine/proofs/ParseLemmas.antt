-- Items that are read one by one into slots and a validity.
use Rattle.std.proofs.Common.{◌≡◌, ◌≢◌, ℕ, ℤ, pos, ◌<◌, ◌+◌, ◌-◌, take, drop, zero, suc, Bool, true, false, not, cond, ◌&&◌, List, [], ◌∷◌, ◌++◌, length, map, replicate, None, Some, Err, refl, sym, ap, ◌∙◌, arith, append_assoc}
use Rattle.std.specs.Prelude.{Option, option_map, ok_or, is_some, unwrap_or, slice_index_or, nat_lt, IsOkAnd}
use Rattle.std.specs.Char.{is_ascii_digit}
use Rattle.std.specs.Str.Parse.{digits_value}
use Rattle.std.specs.List.{list_all}
use Rattle.std.proofs.lemmas.Bool.{ne_eqb}
use Rattle.std.proofs.lemmas.Bool.Decides.{Decides-eqb}
use Rattle.std.proofs.lemmas.List.{map-append, length-drop, length-map, append-nil}
use Rattle.std.proofs.lemmas.List.Folds.{list_all-append}
use Rattle.fl_types.specs.declared.dtype.Nullability.{Nullability}
use Rattle.fl_types.specs.declared.dtype.Nullability.TheVariants.{NonNullable, Nullable}
use Rattle.fl_types.specs.declared.dtype.PType.{PType}
use Rattle.fl_types.specs.declared.validity.Validity.{Validity}
use Rattle.fl_types.specs.declared.validity.Validity.TheVariants as valid
use Rattle.fl_types.specs.Integers.{fits}
use Rattle.fl_types.specs.Types.{can_be_null}
use Rattle.fl_types.specs.Validities.{covers, full_validity}
use Rattle.fl_column.specs.Columns.{PrimitiveParts}
use Rattle.flcol_engine.specs.declared.fault.Fault.TheVariants as faults
use Rattle.flcol_engine.specs.Digits.{BeginsWithNumber}
use Rattle.flcol_engine.proofs.TextLemmas.{digit_range}
use Rattle.flcol_engine.specs.Text.{AreParts, BeginsWithItem, column_in_text, item_in_line, items_in_lines, lines_of, number_in_digits, primitive_of_column, validity_of_bits}

-- ---- bits that are all alike
-- bits that are all set
all_set : (bits : List Bool) → list_all (λ bit. bit) bits ≡ true → bits ≡ replicate (length bits) true
all_set [] h = refl
all_set (true ∷ bits) h = ap (λ bs. true ∷ bs) (all_set bits h)
all_set (false ∷ bits) h = cc

none_set : (bits : List Bool) → list_all not bits ≡ true → bits ≡ replicate (length bits) false
none_set [] h = refl
none_set (true ∷ bits) h = cc
none_set (false ∷ bits) h = ap (λ bs. false ∷ bs) (none_set bits h)

-- the tests of a validity of bits, by its form
valid_test : (p q : Bool) (bits : List Bool) → valid.AllValid ≡ cond p valid.AllValid (cond q valid.AllInvalid (valid.Array bits)) → p ≡ true
valid_test true q bits e = refl
valid_test false true bits e = cc
valid_test false false bits e = cc

invalid_test : (p q : Bool) (bits : List Bool) → valid.AllInvalid ≡ cond p valid.AllValid (cond q valid.AllInvalid (valid.Array bits)) → q ≡ true
invalid_test true q bits e = cc
invalid_test false true bits e = refl
invalid_test false false bits e = cc

mixed_test : (p q : Bool) (bits held : List Bool) → valid.Array held ≡ cond p valid.AllValid (cond q valid.AllInvalid (valid.Array bits)) → (p ≡ false) × (q ≡ false) × (held ≡ bits)
mixed_test true q bits held e = cc
mixed_test false true bits held e = cc
mixed_test false false bits held e = (refl, refl, cc)

-- ---- one more bit
-- where none may be null, bits say nothing
pub none_more : (n : Nullability) (bits : List Bool) (b : Bool) → valid.NonNullable ≡ validity_of_bits n bits → valid.NonNullable ≡ validity_of_bits n (bits ++ b ∷ [])
none_more NonNullable bits b e = refl
none_more Nullable bits b e = absurd (no_bits (list_all (λ bit. bit) bits) (list_all not bits) e)
  where
    no_bits : (p q : Bool) → valid.NonNullable ≡ cond p valid.AllValid (cond q valid.AllInvalid (valid.Array bits)) → ⊥
    no_bits true q e = cc
    no_bits false true e = cc
    no_bits false false e = cc

-- one more that is set, behind others that are all set
pub valid_more : (n : Nullability) (bits : List Bool) → valid.AllValid ≡ validity_of_bits n bits → valid.AllValid ≡ validity_of_bits n (bits ++ true ∷ [])
valid_more NonNullable bits e = e
valid_more Nullable bits e = let all = valid_test _ _ bits e in rw (list_all-append (λ bit. bit) bits (true ∷ []), all) refl

-- one more that is not set, behind others that are all not set
pub invalid_more : (n : Nullability) (bits : List Bool) → valid.AllInvalid ≡ validity_of_bits n bits → valid.AllInvalid ≡ validity_of_bits n (bits ++ false ∷ [])
invalid_more NonNullable bits e = e
invalid_more Nullable bits e = let none = invalid_test _ _ bits e in rw (list_all-append (λ bit. bit) bits (false ∷ []), list_all-append not bits (false ∷ []), none) (at_test (list_all (λ bit. bit) bits))
  where
    at_test : (p : Bool) → valid.AllInvalid ≡ cond (p && false) valid.AllValid valid.AllInvalid
    at_test true = refl
    at_test false = refl

-- one more behind others of which some are set and some are not
pub mixed_more : (n : Nullability) (bits held more : List Bool) (b : Bool) → valid.Array held ≡ validity_of_bits n bits → more ≡ held ++ b ∷ [] → valid.Array more ≡ validity_of_bits n (bits ++ b ∷ [])
mixed_more NonNullable bits held more b e added = cc
mixed_more Nullable bits held more b e added = let tests = mixed_test _ _ bits held e in
    rw (list_all-append (λ bit. bit) bits (b ∷ []), list_all-append not bits (b ∷ []), tests.0, tests.1, added, tests.2) refl

-- one more that is not set, behind others that are all set
pub first_null : (n : Nullability) (bits : List Bool) (len : ℕ) (v : Validity) (b : Bool) → valid.AllValid ≡ validity_of_bits n bits → length bits ≡ len → b ≡ false
    → v ≡ validity_of_bits Nullable (replicate len (not b) ++ b ∷ []) → v ≡ validity_of_bits n (bits ++ b ∷ [])
first_null NonNullable bits len v b e size off is = cc
first_null Nullable bits len v b e size off is = let all = all_set bits (valid_test _ _ bits e) in rw (all, off, size) (rw off at is)

-- one more that is set, behind others that are all not set
pub first_valid : (n : Nullability) (bits : List Bool) (len : ℕ) (v : Validity) (b : Bool) → valid.AllInvalid ≡ validity_of_bits n bits → length bits ≡ len → b ≡ true
    → v ≡ validity_of_bits Nullable (replicate len (not b) ++ b ∷ []) → v ≡ validity_of_bits n (bits ++ b ∷ [])
first_valid NonNullable bits len v b e size on is = cc
first_valid Nullable bits len v b e size on is = let all = none_set bits (invalid_test _ _ bits e) in rw (all, on, size) (rw on at is)

-- a list of one value at each index
pub alike : (bits : List Bool) (n : ℕ) (b : Bool) → length bits ≡ n → ((i : ℕ) → i < n → slice_index_or bits i false ≡ b) → bits ≡ replicate n b
alike [] zero b e each = refl
alike [] (suc n) b e each = absurd (omega arith)
alike (x ∷ bits) zero b e each = absurd (omega arith)
alike (x ∷ bits) (suc n) b e each = let here : x ≡ b = each 0 (omega arith) in rw here (ap (λ bs. b ∷ bs) (alike bits n b (omega arith) (λ i h. each (suc i) (omega arith))))

-- bits that are all alike but the last one
pub differing : (bits more : List Bool) (len : ℕ) (b : Bool) → len ≢ 0 → bits ≡ replicate len (not b) → more ≡ bits ++ b ∷ [] → valid.Array more ≡ validity_of_bits Nullable (replicate len (not b) ++ b ∷ [])
differing bits more zero b some all added = absurd (some refl)
differing bits more (suc n) true some all added = rw (added, all) (rw (list_all-append not (replicate n false) (true ∷ [])) (at_test (list_all not (replicate n false))))
  where
    at_test : (p : Bool) → valid.Array (false ∷ replicate n false ++ true ∷ []) ≡ cond (p && false) valid.AllInvalid (valid.Array (false ∷ replicate n false ++ true ∷ []))
    at_test true = refl
    at_test false = refl
differing bits more (suc n) false some all added = rw (added, all) (rw (list_all-append (λ bit. bit) (replicate n true) (false ∷ [])) (at_test (list_all (λ bit. bit) (replicate n true))))
  where
    at_test : (p : Bool) → valid.Array (true ∷ replicate n true ++ false ∷ []) ≡ cond (p && false) valid.AllValid (valid.Array (true ∷ replicate n true ++ false ∷ []))
    at_test true = refl
    at_test false = refl

-- ---- one more item
-- slots and a validity that each get one more
pub parts_more : {X : Type 0} (value : X → ℤ) (n : Nullability) (items : List (Option ℤ)) (slots more : List X) (old new : Validity) (x : X) (item : Option ℤ) (len : ℕ) (bit : Bool)
    → AreParts n items (map value slots) old → more ≡ slots ++ x ∷ [] → value x ≡ unwrap_or item (pos 0) → bit ≡ is_some item → len ≡ length slots
    → ((n : Nullability) (bits : List Bool) → length bits ≡ len → old ≡ validity_of_bits n bits → new ≡ validity_of_bits n (bits ++ bit ∷ []))
    → AreParts n (items ++ item ∷ []) (map value more) new
parts_more value n items slots more old new x item len bit parts added is same size grown =
    let long : length (map (λ i. is_some i) items) ≡ len = rw (length-map, size, ← length-map slots value, parts.integers, length-map) refl in
    record {
      integers = rw (added, map-append, map-append, is, parts.integers) refl;
      nulls = rw (map-append, ← same) (grown n (map (λ i. is_some i) items) long parts.nulls);
    }

-- ---- lines
-- the items so far, and then those
abbrev pub with_front : List (Option ℤ) → Option (List (Option ℤ)) → Option (List (Option ℤ))
with_front front items = option_map (λ xs. front ++ xs) items

-- slots and a validity are the parts of the items of a text's lines up to the rest
pub record IsParsed (ptype : PType) (n : Nullability) (slots : List ℤ) (validity : Validity) (rest text : List ℕ) : Type 0 where
  pub items : List (Option ℤ)
  pub parts : AreParts n items slots validity
  pub lines : with_front items (items_in_lines ptype n (lines_of rest)) ≡ items_in_lines ptype n (lines_of text)

-- nothing is read
pub nothing_parsed : (ptype : PType) (n : Nullability) (slots : List ℤ) (validity : Validity) (text : List ℕ) → slots ≡ [] → validity ≡ full_validity n → IsParsed ptype n slots validity text text
nothing_parsed ptype n slots validity text none full = record { items = []; parts = record { integers = none; nulls = full ∙ no_bits n }; lines = no_front (items_in_lines ptype n (lines_of text)) }
  where
    no_bits : (n : Nullability) → full_validity n ≡ validity_of_bits n []
    no_bits NonNullable = refl
    no_bits Nullable = refl

    no_front : (items : Option (List (Option ℤ))) → with_front [] items ≡ items
    no_front None = refl
    no_front (Some xs) = refl

-- one more line is read
pub item_parsed : (ptype : PType) (n : Nullability) (slots more : List ℤ) (old new : Validity) (rest next text : List ℕ) (item : Option ℤ) → IsParsed ptype n slots old rest text → BeginsWithItem ptype n rest item next
    → ((n : Nullability) (items : List (Option ℤ)) → AreParts n items slots old → AreParts n (items ++ item ∷ []) more new)
    → IsParsed ptype n more new next text
item_parsed ptype n slots more old new rest next text item parsed begins grown = record {
  items = parsed.items ++ item ∷ [];
  parts = grown n parsed.items parsed.parts;
  lines = sym (one_item (items_in_lines ptype n (lines_of next))) ∙ (ap (with_front parsed.items) (sym begins.first) ∙ parsed.lines);
}
  where
    one_item : (items : Option (List (Option ℤ))) → with_front parsed.items (option_map (λ xs. item ∷ xs) items) ≡ with_front (parsed.items ++ item ∷ []) items
    one_item None = refl
    one_item (Some xs) = ap Some (sym (append_assoc parsed.items (item ∷ []) xs))

-- a line that says no item
pub bad_line : (ptype : PType) (n : Nullability) (slots : List ℤ) (old : Validity) (rest text : List ℕ) → IsParsed ptype n slots old rest text
    → items_in_lines ptype n (lines_of rest) ≡ None → ok_or (column_in_text ptype n text) faults.BadColumn ≡ Err faults.BadColumn
bad_line ptype n slots old rest text parsed bad =
    let none : None ≡ items_in_lines ptype n (lines_of text) = sym (ap (with_front parsed.items) bad) ∙ parsed.lines in
    rw (← none) refl

-- all lines are read
pub all_parsed : (ptype : PType) (n : Nullability) (slots : List ℤ) (validity : Validity) (rest text : List ℕ) (array : PrimitiveParts) → IsParsed ptype n slots validity rest text
    → rest ≡ [] → array ≡ record { ptype = ptype; slots = slots; validity = validity } → IsOkAnd (ok_or (column_in_text ptype n text) faults.BadColumn) (λ c. array ≡ primitive_of_column c)
all_parsed ptype n slots validity rest text array parsed end is =
    let read : items_in_lines ptype n (lines_of text) ≡ Some parsed.items = sym parsed.lines ∙ rw end (ap Some (append-nil parsed.items)) in
    rw read (rw (is, parsed.parts.integers, parsed.parts.nulls) refl)

-- there is a bit for each slot
pub parts_covered : (n : Nullability) (items : List (Option ℤ)) (slots : List ℤ) (validity : Validity) → AreParts n items slots validity → covers validity (length slots) ≡ true
parts_covered n items slots validity parts = rw (parts.integers, parts.nulls) (covered n)
  where
    covered : (n : Nullability) → covers (validity_of_bits n (map (λ i. is_some i) items)) (length (map (λ item. unwrap_or item (pos 0)) items)) ≡ true
    covered NonNullable = refl
    covered Nullable = at_tests _ _
      where
        at_tests : (p q : Bool) → covers (cond p valid.AllValid (cond q valid.AllInvalid (valid.Array (map (λ i. is_some i) items)))) (length (map (λ item. unwrap_or item (pos 0)) items)) ≡ true
        at_tests true q = refl
        at_tests false true = refl
        at_tests false false = (Decides-eqb _ _).1 (rw (length-map, length-map) refl)

-- ---- the first line's item
-- a line that says an item
pub line_begins : (ptype : PType) (n : Nullability) (text line rest : List ℕ) (item : Option ℤ) → lines_of text ≡ line ∷ lines_of rest → length rest < length text → item_in_line ptype n line ≡ Some item → BeginsWithItem ptype n text item rest
line_begins ptype n text line rest item first less read = record { first = rw (first, read) refl; shorter = less }

-- a line that says none
pub line_refused : (ptype : PType) (n : Nullability) (text line rest : List ℕ) → lines_of text ≡ line ∷ lines_of rest → item_in_line ptype n line ≡ None → items_in_lines ptype n (lines_of text) ≡ None
line_refused ptype n text line rest first read = rw (first, read) refl

-- a number is neither a null nor has it a minus
number_item : (ptype : PType) (n : Nullability) (ds : List ℕ) (k : ℕ) → number_in_digits ds ≡ Some k → fits ptype (pos k) ≡ true → item_in_line ptype n ds ≡ Some (Some (pos k))
number_item ptype n [] k e fit = cc
number_item ptype n (c ∷ cs) k e fit = at_digit (is_ascii_digit c) refl
  where
    refused : is_ascii_digit c ≡ false → number_in_digits (c ∷ cs) ≡ None
    refused other = rw other (at_test (nat_lt 0 (suc (length cs))))
      where
        at_test : (b : Bool) → cond (b && false) (Some (digits_value 10 (c ∷ cs))) None ≡ None
        at_test true = refl
        at_test false = refl

    no_null : {A : Type 0} (b : Bool) (x y z : A) → y ≡ z → cond (b && false) x y ≡ z
    no_null true x y z e = e
    no_null false x y z e = e

    at_digit : (b : Bool) → is_ascii_digit c ≡ b → item_in_line ptype n (c ∷ cs) ≡ Some (Some (pos k))
    at_digit false other = absurd (let none : None ≡ Some k = sym (refused other) ∙ e in cc)
    at_digit true digit =
        let range = digit_range c digit in
        let no_minus : c ≢ 45 = λ same. omega (arith, range.0, same) in
        let no_letter : c ≢ 110 = λ same. omega (arith, range.1, same) in
        rw (ne_eqb c 110 no_letter) (no_null (can_be_null n) _ _ _ (rw (ne_eqb c 45 no_minus, e) (rw fit refl)))

-- a short number that is one of the type
pub number_begins : {X : Type 0} (value : X → ℤ) (ptype : PType) (n : Nullability) (text rest : List ℕ) (k count : ℕ) (x : X) → BeginsWithNumber text k count → Some (value x) ≡ cond (fits ptype (pos k)) (Some (pos k)) None → rest ≡ drop (count + 1) text → BeginsWithItem ptype n text (Some (value x)) rest
number_begins value ptype n text rest k count x begins typed is =
    let parts = at_test (fits ptype (pos k)) typed in
    let less = begins.within in
    let len : length rest ≡ length text - (count + 1) = ap length is ∙ length-drop (count + 1) text in
    line_begins ptype n text (take count text) rest (Some (value x)) (begins.line ∙ ap (λ r. take count text ∷ lines_of r) (sym is)) (omega (arith, less, len)) (number_item ptype n (take count text) k begins.number parts.0 ∙ ap (λ z. Some (Some z)) (sym parts.1))
  where
    at_test : (b : Bool) → Some (value x) ≡ cond b (Some (pos k)) None → (b ≡ true) × (value x ≡ pos k)
    at_test true e = (refl, cc)
    at_test false e = cc
