-- Words: types, encodings, operations and queries.
use Rattle.std.specs.Prelude.{◌≡◌, ◌&&◌, ◌||◌, ◌==◌, ◌-◌, ◌^◌, ℕ, ℤ, pos, Bool, true, false, List, [], ◌∷◌, map, length, take, codes, bytes_eq, Option, Some, None, option_map, option_and_then, is_some, nat_lt, unsigned_abs, unwrap_or, slice_index, slice_index_or, if◌then◌else◌}
use Rattle.std.specs.List.{list_all}
use Rattle.std.specs.Option.{option_map_or}
use Rattle.fl_types.specs.declared.dtype.DType.{DType}
use Rattle.fl_types.specs.declared.dtype.DType.TheVariants.{Primitive}
use Rattle.fl_types.specs.declared.dtype.Nullability.{Nullability}
use Rattle.fl_types.specs.declared.dtype.Nullability.TheVariants.{NonNullable, Nullable}
use Rattle.fl_types.specs.declared.dtype.PType.{PType}
use Rattle.fl_types.specs.declared.dtype.PType.TheVariants.{U8, U16, U32, U64, I8, I16, I32, I64}
use Rattle.fl_types.specs.declared.mask.Mask.{Mask}
use Rattle.fl_types.specs.declared.mask.Mask.TheVariants.{Values}
use Rattle.fl_types.specs.declared.query.BetweenOptions.{BetweenOptions}
use Rattle.fl_types.specs.declared.query.CompareOperator.{CompareOperator}
use Rattle.fl_types.specs.declared.query.CompareOperator.TheVariants.{Eq, NotEq, Gt, Gte, Lt, Lte}
use Rattle.fl_types.specs.declared.query.StrictComparison.{StrictComparison}
use Rattle.fl_types.specs.declared.query.StrictComparison.TheVariants.{NonStrict, Strict}
use Rattle.fl_column.specs.Columns.{PrimitiveParts, non_nullable, primitive_of_options}
use Rattle.fl_array.specs.Trees as trees
use Rattle.fl_ops.specs.Operations.{Cast, Filter, Slice, Step, Take, TakeRanges}
use Rattle.fl_encode.specs.declared.scheme.Packing.{Packing}
use Rattle.fl_encode.specs.declared.scheme.Packing.TheVariants.{BestWidth, BestWidths, Width}
use Rattle.flcol_engine.specs.declared.commands.Encoding.{Encoding}
use Rattle.flcol_engine.specs.declared.commands.Encoding.TheVariants as encodings
use Rattle.flcol_engine.specs.declared.commands.ColumnQuery.{ColumnQuery}
use Rattle.flcol_engine.specs.declared.commands.ColumnQuery.TheVariants as asked
use Rattle.flcol_engine.specs.declared.commands.Query.{Query}
use Rattle.flcol_engine.specs.declared.commands.Query.TheVariants as queries
use Rattle.flcol_engine.specs.Text.{integer_in_text, number_up_to, on_first_line}

-- ---- parts of words
-- what stands before the first separator and what stands behind it, where there is one
abbrev pub halves_at : ℕ → List ℕ → Option (List ℕ × List ℕ)
halves_at separator [] = None
halves_at separator (b ∷ bs) = if b == separator then Some ([], bs) else option_map (λ h. (b ∷ h.0, h.1)) (halves_at separator bs)

-- the parts between separators
abbrev pub parts_at : ℕ → List ℕ → List (List ℕ)
parts_at separator [] = [] ∷ []
parts_at separator (b ∷ bs) = if b == separator then [] ∷ parts_at separator bs else on_first_line b (parts_at separator bs)

-- what each text of a list says, where each says something
abbrev pub each_says : {A : Type 0} → (List ℕ → Option A) → List (List ℕ) → Option (List A)
each_says read [] = Some []
each_says read (text ∷ texts) = option_and_then (λ x. option_map (λ xs. x ∷ xs) (each_says read texts)) (read text)

-- what each part between commas says; no text is an empty list
abbrev pub list_in_text : {A : Type 0} → (List ℕ → Option A) → List ℕ → Option (List A)
list_in_text read [] = Some []
list_in_text read (b ∷ bs) = each_says read (parts_at 44 (b ∷ bs))

-- what two texts say together, where both say something
abbrev pub both : {A B C : Type 0} → (A → B → C) → Option A → Option B → Option C
both join first second = option_and_then (λ x. option_map (join x) second) first

-- a number of 64 bits
abbrev pub number_in_word : List ℕ → Option ℕ
number_in_word digits = number_up_to (2 ^ 64 - 1) digits

-- ---- types
-- the integer type that a word names
abbrev pub ptype_in_word : List ℕ → Option PType
ptype_in_word w =
    if bytes_eq w (codes "u8") then Some U8 else
    if bytes_eq w (codes "u16") then Some U16 else
    if bytes_eq w (codes "u32") then Some U32 else
    if bytes_eq w (codes "u64") then Some U64 else
    if bytes_eq w (codes "i8") then Some I8 else
    if bytes_eq w (codes "i16") then Some I16 else
    if bytes_eq w (codes "i32") then Some I32 else
    if bytes_eq w (codes "i64") then Some I64 else None

-- the type of a text column that a word names: an integer type, and a question mark behind it where nulls may stand
abbrev pub column_type_in_word : List ℕ → Option (PType × Nullability)
column_type_in_word w =
    if slice_index w (length w - 1) == 63
    then option_map (λ ptype. (ptype, Nullable)) (ptype_in_word (take (length w - 1) w))
    else option_map (λ ptype. (ptype, NonNullable)) (ptype_in_word w)

-- the width that a word says
abbrev pub width_in_word : List ℕ → Option ℕ
width_in_word w = number_up_to 255 w

-- ---- encodings
-- the packing that a word names, with its width behind a colon where one is given
abbrev pub packing_in_word : List ℕ → Option Packing
packing_in_word w =
    if bytes_eq w (codes "bitpacked") then Some BestWidth else
    if bytes_eq w (codes "blocked") then Some BestWidths else
    option_and_then (λ h. if bytes_eq h.0 (codes "bitpacked") then option_map (λ width. Width width) (width_in_word h.1) else None) (halves_at 58 w)

-- the encoding with a child that a word names, and how the child is packed
abbrev pub nested_encoding : List ℕ → Option Packing → Option Encoding
nested_encoding w child =
    if bytes_eq w (codes "for") then Some (encodings.FoR child) else
    if bytes_eq w (codes "forc") then Some (encodings.ChunkedFoR child) else
    if bytes_eq w (codes "delta") then Some (encodings.Delta child) else
    if bytes_eq w (codes "rle") then Some (encodings.RLE child) else None

-- the encoding that a word without a plus sign names
abbrev pub single_encoding : List ℕ → Option Encoding
single_encoding w =
    if bytes_eq w (codes "primitive") then Some encodings.Primitive else
    option_map_or (λ packing. Some (encodings.BitPacked packing)) (packing_in_word w) (nested_encoding w None)

-- the encoding that a word names; a plus sign stands before the packing of the child
abbrev pub encoding_in_word : List ℕ → Option Encoding
encoding_in_word w = option_map_or (λ h. option_and_then (λ packing. nested_encoding h.0 (Some packing)) (packing_in_word h.1)) (halves_at 43 w) (single_encoding w)

-- ---- operations
-- an index, or null
abbrev pub index_in_text : List ℕ → Option (Option ℕ)
index_in_text text = if bytes_eq text (codes "null") then Some None else option_map (λ n. Some n) (number_in_word text)

-- the plain array of indices, where nulls may stand if one is there
abbrev pub indices_array : List (Option ℕ) → PrimitiveParts
indices_array indices = if list_all is_some indices then non_nullable U64 (map (λ index. pos (unwrap_or index 0)) indices) else primitive_of_options U64 (map (option_map pos) indices)

-- two numbers, with a separator between them
abbrev pub pair_in_text : ℕ → List ℕ → Option (ℕ × ℕ)
pair_in_text separator text = option_and_then (λ h. both (λ a b. (a, b)) (number_in_word h.0) (number_in_word h.1)) (halves_at separator text)

-- the range that a text says: a start, a plus sign and a length
abbrev pub range_in_text : List ℕ → Option (ℕ × ℕ)
range_in_text text = pair_in_text 43 text

-- a digit that is a bit
abbrev pub is_bit : ℕ → Bool
is_bit digit = digit == 48 || digit == 49

-- bits as digits
abbrev pub bits_in_text : List ℕ → Option (List Bool)
bits_in_text digits = if list_all is_bit digits then Some (map (λ digit. digit == 49) digits) else None

-- the operation that a name and the text behind it say
abbrev pub named_operation : List ℕ → List ℕ → Option Step
named_operation name text =
    if bytes_eq name (codes "slice") then option_map (λ range. Slice range.0 range.1) (pair_in_text 58 text) else
    if bytes_eq name (codes "take") then option_map (λ indices. Take (trees.Primitive (indices_array indices))) (list_in_text index_in_text text) else
    if bytes_eq name (codes "ranges") then option_map (λ ranges. TakeRanges ranges) (list_in_text range_in_text text) else
    if bytes_eq name (codes "filter") then option_map (λ bits. Filter (Values bits)) (bits_in_text text) else
    if bytes_eq name (codes "cast") then option_map (λ target. Cast (Primitive target.0 target.1)) (column_type_in_word text) else None

-- the operation that a word says: a name, a colon and a text
abbrev pub operation_in_word : List ℕ → Option Step
operation_in_word w = option_and_then (λ h. named_operation h.0 h.1) (halves_at 58 w)

-- ---- queries
-- how items are compared by a name
abbrev pub operator_in_word : List ℕ → Option CompareOperator
operator_in_word w =
    if bytes_eq w (codes "eq") then Some Eq else
    if bytes_eq w (codes "ne") then Some NotEq else
    if bytes_eq w (codes "gt") then Some Gt else
    if bytes_eq w (codes "ge") then Some Gte else
    if bytes_eq w (codes "lt") then Some Lt else
    if bytes_eq w (codes "le") then Some Lte else None

-- an integer where it lies between -2^64 and 2^64, as those of every type do
abbrev pub within_64_bits : ℤ → Option ℤ
within_64_bits z = if nat_lt (unsigned_abs z) (2 ^ 64) then Some z else None

-- a constant that items are compared with: an integer of any size, kept where it may be one of a type
abbrev pub constant_in_text : List ℕ → Option (Option ℤ)
constant_in_text text = option_map within_64_bits (integer_in_text text)

-- whether a bound is left out: l, or not: e
abbrev pub bound_in_letter : ℕ → Option StrictComparison
bound_in_letter letter = if letter == 108 then Some Strict else if letter == 101 then Some NonStrict else None

-- how the lower and the upper bound are meant, a letter each
abbrev pub mode_in_text : List ℕ → Option BetweenOptions
mode_in_text (lower ∷ upper ∷ []) = both (λ l u. record { lower_strict = l; upper_strict = u }) (bound_in_letter lower) (bound_in_letter upper)
mode_in_text other = None

-- the two constants that a text says, with a colon between them
abbrev pub bounds_in_text : List ℕ → Option (Option ℤ × Option ℤ)
bounds_in_text text = option_and_then (λ h. both (λ lower upper. (lower, upper)) (constant_in_text h.0) (constant_in_text h.1)) (halves_at 58 text)

-- the range test that a text says: how the bounds are meant, a colon, and the bounds
abbrev pub between_in_text : List ℕ → Option ColumnQuery
between_in_text text = option_and_then (λ h. both (λ options bounds. asked.Between options bounds.0 bounds.1) (mode_in_text h.0) (bounds_in_text h.1)) (halves_at 58 text)

-- the query that is a name alone
abbrev pub plain_query : List ℕ → Option Query
plain_query w =
    if bytes_eq w (codes "decode") then Some (queries.Column asked.Decode) else
    if bytes_eq w (codes "constant") then Some (queries.Column asked.IsConstant) else
    if bytes_eq w (codes "sorted") then Some (queries.Column (asked.IsSorted false)) else
    if bytes_eq w (codes "strict") then Some (queries.Column (asked.IsSorted true)) else
    if bytes_eq w (codes "id") then Some queries.Id else
    if bytes_eq w (codes "store") then Some queries.Store else
    if bytes_eq w (codes "migrate") then Some queries.Migrate else None

-- the query that a name and the text behind it say
abbrev pub named_query : List ℕ → List ℕ → Option ColumnQuery
named_query name text =
    if bytes_eq name (codes "at") then option_map (λ i. asked.At i) (number_in_word text) else
    if bytes_eq name (codes "between") then between_in_text text else
    both (λ operator constant. asked.Compare operator constant) (operator_in_word name) (constant_in_text text)

-- the query that a word says: a name, and where it needs more a colon and a text
abbrev pub query_in_word : List ℕ → Option Query
query_in_word w = option_map_or (λ h. option_map (λ query. queries.Column query) (named_query h.0 h.1)) (halves_at 58 w) (plain_query w)

-- ---- runs
-- operations, and the query to their result
pub record RunParts : Type 0 where
  pub operations : List Step
  pub query : Query

-- what the words of a run say: the last is the query, and those before it are the operations
abbrev pub run_in_words : List (List ℕ) → Option RunParts
run_in_words words =
    both (λ operations query. record { operations = operations; query = query })
    (each_says operation_in_word (take (length words - 1) words)) (query_in_word (slice_index_or words (length words - 1) []))
