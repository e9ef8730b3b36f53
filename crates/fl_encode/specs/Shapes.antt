-- The shapes of schemes, and their text.
use Rattle.std.specs.Prelude.{◌+◌, ◌/◌, ◌%◌, ◌++◌, ◌&&◌, ℕ, Bool, true, false, List, [], ◌∷◌, codes, max, nat_lt, if◌then◌else◌}
use Rattle.fl_codec.specs.declared.for_.ItemOrder.{ItemOrder}
use Rattle.fl_codec.specs.declared.for_.ItemOrder.TheVariants.{Natural, Signed}
use Rattle.fl_encode.specs.declared.scheme.Packing.{Packing}
use Rattle.fl_encode.specs.declared.scheme.Packing.TheVariants.{BestWidth, BestWidths, Width}

-- which run values a chunk has: each item that differs from the one before it, or the distinct items in rising order
pub data RunValues : Type 0 where
  Runs : RunValues
  Dictionary : RunValues

-- a scheme by its encoding and its children, in the order of their slots; a child is plain, or has a scheme
pub data Shape : Type 0 where
  Plain : Shape
  Primitive : Shape
  Constant : Shape
  BitPacked : Packing → Shape
  FoR : ItemOrder → Shape → Shape
  FoRChunked : ItemOrder → Shape → Shape → Shape
  Delta : Shape → Shape → Shape
  RLE : RunValues → Shape → Shape → Shape → Shape

-- ---- levels
-- how many encodings stand in one another; a plain child is none
abbrev pub levels : Shape → ℕ
levels Plain = 0
levels Primitive = 1
levels Constant = 1
levels (BitPacked packing) = 1
levels (FoR order encoded) = levels encoded + 1
levels (FoRChunked order encoded references) = max (levels encoded) (levels references) + 1
levels (Delta bases deltas) = max (levels bases) (levels deltas) + 1
levels (RLE run_values values indices offsets) = max (levels values) (max (levels indices) (levels offsets)) + 1

-- how many at most where a text says them: a container holds 16 arrays in one another, and plain integers with their nulls may stand in the last encoding
abbrev pub max_levels : ℕ
max_levels = 14

-- ---- text
-- the digits of a width
abbrev pub width_text : ℕ → List ℕ
width_text width =
    if nat_lt width 10 then (48 + width) ∷ []
    else if nat_lt width 100 then (48 + width / 10) ∷ (48 + width % 10) ∷ []
    else (48 + width / 100) ∷ (48 + width / 10 % 10) ∷ (48 + width % 10) ∷ []

-- the word for a packing and, if a width is given, a colon and the width
abbrev pub packing_text : Packing → List ℕ
packing_text BestWidth = codes "bitpacked"
packing_text (Width width) = codes "bitpacked:" ++ width_text width
packing_text BestWidths = codes "blocked"

-- what the word for a frame of reference ends in, by the order of the references
abbrev pub order_text : ItemOrder → List ℕ
order_text Natural = []
order_text Signed = codes "w"

-- the word for run-length encoding, by the run values
abbrev pub run_word : RunValues → List ℕ
run_word Runs = codes "rle"
run_word Dictionary = codes "dict"

-- the child is plain
abbrev pub is_plain : Shape → Bool
is_plain Plain = true
is_plain other = false

-- the children's text in parentheses, nothing where all are plain
abbrev pub in_parentheses : Bool → List ℕ → List ℕ
in_parentheses true text = []
in_parentheses false text = codes "(" ++ text ++ codes ")"

-- the text of a scheme: the word for the encoding, and in parentheses its children, unless all of them are plain
abbrev pub scheme_text : Shape → List ℕ
scheme_text Plain = codes "_"
scheme_text Primitive = codes "primitive"
scheme_text Constant = codes "constant"
scheme_text (BitPacked packing) = packing_text packing
scheme_text (FoR order encoded) = codes "for" ++ (order_text order ++ in_parentheses (is_plain encoded) (scheme_text encoded))
scheme_text (FoRChunked order encoded references) = codes "forc" ++ (order_text order ++ in_parentheses (is_plain encoded && is_plain references) (scheme_text encoded ++ (codes "," ++ scheme_text references)))
scheme_text (Delta bases deltas) = codes "delta" ++ in_parentheses (is_plain bases && is_plain deltas) (scheme_text bases ++ (codes "," ++ scheme_text deltas))
scheme_text (RLE run_values values indices offsets) = run_word run_values ++ in_parentheses (is_plain values && (is_plain indices && is_plain offsets)) (scheme_text values ++ (codes "," ++ (scheme_text indices ++ (codes "," ++ scheme_text offsets))))
