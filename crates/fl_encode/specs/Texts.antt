-- How the text of a scheme is read.
use Rattle.std.specs.Prelude.{◌≡◌, ◌+◌, ◌-◌, ◌*◌, ◌==◌, ◌&&◌, ℕ, Bool, true, false, List, [], ◌∷◌, length, zero, suc, Option, Some, None, Result, Ok, Err, codes, max, nat_le, is_some, if◌then◌else◌}
use Rattle.std.specs.Option.{option_map_or}
use Rattle.fl_codec.specs.declared.for_.ItemOrder.{ItemOrder}
use Rattle.fl_codec.specs.declared.for_.ItemOrder.TheVariants.{Natural, Signed}
use Rattle.fl_encode.specs.declared.scheme.Packing.{Packing}
use Rattle.fl_encode.specs.declared.scheme.Packing.TheVariants.{BestWidth, BestWidths, Width}
use Rattle.fl_encode.specs.declared.scheme.Scheme.{Scheme}
use Rattle.fl_encode.specs.declared.text.SchemeError.{SchemeError}
use Rattle.fl_encode.specs.declared.text.SchemeError.TheVariants as errors
use Rattle.fl_encode.specs.declared.text.reading.Head.{Head}
use Rattle.fl_encode.specs.declared.text.reading.Head.TheVariants as heads
use Rattle.fl_encode.specs.declared.text.reading.Stop.{Stop}
use Rattle.fl_encode.specs.declared.text.reading.Stop.TheVariants as stops
use Rattle.fl_encode.specs.Shapes.{BitPacked, Constant, Delta, FoR, FoRChunked, Dictionary, Plain, Primitive, RLE, Runs, Shape, max_levels}
use Rattle.fl_encode.specs.SchemeShapes.{shape}

-- ---- readers: each returns what it read and the bytes after it, or the number of bytes from the first wrong one on
-- what is read next, where something was read
abbrev pub after : {A B : Type 0} → Result A ℕ → (A → Result B ℕ) → Result B ℕ
after (Ok x) next = next x
after (Err left) next = Err left

-- what follows a byte, if the text begins with it
abbrev pub tail_behind : ℕ → List ℕ → Option (List ℕ)
tail_behind byte [] = None
tail_behind byte (x ∷ rest) = if x == byte then Some rest else None

-- what follows a word, if the text begins with it
abbrev pub rest_behind : List ℕ → List ℕ → Option (List ℕ)
rest_behind [] text = Some text
rest_behind (w ∷ word) [] = None
rest_behind (w ∷ word) (x ∷ text) = if x == w then rest_behind word text else None

-- how many bytes a word and the text begin with alike
abbrev pub common : List ℕ → List ℕ → ℕ
common [] text = 0
common (w ∷ word) [] = 0
common (w ∷ word) (x ∷ text) = if x == w then common word text + 1 else 0

-- this byte has to come next
abbrev pub expected : ℕ → List ℕ → Result (List ℕ) ℕ
expected byte text = option_map_or (λ rest. Ok rest) (tail_behind byte text) (Err (length text))

-- ---- words
-- a number goes on with a digit, as far as it is at most 255
abbrev pub goes_on : ℕ → ℕ → Bool
goes_on number byte = (nat_le 48 byte && nat_le byte 57) && nat_le (10 * number + (byte - 48)) 255

-- a number with the digits that it goes on with, and what follows them
abbrev pub digits_behind : ℕ → List ℕ → ℕ × List ℕ
digits_behind number [] = (number, [])
digits_behind number (x ∷ rest) = if goes_on number x then digits_behind (10 * number + (x - 48)) rest else (number, x ∷ rest)

-- a width has a digit
abbrev pub width_in : List ℕ → Result (ℕ × List ℕ) ℕ
width_in [] = Err 0
width_in (x ∷ rest) = if goes_on 0 x then Ok (digits_behind (x - 48) rest) else Err (length (x ∷ rest))

-- the packing after its word: a width if there is a colon
abbrev pub packing_behind : List ℕ → Result (Packing × List ℕ) ℕ
packing_behind text = option_map_or (λ digits. after (width_in digits) (λ w. Ok (Width w.0, w.1))) (tail_behind 58 text) (Ok (BestWidth, text))

-- how many bytes the text begins with as some word does
abbrev pub furthest : List ℕ → ℕ
furthest text =
    max (max (max (common (codes "primitive") text) (common (codes "constant") text)) (max (common (codes "bitpacked") text) (common (codes "blocked") text)))
    (max (max (common (codes "forcw") text) (common (codes "forw") text)) (max (max (common (codes "delta") text) (common (codes "dict") text)) (common (codes "rle") text)))

-- the order of references, from where the word for a frame of reference may end in "w"
abbrev pub order_in : List ℕ → ItemOrder × List ℕ
order_in text = option_map_or (λ rest. (Signed, rest)) (tail_behind 119 text) (Natural, text)

-- the word for a frame of reference, from what follows its "for"
abbrev pub frame_in : List ℕ → Head × List ℕ
frame_in text = option_map_or (λ rest. (heads.FoRChunked (order_in rest).0, (order_in rest).1)) (tail_behind 99 text) (heads.FoR (order_in text).0, (order_in text).1)

-- the word for an encoding that has children
abbrev pub nested_head_in : List ℕ → Result (Head × List ℕ) ℕ
nested_head_in text =
    option_map_or (λ rest. Ok (frame_in rest)) (rest_behind (codes "for") text) (
    option_map_or (λ rest. Ok (heads.Delta, rest)) (rest_behind (codes "delta") text) (
    option_map_or (λ rest. Ok (heads.Dict, rest)) (rest_behind (codes "dict") text) (
    option_map_or (λ rest. Ok (heads.RLE, rest)) (rest_behind (codes "rle") text) (Err (length text - furthest text)))))

-- the word for an encoding
abbrev pub head_in : List ℕ → Result (Head × List ℕ) ℕ
head_in text =
    option_map_or (λ rest. Ok (heads.Primitive, rest)) (rest_behind (codes "primitive") text) (
    option_map_or (λ rest. Ok (heads.Constant, rest)) (rest_behind (codes "constant") text) (
    option_map_or (λ rest. after (packing_behind rest) (λ p. Ok (heads.BitPacked p.0, p.1))) (rest_behind (codes "bitpacked") text) (
    option_map_or (λ rest. Ok (heads.BitPacked BestWidths, rest)) (rest_behind (codes "blocked") text) (nested_head_in text))))

-- ---- schemes
-- a child: nothing but an underscore, or a scheme
abbrev pub child_by : (List ℕ → Result (Shape × List ℕ) ℕ) → List ℕ → Result (Shape × List ℕ) ℕ
child_by read text = option_map_or (λ rest. Ok (Plain, rest)) (tail_behind 95 text) (read text)

-- the one child in parentheses, or none
abbrev pub one_by : (List ℕ → Result (Shape × List ℕ) ℕ) → List ℕ → Result (Shape × List ℕ) ℕ
one_by read text = option_map_or (λ inner. after (child_by read inner) (λ a. after (expected 41 a.1) (λ rest. Ok (a.0, rest)))) (tail_behind 40 text) (Ok (Plain, text))

-- the two children in parentheses, or none
abbrev pub two_by : (List ℕ → Result (Shape × List ℕ) ℕ) → List ℕ → Result (Shape × Shape × List ℕ) ℕ
two_by read text =
    option_map_or (λ inner.
    after (child_by read inner) (λ a. after (expected 44 a.1) (λ more. after (child_by read more) (λ b. after (expected 41 b.1) (λ rest. Ok (a.0, b.0, rest)))))) (tail_behind 40 text) (Ok (Plain, Plain, text))

-- the three children in parentheses, or none
abbrev pub three_by : (List ℕ → Result (Shape × List ℕ) ℕ) → List ℕ → Result (Shape × Shape × Shape × List ℕ) ℕ
three_by read text =
    option_map_or (λ inner.
    after (child_by read inner) (λ a. after (expected 44 a.1) (λ more. after (child_by read more) (λ b. after (expected 44 b.1) (λ last. after (child_by read last) (λ c. after (expected 41 c.1) (λ rest. Ok (a.0, b.0, c.0, rest)))))))) (tail_behind 40 text) (Ok (Plain, Plain, Plain, text))

-- the scheme of an encoding's word and of the children after it
abbrev pub scheme_by : (List ℕ → Result (Shape × List ℕ) ℕ) → Head → List ℕ → Result (Shape × List ℕ) ℕ
scheme_by read heads.Primitive text = Ok (Primitive, text)
scheme_by read heads.Constant text = Ok (Constant, text)
scheme_by read (heads.BitPacked packing) text = Ok (BitPacked packing, text)
scheme_by read (heads.FoR order) text = after (one_by read text) (λ a. Ok (FoR order a.0, a.1))
scheme_by read (heads.FoRChunked order) text = after (two_by read text) (λ a. Ok (FoRChunked order a.0 a.1, a.2))
scheme_by read heads.Delta text = after (two_by read text) (λ a. Ok (Delta a.0 a.1, a.2))
scheme_by read heads.RLE text = after (three_by read text) (λ a. Ok (RLE Runs a.0 a.1 a.2, a.3))
scheme_by read heads.Dict text = after (three_by read text) (λ a. Ok (RLE Dictionary a.0 a.1 a.2, a.3))

-- a scheme of at most so many levels
abbrev pub scheme_in : ℕ → List ℕ → Result (Shape × List ℕ) ℕ
scheme_in zero text = Err (length text)
scheme_in (suc depth) text = after (head_in text) (λ h. scheme_by (scheme_in depth) h.0 h.1)

-- nothing may follow it
abbrev pub whole : Shape × List ℕ → Result Shape ℕ
whole (scheme, []) = Ok scheme
whole (scheme, x ∷ rest) = Err (length (x ∷ rest))

-- a position in a text of this length, for how many bytes there are from there on
abbrev pub positioned : ℕ → Result Shape ℕ → Result Shape ℕ
positioned len (Ok scheme) = Ok scheme
positioned len (Err left) = Err (len - left)

-- the scheme of a text, or the position of the text's first wrong byte
abbrev pub scheme_of_text : List ℕ → Result Shape ℕ
scheme_of_text text = positioned (length text) (after (scheme_in max_levels text) whole)

-- ---- answers
-- a call answers what is read, seen by view, or how many bytes there are from the first wrong one on, or memory ran out
abbrev pub Finds : {X Y : Type 0} → (X → Y) → Result X Stop → Result Y ℕ → Type 0
Finds view (Ok x) read = read ≡ Ok (view x)
Finds view (Err stops.OutOfMemory) read = Unit {0}
Finds view (Err (stops.Left left)) read = read ≡ Err left

-- children follow the word for an encoding
abbrev pub children_follow : Result (Head × List ℕ) ℕ → Bool
children_follow (Ok head) = is_some (tail_behind 40 head.1)
children_follow (Err left) = false

-- the text begins with the word for an encoding and, in parentheses, its children: before that no memory is asked for
abbrev pub says_children : List ℕ → Bool
says_children text = children_follow (head_in text)

-- memory runs out only if this is true
abbrev pub RunsOutIf : {X : Type 0} → Bool → Result X Stop → Type 0
RunsOutIf asked (Ok x) = Unit {0}
RunsOutIf asked (Err stops.OutOfMemory) = asked ≡ true
RunsOutIf asked (Err (stops.Left left)) = Unit {0}

-- a call answers the scheme that is read, or the position of the first wrong byte, or memory ran out, which it asks for children alone
abbrev pub IsParsed : Result Scheme SchemeError → Result Shape ℕ → Type 0
IsParsed (Ok scheme) read = read ≡ Ok (shape scheme)
IsParsed (Err errors.OutOfMemory) read = Unit {0}
IsParsed (Err (errors.WrongByte position)) read = read ≡ Err position

-- ---- what is printed
-- each width is one that a scheme can have
abbrev pub has_widths : Shape → Bool
has_widths Plain = true
has_widths Primitive = true
has_widths Constant = true
has_widths (BitPacked BestWidth) = true
has_widths (BitPacked (Width width)) = nat_le width 255
has_widths (BitPacked BestWidths) = true
has_widths (FoR order encoded) = has_widths encoded
has_widths (FoRChunked order encoded references) = has_widths encoded && has_widths references
has_widths (Delta bases deltas) = has_widths bases && has_widths deltas
has_widths (RLE run_values values indices offsets) = has_widths values && (has_widths indices && has_widths offsets)
