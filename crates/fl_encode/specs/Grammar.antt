-- The grammar of the text of schemes.
use Rattle.std.specs.Prelude.{◌≡◌, ◌+◌, ◌-◌, ◌*◌, ◌<◌, ◌≤◌, ◌++◌, ◌&&◌, ◌⊎◌, ℕ, Bool, true, false, List, [], ◌∷◌, codes, length, nat_le, take, Result, Ok, Err}
use Rattle.std.specs.List.{list_all}
use Rattle.fl_encode.specs.declared.scheme.Packing.{Packing}
use Rattle.fl_encode.specs.declared.scheme.Packing.TheVariants.{BestWidth, BestWidths, Width}
use Rattle.fl_encode.specs.declared.scheme.Scheme.{Scheme}
use Rattle.fl_encode.specs.declared.text.SchemeError.{SchemeError}
use Rattle.fl_encode.specs.declared.text.SchemeError.TheVariants as errors
use Rattle.fl_encode.specs.Shapes.{BitPacked, Constant, Delta, FoR, FoRChunked, Plain, Primitive, RLE, Shape, is_plain, levels, max_levels, order_text, run_word}
use Rattle.fl_encode.specs.SchemeShapes.{shape}

-- a decimal digit
abbrev pub is_digit : ℕ → Bool
is_digit byte = nat_le 48 byte && nat_le byte 57

-- the number of these digits after those of another number
abbrev pub number_of : ℕ → List ℕ → ℕ
number_of before [] = before
number_of before (digit ∷ digits) = number_of (10 * before + (digit - 48)) digits

-- the text of a width: decimal digits, of which there is one, and the first ones may be zeros
pub record IsWidthText (width : ℕ) (text : List ℕ) : Type 0 where
  pub some : 0 < length text
  pub digits : list_all is_digit text ≡ true
  pub value : number_of 0 text ≡ width
  pub fits : width ≤ 255

-- the text of a packing: a word and, if a width is given, a colon and the width
abbrev pub IsPackingText : Packing → List ℕ → Type 0
IsPackingText BestWidth text = text ≡ codes "bitpacked"
IsPackingText (Width width) text = (digits : List ℕ) × IsWidthText width digits × (text ≡ codes "bitpacked:" ++ digits)
IsPackingText BestWidths text = text ≡ codes "blocked"

-- what follows a word with one child: nothing if the child is plain, or the child in parentheses
abbrev pub IsOneChild : Bool → (List ℕ → Type 0) → List ℕ → Type 0
IsOneChild plain Is text = ((plain ≡ true) × (text ≡ [])) ⊎ ((child : List ℕ) × Is child × (text ≡ codes "(" ++ (child ++ codes ")")))

-- the same of two children, with a comma between them
abbrev pub AreTwoChildren : Bool → (List ℕ → Type 0) → (List ℕ → Type 0) → List ℕ → Type 0
AreTwoChildren plain IsFirst IsSecond text =
    ((plain ≡ true) × (text ≡ [])) ⊎ ((first : List ℕ) × (second : List ℕ) × IsFirst first × IsSecond second × (text ≡ codes "(" ++ (first ++ (codes "," ++ (second ++ codes ")")))))

-- the same of three children
abbrev pub AreThreeChildren : Bool → (List ℕ → Type 0) → (List ℕ → Type 0) → (List ℕ → Type 0) → List ℕ → Type 0
AreThreeChildren plain IsFirst IsSecond IsThird text =
    ((plain ≡ true) × (text ≡ [])) ⊎ ((first : List ℕ) × (second : List ℕ) × (third : List ℕ) × IsFirst first × IsSecond second × IsThird third × (text ≡ codes "(" ++ (first ++ (codes "," ++ (second ++ (codes "," ++ (third ++ codes ")")))))))

-- this is a text of the scheme: a word, and after it the children; an underscore is a plain child
abbrev pub IsTextOf : Shape → List ℕ → Type 0
IsTextOf Plain text = text ≡ codes "_"
IsTextOf Primitive text = text ≡ codes "primitive"
IsTextOf Constant text = text ≡ codes "constant"
IsTextOf (BitPacked packing) text = IsPackingText packing text
IsTextOf (FoR order encoded) text = (children : List ℕ) × IsOneChild (is_plain encoded) (IsTextOf encoded) children × (text ≡ codes "for" ++ (order_text order ++ children))
IsTextOf (FoRChunked order encoded references) text = (children : List ℕ) × AreTwoChildren (is_plain encoded && is_plain references) (IsTextOf encoded) (IsTextOf references) children × (text ≡ codes "forc" ++ (order_text order ++ children))
IsTextOf (Delta bases deltas) text = (children : List ℕ) × AreTwoChildren (is_plain bases && is_plain deltas) (IsTextOf bases) (IsTextOf deltas) children × (text ≡ codes "delta" ++ children)
IsTextOf (RLE run_values values indices offsets) text = (children : List ℕ) × AreThreeChildren (is_plain values && (is_plain indices && is_plain offsets)) (IsTextOf values) (IsTextOf indices) (IsTextOf offsets) children × (text ≡ run_word run_values ++ children)

-- the text of a scheme, which is no plain child and has not too many levels
abbrev pub IsSchemeText : Shape → List ℕ → Type 0
IsSchemeText scheme text = IsTextOf scheme text × (is_plain scheme ≡ false) × (levels scheme ≤ max_levels)

-- some scheme has a text that begins so
abbrev pub BeginsScheme : List ℕ → Type 0
BeginsScheme text = (scheme : Shape) × (more : List ℕ) × IsSchemeText scheme (text ++ more)

-- the first wrong byte of a text that is no scheme's: the bytes before it begin some scheme's text, and with it they begin none; at the text's length its end is wrong
pub record IsFirstWrong (text : List ℕ) (position : ℕ) : Type 0 where
  pub none : (scheme : Shape) → ¬ IsSchemeText scheme text
  pub within : position ≤ length text
  pub before : BeginsScheme (take position text)
  pub wrong : position < length text → ¬ BeginsScheme (take (position + 1) text)

-- a call answers a scheme of which this is the text, or the position of the text's first wrong byte, or memory ran out
abbrev pub FollowsGrammar : List ℕ → Result Scheme SchemeError → Type 0
FollowsGrammar text (Ok scheme) = IsSchemeText (shape scheme) text
FollowsGrammar text (Err errors.OutOfMemory) = Unit {0}
FollowsGrammar text (Err (errors.WrongByte position)) = IsFirstWrong text position
