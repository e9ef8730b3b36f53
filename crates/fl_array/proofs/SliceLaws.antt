-- The tree of a slice, by the parts that it keeps.
use Rattle.std.proofs.Common.{true, ◌≡◌, ℕ, ◌+◌, ◌-◌, refl, ap, sym, ◌∙◌}
use Rattle.std.specs.Prelude.{is_none, slice_index}
use Rattle.fl_column.specs.Columns.{numbers_of}
use Rattle.fl_bitpacking.specs.Columns.{BitPackedParts}
use Rattle.fl_bitpacking.specs.SlicedParts.{HasEnds, end_block, first_block, sliced_parts}
use Rattle.fl_array.specs.BitPackedArrays.{BitPackedArrayParts, BitWidthsParts, BlockBoundaries, bitpacked_tree, tree_of_bitpacked}
use Rattle.fl_array.specs.Kinds.{IsBitPackedBlocked, IsDelta, IsFoR, IsFoRChunked, IsRLE, kind}
use Rattle.fl_array.specs.Reads.{constant_in}
use Rattle.fl_array.specs.Slices.{slice_tree}
use Rattle.fl_array.specs.Trees.{Tree, BitPackedBlocked, BitPackedGlobal, Constant, Delta, FoRChunked, FoRGlobal, Primitive, RLE, column}
use Rattle.fl_array.specs.Trees as tree

-- equal parts make equal wholes
pub two_parts : {A B : Type 0} (whole : A → A → B) {a b c d : A} → a ≡ b → c ≡ d → whole a c ≡ whole b d
two_parts whole {a} {b} {c} {d} e f = ap (λ x. whole x c) e ∙ ap (whole b) f

pub three_parts : {A B : Type 0} (whole : A → A → A → B) {a b c d x y : A} → a ≡ b → c ≡ d → x ≡ y → whole a c x ≡ whole b d y
three_parts whole {a} {b} {c} {d} {x} {y} e f g = ap (λ z. whole z c x) e ∙ ap (λ z. whole b z x) f ∙ ap (whole b d) g

-- ---- kinds
-- a slice has the kind of its array
pub kind_of_slice : (t : Tree) (start end : ℕ) → kind (slice_tree start end t) ≡ kind t
kind_of_slice (Primitive p) start end = refl
kind_of_slice (Constant c) start end = refl
kind_of_slice (tree.Bool b) start end = refl
kind_of_slice (BitPackedGlobal parts width) start end = refl
kind_of_slice (BitPackedBlocked parts boundaries) start end = ap (λ k. IsBitPackedBlocked k) (kind_of_slice boundaries _ _)
kind_of_slice (FoRGlobal encoded reference) start end = ap (λ k. IsFoR k) (kind_of_slice encoded _ _)
kind_of_slice (FoRChunked encoded references offset) start end = two_parts IsFoRChunked (kind_of_slice encoded _ _) (kind_of_slice references _ _)
kind_of_slice (Delta bases deltas parts) start end = two_parts IsDelta (kind_of_slice bases _ _) (kind_of_slice deltas _ _)
kind_of_slice (RLE values indices offsets window) start end = three_parts IsRLE (kind_of_slice values _ _) (kind_of_slice indices _ _) (kind_of_slice offsets _ _)

-- ---- bit-packed arrays
pub blocked_bitpacked : (a : BitPackedArrayParts) (boundaries part : Tree) (start end first from to : ℕ) (parts : BitPackedParts) → BlockBoundaries boundaries ≡ a.widths
    → HasEnds (column boundaries) a.parts.offset start end first from to → sliced_parts (from - first) (to - first) start end a.parts ≡ parts
    → part ≡ slice_tree (first_block a.parts.offset start) (end_block a.parts.offset end + 1) boundaries
    → slice_tree start end (tree_of_bitpacked a) ≡ BitPackedBlocked parts part
blocked_bitpacked a boundaries part start end first from to parts same ends e f =
    let starts = numbers_of (column boundaries) in
    let low = ends.from_is in
    let high = ends.to_is in
    let least = ends.first_is in
    let kept : sliced_parts (slice_index starts (first_block a.parts.offset start) - slice_index starts 0) (slice_index starts (end_block a.parts.offset end) - slice_index starts 0) start end a.parts ≡ parts =
    ap (λ (n : ℕ). sliced_parts (n - slice_index starts 0) (slice_index starts (end_block a.parts.offset end) - slice_index starts 0) start end a.parts) low
    ∙ ap (λ (n : ℕ). sliced_parts (from - slice_index starts 0) (n - slice_index starts 0) start end a.parts) high
    ∙ ap (λ (n : ℕ). sliced_parts (from - n) (to - n) start end a.parts) least
    ∙ e in
    ap (λ (w : BitWidthsParts). slice_tree start end (bitpacked_tree a.parts w)) (sym same)
    ∙ ap (λ (p : BitPackedParts). BitPackedBlocked p (slice_tree (first_block a.parts.offset start) (end_block a.parts.offset end + 1) boundaries)) kept
    ∙ ap (BitPackedBlocked parts) (sym f)

-- ---- FoR arrays
-- a slice of what is no constant array is none
pub no_constant_sliced : (t : Tree) (start end : ℕ) → is_none (constant_in t) ≡ true → is_none (constant_in (slice_tree start end t)) ≡ true
no_constant_sliced (Primitive p) start end h = refl
no_constant_sliced (Constant c) start end h = cc
no_constant_sliced (tree.Bool b) start end h = refl
no_constant_sliced (BitPackedGlobal parts width) start end h = refl
no_constant_sliced (BitPackedBlocked parts boundaries) start end h = refl
no_constant_sliced (FoRGlobal encoded reference) start end h = refl
no_constant_sliced (FoRChunked encoded references o) start end h = refl
no_constant_sliced (Delta bases deltas parts) start end h = refl
no_constant_sliced (RLE values indices offsets window) start end h = refl
