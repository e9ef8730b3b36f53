-- Comparisons of bit-packed arrays, by tests that answer alike.
use Rattle.std.proofs.Common.{◌≡◌, ℕ, ℤ, ◌+◌, Bool, min, refl, subst, ◌∙◌, arith}
use Rattle.fl_bitpacking.specs.Columns.{BitPackedParts}
use Rattle.fl_bitpacking.specs.Decided.{undecided_blocks, undecided_by_block}
use Rattle.fl_bitpacking.specs.Refusals.{AreConsistent}
use Rattle.fl_bitpacking.proofs.UndecidedLaws.{blocks_alike, blocks_most, one_width}
use Rattle.fl_array.specs.BitPackedArrays.{BitPackedArrayParts, BitWidthsParts, BlockBoundaries, GlobalWidth, blocks_of_widths}
use Rattle.fl_array.specs.UnpackedBlocks.{blocks_to_unpack, unpacked_at}

unpacked_is : (parts : BitPackedParts) (widths : BitWidthsParts) (f : ℤ → Bool) → undecided_blocks parts (blocks_of_widths widths) f ≡ unpacked_at parts widths f
unpacked_is parts (GlobalWidth width) f = one_width parts width f
unpacked_is parts (BlockBoundaries boundaries) f = refl

-- the count from 0 on is that of the blocks
pub counted_alike : (a : BitPackedArrayParts) (f g : ℤ → Bool) (n : ℕ) → AreConsistent a.parts → ((z : ℤ) → f z ≡ g z) → n ≡ min (0 + undecided_blocks a.parts (blocks_of_widths a.widths) f) 18446744073709551615 → n ≡ blocks_to_unpack a g
counted_alike a f g n sound same is =
    let most = blocks_most a.parts (blocks_of_widths a.widths) (λ j. f) in
    let few = sound.few in
    let whole : n ≡ undecided_blocks a.parts (blocks_of_widths a.widths) f = omega arith in
    whole ∙ (blocks_alike a.parts (blocks_of_widths a.widths) f g same ∙ unpacked_is a.parts a.widths g)

-- the same of the blocks of sums
pub counted_sums : (a : BitPackedArrayParts) (f : ℕ → ℤ → Bool) (n : ℕ) → AreConsistent a.parts → n ≡ min (0 + undecided_by_block a.parts (blocks_of_widths a.widths) f) 18446744073709551615 → n ≡ undecided_by_block a.parts (blocks_of_widths a.widths) f
counted_sums a f n sound is =
    let most = blocks_most a.parts (blocks_of_widths a.widths) f in
    let few = sound.few in
    omega arith

-- what is said of one test is said of one that answers alike
pub said_alike : (P : (ℤ → Bool) → Type 0) (f g : ℤ → Bool) → ((z : ℤ) → f z ≡ g z) → P f → P g
said_alike P f g same h = let alike : f ≡ g = λ i z. same z i in subst P alike h
