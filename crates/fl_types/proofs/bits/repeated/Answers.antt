use Rattle.std.proofs.Common.{◌∙◌, sym}
use Rattle.std.proofs.lemmas.Nat.Bits.{bit_at_ones}
use Rattle.fl_types.proofs.BitLists.{no_bit}
use Rattle.fl_types.proofs.KeptLaws.{bit_true}
use Rattle.fl_types.proofs.bits.repeated.Goals as goal

pub returns-then-bit-clause-low : goal.returns-then-bit-clause-low
returns-then-bit-clause-low c j h below = c.low_bits.ensures.low j below ∙ bit_true 18446744073709551615 j (bit_at_ones 64 j h) ∙ sym c.if-bit.true

pub returns-else-bit-clause-low : goal.returns-else-bit-clause-low
returns-else-bit-clause-low c j h below = no_bit j ∙ sym c.if-bit.false

pub returns-else-bit-clause-clear : goal.returns-else-bit-clause-clear
returns-else-bit-clause-clear c j above = no_bit j
