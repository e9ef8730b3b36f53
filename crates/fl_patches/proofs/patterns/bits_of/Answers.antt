use Rattle.std.proofs.Common.{ap, ◌∙◌}
use Rattle.fl_patches.specs.Exceptions.{bit_count}
use Rattle.fl_patches.proofs.BitCounts.{bits_of_pattern}
use Rattle.fl_patches.proofs.patterns.bits_of.Goals as goal

pub returns-clause-count : goal.returns-clause-count
returns-clause-count g c = c.bit_count.ensures ∙ ap bit_count c.pattern.ensures

pub returns-clause-most : goal.returns-clause-most
returns-clause-most g c = rw (c.bit_count.ensures, c.pattern.ensures) (bits_of_pattern _ _)
