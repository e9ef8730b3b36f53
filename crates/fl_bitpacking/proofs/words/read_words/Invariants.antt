use Rattle.std.proofs.Common.{◌≡◌, map}
use Rattle.fl_types.specs.Bits.{tabulate}
use Rattle.fl_bitpacking.specs.Words.{word_as}
use Rattle.fl_bitpacking.proofs.words.read_words.Given as goal

-- the words so far
abbrev pub invariant-loop-m : goal.invariant-loop-m
invariant-loop-m g l = map g.T.Number.value l.words.items ≡ tabulate (word_as g.T.NativePType.PTYPE l.bytes) l.m
