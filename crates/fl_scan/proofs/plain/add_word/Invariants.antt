use Rattle.std.proofs.Common.{map, take}
use Rattle.fl_types.specs.Bits.{bits_of_word, kept}
use Rattle.fl_scan.proofs.plain.add_word.Given as goal

-- what is gathered so far
abbrev pub invariant-loop-j : goal.invariant-loop-j
invariant-loop-j g l = g.F.Fold.Leads l.initial.fold (kept (take l.j (bits_of_word l.word)) (take l.j (map g.T.Number.value l.items))) l.fold
