use Rattle.std.proofs.Common.{drop, map, string_bytes}
use Rattle.fl_ops.specs.Operations.{step_of}
use Rattle.flcol_engine.specs.Words.{operation_in_word}
use Rattle.flcol_engine.proofs.WordLemmas.{AreRead}
use Rattle.flcol_engine.proofs.operations.operations.Given as goal

-- the words so far are read
abbrev pub invariant-loop-word : goal.invariant-loop-word
invariant-loop-word l = AreRead operation_in_word (map step_of l.ops.items) (map string_bytes (drop l.word-index l.words)) (map string_bytes l.words)
