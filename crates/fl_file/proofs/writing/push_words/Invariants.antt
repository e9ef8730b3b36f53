use Rattle.std.proofs.Common.{◌≡◌, ◌++◌, take}
use Rattle.fl_file.specs.Foot.{word_bytes}
use Rattle.fl_file.proofs.writing.push_words.Given as goal

-- the words so far
abbrev pub invariant-loop-word : goal.invariant-loop-word
invariant-loop-word l = l.out.items ≡ l.fn.out.items ++ word_bytes (take l.word-index l.words)
