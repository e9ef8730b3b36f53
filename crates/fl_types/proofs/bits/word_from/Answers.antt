use Rattle.std.proofs.Common.{arith, refl, sym, ◌∙◌}
use Rattle.std.proofs.lemmas.Bool.{eqb-true}
use Rattle.fl_types.proofs.MovedBits.{word_of_one, word_of_two}
use Rattle.fl_types.proofs.bits.word_from.Goals as goal
use Rattle.fl_types.proofs.bits.word_from.Goals.{then-shift-eq0, else-shift-eq0}

pub returns-then-k-words : goal.returns-then-k-words
returns-then-k-words c j h room = word_of_one c.args.words.now c.args.at j _ refl (elim c.if-shift-eq0.branch [
  | then-shift-eq0 w ↦ let none = w.if-shift-eq0.true in omega arith
  | else-shift-eq0 w ↦ let last = eqb-true _ _ (sym w.value-is ∙ c.if-k-words.true) in omega arith
])

pub returns-else-k-words : goal.returns-else-k-words
returns-else-k-words c j h room = word_of_two c.args.words.now c.args.at j _ _ refl refl (omega arith) h
