use Rattle.flcol_engine.proofs.DigitLemmas.{eight_read}
use Rattle.flcol_engine.proofs.digits.eight_digits.Goals as goal

pub returns-clause-number : goal.returns-clause-number
returns-clause-number c = eight_read c.args.word
