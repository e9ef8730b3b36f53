use Rattle.fl_encode.proofs.GrammarReads.{deep_is_wrong}
use Rattle.fl_encode.proofs.TextLaws.{scheme_is_read}
use Rattle.fl_encode.proofs.laws.printed_is_read.Goals as goal

pub returns-clause-read : goal.returns-clause-read
returns-clause-read c = scheme_is_read c.args.scheme.now c.prove_widths.ensures

pub returns-clause-deep : goal.returns-clause-deep
returns-clause-deep c = deep_is_wrong c.args.scheme.now c.prove_widths.ensures
