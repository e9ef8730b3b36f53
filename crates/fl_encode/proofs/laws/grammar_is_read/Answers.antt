use Rattle.fl_encode.proofs.GrammarLaws.{read_by_grammar}
use Rattle.fl_encode.proofs.GrammarReads.{grammar_is_read}
use Rattle.fl_encode.proofs.laws.grammar_is_read.Goals as goal

pub returns-clause-read : goal.returns-clause-read
returns-clause-read c = read_by_grammar

pub returns-clause-all : goal.returns-clause-all
returns-clause-all c = grammar_is_read
