use Rattle.std.proofs.Common.{◌-◌, Err, Ok, ap, length}
use Rattle.fl_encode.specs.declared.text.SchemeError.TheVariants.{WrongByte}
use Rattle.fl_encode.specs.Texts.{positioned}
use Rattle.fl_encode.proofs.GrammarStops.{parsed_by_grammar}
use Rattle.fl_encode.proofs.TextBounds.{stops_within}
use Rattle.fl_encode.proofs.text.parse.Goals as goal

pub overflow_sub-result : goal.overflow_sub-result
overflow_sub-result c = stops_within c.args.text.now c.in-Err-Left.left (rw c.in-Err-Left.field-0-is at c.in-Err-Left.ensures.found)

pub returns-in-Ok-clause-grammar : goal.returns-in-Ok-clause-grammar
returns-in-Ok-clause-grammar c =
    let text = c.args.text.now in
    parsed_by_grammar text (Ok c.in-Ok.scheme) (ap (positioned (length text)) c.in-Ok.ensures.found)

pub returns-in-Err-Left-clause-grammar : goal.returns-in-Err-Left-clause-grammar
returns-in-Err-Left-clause-grammar c =
    let text = c.args.text.now in
    let stopped = rw c.in-Err-Left.field-0-is at c.in-Err-Left.ensures.found in
    parsed_by_grammar text (Err (WrongByte (length text - c.in-Err-Left.left))) (ap (positioned (length text)) stopped)
