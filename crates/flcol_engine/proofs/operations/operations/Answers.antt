use Rattle.std.proofs.Common.{◌≡◌, Ok, Option, Some, map, string_bytes, sym}
use Rattle.std.specs.Prelude.{Result}
use Rattle.fl_types.specs.declared.error.FastLanesError.{FastLanesError}
use Rattle.fl_ops.specs.Operations.{Step, step_of}
use Rattle.flcol_engine.specs.Words.{operation_in_word}
use Rattle.flcol_engine.proofs.OperationLemmas.{operations_more, word_read}
use Rattle.flcol_engine.proofs.operations.operations.Goals as goal

said_is : (given : Option Step) (op : Step) → ◌≡◌ {A = Result (Option Step) FastLanesError} (Ok given) (Ok (Some op)) → given ≡ Some op
said_is given op e = cc

pub loop-word-preserved : goal.loop-word-preserved
loop-word-preserved c =
    let given = c.in_ok-op.ensures in
    let said = rw (c.in-Some.is, c.as_bytes.ensures.value) at given in
    rw (c.in_ok-push.ensures.items, operations_more) (word_read string_bytes operation_in_word (step_of c.in-Some.op) (map step_of c.loop-word.ops.items) c.args.words.now c.loop-word.word-index c.word-item.result c.loop-word-test.true (sym c.word-item.is) (said_is _ _ said) c.loop-word.invariant)
