-- said here, where the search finds it too: a body that breaks it is refused at once
use Rattle.std.proofs.Common.{rules}
use Rattle.flcol_engine.proofs.RunLemmas.{refused_encode}
use Rattle.flcol_engine.proofs.engine.encode.Goals as goal

pub returns-in_err-write_all-clause-answer : goal.returns-in_err-write_all-clause-answer
returns-in_err-write_all-clause-answer g c = search rules

pub returns-in_err-container-clause-answer : goal.returns-in_err-container-clause-answer
returns-in_err-container-clause-answer g c = refused_encode c.args.command (g.S.Source.left c.args.source.now) c.in_ok-input.input.items (g.K.Sink.written c.args.sink.now) c.in_err-container.field-0.0 c.from_residual-in_err-container.result c.in_ok-input.ensures.bytes c.from_residual-in_err-container.ensures.1 c.in_err-container.ensures
