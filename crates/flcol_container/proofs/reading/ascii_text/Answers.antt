use Rattle.std.proofs.Common.{sym}
use Rattle.flcol_container.proofs.Steps.{utf8_of_ascii}
use Rattle.flcol_container.proofs.reading.ascii_text.Goals as goal

pub returns-in-Err : goal.returns-in-Err
returns-in-Err c = absurd (c.in-Err.ensures.cases.0 (utf8_of_ascii c.args.bytes.now (sym c.if-not-is_ascii.ensures)))
