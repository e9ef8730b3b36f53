use Rattle.flcol_engine.proofs.RunLemmas.{stored_column}
use Rattle.flcol_engine.proofs.encodes.encode.Goals as goal

pub returns : goal.returns
returns c = stored_column (λ bytes. bytes.items) c.args.command c.args.text.items c.in_ok-array.array c.in_ok-array-2.array c.store.result c.in_ok-array.ensures c.in_ok-array-2.ensures c.store.ensures
