use Rattle.std.proofs.Common.{Ok, ap, sym}
use Rattle.fl_column.specs.Columns.{Column}
use Rattle.fl_array.proofs.ReadLaws.{column_read}
use Rattle.fl_array.proofs.reader.to_primitive.to_primitive_typed.Goals as goal

pub returns : goal.returns
returns g c = ap (λ (x : Column). Ok x) (sym (column_read g.T.Number.value g.T.NativePType.PTYPE c.args.reader.now.column c.args.validity c.in_ok-items.items.items c.new_unchecked.result c.requires.typed c.requires.validity c.in_ok-items.ensures.items c.new_unchecked.ensures))
