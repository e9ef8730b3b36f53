use Rattle.std.proofs.Common.{length, subst}
use Rattle.fl_bitpacking.specs.Blocks.{blocks_of, value_at}
use Rattle.fl_bitpacking.specs.Columns.{BitPackedParts, column_of_packed}
use Rattle.fl_bitpacking.specs.ItemsFrom.{AreItemsFrom}
use Rattle.fl_bitpacking.specs.References.{plus_references}
use Rattle.fl_bitpacking.proofs.packed_data.PackedData.read_into.Goals as goal

pub returns-clause-items : goal.returns-clause-items
returns-clause-items g c =
    subst (λ (p : BitPackedParts). AreItemsFrom c.args.start (length c.args.items.now) (value_at g.T.Number.value c.read_column.new.items) (plus_references c.args.references p.offset (column_of_packed p (blocks_of c.args.widths)))) c.column.ensures.parts c.read_column.ensures.items
