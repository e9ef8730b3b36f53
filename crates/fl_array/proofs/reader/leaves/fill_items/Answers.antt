use Rattle.fl_bitpacking.specs.Blocks.{value_at}
use Rattle.fl_array.proofs.ReadLaws.{repeated_shown}
use Rattle.fl_array.proofs.reader.leaves.fill_items.Goals as goal

pub returns : goal.returns
returns g c =
    let value = g.T.Number.value in
    repeated_shown c.args.constant.now (value_at value c.fill.new.items) (value c.value_of-value.result) c.args.start _ c.fill.ensures c.value_of-value.ensures c.requires.range
