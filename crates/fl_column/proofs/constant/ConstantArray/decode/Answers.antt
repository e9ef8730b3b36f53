-- said here, where the search finds it too: a body that breaks it is refused at once
use Rattle.std.proofs.Common.{rules}
use Rattle.fl_column.proofs.ItemLaws.{constant_items}
use Rattle.fl_column.proofs.constant.ConstantArray.decode.Goals as goal

pub returns-in-Integer : goal.returns-in-Integer
returns-in-Integer c = search (rules, constant_items)
