use Rattle.std.proofs.Common.{◌<◌, Some, None, length, arith, ◌∙◌}
use Rattle.fl_types.specs.Values.{integer_of}
use Rattle.fl_column.specs.Columns.{column_of_primitive}
use Rattle.fl_codec.proofs.RunDecoding.{numbers_at}
use Rattle.fl_codec.proofs.rle.number_at.Goals as goal

pub returns-in-Some : goal.returns-in-Some
returns-in-Some c =
    let column = column_of_primitive c.args.numbers.now in
    let within : c.args.i < length column.items = let slots = c.len-len.ensures.slots in let items = c.len-len.ensures.items in let range = c.requires.range in omega arith in
    c.number_of.ensures ∙ numbers_at column c.args.i (Some (integer_of c.in-Some.value)) within c.in-Some.ensures.item

pub returns-in-None : goal.returns-in-None
returns-in-None c =
    let column = column_of_primitive c.args.numbers.now in
    let within : c.args.i < length column.items = let slots = c.len-len.ensures.slots in let items = c.len-len.ensures.items in let range = c.requires.range in omega arith in
    numbers_at column c.args.i None within c.in-None.ensures.item
