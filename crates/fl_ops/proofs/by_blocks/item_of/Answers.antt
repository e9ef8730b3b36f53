use Rattle.std.proofs.Common.{◌≡◌, ◌∙◌, ◌+◌, ◌<◌, arith, length, sym}
use Rattle.fl_bitpacking.specs.Blocks.{value_at}
use Rattle.fl_bitpacking.proofs.Natives.{value_at_read}
use Rattle.fl_ops.proofs.BlockLaws.{item_null, item_there}
use Rattle.fl_ops.proofs.by_blocks.item_of.Goals as goal

pub returns-then-is_valid : goal.returns-then-is_valid
returns-then-is_valid g c =
    let value = g.T.Number.value in
    let items = c.args.items.now in
    let k = c.args.start + c.args.i in
    let room = c.requires.read.range in
    let inside = c.requires.place in
    let there = sym c.if-is_valid.true ∙ c.is_valid.ensures ∙ c.requires.read.validity_of.valid k (omega arith) in
    let x = c.index-items-i.result in
    item_there c.args.reader.now.column c.args.start (length items) c.args.i (value_at value items) (value x) c.requires.read.items c.requires.place (value_at_read value items c.args.i x c.requires.place c.index-items-i.is) there

pub returns-else-is_valid : goal.returns-else-is_valid
returns-else-is_valid g c =
    let k = c.args.start + c.args.i in
    let room = c.requires.read.range in
    let inside = c.requires.place in
    item_null c.args.reader.now.column k (sym c.if-is_valid.false ∙ c.is_valid.ensures ∙ c.requires.read.validity_of.valid k (omega arith))
