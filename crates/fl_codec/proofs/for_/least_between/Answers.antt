use Rattle.std.proofs.Common.{map, option_map, ◌∙◌}
use Rattle.fl_codec.proofs.OrderLaws.{least_of_order}
use Rattle.fl_codec.proofs.for_.least_between.Goals as goal

pub returns : goal.returns
returns g c =
    let value = g.T.Number.value in
    let found = rw c.origin_of-origin.ensures at c.least_turned_between-least.ensures in
    rw c.origin_of-origin.ensures at c.turned.ensures
    ∙ least_of_order c.args.order g.T.NativePType.PTYPE c.args.validity.now (map value c.args.items.now) c.args.start c.args.end (option_map value c.least_turned_between-least.result) c.requires.fit found
