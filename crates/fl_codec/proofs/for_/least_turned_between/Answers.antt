use Rattle.std.proofs.Common.{map, ◌∙◌}
use Rattle.fl_codec.specs.FoRColumns.{turned}
use Rattle.fl_codec.proofs.WithoutNulls.{full_items, least_of_part}
use Rattle.fl_codec.proofs.for_.least_turned_between.Goals as goal

pub returns-in-NonNullable : goal.returns-in-NonNullable
returns-in-NonNullable g c =
    let value = g.T.Number.value in
    c.least_of.ensures ∙ least_of_part value (turned g.T.NativePType.PTYPE (value c.args.origin)) c.args.validity.now c.args.items.now c.args.start c.args.end (full_items c.args.validity.now (map value c.args.items.now) c.in-NonNullable.is)
