use Rattle.std.proofs.Common.{◌≡◌, ◌+◌, ◌∙◌, length, map, sym}
use Rattle.fl_ops.proofs.CastReads.{cast_more, part_fits, whole_unfit}
use Rattle.fl_types.specs.Integers.{fits}
use Rattle.fl_column.specs.Columns.{option_all}
use Rattle.fl_ops.proofs.by_blocks.cast.push_part.Goals as goal

pub returns-then-fit-clause-cast : goal.returns-then-fit-clause-cast
returns-then-fit-clause-cast g c =
    λ yes.
    let t = g.T.NativePType.PTYPE in
    let d = c.args.reader.now.column in
    let xs = c.args.items.now in
    cast_more g.S.Number.value t (map g.T.Number.value c.args.cast.now.items) (map g.T.Number.value c.push_cast.new.cast.items) xs c.args.start d c.requires.read.range c.requires.read.items c.in_ok-fit.ensures.slots
    (part_fits g.S.Number.value t xs c.args.start d c.requires.read.range c.requires.read.items (sym c.in_ok-fit.ensures.fit ∙ c.if-fit.true)) c.requires.begun

pub returns-clause-cast : goal.returns-clause-cast
returns-clause-cast g c =
    λ yes.
    let t = g.T.NativePType.PTYPE in
    let d = c.args.reader.now.column in
    let xs = c.args.items.now in
    cast_more g.S.Number.value t (map g.T.Number.value c.args.cast.now.items) (map g.T.Number.value c.push_cast.new.cast.items) xs c.args.start d c.requires.read.range c.requires.read.items c.in_ok-fit.ensures.slots (sym c.has_part.ensures ∙ yes) c.requires.begun

pub returns-clause-refused : goal.returns-clause-refused
returns-clause-refused g c =
    λ no.
    whole_unfit (option_all (fits g.T.NativePType.PTYPE)) c.args.reader.now.column.items c.args.start (c.args.start + length c.args.items.now) (sym c.has_part.ensures ∙ no)
