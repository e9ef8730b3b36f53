use Rattle.std.proofs.Common.{◌≡◌}
use Rattle.fl_ops.proofs.CastReads.{cast_answered, cast_covered, cast_refused}
use Rattle.fl_ops.proofs.by_blocks.cast.cast_typed.Goals as goal

pub returns-then-not-fit : goal.returns-then-not-fit
returns-then-not-fit g c = cast_refused g.T.NativePType.PTYPE c.args.nullability c.args.reader.now.column.items (c.in_ok-fit.ensures.refused c.if-not-fit.true)

pub new_unchecked-requires : goal.new_unchecked-requires
new_unchecked-requires g c =
    cast_covered g.T.Number.value g.T.NativePType.PTYPE c.args.nullability c.args.validity c.validity_in-validity.result c.push_all.new.cast.items c.args.reader.now.column c.requires.validity c.requires.nulls (c.in_ok-fit.ensures.cast c.if-not-fit.false) c.validity_in-validity.ensures

pub returns : goal.returns
returns g c =
    cast_answered g.T.Number.value g.T.NativePType.PTYPE c.args.nullability c.args.validity c.validity_in-validity.result c.push_all.new.cast.items c.args.reader.now.column c.new_unchecked.result c.requires.validity c.requires.nulls (c.in_ok-fit.ensures.cast c.if-not-fit.false) c.validity_in-validity.ensures c.new_unchecked.ensures
