use Rattle.fl_types.specs.Values.{scalar_parts}
use Rattle.fl_encode.proofs.ConstantLaws.{repeat_is, repeat_made}
use Rattle.fl_encode.proofs.parts.repeat.Goals as goal

pub returns-clause-exact : goal.returns-clause-exact
returns-clause-exact c =
    repeat_is c.args.array.now (scalar_parts c.first_item.result) c.len-len.result c.in_ok-constant.constant c.into_array.result c.is_constant.result c.is_constant.ensures c.if-not-is_constant.false c.first_item.ensures c.len-len.ensures.slots c.in_ok-constant.ensures c.into_array.ensures

pub returns-clause-made : goal.returns-clause-made
returns-clause-made c =
    repeat_made c.args.array.now (scalar_parts c.first_item.result) c.len-len.result c.in_ok-constant.constant c.into_array.result c.is_constant.result c.validity-validity.ensures.covers c.is_constant.ensures c.if-not-is_constant.false c.first_item.ensures c.len-len.ensures.slots c.in_ok-constant.ensures c.into_array.ensures
