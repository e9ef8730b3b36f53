use Rattle.fl_types.specs.declared.dtype.PType.TheVariants.{U8, U16, U32}
use Rattle.fl_column.proofs.NumberLaws.{all_narrow}
use Rattle.fl_column.proofs.numbers.index_array.Goals as goal

pub narrow-requires : goal.narrow-requires
narrow-requires c = all_narrow c.args.numbers.items c.deref.result.now c.args.bound U8 c.min_unsigned_ptype_for_value.result c.deref.ensures.value c.requires c.ranges.bound.fits c.min_unsigned_ptype_for_value.ensures c.in-U8.is

pub narrow-requires-in-U16 : goal.narrow-requires-in-U16
narrow-requires-in-U16 c = all_narrow c.args.numbers.items c.deref-in-U16.result.now c.args.bound U16 c.min_unsigned_ptype_for_value.result c.deref-in-U16.ensures.value c.requires c.ranges.bound.fits c.min_unsigned_ptype_for_value.ensures c.in-U16.is

pub narrow-requires-in-U32 : goal.narrow-requires-in-U32
narrow-requires-in-U32 c = all_narrow c.args.numbers.items c.deref-in-U32.result.now c.args.bound U32 c.min_unsigned_ptype_for_value.result c.deref-in-U32.ensures.value c.requires c.ranges.bound.fits c.min_unsigned_ptype_for_value.ensures c.in-U32.is
