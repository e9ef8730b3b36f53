use Rattle.std.proofs.Common.{length}
use Rattle.fl_column.proofs.NamedBitLaws.{bit_read, named_within}
use Rattle.fl_column.proofs.selection.with_bits.bit_at.Goals as goal

pub get-requires : goal.get-requires
get-requires g c = named_within g.I.Number.value (length c.args.bits.now) c.args.indices.now c.args.i c.index-indices-i.result c.unsigned_abs.result c.index-indices-i.is c.requires.within c.requires.range c.unsigned_abs.ensures

pub returns : goal.returns
returns g c = bit_read g.I.Number.value c.args.bits.now c.args.indices.now c.args.i c.index-indices-i.result c.unsigned_abs.result c.get.result c.index-indices-i.is c.requires.within c.unsigned_abs.ensures c.get.ensures
