use Rattle.std.proofs.Common.{nat_lt, sym, arith}
use Rattle.fl_column.proofs.ListLaws.{any_from}
use Rattle.fl_bitpacking.proofs.bitpack_compress.width_refusals.has_wider.Goals as goal

pub returns : goal.returns
returns c = sym (any_from (nat_lt c.args.bits) c.args.widths.now 0 (λ k h. c.loop-j.invariant k (omega arith)))
