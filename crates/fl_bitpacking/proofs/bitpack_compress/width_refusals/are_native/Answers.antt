use Rattle.std.proofs.Common.{◌==◌, sym, arith}
use Rattle.fl_column.proofs.ListLaws.{all_from}
use Rattle.fl_bitpacking.proofs.bitpack_compress.width_refusals.are_native.Goals as goal

pub returns : goal.returns
returns c = sym (all_from (λ width. width == c.args.bits) c.args.widths.now 0 (λ k h. c.loop-j.invariant k (omega arith)))
