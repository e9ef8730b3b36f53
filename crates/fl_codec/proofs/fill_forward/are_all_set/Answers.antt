use Rattle.std.proofs.Common.{◌+◌, ◌*◌, length, arith}
use Rattle.fl_column.proofs.FilterLaws.{all_ones}
use Rattle.fl_codec.proofs.fill_forward.are_all_set.Goals as goal

pub loop-j-preserved : goal.loop-j-preserved
loop-j-preserved c = record {
  set = λ i low high within.
      all_ones c.args.bits.now (length c.args.bits.now) (16 * c.args.k + c.loop-j.j) c.word.result (1024 * c.args.k) (omega arith) c.word.ensures c.loop-j.invariant.set i low (omega arith) within;
}
