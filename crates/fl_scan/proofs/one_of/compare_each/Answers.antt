use Rattle.fl_types.specs.Values.{integer_of}
use Rattle.fl_scan.proofs.ListLaws.{compared_more, none_listed}
use Rattle.fl_scan.proofs.one_of.compare_each.Goals as goal

pub loop-constant-init : goal.loop-constant-init
loop-constant-init g c = record {
  answers = none_listed c.fill.new.bits c.args.j c.args.reader.now.offset c.args.reader.now.column c.fill.ensures.bits;
  whole = c.fill.ensures.whole;
}

pub loop-constant-preserved : goal.loop-constant-preserved
loop-constant-preserved g c = record {
  answers = compared_more g.T.Number.value c.args.list.now c.loop-constant.constant-index c.constant-item.result c.loop-constant.bits c.test_block.new.bits c.join.new.bits c.comparing-test.result (integer_of c.into_pvalue.result) c.args.j c.args.reader.now.offset c.args.reader.now.column
      c.loop-constant-test.true c.constant-item.is c.into_pvalue.ensures.value c.comparing-test.ensures.test c.join.ensures.bits c.test_block.ensures.answers c.loop-constant.invariant.answers;
  whole = c.join.ensures.whole;
}
