use Rattle.std.proofs.Common.{◌∙◌, length, map}
use Rattle.fl_scan.specs.Counts.{passed_in}
use Rattle.fl_scan.proofs.CountingLaws.{full_marks, passed_more}
use Rattle.fl_scan.proofs.counting.count_word.Goals as goal

pub returns-then-word-eq18446744073709551615 : goal.returns-then-word-eq18446744073709551615
returns-then-word-eq18446744073709551615 g c =
    c.count_each.ensures ∙ full_marks (passed_in (g.P.ItemTest.passing c.args.test) (map g.T.Number.value c.args.items.now)) c.args.word (length c.args.items.now) c.if-word-eq18446744073709551615.true c.requires

pub loop-j-preserved : goal.loop-j-preserved
loop-j-preserved g c = passed_more g.T.Number.value (g.P.ItemTest.passing c.args.test) c.args.items.now c.index-items-j.result c.args.word c.loop-j.j c.loop-j.count c.is_set.result c.passes.result c.loop-j-test.true c.index-items-j.is c.is_set.ensures c.passes.ensures c.loop-j.invariant
