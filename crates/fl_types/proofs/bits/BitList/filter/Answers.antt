use Rattle.fl_types.proofs.KeptLaws.{filter_word}
use Rattle.fl_types.proofs.bits.BitList.filter.Goals as goal

pub loop-k-preserved : goal.loop-k-preserved
loop-k-preserved c = filter_word c.args.mask.now c.args.self.now c.loop-k.taken c.push_word.new.self c.loop-k.k c.word-word.result c.word.result c.gathered.result c.requires c.word-word.ensures c.word.ensures c.gathered.ensures c.loop-k.invariant c.in_ok-push_word.ensures.ok
