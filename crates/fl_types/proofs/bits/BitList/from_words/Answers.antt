use Rattle.fl_types.proofs.MovedBits.{first_taken}
use Rattle.fl_types.proofs.bits.BitList.from_words.Goals as goal

pub returns : goal.returns
returns c = rw c.truncate.ensures.items (first_taken c.shift_words.new.words.items c.args.words.items c.args.len c.args.start c.word_count.result c.word_count.ensures c.shift_words.ensures.bits)
