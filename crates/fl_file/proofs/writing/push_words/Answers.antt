use Rattle.std.proofs.Common.{get_or, refl}
use Rattle.std.specs.Int.{to_le_bytes, w64}
use Rattle.fl_file.proofs.FootSteps.{next_part}
use Rattle.fl_file.proofs.writing.push_words.Goals as goal

pub loop-word-preserved : goal.loop-word-preserved
loop-word-preserved c =
    let i = c.loop-word.word-index in
    next_part (to_le_bytes w64) c.args.words.now i (get_or c.args.words.now i 0) 0 c.args.out.now.items c.loop-word.out.items c.push_word.new.out.items c.loop-word-test.true refl c.loop-word.invariant c.in_ok-push_word.ensures
