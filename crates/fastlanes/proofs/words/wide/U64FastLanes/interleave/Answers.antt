use Rattle.fastlanes.proofs.Turns.{even_written, odd_written, others_kept}
use Rattle.fastlanes.proofs.words.wide.U64FastLanes.interleave.Goals as goal

pub returns-clause-even : goal.returns-clause-even
returns-clause-even c j h = even_written c.args.target.now c.args.words.now c.args.at c.args.first c.args.second j c.requires.first c.requires.room h

pub returns-clause-odd : goal.returns-clause-odd
returns-clause-odd c j h = odd_written c.args.target.now c.args.words.now c.args.at c.args.first c.args.second j c.requires.first c.requires.room h

pub returns-clause-others : goal.returns-clause-others
returns-clause-others c i away = others_kept c.args.target.now c.args.words.now c.args.at c.args.first c.args.second i away
