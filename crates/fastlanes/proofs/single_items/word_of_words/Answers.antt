use Rattle.std.proofs.Common.{rules}
use Rattle.fastlanes.proofs.Patterns.{pattern_at_read}
use Rattle.fastlanes.proofs.SingleItems.{word_inside}
use Rattle.fastlanes.proofs.single_items.word_of_words.Goals as goal

pub returns-clause-word : goal.returns-clause-word
returns-clause-word g c = search (rules, word_inside, pattern_at_read)
