use Rattle.std.proofs.Common.{◌≡◌, Some, arith}
use Rattle.fl_file.specs.FootReading.{statistics_at}
use Rattle.fl_file.proofs.FootSteps.{entry_made, entry_none}
use Rattle.fl_file.proofs.reading.entry_at.Goals as goal

pub returns-then-checksum : goal.returns-then-checksum
returns-then-checksum c =
    let found = c.in_ok-statistics.ensures in
    let e : statistics_at c.args.ptype c.args.bytes.now ≡ Some c.in_ok-statistics.statistics = cc in
    entry_made c.args.ptype c.args.bytes.now c.word_at.result c.word_at-then-checksum.result c.word_at-checksum.result c.in_ok-statistics.statistics c.word_at.ensures c.word_at-then-checksum.ensures c.word_at-checksum.ensures (omega arith) e

pub returns-else-checksum : goal.returns-else-checksum
returns-else-checksum c =
    let found = c.in_ok-statistics.ensures in
    let e : statistics_at c.args.ptype c.args.bytes.now ≡ Some c.in_ok-statistics.statistics = cc in
    entry_none c.args.ptype c.args.bytes.now c.word_at-checksum.result c.in_ok-statistics.statistics c.word_at-checksum.ensures (omega arith) e
