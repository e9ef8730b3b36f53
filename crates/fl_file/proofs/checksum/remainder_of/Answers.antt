use Rattle.std.proofs.Common.{get_or, refl}
use Rattle.fl_file.specs.Crc32c.{remainder_after}
use Rattle.fl_file.proofs.Crc32cLaws.{remainder_more}
use Rattle.fl_file.proofs.checksum.remainder_of.Goals as goal

pub loop-byte-init : goal.loop-byte-init
unfolding remainder_after
loop-byte-init c = refl

pub loop-byte-preserved : goal.loop-byte-preserved
loop-byte-preserved c =
    let i = c.loop-byte.byte-index in
    remainder_more c.args.start c.args.bytes.now i (get_or c.args.bytes.now i 0) c.loop-byte.remainder c.next_remainder-remainder.result c.loop-byte-test.true refl c.loop-byte.invariant c.next_remainder-remainder.ensures
