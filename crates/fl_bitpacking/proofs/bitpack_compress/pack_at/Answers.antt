use Rattle.std.proofs.Common.{◌+◌, ◌-◌, ◌*◌, arith, drop, length-drop, length-take}
use Rattle.fl_bitpacking.proofs.Slices.{between_front, part_read}
use Rattle.fl_bitpacking.proofs.bitpack_compress.pack_at.Goals as goal

pub returns-clause-before : goal.returns-clause-before
returns-clause-before g c a b h = let within = c.requires.within in between_front a b c.args.start c.args.bytes.now _ h (omega arith)

pub overflow_add-start : goal.overflow_add-start
overflow_add-start g c = let within = c.requires.within in omega arith

pub pack_block-requires-clause-room : goal.pack_block-requires-clause-room
pack_block-requires-clause-room g c =
    let within = c.requires.within in
    let start = c.args.start in
    let rest = length-drop start c.args.bytes.now in
    let taken = length-take (start + 128 * c.args.width - start) (drop start c.args.bytes.now) in
    omega arith

pub returns-clause-packed : goal.returns-clause-packed
returns-clause-packed g c =
    let within = c.requires.within in
    let start = c.args.start in
    let end = start + 128 * c.args.width in
    let rest = length-drop start c.args.bytes.now in
    let taken = length-take (end - start) (drop start c.args.bytes.now) in
    let kept = c.pack_block.auto.block in
    rw (part_read start end c.args.bytes.now c.pack_block.new.block _ (omega arith) (omega arith)) c.pack_block.ensures
