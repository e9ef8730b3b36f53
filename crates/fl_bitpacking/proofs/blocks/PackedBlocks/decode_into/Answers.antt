use Rattle.std.proofs.Common.{◌≡◌, ◌<◌, ◌+◌, ◌-◌, ◌*◌, ℕ, length, take, drop, refl, sym, arith, length-take, length-drop}
use Rattle.fl_bitpacking.specs.Blocks.{blocks_of, value_at}
use Rattle.fl_bitpacking.specs.BlockSums.{decoded_item}
use Rattle.fl_bitpacking.proofs.Readings.{bytes_kept, read_after}
use Rattle.fl_bitpacking.proofs.Slices.{part_written}
use Rattle.fl_bitpacking.proofs.blocks.PackedBlocks.decode_into.Goals as goal

pub loop-j-preserved : goal.loop-j-preserved
loop-j-preserved g c =
    let ptype = g.T.NativePType.PTYPE in
    let blocks = blocks_of c.args.self.widths in
    let packed = c.args.reader.now.bytes in
    let offset = c.args.self.offset in
    let item = g.D.BlockDecoder.item c.args.decoder.now in
    let items = c.loop-j.items in
    let new = c.decode_block-start.new.items in
    let j = c.loop-j.j in
    let from = c.places-from.result.0 in
    let to = c.places-from.result.1 in
    let from_is = c.places-from.ensures.from in
    let to_is = c.places-from.ensures.to in
    let order = c.places-from.ensures.order in
    let room = c.places-from.ensures.room in
    let ended = c.count-j-end.ensures in
    let more = c.loop-j-test.true in
    let kept = c.loop-j.auto.items in
    let long = c.requires.long in
    let taken = length-take (to - from) (drop from items) in
    let rest = length-drop from items in
    let size : length (take (to - from) (drop from items)) ≡ to - from = omega arith in
    let written : length new ≡ to - from = let same = c.decode_block-start.auto.items in omega arith in
    let inside = c.requires.readable.offset in
    let kept_bytes = bytes_kept c.args.reader.now c.loop-j.reader j c.loop-j.invariant.counted in
    let at : (k : ℕ) → k < to - from → value_at g.T.Number.value new k ≡ decoded_item item ptype blocks packed (offset + (from + k)) = λ k below. (let place : 1024 * j - offset ≡ from = sym from_is in rw (← place) (rw kept_bytes at (c.decode_block-start.ensures.items k (omega arith)))) in
    record {
      start = c.decode_block-start.ensures.next;
      done = λ i h. part_written g.T.Number.value (λ k. decoded_item item ptype blocks packed (offset + k)) items new _ from to i (omega arith) written
          (λ k below. c.loop-j.invariant.done k (omega arith)) at (omega arith);
      counted = read_after c.args.reader.now c.loop-j.reader c.decode_block-start.new.reader j 1 (j + 1) c.loop-j.invariant.counted c.decode_block-start.ensures.counted refl;
    }
