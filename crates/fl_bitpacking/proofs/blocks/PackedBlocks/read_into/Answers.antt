use Rattle.std.proofs.Common.{◌≡◌, ◌<◌, ◌+◌, ◌-◌, ◌*◌, ◌/◌, ℕ, length, take, drop, arith, length-take, length-drop}
use Rattle.fl_bitpacking.specs.Blocks.{blocks_of, value_at}
use Rattle.fl_bitpacking.specs.BlockSums.{decoded_item}
use Rattle.fl_bitpacking.proofs.Readings.{bytes_kept, read_after}
use Rattle.fl_bitpacking.proofs.Slices.{part_written}
use Rattle.fl_bitpacking.proofs.blocks.PackedBlocks.read_into.Goals as goal

pub loop-j-preserved : goal.loop-j-preserved
loop-j-preserved g c =
    let ptype = g.T.NativePType.PTYPE in
    let blocks = blocks_of c.args.self.widths in
    let packed = c.args.reader.now.bytes in
    let first = c.args.self.offset + c.args.start in
    let item = g.D.BlockDecoder.item c.args.decoder.now in
    let items = c.loop-j.items in
    let new = c.read_block.new.items in
    let j = c.loop-j.j in
    let from = c.places_from-from.result.0 in
    let to = c.places_from-from.result.1 in
    let from_is = c.places_from-from.ensures.from in
    let to_is = c.places_from-from.ensures.to in
    let order = c.places_from-from.ensures.order in
    let room = c.places_from-from.ensures.room in
    let more = c.loop-j-test.true in
    let kept = c.loop-j.auto.items in
    let low_is = c.saturating_sub-low.ensures in
    let begun = c.loop-j.auto.j in
    let taken = length-take (to - from) (drop from items) in
    let rest = length-drop from items in
    let size : length (take (to - from) (drop from items)) ≡ to - from = omega arith in
    let written : length new ≡ to - from = let same = c.read_block.auto.items in omega arith in
    let kept_bytes = bytes_kept c.args.reader.now c.loop-j.reader _ c.loop-j.invariant.counted in
    let at : (k : ℕ) → k < to - from → value_at g.T.Number.value new k ≡ decoded_item item ptype blocks packed (c.args.self.offset + (c.args.start + (from + k))) = λ k below. (let place : 1024 * j + c.saturating_sub-low.result + k ≡ c.args.self.offset + (c.args.start + (from + k)) = omega arith in rw place at (rw kept_bytes at (c.read_block.ensures.items k (omega arith)))) in
    record {
      done = λ i h. part_written g.T.Number.value (λ k. decoded_item item ptype blocks packed (c.args.self.offset + (c.args.start + k))) items new _ from to i (omega arith) written
          (λ k below. c.loop-j.invariant.done k (omega arith)) at (omega arith);
      counted = read_after c.args.reader.now c.loop-j.reader c.read_block.new.reader (j - first / 1024) 1 (j + 1 - first / 1024) c.loop-j.invariant.counted c.read_block.ensures.counted (omega arith);
    }
