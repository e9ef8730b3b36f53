use Rattle.std.proofs.Common.{◌*◌, ◌/◌, ◌≡◌, arith}
use Rattle.fastlanes.proofs.RowWrites.{widest, written_all}
use Rattle.fastlanes.proofs.packing.pack_group.Goals as goal

pub returns-else-t-eq32 : goal.returns-else-t-eq32
returns-else-t-eq32 g c =
    let wide = widest g.W.FastLanes.T g.W.FastLanes.LANES c.bits-t.result g.met.W.FastLanes.shape c.bits-t.ensures c.if-t-eq8.false c.if-t-eq16.false c.if-t-eq32.false in
    let whole : 64 * c.args.width / g.W.FastLanes.T ≡ c.args.width = rw wide (omega arith) in
    let first : 0 * c.args.width / g.W.FastLanes.T ≡ 0 = rw wide (omega arith) in
    record { words = written_all c.args.width g.W.FastLanes.LANES _ _ c.args.g _ _ _ whole (rw first at c.pack_64.ensures.words) }
