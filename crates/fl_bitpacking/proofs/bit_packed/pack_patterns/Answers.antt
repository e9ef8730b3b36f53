use Rattle.std.proofs.Common.{sym}
use Rattle.fl_bitpacking.proofs.Natives.{packed_by_items}
use Rattle.fl_bitpacking.proofs.bit_packed.pack_patterns.Goals as goal

pub returns : goal.returns
returns g c = packed_by_items _ _ c.args.width _ _ _ g.met.T.Physical.FastLanes.shape (λ i h. sym (c.write_padded_patterns.ensures.patterns i h)) c.pack_bytes.ensures
