use Rattle.std.proofs.Common.{◌≡◌, ◌*◌, length, arith}
use Rattle.std.proofs.lemmas.List.{length-map}
use Rattle.fl_codec.specs.Chunks.{chunks_of}
use Rattle.fl_codec.specs.Parts.{compress_deltas, items_of_primitive}
use Rattle.fl_codec.proofs.DeltaLeasts.{length-deltas}
use Rattle.fl_statistics.specs.Differences.{deltas_of}
use Rattle.fl_statistics.proofs.deltas.delta_count.Goals as goal

pub returns : goal.returns
returns c =
    let p = c.args.array.now in
    let size : length (deltas_of p) ≡ length (compress_deltas p).1.slots = length-map (compress_deltas p).1.slots _ in
    let many : length (compress_deltas p).1.slots ≡ 1024 * chunks_of (length (items_of_primitive p)) = length-deltas p in
    let count = c.len.ensures.items in
    let ended = c.chunk_count.ensures in
    omega arith
