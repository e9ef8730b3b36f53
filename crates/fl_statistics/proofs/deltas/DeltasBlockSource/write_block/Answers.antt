use Rattle.std.proofs.Common.{rules, map, arith}
use Rattle.fl_codec.specs.Parts.{compress_deltas}
use Rattle.fl_codec.proofs.DeltaLeasts.{length-deltas}
use Rattle.fl_patches.proofs.Histograms.{word_value}
use Rattle.fl_statistics.proofs.DeltaBlocks.{chunk_written}
use Rattle.fl_statistics.proofs.deltas.DeltasBlockSource.write_block.Goals as goal

pub write_delta_words-requires : goal.write_delta_words-requires
write_delta_words-requires g c =
    let size = length-deltas c.args.self.now.array.now in
    (search rules, (c.requires.typed, (omega (arith, c.requires.begun, c.len-len.ensures.items, c.len-len.ensures.slots), c.requires.last)))

pub returns-clause-slots : goal.returns-clause-slots
returns-clause-slots g c = λ q inside h.
    let read = word_value g.T.Physical.FastLanes.pattern g.T.NativePType.PTYPE in
    chunk_written (compress_deltas c.args.self.now.array.now).1.slots (map read c.write_delta_words.new.block) c.args.block q c.write_delta_words.ensures.deltas inside
