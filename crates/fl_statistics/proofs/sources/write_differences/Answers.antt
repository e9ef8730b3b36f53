use Rattle.std.proofs.Common.{◌-◌, map, ◌∙◌, sym, arith}
use Rattle.std.proofs.lemmas.List.{length-map, take-map}
use Rattle.fl_patches.proofs.Histograms.{word_value}
use Rattle.fl_statistics.proofs.Differences.{slots_of_block}
use Rattle.fl_statistics.proofs.sources.write_differences.Goals as goal

pub returns-clause-slots : goal.returns-clause-slots
returns-clause-slots g c =
    let t = g.T.NativePType.PTYPE in
    let value = g.T.Number.value in
    let read = word_value g.T.Physical.FastLanes.pattern t in
    let p = g.S.BlockSource.parts c.args.source.now in
    let start = c.chunk_bounds-start.ensures.start in
    let end = c.chunk_bounds-start.ensures.end in
    let count = c.len.ensures.count in
    let begun = c.requires.begun in
    let size = c.chunk_bounds-start.result.1 - c.chunk_bounds-start.result.0 in
    sym (take-map read size c.clear_nulls.new.words)
    ∙ slots_of_block t (value c.args.references.now.one) (map value c.args.references.now.list.now) p.validity p.slots (map read c.write_block-next.new.room) (map read c.subtract.new.words) (map read c.clear_nulls.new.words) c.args.block size (value c.reference_of.result)
    c.len.ensures.covered begun (omega arith) c.reference_of.ensures (length-map c.clear_nulls.new.words read ∙ c.clear_nulls.ensures.whole) c.write_block-next.ensures.slots c.subtract.ensures c.clear_nulls.ensures.slots
