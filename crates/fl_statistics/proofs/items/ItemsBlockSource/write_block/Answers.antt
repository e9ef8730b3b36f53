use Rattle.std.proofs.Common.{length, ap, arith}
use Rattle.std.proofs.lemmas.List.{length-map}
use Rattle.fl_statistics.proofs.Slots.{patterns_read}
use Rattle.fl_statistics.proofs.items.ItemsBlockSource.write_block.Goals as goal

pub chunk_of-requires : goal.chunk_of-requires
chunk_of-requires g c =
    let even = length-map c.as_slice.result.now g.T.Number.value in
    omega (arith, ap length c.as_slice.ensures, c.requires.begun)

pub returns-clause-slots : goal.returns-clause-slots
returns-clause-slots g c = λ q inside h.
    let p = c.args.self.now.array.now in
    patterns_read g.T.NativePType.PTYPE p.ptype g.T.Physical.FastLanes.pattern g.T.Number.value c.write_patterns.new.block c.as_slice.result.now c.chunk_of.result.now p.slots c.args.block q c.requires.typed c.stored_integers_are_in_range.ensures.slots c.as_slice.ensures c.chunk_of.ensures.items c.write_patterns.ensures.whole inside h c.write_patterns.ensures.block
