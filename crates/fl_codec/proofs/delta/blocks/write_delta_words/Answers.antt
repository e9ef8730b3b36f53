use Rattle.std.proofs.Common.{map, arith, ◌∙◌}
use Rattle.std.proofs.lemmas.List.{length-map}
use Rattle.fl_types.specs.Integers.{read_as}
use Rattle.fl_column.proofs.ItemLaws.{length-items_of}
use Rattle.fl_codec.proofs.DeltaLaws.{deltas_in_chunk}
use Rattle.fl_codec.proofs.delta.blocks.write_delta_words.Goals as goal

pub returns-clause-deltas : goal.returns-clause-deltas
returns-clause-deltas g c =
    let p = c.args.array.now in
    let many = length-items_of p.validity p.slots c.validity-validity.ensures.covers in
    let whole = c.encode_chunk.ensures.whole in
    deltas_in_chunk p g.T.NativePType.PTYPE c.args.k (map (λ w. read_as g.T.NativePType.PTYPE (g.T.Physical.FastLanes.pattern w)) c.encode_chunk.new.block) c.requires.same (omega arith) (length-map c.encode_chunk.new.block _ ∙ whole) c.encode_chunk.ensures.deltas
