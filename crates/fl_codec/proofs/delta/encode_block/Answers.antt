use Rattle.std.proofs.Common.{◌<◌, length, arith, ap, ◌∙◌}
use Rattle.fastlanes.specs.Layout.{pattern_at, segment}
use Rattle.fastlanes.proofs.Patterns.{pattern_at_take}
use Rattle.fl_codec.proofs.DeltaLaws.{encoded_here, first_stored, segment_inside, some_rows}
use Rattle.fl_codec.proofs.delta.encode_block.Goals as goal

pub returns-clause-bases : goal.returns-clause-bases
returns-clause-bases g c l h = first_stored g.W.FastLanes.T g.W.FastLanes.LANES _ _ l (some_rows g.W.FastLanes.T g.W.FastLanes.LANES g.met.W.FastLanes.shape) h c.transpose.ensures.moved

pub returns-clause-deltas : goal.returns-clause-deltas
returns-clause-deltas g c r l p q =
    let pattern = g.W.FastLanes.pattern in
    let T = g.W.FastLanes.T in
    let lanes = g.W.FastLanes.LANES in
    let shape = g.met.W.FastLanes.shape in
    let start = segment_inside T lanes l shape q in
    let inside : segment l < length c.args.block.now = let long = c.told-block in omega arith in
    let base = ap (λ xs. pattern_at pattern xs l) c.first_row.ensures.row ∙ (pattern_at_take pattern c.transpose.new.stored lanes l q ∙ first_stored T lanes _ _ l (some_rows T lanes shape) q c.transpose.ensures.moved) in
    c.delta.ensures.deltas r l p q ∙ encoded_here T lanes (pattern_at pattern c.first_row.result.now) (pattern_at pattern c.args.block.now) (pattern_at pattern c.transpose.new.stored) r l p q base (c.words_are_in_range.ensures (segment l) inside) c.transpose.ensures.moved
